use mathlib.Core.Path.{ap, ◌∙◌}
use native.Mathlib.Omega.{arith}
use Rattle.rows.specs.declared.table.Row.{Row as Words}
use Rattle.writing.specs.Served.Parts.{narrow}
use Rattle.writing.proofs.RoomLaws.{Bytes, no_heads, no_sources, by_modifiers}
use Rattle.wordparts.proofs.room.numbers_fit.Goals as goal

pub returns-then-not-heads_fit : goal.returns-then-not-heads_fit
returns-then-not-heads_fit c = no_heads c.args.i c.heads_fit.ensures (c.if-not-heads_fit.true)

pub returns-then-v-sources_word : goal.returns-then-v-sources_word
returns-then-v-sources_word c =
    let bytes : Bytes c.args.i.sources = (omega arith, omega arith, omega arith, omega arith) in
    let e = ap (λ (r : Words). r.shape) c.requires.0 in
    no_sources c.args.i c.heads_fit.ensures (c.if-not-heads_fit.false) c.requires.1 (bytes)
    (rw (e, c.sources_word.ensures.0) at c.if-v-sources_word.true)

pub returns : goal.returns
returns c =
    let bytes : Bytes c.args.i.sources = (omega arith, omega arith, omega arith, omega arith) in
    let e = ap (λ (r : Words). r.shape) c.requires.0 in
    c.modifiers_fit.ensures
    ∙ (λ j. narrow (c.requires.0 j).modifiers 0 (c.list.ensures j))
    ∙ by_modifiers c.args.i c.heads_fit.ensures (c.if-not-heads_fit.false) c.requires.1 (bytes)
    (rw (e, c.sources_word.ensures.0) at c.if-v-sources_word.false)
