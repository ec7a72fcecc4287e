use mathlib.Core.Path.{ap, ◌∙◌}
use Prim.Native.Nat.{ℕ, ◌-◌, ◌*◌, ◌/◌}
use lib.IntN.{pos}
use borrow.Author.Tests.{lt-ltb, le-ltb}
use Rattle.bits.specs.Fields.{bits}
use Rattle.bits.specs.Outcomes.{gives, ◌then◌}
use Rattle.rows.specs.Rows.{row_count}
use Rattle.rows.specs.declared.table.Row.{Row as Words}
use Rattle.record.specs.Lists.{sources_of, modifiers_of}
use Rattle.record.specs.Served.Modifiers.{modifiers_in}
use Rattle.record.specs.Served.Sources.{default_sources_in}
use Rattle.record.specs.Defaults.{fresh}
use Rattle.record.proofs.DefaultLaws.{default_modifiers, default_sources, default_mask}
use Rattle.record.proofs.instruction.Instruction.fresh.Goals as goal

pub returns-then-row-ge-ROWS : goal.returns-then-row-ge-ROWS
unfolding fresh ◌then◌
returns-then-row-ge-ROWS c = rw (le-ltb _ _ c.if-row-ge-ROWS.true)

pub returns : goal.returns
unfolding fresh ◌then◌
returns c =
    let k = c.args.row in
    let h = c.if-row-ge-ROWS.false in
    let v = c.row_at-v.ensures in
    let s = c.default_sources-sources.ensures ∙ ap sources_of (ap (λ (r : Words). default_sources_in r.shape) v ∙ default_sources k h) in
    let m = c.modifiers_in-modifiers.ensures ∙ ap modifiers_of ((λ j. modifiers_in (v j).modifiers ((v j).limits / 4294967296 * 16777216)) ∙ default_modifiers k h) in
    let d = ap (λ (x : ℕ). 3 * (1 - x)) (c.bits_at.ensures.0 ∙ ap (λ (r : Words). bits r.shape 47 1) v) ∙ default_mask k h in
    rw (lt-ltb k row_count h)
    (λ j. gives record { row = k; page = 0; flow = 0; register = 0; half_mask = d j; sources = s j; modifiers = m j; offset = pos 0 })
