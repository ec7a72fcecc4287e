use mathlib.Core.Path.{◌≡◌, sym, ap, ◌∙◌}
use Prim.Native.Nat.{ℕ}
use Rattle.container.specs.declared.format.Format.{Format}
use Rattle.container.specs.Formats.{format_of, high_offset}
use Rattle.infer.proofs.EntryLaws.{takes_low, takes_whole}
use Rattle.infer.proofs.taken.Goals as goal

-- where the high halves are, in the format that was looked up
offset : {f : Format} (v : ℕ) → f ≡ format_of v → f.high ≡ high_offset v
offset v e = ap (λ (f : Format). f.high) e

pub returns-then-f-eq0 : goal.returns-then-f-eq0
returns-then-f-eq0 c =
    let a = c.args in
    c.both.ensures ∙ takes_low a.version a.entry (sym (offset _ c.format_of-f.ensures) ∙ c.if-f-eq0.true)

pub returns : goal.returns
returns c =
    let a = c.args in
    takes_whole a.version a.entry (λ z. c.if-f-eq0.false (offset _ c.format_of-f.ensures ∙ z))
