use mathlib.Core.Path.{ap, ◌∙◌}
use Prim.Native.Nat.{ℕ, ◌≤◌}
use native.Mathlib.Omega.{arith}
use lib.ListN.{length, take}
use lib.Seq.{length-take-le}
use Rattle.std.specs.Prelude.{Option}
use Rattle.std.specs.Option.{unwrap_or}
use Rattle.text.specs.Text.{unpadded}
use Rattle.text.proofs.TextLaws.{same_text, space_at, space_within}
use Rattle.text.proofs.put.put_padded.Goals as goal

pub returns : goal.returns
unfolding unpadded
returns c =
    let s = c.args.s.now in
    let n = c.unwrap_or-n.result in
    let p = c.put_text.ensures in
    let e = c.unwrap_or-n.ensures ∙ ap (λ (o : Option ℕ). unwrap_or o (length s)) c.first_space.ensures ∙ space_at s in
    let h : n ≤ length s = rw e (space_within s) in
    (same_text (ap (λ (k : ℕ). take k s) e) p, omega (arith, p.counts, length-take-le n s h))
