use mathlib.Core.List.{List, ◌++◌}
use Prim.Native.Nat.{ℕ}
use Rattle.disasm.proofs.SignLaws.{same_sign}
use mathlib.Core.Path.{sym, ap, ◌∙◌}
use native.Mathlib.Omega.{arith}
use Rattle.rows.specs.Names.{ascii}
use Rattle.text.proofs.TextLaws.{put_next, same_text}
use Rattle.disasm.proofs.PlaceLaws.{offset_coded}
use Rattle.disasm.proofs.operands.put_offset.Goals as goal

pub returns : goal.returns
unfolding ascii
returns c =
    let x = c.args.x in
    let p = c.put_text-at.ensures in
    let q = c.put_signed.ensures in
    let s = same_sign x.offset (record { sfits = c.struct_told-1.given.1.1.1.1.1.1.1.0.1 }) in
    let e = offset_coded x (sym c.branches.ensures ∙ c.if-not-branches.false) in
    (same_text (ap (λ (t : List ℕ). ascii ", offset:" ++ t) s ∙ e) (put_next p q.0), omega (arith, p.counts, q.1))
