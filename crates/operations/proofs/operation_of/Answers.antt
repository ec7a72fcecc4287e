use mathlib.Core.Path.{◌≡◌, ap, ◌∙◌}
use Prim.Native.Nat.{◌+◌}
use lib.IntN.{ℤ, pos, ◌+ℤ◌}
use mir.Syntax.{w32}
use mir.Val.{to_z, of_z}
use Rattle.safety.specs.Program.{landing}
use Rattle.operations.specs.Served.Operations.{operation_of}
use borrow.Author.Rules.{rules}
use Rattle.operations.proofs.operation_of.Goals as goal

pub returns : goal.returns
unfolding operation_of
returns c =
    let a = c.args in
    let back : to_z w32 (of_z w32 a.x.offset) ≡ a.x.offset = search rules in
    let j : c.branch_target.result ≡ landing a.n (pos (a.i + 1) +ℤ a.x.offset) = c.branch_target.ensures ∙ ap (λ (y : ℤ). landing a.n (pos (a.i + 1) +ℤ y)) back in
    cc
