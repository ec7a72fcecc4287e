use mathlib.Core.Path.{sym, subst}
use Rattle.std.specs.Prelude.{Option}
use Prim.Native.Nat.{ℕ}
use Rattle.diff.specs.Served.Cursor.{Found}
use Rattle.diff.proofs.WalkLaws.{found}
use Rattle.diff.proofs.cursor.first_field.Goals as goal

pub returns-then-load : goal.returns-then-load
returns-then-load c =
    let a = c.args.first.now in
    let b = c.args.second.now in
    subst (λ (r : Option ℕ). Found a b c.args.i r c.load.new.xs c.load.new.ys) (sym c.differing.ensures) (found a b c.args.i c.load.new.xs c.load.new.ys (c.load.ensures.differ c.if-load.true))
