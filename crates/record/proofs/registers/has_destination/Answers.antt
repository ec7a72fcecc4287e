use mathlib.Core.Path.{sym, ap, ◌∙◌}
use Prim.Native.Nat.{ℕ}
use lib.Dec.{ltb}
use borrow.Author.Tests.{le-leb, lt-leb}
use Rattle.record.proofs.RegisterLaws.{ranged}
use Rattle.record.proofs.registers.has_destination.Goals as goal

pub returns-then-row-ge-FIRST_DESTINATION : goal.returns-then-row-ge-FIRST_DESTINATION
returns-then-row-ge-FIRST_DESTINATION c =
    let k = c.args.row in
    sym ((ranged k).destination ∙ rw (le-leb 3 k c.if-row-ge-FIRST_DESTINATION.true) (ap (λ (x : ℕ). ltb x 77) (sym c.from.ensures)))

pub returns-else-row-ge-FIRST_DESTINATION : goal.returns-else-row-ge-FIRST_DESTINATION
returns-else-row-ge-FIRST_DESTINATION c =
    let k = c.args.row in
    sym ((ranged k).destination ∙ rw (lt-leb 3 k c.if-row-ge-FIRST_DESTINATION.false))
