use mathlib.Core.Path.{◌≡◌, sym, ◌∙◌}
use Prim.Native.Nat.{ℕ}
use native.Mathlib.Omega.{arith}
use Rattle.lookup.specs.Served.Index.{group, empty, groups, group_at}
use Rattle.lookup.specs.declared.Group.{Group}
use Rattle.opcoderows.proofs.KeyedLaws.{Missed, unlisted, told}
use Rattle.lookup.proofs.group_at.Goals as goal
use Rattle.std.proofs.lemmas.Grind.{common_steps}

other : (k : ℕ) {x : Group} → Missed (Unit {0}) groups k → x ≡ group 0 0 0 empty → x ≡ group_at k
unfolding group_at
other k m q = q ∙ sym (unlisted (group 0 0 0 empty) groups k m)

pub returns-in-1 : goal.returns-in-1
unfolding group_at
returns-in-1 c = told group_at c.args.slot 1 (omega arith) c.grouped.ensures

pub returns-in-3 : goal.returns-in-3
unfolding group_at
returns-in-3 c = told group_at c.args.slot 3 (omega arith) c.grouped-in-3.ensures

pub returns-in-5 : goal.returns-in-5
unfolding group_at
returns-in-5 c = told group_at c.args.slot 5 (omega arith) c.grouped-in-5.ensures

pub returns-in-7 : goal.returns-in-7
unfolding group_at
returns-in-7 c = told group_at c.args.slot 7 (omega arith) c.grouped-in-7.ensures

pub returns-in-8 : goal.returns-in-8
unfolding group_at
returns-in-8 c = told group_at c.args.slot 8 (omega arith) c.grouped-in-8.ensures

pub returns-in-9 : goal.returns-in-9
unfolding group_at
returns-in-9 c = told group_at c.args.slot 9 (omega arith) c.grouped-in-9.ensures

pub returns-in-10 : goal.returns-in-10
unfolding group_at
returns-in-10 c = told group_at c.args.slot 10 (omega arith) c.grouped-in-10.ensures

pub returns-in-12 : goal.returns-in-12
unfolding group_at
returns-in-12 c = told group_at c.args.slot 12 (omega arith) c.grouped-in-12.ensures

pub returns-in-13 : goal.returns-in-13
unfolding group_at
returns-in-13 c = told group_at c.args.slot 13 (omega arith) c.grouped-in-13.ensures

pub returns-in-15 : goal.returns-in-15
unfolding group_at
returns-in-15 c = told group_at c.args.slot 15 (omega arith) c.grouped-in-15.ensures

pub returns-in-16 : goal.returns-in-16
unfolding group_at
returns-in-16 c = told group_at c.args.slot 16 (omega arith) c.grouped-in-16.ensures

pub returns-in-17 : goal.returns-in-17
unfolding group_at
returns-in-17 c = told group_at c.args.slot 17 (omega arith) c.grouped-in-17.ensures

pub returns-in-18 : goal.returns-in-18
unfolding group_at
returns-in-18 c = told group_at c.args.slot 18 (omega arith) c.grouped-in-18.ensures

pub returns-in-20 : goal.returns-in-20
unfolding group_at
returns-in-20 c = told group_at c.args.slot 20 (omega arith) c.grouped-in-20.ensures

pub returns-in-21 : goal.returns-in-21
unfolding group_at
returns-in-21 c = told group_at c.args.slot 21 (omega arith) c.grouped-in-21.ensures

pub returns-in-22 : goal.returns-in-22
unfolding group_at
returns-in-22 c = told group_at c.args.slot 22 (omega arith) c.grouped-in-22.ensures

pub returns-in-24 : goal.returns-in-24
unfolding group_at
returns-in-24 c = told group_at c.args.slot 24 (omega arith) c.grouped-in-24.ensures

pub returns-in-25 : goal.returns-in-25
unfolding group_at
returns-in-25 c = told group_at c.args.slot 25 (omega arith) c.grouped-in-25.ensures

pub returns-in-26 : goal.returns-in-26
unfolding group_at
returns-in-26 c = told group_at c.args.slot 26 (omega arith) c.grouped-in-26.ensures

pub returns-in-27 : goal.returns-in-27
unfolding group_at
returns-in-27 c = told group_at c.args.slot 27 (omega arith) c.grouped-in-27.ensures

pub returns-in-28 : goal.returns-in-28
unfolding group_at
returns-in-28 c = told group_at c.args.slot 28 (omega arith) c.grouped-in-28.ensures

pub returns-in-29 : goal.returns-in-29
unfolding group_at
returns-in-29 c = told group_at c.args.slot 29 (omega arith) c.grouped-in-29.ensures

pub returns-in-30 : goal.returns-in-30
unfolding group_at
returns-in-30 c = told group_at c.args.slot 30 (omega arith) c.grouped-in-30.ensures

pub returns-in-31 : goal.returns-in-31
unfolding group_at
returns-in-31 c = told group_at c.args.slot 31 (omega arith) c.grouped-in-31.ensures

pub returns-in-33 : goal.returns-in-33
unfolding group_at
returns-in-33 c = told group_at c.args.slot 33 (omega arith) c.grouped-in-33.ensures

pub returns-in-34 : goal.returns-in-34
unfolding group_at
returns-in-34 c = told group_at c.args.slot 34 (omega arith) c.grouped-in-34.ensures

pub returns-in_default : goal.returns-in_default
unfolding group_at
returns-in_default c = grind (arith, common_steps, other)
