use mathlib.Core.Path.{◌≡◌, sym, ◌∙◌}
use Prim.Native.Nat.{ℕ}
use native.Mathlib.Omega.{arith}
use Rattle.opcoderows.specs.Served.Runs.{no_run, runs, run_at}
use Rattle.opcoderows.specs.declared.Run.{Run}
use Rattle.opcoderows.proofs.KeyedLaws.{Missed, unlisted, told}
use Rattle.opcoderows.proofs.run_at.Goals as goal
use Rattle.std.proofs.lemmas.Grind.{common_steps}

other : (k : ℕ) {x : Run} → Missed (Unit {0}) runs k → x ≡ no_run → x ≡ run_at k
unfolding run_at
other k m q = q ∙ sym (unlisted no_run runs k m)

pub returns-in-1 : goal.returns-in-1
unfolding run_at
returns-in-1 c = told run_at c.args.slot 1 (omega arith) c.run_with.ensures

pub returns-in-3 : goal.returns-in-3
unfolding run_at
returns-in-3 c = told run_at c.args.slot 3 (omega arith) c.run_with-in-3.ensures

pub returns-in-5 : goal.returns-in-5
unfolding run_at
returns-in-5 c = told run_at c.args.slot 5 (omega arith) c.run_with-in-5.ensures

pub returns-in-7 : goal.returns-in-7
unfolding run_at
returns-in-7 c = told run_at c.args.slot 7 (omega arith) c.run_with-in-7.ensures

pub returns-in-8 : goal.returns-in-8
unfolding run_at
returns-in-8 c = told run_at c.args.slot 8 (omega arith) c.run_with-in-8.ensures

pub returns-in-9 : goal.returns-in-9
unfolding run_at
returns-in-9 c = told run_at c.args.slot 9 (omega arith) c.run_with-in-9.ensures

pub returns-in-10 : goal.returns-in-10
unfolding run_at
returns-in-10 c = told run_at c.args.slot 10 (omega arith) c.run_with-in-10.ensures

pub returns-in-12 : goal.returns-in-12
unfolding run_at
returns-in-12 c = told run_at c.args.slot 12 (omega arith) c.run_with-in-12.ensures

pub returns-in-13 : goal.returns-in-13
unfolding run_at
returns-in-13 c = told run_at c.args.slot 13 (omega arith) c.run_with-in-13.ensures

pub returns-in-15 : goal.returns-in-15
unfolding run_at
returns-in-15 c = told run_at c.args.slot 15 (omega arith) c.run_with-in-15.ensures

pub returns-in-16 : goal.returns-in-16
unfolding run_at
returns-in-16 c = told run_at c.args.slot 16 (omega arith) c.run_with-in-16.ensures

pub returns-in-17 : goal.returns-in-17
unfolding run_at
returns-in-17 c = told run_at c.args.slot 17 (omega arith) c.run_with-in-17.ensures

pub returns-in-18 : goal.returns-in-18
unfolding run_at
returns-in-18 c = told run_at c.args.slot 18 (omega arith) c.run_with-in-18.ensures

pub returns-in-20 : goal.returns-in-20
unfolding run_at
returns-in-20 c = told run_at c.args.slot 20 (omega arith) c.run_with-in-20.ensures

pub returns-in-21 : goal.returns-in-21
unfolding run_at
returns-in-21 c = told run_at c.args.slot 21 (omega arith) c.run_with-in-21.ensures

pub returns-in-22 : goal.returns-in-22
unfolding run_at
returns-in-22 c = told run_at c.args.slot 22 (omega arith) c.run_with-in-22.ensures

pub returns-in-24 : goal.returns-in-24
unfolding run_at
returns-in-24 c = told run_at c.args.slot 24 (omega arith) c.run_with-in-24.ensures

pub returns-in-25 : goal.returns-in-25
unfolding run_at
returns-in-25 c = told run_at c.args.slot 25 (omega arith) c.run_with-in-25.ensures

pub returns-in-26 : goal.returns-in-26
unfolding run_at
returns-in-26 c = told run_at c.args.slot 26 (omega arith) c.run_with-in-26.ensures

pub returns-in-27 : goal.returns-in-27
unfolding run_at
returns-in-27 c = told run_at c.args.slot 27 (omega arith) c.run_with-in-27.ensures

pub returns-in-28 : goal.returns-in-28
unfolding run_at
returns-in-28 c = told run_at c.args.slot 28 (omega arith) c.run_with-in-28.ensures

pub returns-in-29 : goal.returns-in-29
unfolding run_at
returns-in-29 c = told run_at c.args.slot 29 (omega arith) c.run_with-in-29.ensures

pub returns-in-30 : goal.returns-in-30
unfolding run_at
returns-in-30 c = told run_at c.args.slot 30 (omega arith) c.run_with-in-30.ensures

pub returns-in-31 : goal.returns-in-31
unfolding run_at
returns-in-31 c = told run_at c.args.slot 31 (omega arith) c.run_with-in-31.ensures

pub returns-in-33 : goal.returns-in-33
unfolding run_at
returns-in-33 c = told run_at c.args.slot 33 (omega arith) c.run_with-in-33.ensures

pub returns-in-34 : goal.returns-in-34
unfolding run_at
returns-in-34 c = told run_at c.args.slot 34 (omega arith) c.run_with-in-34.ensures

pub returns-in_default : goal.returns-in_default
unfolding run_at
returns-in_default c = grind (arith, common_steps, other)
