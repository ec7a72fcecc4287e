use mathlib.Core.Path.{◌≡◌, refl, sym}
use Prim.Native.Nat.{ℕ}
use native.Mathlib.Omega.{arith}
use Rattle.opcoderows.specs.Served.Runs.{moved, row_in}
use Rattle.opcoderows.proofs.KeyedLaws.{Missed, unlisted, told}
use Rattle.opcoderows.proofs.row_in.Goals as goal
use Rattle.std.proofs.lemmas.Grind.{common_steps}

other : (p : ℕ) → Missed (Unit {0}) moved p → p ≡ row_in p
unfolding row_in
other p m = sym (unlisted p moved p m)

pub returns-in-64 : goal.returns-in-64
unfolding row_in
returns-in-64 c = told row_in c.args.place 64 (omega arith) refl

pub returns-in-65 : goal.returns-in-65
unfolding row_in
returns-in-65 c = told row_in c.args.place 65 (omega arith) refl

pub returns-in-66 : goal.returns-in-66
unfolding row_in
returns-in-66 c = told row_in c.args.place 66 (omega arith) refl

pub returns-in-67 : goal.returns-in-67
unfolding row_in
returns-in-67 c = told row_in c.args.place 67 (omega arith) refl

pub returns-in-68 : goal.returns-in-68
unfolding row_in
returns-in-68 c = told row_in c.args.place 68 (omega arith) refl

pub returns-in-69 : goal.returns-in-69
unfolding row_in
returns-in-69 c = told row_in c.args.place 69 (omega arith) refl

pub returns-in-70 : goal.returns-in-70
unfolding row_in
returns-in-70 c = told row_in c.args.place 70 (omega arith) refl

pub returns-in-71 : goal.returns-in-71
unfolding row_in
returns-in-71 c = told row_in c.args.place 71 (omega arith) refl

pub returns-in-72 : goal.returns-in-72
unfolding row_in
returns-in-72 c = told row_in c.args.place 72 (omega arith) refl

pub returns-in-73 : goal.returns-in-73
unfolding row_in
returns-in-73 c = told row_in c.args.place 73 (omega arith) refl

pub returns-in_default : goal.returns-in_default
unfolding row_in
returns-in_default c = grind (arith, common_steps, other)
