use mathlib.Core.Path.{◌≡◌, sym, ap}
use Prim.Native.Nat.{ℕ}
use native.Mathlib.Omega.{arith}
use Rattle.rows.specs.Rows.{rows}
use Rattle.rows.proofs.MatchLaws.{beyond}
use Rattle.record.specs.Served.Counts.{counts_at}
use Rattle.record.proofs.RegisterLaws.{counts_past}
use Rattle.record.proofs.registers.counts.Goals as goal
use Rattle.std.proofs.lemmas.Grind.{common_steps}

told : (g k : ℕ) → k ≡ g → counts_at g ≡ counts_at k
told g k e = sym (ap counts_at e)

pub returns-in-0 : goal.returns-in-0
unfolding counts_at rows
returns-in-0 c = told 0 c.args.rows (omega arith)

pub returns-in-1 : goal.returns-in-1
unfolding counts_at rows
returns-in-1 c = told 1 c.args.rows (omega arith)

pub returns-in-2 : goal.returns-in-2
unfolding counts_at rows
returns-in-2 c = told 2 c.args.rows (omega arith)

pub returns-in-3 : goal.returns-in-3
unfolding counts_at rows
returns-in-3 c = told 3 c.args.rows (omega arith)

pub returns-in-4 : goal.returns-in-4
unfolding counts_at rows
returns-in-4 c = told 4 c.args.rows (omega arith)

pub returns-in_default : goal.returns-in_default
unfolding counts_at rows
returns-in_default c = grind (arith, common_steps, beyond, counts_past)
