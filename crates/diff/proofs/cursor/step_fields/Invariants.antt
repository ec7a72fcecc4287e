use mathlib.Core.Path.{◌≡◌}
use Prim.Native.Nat.{max}
use Rattle.differences.specs.Differences.{shared as shared_of}
use Rattle.diff.specs.Served.Cursor.{from_instruction}
use Rattle.diff.proofs.cursor.step_fields.Given as goal

abbrev pub invariant-loop-i : goal.invariant-loop-i
invariant-loop-i l = from_instruction l.first l.second (max l.initial.i (shared_of l.first l.second)) l.initial.i ≡ from_instruction l.first l.second (max l.initial.i (shared_of l.first l.second)) l.i
