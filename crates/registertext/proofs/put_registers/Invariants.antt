use mathlib.Core.Path.{◌≡◌}
use Prim.Native.Nat.{◌*◌, ◌≤◌}
use lib.ListN.{length}
use Rattle.text.specs.Text.{Put}
use Rattle.registertext.specs.Registers.{members_text}
use Rattle.registertext.proofs.put_registers.Given as goal

abbrev pub invariant-loop-r : goal.invariant-loop-r
invariant-loop-r l = (l.at ≤ 5 * l.r) × (length l.out ≡ length l.initial.out) × Put (members_text l.s l.r) l.initial.out l.out l.at
