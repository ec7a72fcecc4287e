use mathlib.Core.Path.{◌≡◌}
use Prim.Native.Nat.{◌*◌}
use lib.ListN.{length, take}
use Rattle.text.specs.Text.{Put}
use Rattle.replaytext.specs.ReplayText.{values}
use Rattle.replaytext.proofs.put_values.Given as goal

abbrev pub invariant-loop-v : goal.invariant-loop-v
invariant-loop-v l = (l.at ≡ 8 * l.v-index) × (length l.out ≡ length l.initial.out) × Put (values (take l.v-index l.registers)) l.initial.out l.out l.at
