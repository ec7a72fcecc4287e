use mathlib.Core.Path.{◌≡◌}
use lib.ListN.{length, get_or}
use Rattle.bits.specs.Halves.{halves}
use Rattle.packing.proofs.FillLaws.{Begins}
use Rattle.sweeps.specs.Sweeps.{note_bytes}
use Rattle.sweeps.proofs.encode.encode.Given as goal

abbrev pub invariant-loop-i : goal.invariant-loop-i
invariant-loop-i l = (length l.out ≡ length l.initial.out) × Begins (note_bytes l.version (λ j. halves (get_or l.lows j 0) (get_or l.highs j 0)) l.i) l.out l.initial.out
