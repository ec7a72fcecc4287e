use mathlib.Core.Path.{◌≡◌}
use Prim.Native.Nat.{◌+◌, ◌*◌, ◌^◌, ◌≤◌}
use lib.ListN.{drop}
use Rattle.bits.specs.Fields.{join}
use Rattle.writing.proofs.WordLaws.{low_slots}
use Rattle.wordparts.proofs.word.modifiers_word.Given as goal

-- each modifier adds less than 2 ^ 47
abbrev pub invariant-loop-j : goal.invariant-loop-j
invariant-loop-j l = (l.w ≤ l.j * 2 ^ 47) × (l.w + join (drop l.j low_slots) (drop l.j l.m) ≡ join low_slots l.m)
