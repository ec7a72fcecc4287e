use mathlib.Core.Path.{◌≡◌}
use Prim.Native.Nat.{◌*◌, ◌≤◌}
use lib.ListN.{length}
use Rattle.container.specs.Container.{words_of}
use Rattle.text.specs.Text.{Put}
use Rattle.listing.specs.Listing.{lines, longest_line}
use Rattle.listing.proofs.line.put_lines.Given as goal

abbrev pub invariant-loop-i : goal.invariant-loop-i
invariant-loop-i l = (l.at ≤ longest_line * l.i) × (length l.out ≡ length l.initial.out) × Put (lines (words_of l.bytes) l.i) l.initial.out l.out l.at
