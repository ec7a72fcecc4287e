use mathlib.Core.Path.{◌≡◌}
use Prim.Native.Nat.{◌+◌, ◌*◌, ◌≤◌}
use lib.ListN.{length}
use Rattle.text.specs.Text.{Put}
use Rattle.showlines.specs.Lines.{lines, longest_line}
use Rattle.verdicttext.specs.Words.{longest_fault}
use Rattle.show.proofs.program.put_lines.Given as goal

abbrev pub invariant-loop-i : goal.invariant-loop-i
invariant-loop-i l = (l.at ≤ (longest_line + longest_fault) * l.i) × (length l.out ≡ length l.initial.out) × Put (lines l.version l.words l.notes l.n l.width l.faulty l.fault l.i) l.initial.out l.out l.at
