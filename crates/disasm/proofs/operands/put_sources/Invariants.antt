use mathlib.Core.Path.{◌≡◌}
use Prim.Native.Nat.{◌+◌, ◌*◌, ◌≤◌}
use lib.ListN.{length}
use Rattle.text.specs.Text.{Put}
use Rattle.sourcetext.specs.SourceText.{longest_source}
use Rattle.disasm.specs.Served.Places.{coded_sources}
use Rattle.disasm.proofs.operands.put_sources.Given as goal

abbrev pub invariant-loop-k : goal.invariant-loop-k
invariant-loop-k l = (l.at ≤ (2 + longest_source) * l.k)
    × (length l.out ≡ length l.initial.out)
    × Put (coded_sources l.kinds l.values l.page l.bytes l.first l.k) l.initial.out l.out l.at
