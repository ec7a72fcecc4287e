use mathlib.Core.Path.{◌≡◌}
use lib.ListN.{length}
use Rattle.decode.specs.Served.Decoded.{Decoded}
use Rattle.decode.proofs.decode.Given as goal

abbrev pub invariant-loop-i : goal.invariant-loop-i
invariant-loop-i l = (length l.program ≡ 2048) × Decoded l.words l.uniforms l.n l.i l.program
