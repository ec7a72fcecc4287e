use Prim.Native.Nat.{◌+◌, ◌-◌}
use mathlib.Core.Path.{◌≡◌}
use Rattle.text.specs.Text.{digit_count}
use Rattle.text.proofs.put.digit_count.Given as goal

abbrev pub invariant-loop-k : goal.invariant-loop-k
invariant-loop-k l = l.k + digit_count l.base (l.most - l.k) l.rest ≡ digit_count l.base l.most l.n
