use mathlib.Core.Path.{refl}
use native.Mathlib.Numerals.{add-one}
use native.Mathlib.Omega.{arith}
use lib.ListN.{length-set}
use Rattle.runbytes.specs.RunBytes.{numbers}
use Rattle.runbytes.proofs.NumberLaws.{one_number}
use Rattle.runbytes.proofs.load.Goals as goal

pub loop-i-init : goal.loop-i-init
unfolding numbers
loop-i-init c = (refl, refl)

pub loop-i-preserved : goal.loop-i-preserved
loop-i-preserved c =
    let a = c.args in
    let l = c.loop-i in
    (simp length-set l.invariant.0, rw (add-one l.i) (one_number a.bytes.now a.start l.i a.out.now (omega arith) l.invariant.1 c.number_at.ensures))
