use mathlib.Core.Path.{◌≡◌, refl}
use Prim.Native.Nat.{◌<◌}
use native.Mathlib.Omega.{arith}
use Rattle.writing.proofs.WordLaws.{modifier_step, modifier_small, modifiers_end}
use Rattle.wordparts.proofs.word.modifiers_word.Goals as goal

pub overflow_add-w : goal.overflow_add-w
overflow_add-w c =
    let byte : c.from.result < 256 = omega (arith, c.from.ensures, c.loop-j-test.element_fits.fits) in
    let small = modifier_small c.args.m c.loop-j.j (omega arith) (omega arith) refl c.from.ensures byte in
    omega (arith, small)

pub loop-j-preserved : goal.loop-j-preserved
loop-j-preserved c =
    let byte : c.from.result < 256 = omega (arith, c.from.ensures, c.loop-j-test.element_fits.fits) in
    let small = modifier_small c.args.m c.loop-j.j (omega arith) (omega arith) refl c.from.ensures byte in
    let step = modifier_step c.args.m c.loop-j.j (omega arith) (omega arith) refl c.from.ensures byte in
    (omega (arith, small), omega (arith, step))

pub returns : goal.returns
returns c =
    let e : c.loop-j.j ≡ 14 = omega arith in
    (omega (arith, modifiers_end c.args.m, rw e at c.loop-j.invariant.1), omega arith)
