use mathlib.Core.Path.{ap}
use native.Mathlib.Omega.{arith}
use Prim.Native.Nat.{◌<◌}
use Rattle.infer.specs.Inference.{inference_outcome}
use Rattle.codes.proofs.CodeLaws.{maker_roomy, sweeps_small}
use Rattle.capi.proofs.vsp_infer.Goals as goal

pub overflow_mul-result : goal.overflow_mul-result
overflow_mul-result c =
    let k : c.in-Ok.k < 65536 = sweeps_small c.infer.ensures c.ranges.low.fits c.ranges.high.fits (ap inference_outcome c.in-Ok.is) in
    record { fits = omega (arith, k) }

pub finding_code-requires : goal.finding_code-requires
finding_code-requires c = let q = maker_roomy c.infer.ensures (ap inference_outcome c.in-Err.is) in (q.index, q.register)
