use mathlib.Core.Path.{◌≡◌, sym, ap, ◌∙◌}
use lib.Ieee.{binary32, to_bits}
use Rattle.fadd.specs.Single.{recorded}
use Rattle.fadd.proofs.NanLaws.{nan_only, recorded_is}
use Rattle.fadd.proofs.bits_of.Goals as goal

pub returns-then-is_nan : goal.returns-then-is_nan
unfolding recorded
returns-then-is_nan c = sym (ap recorded (nan_only c.args.x (sym c.is_nan.ensures.value ∙ c.if-is_nan.true)))

pub returns-else-is_nan : goal.returns-else-is_nan
returns-else-is_nan c =
    let x = c.args.x in
    let e : to_bits binary32 x ≡ recorded x = sym (recorded_is x) in
    cc
