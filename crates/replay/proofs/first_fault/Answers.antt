use mathlib.Core.Path.{refl}
use native.Mathlib.Omega.{arith}
use Rattle.bits.specs.Outcomes.{first}
use Rattle.run.proofs.StepLaws.{fewer}
use Rattle.replay.proofs.FaultLaws.{all_well, at_fault, goes_on}
use borrow.Author.Rules.{rules}
use Rattle.replay.proofs.first_fault.Goals as goal

pub loop-i-init : goal.loop-i-init
unfolding first
loop-i-init c = refl

pub offset_bounds-program-i : goal.offset_bounds-program-i
offset_bounds-program-i c = let f = fewer c.args.bytes.now c.requires.0.safe.0 in let e = c.requires.1 in search rules

pub bounds : goal.bounds
bounds c = let f = fewer c.args.bytes.now c.requires.0.safe.0 in let e = c.requires.1 in omega arith

pub returns-in-Some : goal.returns-in-Some
returns-in-Some c =
    let a = c.args in
    let l = c.loop-i-test.true in
    let e = c.requires.1 in
    at_fault a.bytes.now a.uniforms.now c.loop-i.i c.loop-i.invariant (c.requires.0.stands c.loop-i.i _ (omega arith)) (omega arith) c.in-Some.is c.number.ensures c.refused.ensures

pub loop-i-preserved : goal.loop-i-preserved
loop-i-preserved c =
    let a = c.args in
    let l = c.loop-i-test.true in
    let e = c.requires.1 in
    goes_on a.bytes.now a.uniforms.now c.loop-i.i c.loop-i.invariant (c.requires.0.stands c.loop-i.i _ (omega arith)) c.in_default.is

pub returns : goal.returns
returns c =
    let a = c.args in
    let e = c.requires.1 in
    all_well a.bytes.now a.uniforms.now c.loop-i.i c.loop-i.invariant (omega arith) (omega arith)
