use mathlib.Core.Path.{refl, sym, ap, ◌∙◌}
use Rattle.run.proofs.StepLaws.{fewer}
use Rattle.safety.proofs.Demand3.{some}
use native.Mathlib.Omega.{arith}
use native.Mathlib.Numerals.{add-one}
use Rattle.safety.specs.Program.{program_of, machine}
use Rattle.trace.proofs.LowestLaws.{register_is, no_register}
use Rattle.run.specs.declared.Stop.TheVariants.{Differs}
use Rattle.run.proofs.RunLaws.{at_start, over}
use Rattle.run.proofs.TurnLaws.{turn}
use borrow.Author.Rules.{rules}
use Rattle.run.proofs.run.Goals as goal

pub loop-k-init : goal.loop-k-init
unfolding machine
loop-k-init c =
    let a = c.args in
    (some a.bytes.now c.requires.safe.0, at_start (program_of a.bytes.now) a.uniforms.now a.registers.now a.trace.now a.limit)

pub offset_bounds-program-i : goal.offset_bounds-program-i
offset_bounds-program-i c = let f = fewer c.args.bytes.now c.requires.safe.0 in search rules

pub bounds-program-i : goal.bounds-program-i
bounds-program-i c = let f = fewer c.args.bytes.now c.requires.safe.0 in omega arith

pub step-next-requires : goal.step-next-requires
step-next-requires c = let f = fewer c.args.bytes.now c.requires.safe.0 in omega arith

pub returns-in-Some : goal.returns-in-Some
returns-in-Some c =
    let a = c.args in
    let is = c.requires.stands c.loop-k.i _ c.loop-k.invariant.0 in
    let t = turn a.bytes.now a.uniforms.now a.registers.now a.trace.now c.requires c.loop-k.invariant.0 c.loop-k.invariant.1 c.loop-k-test.true is c.step-next.ensures.written c.step-next.ensures.index refl in
    let f = register_is _ c.difference.ensures c.in-Some.is in
    record { answer = sym (ap (Differs c.loop-k.k) f.0) ∙ t.differs f.1; left = t.leaves }

pub returns-then-o : goal.returns-then-o
returns-then-o c =
    let a = c.args in
    let is = c.requires.stands c.loop-k.i _ c.loop-k.invariant.0 in
    let t = turn a.bytes.now a.uniforms.now a.registers.now a.trace.now c.requires c.loop-k.invariant.0 c.loop-k.invariant.1 c.loop-k-test.true is c.step-next.ensures.written c.step-next.ensures.index refl in
    let f = no_register _ c.difference.ensures c.in_default.is in
    record { answer = rw add-one (t.ends f c.if-o.true); left = rw add-one t.leaves }

pub loop-k-preserved : goal.loop-k-preserved
loop-k-preserved c =
    let a = c.args in
    let is = c.requires.stands c.loop-k.i _ c.loop-k.invariant.0 in
    let t = turn a.bytes.now a.uniforms.now a.registers.now a.trace.now c.requires c.loop-k.invariant.0 c.loop-k.invariant.1 c.loop-k-test.true is c.step-next.ensures.written c.step-next.ensures.index refl in
    let f = no_register _ c.difference.ensures c.in_default.is in
    let on = t.goes f c.if-o.false in
    (on.1, on.0)

pub returns : goal.returns
returns c =
    let a = c.args in
    let all = over (program_of a.bytes.now) a.uniforms.now a.registers.now a.trace.now c.requires.safe.1 c.loop-k.invariant.1 c.loop-k-test.false c.loop-k.auto.k-end in record { answer = all.0; left = all.1 }
