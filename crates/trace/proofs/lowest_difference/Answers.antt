use mathlib.Core.Path.{◌≡◌, sym, ap, ◌∙◌}
use mathlib.Core.Bool.{not}
use native.Mathlib.Omega.{arith}
use borrow.Author.Tests.{lt-ltb, eq-eqb, ne_eqb}
use Rattle.bits.specs.Sets.{lowest_from}
use Rattle.trace.specs.Trace.{unlike}
use Rattle.trace.proofs.LowestLaws.{lowest_hit, lowest_miss, lowest_end}
use Rattle.trace.proofs.lowest_difference.Goals as goal

pub returns-then-registers-r : goal.returns-then-registers-r
returns-then-registers-r c =
    let a = c.args in
    let is : c.loop-r.r ≡ lowest_from (unlike a.registers.now a.trace.now a.k) 64 0 = sym (lowest_hit (unlike a.registers.now a.trace.now a.k) c.loop-r.r 64 c.loop-r-test.true (ap not (ne_eqb _ _ c.if-registers-r.true))) ∙ c.loop-r.invariant in
    rw (← is, lt-ltb c.loop-r.r 64 c.loop-r-test.true)

pub loop-r-preserved : goal.loop-r-preserved
loop-r-preserved c =
    let a = c.args in
    sym (lowest_miss (unlike a.registers.now a.trace.now a.k) c.loop-r.r 64 c.loop-r-test.true (ap not (eq-eqb _ _ c.if-registers-r.false))) ∙ c.loop-r.invariant

pub returns : goal.returns
returns c =
    let a = c.args in
    let last : 64 ≡ c.loop-r.r = omega arith in
    let is : 64 ≡ lowest_from (unlike a.registers.now a.trace.now a.k) 64 0 = last ∙ sym (lowest_end (unlike a.registers.now a.trace.now a.k) c.loop-r.r 64 c.loop-r-test.false) ∙ c.loop-r.invariant in
    rw (← is)
