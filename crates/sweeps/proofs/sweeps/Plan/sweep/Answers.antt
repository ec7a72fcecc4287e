use Rattle.bits.specs.Sets.{minus, union}
use mathlib.Core.Path.{◌≡◌, ap₂, ◌∙◌}
use mathlib.Core.List.{List}
use Prim.Native.Nat.{ℕ}
use lib.ListN.{get_or}
use Rattle.sweeps.specs.Served.Plan.{narrow_at}
use Rattle.sweeps.proofs.PlanLaws.{swept_none, swept_more}
use Rattle.sweeps.proofs.sweeps.Plan.sweep.Goals as goal

pub loop-i-init : goal.loop-i-init
loop-i-init c = swept_none _ _ _ _ _ _

pub loop-i-preserved : goal.loop-i-preserved
loop-i-preserved c =
    let a = c.args in
    let l = c.loop-i in
    let h : c.missing.result ≡ minus (get_or a.old.now l.i 0) (get_or a.self.kills.now l.i 0) = c.missing.ensures in
    c.narrow-in-loop-i.ensures
    ∙ ap₂ (λ (x : List ℕ) (m : ℕ). narrow_at x (get_or a.self.jumps.now l.i 0) (union m (get_or a.self.fills.now l.i 0)))
    (c.narrow.ensures ∙ ap₂ (λ (x : List ℕ) (m : ℕ). narrow_at x (get_or a.self.falls.now l.i 0) (union m (get_or a.self.fills.now l.i 0))) l.invariant h) h
    ∙ swept_more a.self.kills.now a.self.fills.now a.self.falls.now a.self.jumps.now a.old.now a.new.now l.i
