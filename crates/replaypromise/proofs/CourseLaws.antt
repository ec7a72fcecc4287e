-- How a run goes until it stops. Assumes nothing.
use Rattle.std.specs.Prelude.{None, Some}
use mathlib.Core.Path.{◌≡◌, refl, sym, ◌∙◌, subst}
use mathlib.Core.Bool.{Bool, true, false, true≢false}
use mathlib.Core.List.{List}
use mathlib.Core.Logic.{⊎_elim}
use Prim.Native.Nat.{ℕ, zero, suc, ◌+◌, ◌≤◌, ◌<◌}
use native.Mathlib.Nat.{eq-or-lt_of_le}
use native.Mathlib.Omega.{arith}
use lib.Dec.{ltb}
use lib.ListN.{get_or}
use borrow.Author.Tests.{lt-ltb, ltb-true, ltb-false, eqb-true, eq-eqb, not-true, not-false}
use Rattle.bits.specs.Fields.{choose}
use Rattle.bits.specs.Sets.{lowest_from}
use Rattle.bits.proofs.SetLaws.{lowest_at, lowest_below}
use Rattle.record.specs.Registers.{ends}
use Rattle.safety.specs.Program.{Program}
use Rattle.machine.specs.Steps.{State}
use Rattle.trace.specs.Trace.{recorded_steps, recorded, unlike, difference}
use Rattle.run.specs.declared.Stop.{Stop}
use Rattle.run.specs.declared.Stop.TheVariants.{Differs, Ended, Limit}
use Rattle.replaypromise.specs.Promises.{NamesStep}
use Rattle.run.specs.Run.{or_later, steps_run, at, stop, run_from}

-- ---- what a comparison finds

module _ (registers trace : List ℕ) (k : ℕ) where
  alike_by : (r : ℕ) → unlike registers trace k r ≡ false → get_or registers r 0 ≡ recorded trace k r
  alike_by r e = eqb-true (get_or registers r 0) (recorded trace k r) (not-false _ e)

  unalike_by : (r : ℕ) → unlike registers trace k r ≡ true → ¬ (get_or registers r 0 ≡ recorded trace k r)
  unalike_by r e q = true≢false (sym (eq-eqb _ _ q) ∙ not-true _ e)

  -- nothing differs
  pub all_alike : 64 ≤ difference registers trace k → k < recorded_steps trace → (r : ℕ) → r < 64 → get_or registers r 0 ≡ recorded trace k r
  unfolding difference
  all_alike h l r m =
      let f : 64 ≤ lowest_from (unlike registers trace k) 64 0 = rw (lt-ltb k (recorded_steps trace) l) at h in
      alike_by r (lowest_below (unlike registers trace k) 64 0 r (omega arith) (omega arith))

  -- a difference is where the trace has the step, at the lowest register that differs
  pub found : difference registers trace k < 64 → (k < recorded_steps trace) × (¬ (get_or registers (difference registers trace k) 0 ≡ recorded trace k (difference registers trace k)))
      × ((q : ℕ) → q < difference registers trace k → get_or registers q 0 ≡ recorded trace k q)
  unfolding difference
  found h = go (ltb k (recorded_steps trace)) refl h
    where
      go : (t : Bool) → ltb k (recorded_steps trace) ≡ t → choose t (lowest_from (unlike registers trace k) 64 0) 64 < 64
          → (k < recorded_steps trace) × (¬ (get_or registers (choose t (lowest_from (unlike registers trace k) 64 0) 64) 0 ≡ recorded trace k (choose t (lowest_from (unlike registers trace k) 64 0) 64)))
          × ((q : ℕ) → q < choose t (lowest_from (unlike registers trace k) 64 0) 64 → get_or registers q 0 ≡ recorded trace k q)
      go true e l = (ltb-true k (recorded_steps trace) e, unalike_by _ (lowest_at (unlike registers trace k) 64 0 l), λ q m. alike_by q (lowest_below (unlike registers trace k) 64 0 q (omega arith) m))
      go false e l = absurd (omega arith)

-- ---- how a run goes

module _ (p : Program) (uniforms start trace : List ℕ) where
  abbrev before : ℕ → State
  before k = at p uniforms start k

  -- what step k differs in, and whether it comes to `end`
  abbrev gap : ℕ → ℕ
  gap k = difference (before (suc k)).registers trace k

  abbrev last : ℕ → Bool
  last k = ends (p.instruction (before k).index)

  -- from step k, with n steps left: the limit, a stop, or a step and what follows
  pub data Course : ℕ → ℕ → Stop → Type 0 where
    limit : (k : ℕ) → Course k 0 (Limit k)
    differs : (k n r : ℕ) → r ≡ gap k → r < 64 → Course k (suc n) (Differs k r)
    ended : (k n : ℕ) → 64 ≤ gap k → last k ≡ true → Course k (suc n) (Ended (suc k))
    goes : (k n : ℕ) (s : Stop) → 64 ≤ gap k → last k ≡ false → Course (suc k) n s → Course k (suc n) s

  pub course : (k n : ℕ) → Course k n (run_from p uniforms start trace k n)
  unfolding run_from stop
  course k zero = limit k
  course k (suc n) = go (ltb (gap k) 64) refl (last k) refl (course (suc k) n)
    where
      go : (t : Bool) → ltb (gap k) 64 ≡ t → (u : Bool) → last k ≡ u → Course (suc k) n (run_from p uniforms start trace (suc k) n)
          → Course k (suc n) (or_later (choose t (Some (Differs k (gap k))) (choose u (Some (Ended (suc k))) None)) (run_from p uniforms start trace (suc k) n))
      go true e u f c = differs k n (gap k) refl (ltb-true (gap k) 64 e)
      go false e true f c = ended k n (ltb-false (gap k) 64 e) f
      go false e false f c = goes k n _ (ltb-false (gap k) 64 e) f c

  -- it runs from step k on, and within what is left
  pub range : {k n : ℕ} {s : Stop} → Course k n s → (k ≤ steps_run s) × (steps_run s ≤ k + n)
  range (limit k) = (omega arith, omega arith)
  range (differs k n r e l) = (omega arith, omega arith)
  range (ended k n h e) = (omega arith, omega arith)
  range (goes k n s h e c) = let r = range c in (omega arith, omega arith)

  -- no step before the last comes to `end`
  pub onward : {k n : ℕ} {s : Stop} → Course k n s → (j : ℕ) → k ≤ j → suc j < steps_run s → last j ≡ false
  onward (limit k) j l h = absurd (omega arith)
  onward (differs k n r e m) j l h = absurd (omega arith)
  onward (ended k n m e) j l h = absurd (omega arith)
  onward (goes k n s m e c) j l h = ⊎_elim (λ q. subst (λ (i : ℕ). last i ≡ false) q e) (λ m. onward c j m h) (eq-or-lt_of_le l)

  -- a step that the answer does not name differs in nothing
  pub alike : {k n : ℕ} {s : Stop} → Course k n s → (j : ℕ) → k ≤ j → j < steps_run s → (¬ NamesStep s j) → 64 ≤ gap j
  alike (limit k) j l h u = absurd (omega arith)
  alike (differs k n r e m) j l h u = absurd (u (omega arith))
  alike (ended k n m e) j l h u = subst (λ (i : ℕ). 64 ≤ gap i) {x = k} (omega arith) m
  alike (goes k n s m e c) j l h u = ⊎_elim (λ q. subst (λ (i : ℕ). 64 ≤ gap i) q m) (λ o. alike c j o h u) (eq-or-lt_of_le l)

  -- what stopped the run, from its last step
  unfoldable pub Last : ℕ → ℕ → Stop → Type 0
  Last k n (Differs j r) = (r ≡ gap j) × (r < 64)
  Last k n (Ended m) = (j : ℕ) × (m ≡ suc j) × (last j ≡ true)
  Last k n (Limit m) = (m ≡ k + n) × ((j : ℕ) → k ≤ j → j < m → last j ≡ false)

  pub told : {k n : ℕ} {s : Stop} → Course k n s → Last k n s
  unfolding Last
  told (limit k) = (omega arith, λ j l h. absurd (omega arith))
  told (differs k n r e m) = (e, m)
  told (ended k n m e) = (k, refl, e)
  told (goes k n (Differs j r) m e c) = told c
  told (goes k n (Ended i) m e c) = told c
  told (goes k n (Limit i) m e c) =
      let t = told c in
      (omega (arith, t.0), λ j l h. ⊎_elim (λ q. subst (λ (i : ℕ). last i ≡ false) q e) (λ o. t.1 j o h) (eq-or-lt_of_le l))
