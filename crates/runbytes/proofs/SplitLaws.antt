-- Whether the parts of a run are there, test by test. Assumes nothing.
use mathlib.Core.Path.{◌≡◌, refl, sym, ◌∙◌}
use mathlib.Core.Bool.{Bool, true, false, false≢true, ◌&&◌}
use mathlib.Core.List.{List}
use Prim.Native.Nat.{ℕ, ◌+◌, ◌*◌, ◌-◌, ◌<◌, ◌≤◌}
use native.Mathlib.Omega.{arith}
use lib.Dec.{eqb, leb}
use lib.ListN.{length, take, drop, length-drop}
use lib.Seq.{take_all}
use borrow.Author.Tests.{le-leb, lt-leb, leb-true}
use Rattle.bits.specs.Outcomes.{Outcome, gives, refuses, require, ◌then◌}
use Rattle.bits.proofs.OutcomeLaws.{then_gives, required}
use Rattle.runbytes.specs.declared.Front.{Front}
use Rattle.runbytes.specs.declared.Fault.{Fault}
use Rattle.runbytes.specs.declared.Fault.TheVariants.{Short, Kind, Counts, Cut}
use Rattle.runbytes.specs.RunBytes.{number_at, numbers, front_in, container_start, uniforms_in, trace_in, container_in, split_outcome}
use Rattle.runbytes.specs.Served.Whole.{Whole}

pub too_short : (s : List ℕ) → length s < 272 → refuses Short ≡ split_outcome s
unfolding ◌then◌
too_short s h = rw (lt-leb 272 (length s) h)

module _ (s : List ℕ) {rows uniforms recorded : ℕ} (long : 272 ≤ length s) (r : rows ≡ number_at s 0) (u : uniforms ≡ number_at s 8) (t : recorded ≡ number_at s 12) where
  pub wrong_kind : 1 < rows → refuses Kind ≡ split_outcome s
  unfolding ◌then◌
  wrong_kind h = rw (le-leb 272 (length s) long, lt-leb (number_at s 0) 1 (rw r at h))

  module _ (k : rows ≤ 1) where
    pub many_uniforms : 256 < uniforms → refuses Counts ≡ split_outcome s
    unfolding ◌then◌
    many_uniforms h = rw (le-leb 272 (length s) long, le-leb (number_at s 0) 1 (rw r at k), lt-leb (number_at s 8) 256 (rw u at h))

    module _ (few : uniforms ≤ 256) where
      pub many_recorded : 262144 < recorded → refuses Counts ≡ split_outcome s
      unfolding ◌then◌
      many_recorded h = rw (le-leb 272 (length s) long, le-leb (number_at s 0) 1 (rw r at k), le-leb (number_at s 8) 256 (rw u at few), lt-leb (number_at s 12) 262144 (rw t at h))

      module _ (less : recorded ≤ 262144) where
        passed : split_outcome s ≡ (require (leb (container_start (front_in s)) (length s)) Cut then gives (front_in s))
        unfolding ◌then◌
        passed = rw (le-leb 272 (length s) long, le-leb (number_at s 0) 1 (rw r at k), le-leb (number_at s 8) 256 (rw u at few), le-leb (number_at s 12) 262144 (rw t at less))

        pub cut_off : length s < 272 + 4 * uniforms + 4 * recorded → refuses Cut ≡ split_outcome s
        unfolding ◌then◌
        cut_off h = sym (passed ∙ rw (lt-leb (container_start (front_in s)) (length s) (rw (u, t) at h)))

        pub parted : 272 + 4 * uniforms + 4 * recorded ≤ length s → {limit : ℕ} → limit ≡ number_at s 4
            → gives (record { rows = eqb rows 1; limit = limit; uniforms = uniforms; recorded = recorded }) ≡ split_outcome s
        unfolding ◌then◌
        parted h l = sym (passed ∙ rw (le-leb (container_start (front_in s)) (length s) (rw (u, t) at h), r, u, t, l))

pub both : (a b : Bool) → a && b ≡ true → (a ≡ true) × (b ≡ true)
both true b e = (refl, e)
both false b e = absurd (false≢true e)

-- where the parts are there, the counts are small and what is counted is there
pub whole : (s : List ℕ) {f : Front} → gives f ≡ split_outcome s → Whole s f
whole s {f} e =
    let a = then_gives _ _ f (sym e) in
    let b = then_gives _ _ f a.1 in
    let c = then_gives _ _ f b.1 in
    let d = then_gives _ _ f c.1 in
    let few = both _ _ (required _ Counts c.0) in
    let is : f ≡ front_in s = given d.1 in
    record {
      front = is;
      few_uniforms = rw is (leb-true _ _ few.0);
      few_recorded = rw is (leb-true _ _ few.1);
      there = rw is (leb-true _ _ (required _ Cut d.0));
    }
  where
    given : ◌≡◌ {A = Outcome Fault Front} (gives (front_in s)) (gives f) → f ≡ front_in s
    given q = cc

-- the parts, from what stands in front
module _ {s : List ℕ} {f : Front} (w : Whole s f) where
  pub uniforms_are : {n : ℕ} {u : List ℕ} → n ≡ f.uniforms → u ≡ numbers s 272 n → u ≡ uniforms_in s
  uniforms_are n e = e ∙ rw (n, w.front)

  pub trace_is : {n : ℕ} {t : List ℕ} → n ≡ f.recorded → t ≡ numbers s (272 + 4 * f.uniforms) n → t ≡ trace_in s
  trace_is n e = e ∙ rw (n, w.front)

  pub container_is : take (length s - container_start f) (drop (container_start f) s) ≡ container_in s
  container_is = take_all (length s - container_start f) (drop (container_start f) s) (omega (arith, length-drop (container_start f) s)) ∙ rw w.front
