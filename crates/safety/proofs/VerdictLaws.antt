-- Laws of judgements: what each test tells. Assumes nothing.
use mathlib.Core.Path.{◌≡◌, refl, sym}
use mathlib.Core.Bool.{Bool, true, false}
use Prim.Native.Nat.{ℕ, ◌<◌, ◌≤◌}
use native.Mathlib.Nat.{le_refl}
use borrow.Author.Tests.{ltb-true, lt-ltb, le-ltb, eqb-true, eqb-false, eq-eqb}
use lib.Dec.{eqb, ltb}
use lib.IntN.{ℤ, pos, negsuc}
use Rattle.bits.specs.Fields.{choose}
use Rattle.bits.specs.Sets.{lowest}
use Rattle.bits.specs.Halves.{either, minus_halves}
use Rattle.bits.specs.declared.halves.Halves.{Halves}
use Rattle.bits.specs.Outcomes.{refuses, passes, require, ◌then◌}
use Rattle.bits.proofs.OutcomeLaws.{never, required, told}
use Rattle.bits.proofs.FirstLaws.{both}
use Rattle.safety.specs.declared.verdict.Finding.{Finding}
use Rattle.walks.specs.Walks.{Inside}
use Rattle.safety.specs.Program.{landing}
use Rattle.safety.specs.Verdict.{finding, plain, reported, lowest_half, none_missing, judge_successor}

-- missing halves

module _ (n i : ℕ) (named held : Halves) where
  -- what is missing
  abbrev Lacking : Halves
  Lacking = minus_halves named held

  pub missing_of : none_missing n i named held ≡ passes → either Lacking ≡ 0
  unfolding none_missing
  missing_of e = eqb-true _ _ (required (eqb (either Lacking) 0) _ e)

  pub missing_to : either Lacking ≡ 0 → none_missing n i named held ≡ passes
  unfolding none_missing
  missing_to e = rw (eq-eqb (either Lacking) 0 e)

  -- what is told of it
  abbrev Told : Finding
  Told = finding n 0 i (lowest (either Lacking)) (reported (lowest_half Lacking))

  pub some_of : {f : Finding} → none_missing n i named held ≡ refuses f
      → (¬ (either Lacking ≡ 0)) × (f ≡ Told)
  unfolding none_missing
  some_of {f} e = go (eqb (either Lacking) 0) refl e
    where
      go : (t : Bool) → eqb (either Lacking) 0 ≡ t → require t Told ≡ refuses f → (¬ (either Lacking ≡ 0)) × (f ≡ Told)
      go true p q = never (sym q)
      go false p q = (eqb-false _ _ p, told (sym q))

-- successors

module _ (n : ℕ) (annotation : ℕ → Halves) (i : ℕ) (held : Halves) where
  pub successor_of : (z : ℤ) → judge_successor n annotation i held z ≡ passes
      → (s : Inside n z) × (either (minus_halves (annotation s.index) held) ≡ 0)
  unfolding judge_successor
  successor_of (pos j) e =
      let b = both {a = require (ltb j n) (plain 21 0 i)} {b = none_missing 22 i (annotation j) held} e in
      (record { index = j; is = refl; below = ltb-true j n (required (ltb j n) _ b.0) }, missing_of 22 i (annotation j) held b.1)
  successor_of (negsuc k) e = never e

  pub successor_to : (z : ℤ) (s : Inside n z) → either (minus_halves (annotation s.index) held) ≡ 0 → judge_successor n annotation i held z ≡ passes
  unfolding judge_successor ◌then◌
  successor_to z s e = rw (s.is, lt-ltb s.index n s.below) (missing_to 22 i (annotation s.index) held e)

  pub inside_to : (j : ℕ) → j < n → none_missing 22 i (annotation j) held ≡ judge_successor n annotation i held (pos j)
  unfolding judge_successor ◌then◌
  inside_to j h = rw (lt-ltb j n h)

  pub reached : (j : ℕ) → j < n → either (minus_halves (annotation j) held) ≡ 0 → judge_successor n annotation i held (pos j) ≡ passes
  reached j h e = successor_to (pos j) (record { index = j; is = refl; below = h }) e

  pub outside_to : (j : ℕ) → n ≤ j → refuses (plain 21 0 i) ≡ judge_successor n annotation i held (pos j)
  unfolding judge_successor ◌then◌
  outside_to j h = rw (le-ltb j n h)

  -- a successor outside is refused alike, whatever it is
  pub lands_same : (z : ℤ) → judge_successor n annotation i held (pos (landing n z)) ≡ judge_successor n annotation i held z
  unfolding landing judge_successor ◌then◌
  lands_same (pos j) = go (ltb j n) refl
    where
      go : (t : Bool) → ltb j n ≡ t → judge_successor n annotation i held (pos (choose t j n)) ≡ judge_successor n annotation i held (pos j)
      go true e = refl
      go false e = rw (e, le-ltb n n (le_refl n))
  lands_same (negsuc k) = rw (le-ltb n n (le_refl n))
