-- How many sweeps there can be (02, Item 13). Assumes nothing.
use mathlib.Core.Path.{◌≡◌, refl, sym, ◌∙◌}
use mathlib.Core.Bool.{Bool, true, false}
use mathlib.Core.Logic.{◌⊎◌, inl, inr, ⊎_elim}
use Prim.Native.Nat.{ℕ, zero, suc, ◌-◌, ◌<◌, ◌≤◌, pred}
use native.Mathlib.Nat.{eq-zero-or-pos}
use native.Mathlib.Omega.{arith}
use lib.IntN.{pos}
use Rattle.walks.specs.Walks.{Machine, Next}
use Rattle.walks.specs.Served.Passing.{Passes, noted}
use Rattle.walks.specs.Sweeps.{Note, Still, Reports, NeedsDropped}
use Rattle.walks.specs.Served.Told.{Told}
use Rattle.walks.proofs.Descent.{count, Same, count_le, some_true, all_or, climb, bounded}
use Rattle.walks.proofs.Choices.{Settled, both_told, one_told, not_told, if_told, flag, flag_of, flag_to, flag_falls, flag_same, each_or, each_told, first_upto}
use Rattle.walks.proofs.SweepLaws.{falls, StillAt, still_next, needed_in, note_fact}

-- the number that is reported
module _ {G : Type 0} (m : Machine G) where
  pub reports_le : (k : ℕ) → Still m k → (s : ℕ) → Reports m s → s ≤ suc k
  reports_le k t s r =
      ⊎_elim (λ e. omega (arith, r.counted)) (λ l. absurd (r.moves k (omega arith) t)) (eq-zero-or-pos (r.changing - k))

  -- there is one such number at most
  pub reports_one : (s t : ℕ) → Reports m s → Reports m t → s ≡ t
  reports_one s t a b =
      let up = reports_le b.changing b.rests s a in
      let down = reports_le a.changing a.rests t b in
      omega (arith, a.counted, b.counted)

module _ {G : Type 0} (m : Machine G) (told : Told m) where
  -- a fact's row of flags, one for each instruction
  module _ (g : G) (fact : m.fact g) where
    pub next_told : (i : ℕ) (held : G → Type 0) → Settled (held g) → Settled (Next m i held g)
    next_told i held e = one_told (told.adds i g) (both_told e (not_told (told.drops i g)))

    pub note_told : (k j : ℕ) → Settled (Note m k j g)
    note_told zero zero = told.entry g
    note_told zero (suc j) = inl fact
    note_told (suc k) j =
        both_told (note_told k j)
        (each_told (λ i. m.follows i (pos j) → Next m i (Note m k i) g)
        (λ i. if_told (told.follows i j) (next_told i (Note m k i) (note_told k i))) m.count)

    row : ℕ → ℕ → Bool
    row k j = flag (note_told k j)

    row_falls : (k j : ℕ) → row k j ≡ false → row (suc k) j ≡ false
    unfolding row
    row_falls k j = flag_falls (note_told k j) (note_told (suc k) j) (falls m k j g)

    same_of : (k : ℕ) → Same (row k) (row (suc k)) m.count → StillAt m g k
    unfolding row
    same_of k s j l h = flag_of (note_told (suc k) j) (sym (s j l) ∙ flag_to (note_told k j) h)

    same_to : (k : ℕ) → StillAt m g k → Same (row k) (row (suc k)) m.count
    unfolding row
    same_to k s j l = flag_same (note_told k j) (note_told (suc k) j) (s j l) (falls m k j g)

    row_rests : (k : ℕ) → Same (row k) (row (suc k)) m.count → Same (row (suc k)) (row (suc (suc k))) m.count
    row_rests k s = same_to (suc k) (still_next m g k (same_of k s))

    -- each sweep that changes it takes a flag, of which there are n: sweep n + 1 changes nothing
    still_after : (k : ℕ) → m.count ≤ k → StillAt m g k
    still_after k l =
        same_of k (⊎_elim (λ s. s) (λ c. absurd (omega (arith, count_le (row 0) m.count))) (climb row m.count row_falls row_rests k))

    -- where an instruction that ends g never loses it from its note, a flag is left, or none falls at all, or one was down from the start:
    -- sweep n changes nothing
    module _ (kept : (k i : ℕ) → i < m.count → m.drops i g → Note m k i g) where
      reason : (k : ℕ) → (count (row 0) m.count < m.count) ⊎ (Same (row 0) (row 1) m.count ⊎ (0 < count (row (suc k)) m.count))
      unfolding row
      reason k =
          ⊎_elim
          (λ all. inr (⊎_elim (λ none. inl (same_to 0 (unmoved all none))) (λ t. inr (ended t.0 t.1 t.2))
          (each_or (λ i. ¬ m.drops i g) (λ i. not_told (told.drops i g)) m.count)))
          inl (all_or (row 0) m.count)
        where
          unmoved : ((j : ℕ) → j < m.count → row 0 j ≡ true) → ((i : ℕ) → i < m.count → ¬ m.drops i g) → StillAt m g 0
          unmoved all none j l h = (h, λ i q t. inr (flag_of (note_told 0 i) (all i q), none i q))

          ended : (t : ℕ) → t < m.count → (¬ (¬ m.drops t g)) → 0 < count (row (suc k)) m.count
          ended t l n =
              some_true (row (suc k)) m.count t l
              (flag_to (note_told (suc k) t) (kept (suc k) t l (⊎_elim (λ d. d) (λ d. absurd (n d)) (told.drops t g))))

      still_at : (k : ℕ) → m.count ≤ suc k → StillAt m g k
      still_at k l = same_of k (bounded row m.count row_falls row_rests k l (reason k))

  whole : (k : ℕ) → ((g : G) → m.fact g → StillAt m g k) → Still m k
  whole k s j l g = (λ h. s g (note_fact m told k j g h) j l h, falls m k j g)

  -- of any program, sweep n + 1 changes nothing
  pub rests_after : (k : ℕ) → m.count ≤ k → Still m k
  rests_after k l = whole k (λ g f. still_after g f k l)

  pub at_most_one_more : (s : ℕ) → Reports m s → s ≤ suc m.count
  at_most_one_more s r = reports_le m m.count (rests_after m.count (omega arith)) s r

  -- where all facts can be gone through, it can be told whether a sweep changes anything
  pub still_told : ((P : G → Type 0) → ((g : G) → m.fact g → Settled (P g)) → Settled ((g : G) → m.fact g → P g)) → (k : ℕ) → Settled (Still m k)
  still_told every k =
      ⊎_elim (λ s. inl (whole k s)) (λ n. inr (λ s. n (λ g f j l. (s j l g).0)))
      (every (λ g. StillAt m g k) (λ g f.
      each_told (λ j. Note m k j g → Note m (suc k) j g) (λ j. if_told (note_told g f k j) (note_told g f (suc k) j)) m.count))

  -- so where it can be told whether a sweep changes anything, there is such a number
  pub reports_some : ((k : ℕ) → Settled (Still m k)) → (s : ℕ) × Reports m s
  reports_some still =
      ⊎_elim (λ none. absurd (none m.count (omega arith) (rests_after m.count (omega arith))))
      (λ e. (suc e.0, record { changing = e.0; counted = refl; rests = e.2; moves = e.3 }))
      (first_upto (Still m) still (suc m.count))

  -- where instructions need what they end and some notes pass, sweep n changes nothing
  module _ (uses : NeedsDropped m) (notes : ℕ → G → Type 0) (ok : Passes (noted m notes)) where
    pub rests_at : (k : ℕ) → m.count ≤ suc k → Still m k
    rests_at k l = whole k (λ g f. still_at g f (λ k i b d. needed_in m told notes ok k i b g (uses i b g d)) k l)

    pub at_most : 0 < m.count → (s : ℕ) → Reports m s → s ≤ m.count
    at_most p s r = let z = reports_le m (pred m.count) (rests_at (pred m.count) (omega arith)) s r in omega arith
