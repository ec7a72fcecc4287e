-- Where an instruction may end what it does not need, no better bound than n + 1 holds: n instructions in a ring, of which the last ends
-- what all others keep, take n + 1 sweeps from a full entry set, and notes that name nothing pass. Assumes nothing.
use mathlib.Core.Path.{◌≡◌, refl}
use mathlib.Core.Logic.{◌⊎◌, inl, inr, ⊎_elim, ◌↔◌}
use Prim.Native.Nat.{ℕ, zero, suc, ◌<◌, ◌≤◌}
use native.Mathlib.Omega.{arith}
use lib.IntN.{pos}
use Rattle.walks.specs.Walks.{Machine}
use Rattle.walks.specs.Served.Passing.{Passes}
use Rattle.walks.specs.Sweeps.{Note, Reports}

-- n + 1 instructions
abbrev pub ring : ℕ → Machine (Unit {0})
ring n = record {
  count = suc n;
  follows = λ i z. ((i < n) × (z ≡ pos (suc i))) ⊎ ((i ≡ n) × (z ≡ pos 0));
  fact = λ g. Unit {0};
  entry = λ g. Unit {0};
  adds = λ i g. ⊥;
  drops = λ i g. i ≡ n;
  needs = λ i g. ⊥;
  claims = λ i g. ⊥;
}

module _ (n : ℕ) where
  index_of : {j k : ℕ} → pos j ≡ pos k → j ≡ k
  index_of e = cc

  pub bare_passes : Passes (ring n)
  bare_passes = record {
    first = λ g h. absurd h;
    reads = λ i l g h. absurd h;
    stays = λ i l z f.
        ⊎_elim (λ e. record { index = suc i; is = e.1; below = let q = e.0 in omega arith })
        (λ e. record { index = 0; is = e.1; below = omega arith }) f;
    carries = λ i j l k f g h. absurd h;
  }

  -- after k sweeps the notes from k on are still full
  full_from : (k j : ℕ) → j < suc n → (Note (ring n) k j tt ↔ (k ≤ j))
  full_from zero zero l = (λ h. omega arith, λ h. tt)
  full_from zero (suc j) l = (λ h. omega arith, λ h. tt)
  full_from (suc k) zero l = (
    λ h. absurd (⊎_elim (λ a. a) (λ c. c.1 refl) (h.1 n (omega arith) (inr (refl, refl)))),
    λ h. absurd (omega arith),
  )
  full_from (suc k) (suc j) l = (
    λ h. ⊎_elim (λ a. absurd a) (λ c. let z = (full_from k j (omega arith)).0 c.0 in omega arith) (h.1 j (omega arith) (inl (omega arith, refl))),
    λ h. (
      (full_from k (suc j) l).1 (omega arith),
      λ i b t. ⊎_elim
          (λ e. let q = index_of e.1 in inr ((full_from k i b).1 (omega arith), λ d. omega arith))
          (λ e. let q = index_of e.1 in absurd (omega arith))
          t,
    ),
  )

  pub one_more : Reports (ring n) (suc (suc n))
  one_more = record {
    changing = suc n;
    counted = refl;
    rests = λ j l g. (λ h. absurd (let z = (full_from (suc n) j l).0 h in omega arith), λ h. h.0);
    moves = λ k l s.
        let h = (s k l tt).0 ((full_from k k l).1 (omega arith)) in
        let z = (full_from (suc k) k l).0 h in omega arith;
  }
