-- Laws of sweeps: they only narrow, what rests once rests for ever, and they keep all that could be accepted. Assumes nothing.
use mathlib.Core.Path.{◌≡◌, subst}
use mathlib.Core.Logic.{inl, inr, ⊎_elim, ◌↔◌}
use Prim.Native.Nat.{ℕ, zero, suc, ◌<◌, ◌≤◌}
use native.Mathlib.Nat.{eq-or-lt_of_le, le_of_suc-le-suc}
use native.Mathlib.Omega.{arith}
use lib.IntN.{pos}
use Rattle.walks.specs.Walks.{Machine, Next}
use Rattle.walks.specs.Served.Passing.{Passes, noted}
use Rattle.walks.specs.Sweeps.{First, Narrowed, Note, Still}
use Rattle.walks.specs.Served.Told.{Told, Sweeping}

module _ {G : Type 0} (m : Machine G) where
  -- from more, more
  pub next_mono : (i : ℕ) (g : G) (a b : G → Type 0) → (a g → b g) → Next m i a g → Next m i b g
  next_mono i g a b f h = ⊎_elim inl (λ c. inr (f c.0, c.1)) h

  pub narrowed_mono : (g : G) (a b : ℕ → G → Type 0) → ((i : ℕ) → i < m.count → a i g → b i g)
      → (j : ℕ) → j < m.count → Narrowed m a j g → Narrowed m b j g
  narrowed_mono g a b f j l h = (f j l h.0, λ i q t. next_mono i g (a i) (b i) (f i q) (h.1 i q t))

  -- a sweep only narrows
  pub falls : (k j : ℕ) (g : G) → Note m (suc k) j g → Note m k j g
  falls k j g h = h.0

  pub falls_to : (l k : ℕ) → k ≤ l → (j : ℕ) (g : G) → Note m l j g → Note m k j g
  falls_to zero k q j g h = subst (λ (x : ℕ). Note m x j g) (let z : 0 ≡ k = omega arith in z) h
  falls_to (suc l) k q j g h =
      ⊎_elim (λ e. rw e h) (λ r. falls_to l k (le_of_suc-le-suc r) j g (falls l j g h)) (eq-or-lt_of_le q)

  -- what changes nothing at one fact, and what follows
  abbrev pub StillAt : G → ℕ → Type 0
  StillAt g k = (j : ℕ) → j < m.count → Note m k j g → Note m (suc k) j g

  pub still_next : (g : G) (k : ℕ) → StillAt g k → StillAt g (suc k)
  still_next g k s = narrowed_mono g (Note m k) (Note m (suc k)) s

  -- once a sweep changes nothing, no later one does
  pub still_to : (l k : ℕ) → k ≤ l → Still m k → Still m l
  still_to zero k q s = subst (λ (x : ℕ). Still m x) (let z : k ≡ 0 = omega arith in z) s
  still_to (suc l) k q s =
      ⊎_elim (λ e. subst (λ (x : ℕ). Still m x) e s)
      (λ r. let t = still_to l k (le_of_suc-le-suc r) s in λ j b g. (still_next g l (λ i c. (t i c g).0) j b, falls (suc l) j g))
      (eq-or-lt_of_le q)

  -- and the notes stay as they are
  stays_up : (l k : ℕ) → k ≤ l → Still m k → (j : ℕ) → j < m.count → (g : G) → Note m k j g → Note m l j g
  stays_up zero k q s j b g h = subst (λ (x : ℕ). Note m x j g) (let z : k ≡ 0 = omega arith in z) h
  stays_up (suc l) k q s j b g h =
      ⊎_elim (λ e. subst (λ (x : ℕ). Note m x j g) e h)
      (λ r. let t = le_of_suc-le-suc r in (still_to l k t s j b g).0 (stays_up l k t s j b g h))
      (eq-or-lt_of_le q)

  pub for_ever : (l k : ℕ) → k ≤ l → Still m k → (j : ℕ) → j < m.count → (g : G) → (Note m k j g ↔ Note m l j g)
  for_ever l k q s j b g = (stays_up l k q s j b g, falls_to l k q j g)

  -- what is claimed at instruction 0 only from the entry set, and carried along, is in every note: any notes that pass lie within these
  module _ (notes : ℕ → G → Type 0) (g : G) (fact : m.fact g) (first : notes 0 g → m.entry g)
      (carries : (i j : ℕ) → i < m.count → j < m.count → m.follows i (pos j) → notes j g → Next m i (notes i) g) where
    pub largest : (k j : ℕ) → j < m.count → notes j g → Note m k j g
    largest zero zero l h = first h
    largest zero (suc j) l h = fact
    largest (suc k) j l h = (largest k j l h, λ i q t. next_mono i g (notes i) (Note m k i) (largest k i q) (carries i j q l t h))

  pub contains : (notes : ℕ → G → Type 0) → Passes (noted m notes) → (k j : ℕ) → j < m.count → (g : G) → m.fact g → notes j g → Note m k j g
  contains notes ok k j l g f h = largest notes g f (ok.first g) (λ i j q b t c. ok.carries i j q b t g c) k j l h

  -- the notes at rest
  pub starts : (k : ℕ) (g : G) → Note m k 0 g → m.entry g
  starts k g h = falls_to k 0 (omega arith) 0 g h

  pub carried : (k : ℕ) → Still m k → (i j : ℕ) → i < m.count → j < m.count → m.follows i (pos j)
      → (g : G) → Note m k j g → Next m i (Note m k i) g
  carried k s i j l b t g h = ((s j b g).0 h).1 i l t

  -- what is needed is in the notes where any notes pass
  pub needed_in : Told m → (notes : ℕ → G → Type 0) → Passes (noted m notes) → (k i : ℕ) → i < m.count → (g : G) → m.needs i g → Note m k i g
  needed_in told notes ok k i l g h = contains notes ok k i l g (told.needed i g h) (ok.reads i l g h)

  -- if any notes pass, those at rest do
  pub passes : Told m → (k : ℕ) → Still m k → (notes : ℕ → G → Type 0) → Passes (noted m notes) → Passes (noted m (Note m k))
  passes told k s notes ok = record {
    first = starts k;
    reads = λ i l g h. needed_in told notes ok k i l g h;
    stays = ok.stays;
    carries = carried k s;
  }

  -- every note is of facts
  pub note_fact : Told m → (k j : ℕ) (g : G) → Note m k j g → m.fact g
  note_fact told k j g h = at_first j (falls_to k 0 (omega arith) j g h)
    where
      at_first : (j : ℕ) → First m j g → m.fact g
      at_first zero e = told.entered g e
      at_first (suc j) f = f

  -- notes that are swept as the paper says, in whatever form, are the notes
  pub sweeping : (notes : ℕ → ℕ → G → Type 0) → Sweeping m notes → (k j : ℕ) → j < m.count → (g : G) → (notes k j g ↔ Note m k j g)
  sweeping notes s zero j l g = s.begins j l g
  sweeping notes s (suc k) j l g = (
    λ h. narrowed_mono g (notes k) (Note m k) (λ i q. (sweeping notes s k i q g).0) j l ((s.narrows k j l g).0 h),
    λ h. (s.narrows k j l g).1 (narrowed_mono g (Note m k) (notes k) (λ i q. (sweeping notes s k i q g).1) j l h),
  )
