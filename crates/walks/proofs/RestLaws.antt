-- The notes at rest, against walks: where every instruction lies on a walk they name exactly what holds on every walk arriving, and they
-- pass exactly if every walk is safe. Assumes nothing.
use mathlib.Core.List.{List, [], ◌∷◌}
use mathlib.Core.Logic.{inl, inr, ⊎_elim}
use Prim.Native.Nat.{ℕ, ◌<◌}
use lib.IntN.{pos}
use Rattle.walks.specs.Walks.{Machine, Walk, start, step, Next, Holds, SafeAt, Safe, AllSafe, AllReached, Exact}
use Rattle.walks.specs.Served.Passing.{Passes, noted, bare}
use Rattle.walks.specs.Sweeps.{Note, Still}
use Rattle.walks.specs.Served.Told.{Told}
use Rattle.walks.proofs.WalkLaws.{supplied, held, claimed, arriving, sound, complete}
use Rattle.walks.proofs.SweepLaws.{largest, starts, carried, note_fact}

-- walks do not see annotations
module _ {G : Type 0} (m : Machine G) (a b : ℕ → G → Type 0) where
  pub walk_noted : {w : List ℕ} → Walk (noted m a) w → Walk (noted m b) w
  walk_noted start = start
  walk_noted (step v f l) = step (walk_noted v) f l

  pub holds_noted : (w : List ℕ) (g : G) → Holds (noted m a) w g → Holds (noted m b) w g
  holds_noted [] g h = h
  holds_noted (i ∷ []) g h = h
  holds_noted (j ∷ i ∷ w) g h = ⊎_elim inl (λ c. inr (holds_noted (i ∷ w) g c.0, c.1)) h

  pub reached_noted : AllReached (noted m a) → AllReached (noted m b)
  reached_noted r i l = let v = r i l in (v.0, walk_noted v.1, v.2)

  -- safe with one's annotations: safe with the other's, where those hold on arriving
  module _ (truly : (i : ℕ) (w : List ℕ) → Walk (noted m b) (i ∷ w) → (g : G) → b i g → Holds (noted m b) (i ∷ w) g) where
    safe_at_noted : {i : ℕ} {w : List ℕ} → Walk (noted m b) (i ∷ w) → SafeAt (noted m a) i w → SafeAt (noted m b) i w
    safe_at_noted {i} {w} v s = record {
      needed = λ g h. supplied (noted m b) i w g (holds_noted (i ∷ w) g (held (noted m a) i w g (s.needed g h)));
      claimed = truly i w v;
      stays = s.stays;
    }

    safe_noted : {w : List ℕ} → Walk (noted m b) w → Safe (noted m a) w → Safe (noted m b) w
    safe_noted start s = (safe_at_noted start s.0, tt)
    safe_noted (step v f l) s = (safe_at_noted (step v f l) s.0, safe_noted v s.1)

-- where some notes pass, every walk is safe
pub safe_of_passes : {G : Type 0} (m : Machine G) → 0 < m.count → (notes : ℕ → G → Type 0) → Passes (noted m notes) → AllSafe (bare m)
safe_of_passes m some notes ok w v =
    safe_noted m notes (λ i g. ⊥) (λ i w u g h. absurd h) v (sound (noted m notes) some ok (walk_noted m (λ i g. ⊥) notes v))

module _ {G : Type 0} (m : Machine G) (some : 0 < m.count) (told : Told m) (reached : AllReached m) (k : ℕ) (still : Still m k) where
  abbrev N : Machine G
  N = noted m (Note m k)

  everywhere : AllReached N
  everywhere = reached_noted m m.claims (Note m k) reached

  walk_to : (i : ℕ) → i < m.count → (v : List ℕ) × Walk N (i ∷ v)
  walk_to i h = let r = everywhere i h in arriving N some r.1 i r.2

  -- what holds on every walk arriving
  abbrev Always : ℕ → G → Type 0
  Always i g = (w : List ℕ) → Walk N (i ∷ w) → Holds N (i ∷ w) g

  always_carried : (g : G) (i j : ℕ) → i < m.count → j < m.count → m.follows i (pos j) → Always j g → Next m i (Always i) g
  always_carried g i j l b f h = ⊎_elim inl (λ n.
      let both : (w : List ℕ) → Walk N (i ∷ w) → Holds N (i ∷ w) g × ¬ m.drops i g = λ w v. ⊎_elim (λ y. absurd (n y)) (λ c. c) (h (i ∷ w) (step v f b)) in
      let v = walk_to i l in
      inr (λ w u. (both w u).0, (both v.0 v.1).1))
      (told.adds i g)

  pub exact : Exact N
  exact i l g f = (
    λ h w v. claimed N some (starts m k) (carried m k still) v g h,
    λ h. largest m Always g f (λ a. a [] start) (always_carried g) k i l h,
  )

  -- they pass where every walk is safe, annotations aside
  pub passes_of_safe : AllSafe (bare m) → Passes N
  passes_of_safe safe = complete N some told.adds told.needed (note_fact m told k) all everywhere exact
    where
      all : AllSafe N
      all w v =
          safe_noted m (λ i g. ⊥) (Note m k) (λ i w u g h. claimed N some (starts m k) (carried m k still) u g h) v
          (safe w (walk_noted m (Note m k) (λ i g. ⊥) v))
