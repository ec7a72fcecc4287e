-- Laws of walks, over any kind of fact. Assumes nothing.
use mathlib.Core.Path.{refl, ap, subst}
use mathlib.Core.List.Memᴰ
use mathlib.Core.List.{List, [], ◌∷◌, ◌++◌, append-nil, Memᴰ}
use mathlib.Core.Logic.{◌⊎◌, inl, inr, ⊎_elim}
use Prim.Native.Nat.{ℕ, zero, ◌<◌}
use lib.IntN.{pos}
use Rattle.walks.specs.Walks.{Machine, Walk, start, step, Next, Holds, SafeAt, Safe, AllSafe, AllReached, Exact, Kept, Supplied, by_entry, by_step, HoldsIfSupplied}
use Rattle.walks.specs.Served.Passing.{Passes}

module _ {G : Type 0} (m : Machine G) where
  kept_none : (g : G) → Kept m [] g
  kept_none g i q = absurd (Memᴰ.not-nil q)

  kept_more : {i : ℕ} {w : List ℕ} {g : G} → (¬ m.drops i g) → Kept m w g → Kept m (i ∷ w) g
  kept_more {g = g} n k j q = ⊎_elim (λ e. rw e n) (λ t. k j t) (Memᴰ.cases_cons q)

  -- what holds was supplied
  pub supplied : (i : ℕ) (w : List ℕ) (g : G) → Holds m (i ∷ w) g → Supplied m w g
  supplied i [] g h = by_entry h (kept_none g)
  supplied i (k ∷ w) g h = ⊎_elim (λ a. by_step [] k w refl a (kept_none g)) (λ b. more b.1 (supplied k w g b.0)) h
    where
      more : (¬ m.drops k g) → Supplied m w g → Supplied m (k ∷ w) g
      more n (by_entry e q) = by_entry e (kept_more n q)
      more n (by_step since j before e a q) = by_step (k ∷ since) j before (ap (λ (l : List ℕ). k ∷ l) e) a (kept_more n q)

  -- what was kept through some steps holds after them
  kept_holds : (i : ℕ) (since w : List ℕ) (g : G) → ((k : ℕ) → Holds m (k ∷ w) g) → Kept m since g → Holds m (i ∷ (since ++ w)) g
  kept_holds i [] w g h k = h i
  kept_holds i (j ∷ since) w g h k = inr (kept_holds j since w g h (λ x q. k x (Memᴰ.tail q)), k j (Memᴰ.head refl))

  -- what was supplied holds
  pub held : (i : ℕ) (w : List ℕ) (g : G) → Supplied m w g → Holds m (i ∷ w) g
  held i w g (by_entry e q) = subst (λ (x : List ℕ). Holds m (i ∷ x) g) (append-nil w) (kept_holds i w [] g (λ k. e) q)
  held i w g (by_step since j before e a q) = rw e (kept_holds i since (j ∷ before) g (λ k. inl a) q)

  pub holds_if_supplied : HoldsIfSupplied m
  holds_if_supplied i w g = (supplied i w g, held i w g)

module _ {G : Type 0} (m : Machine G) (some : zero < m.count) where
  pub inside : {i : ℕ} {w : List ℕ} → Walk m (i ∷ w) → i < m.count
  inside start = some
  inside (step v f l) = l

  -- where what is claimed at the start is in the entry set, and what is claimed is carried along: it holds on arriving
  module _ (first : (g : G) → m.claims 0 g → m.entry g)
      (carries : (i j : ℕ) → i < m.count → j < m.count → m.follows i (pos j) → (g : G) → m.claims j g → Next m i (m.claims i) g) where
    pub claimed : {i : ℕ} {w : List ℕ} → Walk m (i ∷ w) → (g : G) → m.claims i g → Holds m (i ∷ w) g
    claimed start g h = first g h
    claimed (step {i} {j} {w} v f l) g h = ⊎_elim inl (λ k. inr (claimed v g k.0, k.1)) (carries i j (inside v) l f g h)

  module _ (ok : Passes m) where
    safe_at : {i : ℕ} {w : List ℕ} → Walk m (i ∷ w) → SafeAt m i w
    safe_at {i} {w} v = record {
      needed = λ g h. supplied m i w g (claimed ok.first ok.carries v g (ok.reads i (inside v) g h));
      claimed = λ g h. claimed ok.first ok.carries v g h;
      stays = λ z f. ok.stays i (inside v) z f;
    }

    pub sound : {w : List ℕ} → Walk m w → Safe m w
    sound start = (safe_at start, tt)
    sound (step v f l) = (safe_at (step v f l), sound v)

  -- a walk through an index, up to it
  pub arriving : {w : List ℕ} → Walk m w → (i : ℕ) → Memᴰ i w → (v : List ℕ) × Walk m (i ∷ v)
  arriving start i q = ⊎_elim (λ e. ([], rw e start)) (λ n. absurd (Memᴰ.not-nil n)) (Memᴰ.cases_cons q)
  arriving (step {i = k} {j} {w} v f l) i q = ⊎_elim (λ e. (k ∷ w, rw e (step v f l))) (λ n. arriving v i n) (Memᴰ.cases_cons q)

  -- what is needed or named is a fact, and whether an instruction makes one hold can be told
  module _ (dec : (i : ℕ) (g : G) → m.adds i g ⊎ (¬ m.adds i g))
      (need : (i : ℕ) (g : G) → m.needs i g → m.fact g) (claim : (i : ℕ) (g : G) → m.claims i g → m.fact g) where
    pub complete : AllSafe m → AllReached m → Exact m → Passes m
    complete safe reached exact = record {
      first = λ g h. (exact 0 some g (claim 0 g h)).0 h [] start;
      reads = λ i l g h. (exact i l g (need i g h)).1 (λ w v. held m i w g ((safe (i ∷ w) v).0.needed g h));
      stays = λ i l z f. let v = walk_to i l in (safe (i ∷ v.0) v.1).0.stays z f;
      carries = λ i j l k f g h.
          let q = claim j g h in
          let held : (w : List ℕ) → Walk m (i ∷ w) → Next m i (Holds m (i ∷ w)) g = λ w v. (exact j k g q).0 h (i ∷ w) (step v f k) in
          ⊎_elim inl (λ n.
          let both : (w : List ℕ) → Walk m (i ∷ w) → Holds m (i ∷ w) g × ¬ m.drops i g = λ w v. ⊎_elim (λ y. absurd (n y)) (λ b. b) (held w v) in
          let v = walk_to i l in
          inr ((exact i l g q).1 (λ w u. (both w u).0), (both v.0 v.1).1))
          (dec i g);
    }
      where
        walk_to : (i : ℕ) → i < m.count → (v : List ℕ) × Walk m (i ∷ v)
        walk_to i h = let r = reached i h in arriving r.1 i r.2
