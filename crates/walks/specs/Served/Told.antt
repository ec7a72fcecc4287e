-- What the laws of sweeps ask of a program, and of notes that are computed in some form.
use Rattle.std.specs.Prelude.{◌⊎◌, ◌↔◌, ℕ, suc, ◌<◌, pos}
use Rattle.walks.specs.Walks.{Machine}
use Rattle.walks.specs.Sweeps.{First, Narrowed}

-- of each of these parts of a program it can be decided whether it is so; what holds at entry or is needed is one of the facts
pub record Told {G : Type 0} (m : Machine G) : Type 0 where
  pub follows : (i j : ℕ) → m.follows i (pos j) ⊎ (¬ m.follows i (pos j))
  pub entry : (g : G) → m.entry g ⊎ (¬ m.entry g)
  pub adds : (i : ℕ) (g : G) → m.adds i g ⊎ (¬ m.adds i g)
  pub drops : (i : ℕ) (g : G) → m.drops i g ⊎ (¬ m.drops i g)
  pub entered : (g : G) → m.entry g → m.fact g
  pub needed : (i : ℕ) (g : G) → m.needs i g → m.fact g

-- notes that are computed, as sets or in any other form, go as the paper says: `notes k j g` where g is in note j after k sweeps
pub record Sweeping {G : Type 0} (m : Machine G) (notes : ℕ → ℕ → G → Type 0) : Type 0 where
  pub begins : (j : ℕ) → j < m.count → (g : G) → (notes 0 j g ↔ First m j g)
  pub narrows : (k j : ℕ) → j < m.count → (g : G) → (notes (suc k) j g ↔ Narrowed m (notes k) j g)
