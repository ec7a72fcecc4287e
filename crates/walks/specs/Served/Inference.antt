-- What holds of the annotations (the paper's notes) that are found by sweeps, and of the number of sweeps (02, Items 1 and 13).
use Rattle.std.specs.Prelude.{◌≡◌, List, ◌∷◌, ◌↔◌, ℕ, suc, ◌<◌, ◌≤◌}
use Rattle.walks.specs.Walks.{Machine, Walk, Holds, AllSafe, AllReached, Exact}
use Rattle.walks.specs.Served.Passing.{Passes, noted, bare}
use Rattle.walks.specs.Sweeps.{Note, Reports, NeedsDropped, Straight}

-- the number of sweeps that is reported, and the notes after as many sweeps
pub record Found {G : Type 0} (m : Machine G) (sweeps : ℕ) (notes : ℕ → G → Type 0) : Type 0 where
  pub reports : Reports m sweeps
  pub are : (j : ℕ) → j < m.count → (g : G) → (notes j g ↔ Note m sweeps j g)

-- what holds of them, in a program of one instruction or more that is `Told`
pub record Proposal {G : Type 0} (m : Machine G) (sweeps : ℕ) (notes : ℕ → G → Type 0) : Type 1 where
  -- whatever other notes name that pass, these name too (Item 1),
  pub contains : (others : ℕ → G → Type 0) → Passes (noted m others) → (j : ℕ) → j < m.count → (g : G) → m.fact g → others j g → notes j g
  -- and if any notes pass, these do, so where these fail (24) no others would pass,
  pub accepted : (others : ℕ → G → Type 0) → Passes (noted m others) → Passes (noted m notes)
  -- where every instruction lies on a walk they name exactly what holds on every walk arriving,
  pub exact : AllReached m → Exact (noted m notes)
  -- what one lacks fails to hold on at least one walk arriving, and only that,
  pub lacks : AllReached m → (j : ℕ) → j < m.count → (g : G) → m.fact g → ((¬ notes j g) ↔ ((w : List ℕ) × Walk m (j ∷ w) × (¬ Holds m (j ∷ w) g)))
  -- and they pass exactly if every walk is safe: what is needed holds there, and no successor is outside
  pub safe : AllReached m → (Passes (noted m notes) ↔ AllSafe (bare m))
  -- where an instruction needs what it ends, notes that pass took n sweeps or fewer (Item 13),
  pub bound : NeedsDropped m → Passes (noted m notes) → sweeps ≤ m.count
  -- a straight line of NOPs takes all n,
  pub nops : Straight m → sweeps ≡ m.count
  -- and no program takes more than n + 1
  pub ends : sweeps ≤ suc m.count
