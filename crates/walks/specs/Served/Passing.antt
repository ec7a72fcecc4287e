-- What a check of one instruction after the other establishes, with no word of walks.
use Rattle.std.specs.Prelude.{ℕ, ◌<◌, ℤ, pos}
use Rattle.walks.specs.Walks.{Machine, Inside, Next}

-- the annotation of instruction 0 lies within the entry set; what an instruction needs, its annotation names; no successor is outside; and
-- what the annotation of a successor names holds after the instruction, given what its own annotation names
pub record Passes {G : Type 0} (m : Machine G) : Type 0 where
  pub first : (g : G) → m.claims 0 g → m.entry g
  pub reads : (i : ℕ) → i < m.count → (g : G) → m.needs i g → m.claims i g
  pub stays : (i : ℕ) → i < m.count → (z : ℤ) → m.follows i z → Inside m.count z
  pub carries : (i j : ℕ) → i < m.count → j < m.count → m.follows i (pos j) → (g : G) → m.claims j g → Next m i (m.claims i) g

-- the same program with other annotations
abbrev pub noted : {G : Type 0} → Machine G → (ℕ → G → Type 0) → Machine G
noted m notes = record {
  count = m.count;
  follows = m.follows;
  fact = m.fact;
  entry = m.entry;
  adds = m.adds;
  drops = m.drops;
  needs = m.needs;
  claims = notes;
}

-- the same program with annotations that name nothing
abbrev pub bare : {G : Type 0} → Machine G → Machine G
bare m = noted m (λ i g. ⊥)
