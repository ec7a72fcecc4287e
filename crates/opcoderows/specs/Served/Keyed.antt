-- Lists by key, as a `match` has them.
use Rattle.std.specs.Prelude.{List, [], ◌∷◌, ℕ, eqb}
use Rattle.bits.specs.Fields.{choose}

-- a value that is found under a key
pub record Keyed (A : Type 0) : Type 0 where
  pub key : ℕ
  pub value : A

abbrev pub keyed : {A : Type 0} → ℕ → A → Keyed A
keyed k a = record { key = k; value = a }

-- what is found under a key, or else d
abbrev pub lookup : {A : Type 0} → A → List (Keyed A) → ℕ → A
lookup d [] k = d
lookup d (x ∷ xs) k = choose (eqb k x.key) x.value (lookup d xs k)
