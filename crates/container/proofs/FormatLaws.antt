-- Laws of the formats: how long their parts are, and products of such lengths. Assumes nothing.
use mathlib.Core.Path.{◌≡◌, refl, sym, subst}
use mathlib.Core.Bool.{Bool, true, false, ◌||◌}
use mathlib.Core.Logic.{◌⊎◌, inl, inr}
use Prim.Native.Nat.{ℕ, ◌+◌, ◌*◌, ◌≤◌, ◌<◌}
use native.Mathlib.Nat.{mul-le-mul, mul-le-mul_left, mul-suc}
use native.Mathlib.Omega.{arith}
use borrow.Author.Tests.{eqb-true}
use lib.Dec.{eqb, lit≤}
use Rattle.bits.specs.Fields.{choose}
use Rattle.container.specs.declared.format.Format.{Format}
use Rattle.container.specs.Formats.{known, version_1, version_2, format_of, annotation_length, most_of, container_length, longest_container}

-- between which limits the numbers of a format are
pub record Bounded (f : Format) : Type 0 where
  pub header_least : 16 ≤ f.header
  pub header_most : f.header ≤ 24
  pub annotation_least : 8 ≤ f.annotation
  pub annotation_most : f.annotation ≤ 16
  pub high_in_header : f.high + 16 ≤ f.header
  pub high_in_annotation : f.high + 8 ≤ f.annotation
  pub few : f.most ≤ 2048

pub bounded : (v : ℕ) → Bounded (format_of v)
unfolding format_of
bounded v = go (eqb v 2)
  where
    go : (t : Bool) → Bounded (choose t version_2 version_1)
    go true = record { header_least = lit≤ tt; header_most = lit≤ tt; annotation_least = lit≤ tt; annotation_most = lit≤ tt; high_in_header = lit≤ tt; high_in_annotation = lit≤ tt; few = lit≤ tt }
    go false = record { header_least = lit≤ tt; header_most = lit≤ tt; annotation_least = lit≤ tt; annotation_most = lit≤ tt; high_in_header = lit≤ tt; high_in_annotation = lit≤ tt; few = lit≤ tt }

pub bounded_by : (v : ℕ) {f : Format} → f ≡ format_of v → Bounded f
bounded_by v e = subst Bounded (sym e) (bounded v)

-- the versions that there are
pub known_one : (v : ℕ) → known v ≡ true → (v ≡ 1) ⊎ (v ≡ 2)
unfolding known
known_one v = go (eqb v 1) (eqb v 2) refl refl
  where
    go : (s t : Bool) → eqb v 1 ≡ s → eqb v 2 ≡ t → (s || t) ≡ true → (v ≡ 1) ⊎ (v ≡ 2)
    go true t p q e = inl (eqb-true v 1 p)
    go false true p q e = inr (eqb-true v 2 q)
    go false false p q e = absurd (let z : ◌≡◌ {A = ℕ} 0 1 = cc in omega arith)

-- the i-th of n parts of a bytes ends inside them
pub inside : (a i n : ℕ) → i < n → a * i + a ≤ a * n
inside a i n l = rw (sym (mul-suc a i)) (mul-le-mul_left a l)

-- a product of bounded numbers
pub at_most : {a b : ℕ} (p q : ℕ) → a ≤ p → b ≤ q → a * b ≤ p * q
at_most p q h l = mul-le-mul h l

-- both sets of the i-th of n annotations lie inside them
pub note_inside : (v : ℕ) {f : Format} {long n i : ℕ} → f ≡ format_of v → long ≡ annotation_length v * n → i < n
    → f.annotation * i + f.high + 8 ≤ long
note_inside v {f} {long} {n} {i} e h l =
    let b = bounded_by v e in
    let g : long ≡ f.annotation * n = rw e h in
    omega (arith, b.high_in_annotation, inside f.annotation i n l, g)

-- no container is longer than the longest
pub no_longer : (v n : ℕ) → n ≤ most_of v → container_length v n ≤ longest_container
no_longer v n l =
    let b = bounded v in
    omega (arith, b.header_most, at_most {a = 8 + annotation_length v} {b = n} 24 2048 (omega (arith, b.annotation_most)) (omega (arith, b.few, l)))
