-- A row's modifiers, each by itself and by their lowest bits. Assumes nothing.
use mathlib.Core.Path.{◌≡◌, refl, subst}
use mathlib.Core.Bool.{Bool, true, false, not, ◌&&◌, ◌||◌}
use mathlib.Core.List.{List, [], ◌∷◌}
use Prim.Native.Nat.{ℕ, suc, ◌<◌}
use native.Mathlib.Omega.{arith}
use lib.Dec.{T, eqb}
use lib.ListN.{length, get_or}
use borrow.Author.Tests.{eqb-true, eq-eqb}
use Rattle.bits.proofs.Every.{every, at, and_l, and_r, not_T}
use Rattle.rows.specs.Kinds.{Kind, absent}
use Rattle.rows.specs.Rows.{Row, Modifier, rows, row_of, no_row, row_count}
use Rattle.rows.specs.Layout.{modifier_at, modifier_lows}
use Rattle.rows.proofs.TableLaws.{in_table}
use Rattle.codec.specs.Demand2.{Each}

-- each modifier stands at one of the lowest bits, and no two at the same: one test over all rows

listed : List ℕ → ℕ → Bool
listed [] p = false
listed (q ∷ qs) p = eqb q p || listed qs p

-- no modifier has the lowest bit p
lacks : List Modifier → ℕ → Bool
lacks [] p = true
lacks (m ∷ ms) p = not (eqb m.low p) && lacks ms p

-- each modifier stands at one of the lowest bits, and at another than the rest
distinct : List Modifier → Bool
distinct [] = true
distinct (m ∷ ms) = listed modifier_lows m.low && (lacks ms m.low && distinct ms)

row_distinct : ℕ → Row → Bool
row_distinct k r = distinct r.modifiers

all_distinct : T (every row_distinct 0 rows)
unfolding row_distinct distinct listed lacks rows
all_distinct = tt

lacks_absent : (ms : List Modifier) (p : ℕ) → T (lacks ms p) → modifier_at ms p ≡ absent
unfolding lacks modifier_at
lacks_absent [] p t = refl
lacks_absent (m ∷ ms) p t =
    rw (not_T (eqb m.low p) (and_l (not (eqb m.low p)) (lacks ms p) t), modifier_at) (lacks_absent ms p (and_r (not (eqb m.low p)) (lacks ms p) t))

index_of : (ps : List ℕ) (p : ℕ) → T (listed ps p) → (j : ℕ) × ((j < length ps) × (get_or ps j 0 ≡ p))
unfolding listed
index_of [] p t = absurd t
index_of (q ∷ qs) p t = go (eqb q p) refl t (index_of qs p)
  where
    go : (b : Bool) → eqb q p ≡ b → T (b || listed qs p) → (T (listed qs p) → (j : ℕ) × ((j < length qs) × (get_or qs j 0 ≡ p)))
        → (j : ℕ) × ((j < length (q ∷ qs)) × (get_or (q ∷ qs) j 0 ≡ p))
    go true e t f = (0, (omega arith, eqb-true q p e))
    go false e t f = let (j, (h, g)) = f t in (suc j, (omega arith, g))

module _ (R : ℕ → Kind → Type 0) (nothing : (p : ℕ) → R p absent) where
  each_from : (ms : List Modifier) → T (distinct ms) → ((p : ℕ) → T (listed modifier_lows p) → R p (modifier_at ms p))
      → Each (λ (m : Modifier). R m.low m.kind) ms
  unfolding distinct modifier_at
  each_from [] t h = tt
  each_from (m ∷ ms) t h =
      let a = listed modifier_lows m.low in
      let b = lacks ms m.low in
      let u = and_r a (b && distinct ms) t in (
        rw (eq-eqb m.low m.low refl, modifier_at) at (h m.low (and_l a (b && distinct ms) t)),
        each_from ms (and_r b (distinct ms) u) (λ p q. tail (and_l b (distinct ms) u) p (eqb m.low p) refl (h p q)),
      )
    where
      tail : T (lacks ms m.low) → (p : ℕ) (x : Bool) → eqb m.low p ≡ x → R p (elim x [ true ↦ m.kind | false ↦ modifier_at ms p ]) → R p (modifier_at ms p)
      tail l p true e y = rw (lacks_absent ms p (subst (λ (n : ℕ). T (lacks ms n)) (eqb-true m.low p e) l)) (nothing p)
      tail l p false e y = y

  -- what holds of what stands at each of the lowest bits holds of each modifier, and the other way round
  pub modifiers_each : (k : ℕ) → k < row_count → ((j : ℕ) → j < 14 → R (get_or modifier_lows j 0) (modifier_at (row_of k).modifiers (get_or modifier_lows j 0)))
      → Each (λ (m : Modifier). R m.low m.kind) (row_of k).modifiers
  unfolding row_distinct
  modifiers_each k l h =
      each_from (row_of k).modifiers (at row_distinct rows no_row all_distinct k (in_table k l))
      (λ p t. let (j, (m, e)) = index_of modifier_lows p t in subst (λ (q : ℕ). R q (modifier_at (row_of k).modifiers q)) e (h j m))

  pub each_modifier : (ms : List Modifier) → Each (λ (m : Modifier). R m.low m.kind) ms → (p : ℕ) → R p (modifier_at ms p)
  unfolding modifier_at
  each_modifier [] e p = nothing p
  each_modifier (m ∷ ms) e p = go (eqb m.low p) refl (each_modifier ms e.1 p)
    where
      go : (t : Bool) → eqb m.low p ≡ t → R p (modifier_at ms p) → R p (elim t [ true ↦ m.kind | false ↦ modifier_at ms p ])
      go true h r = subst (λ (x : ℕ). R x m.kind) (eqb-true m.low p h) e.0
      go false h r = r
