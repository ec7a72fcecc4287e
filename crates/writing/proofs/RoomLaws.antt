-- Whether the numbers of a record have room, as the writer finds it from the numbers of a row's line. Assumes nothing.
use mathlib.Core.Path.{◌≡◌, refl}
use mathlib.Core.Bool.{Bool, true, false, ◌&&◌, and-true, and_assoc}
use mathlib.Core.List.{List, [], ◌∷◌, map}
use mathlib.Core.Logic.{◌↔◌}
use Prim.Native.Nat.{ℕ, zero, suc, ◌+◌, ◌-◌, ◌*◌, ◌/◌, ◌%◌, ◌^◌, ◌<◌, ◌≤◌}
use native.Mathlib.Nat.{le_of_eq, zero-add, div-eq_of_lt, div-lt_iff_lt-mul}
use native.Mathlib.Numerals.{add-one}
use native.Mathlib.Omega.{arith}
use lib.Dec.{ltb, eqb}
use lib.IntN.{ℤ, pos, negsuc}
use lib.ListN.{length, get_or, drop, drop_of_length-le}
use lib.Pow.{pow_pos}
use lib.Seq.{drop-cons}
use borrow.Author.Tests.{lt-ltb, ltb-true, ltb-false, eqb-true, eqb-false, eq-eqb, ne_eqb}
use Rattle.bits.specs.Fields.{bits, choose, fit}
use Rattle.bits.specs.Bytes.{little}
use Rattle.bits.specs.Signed.{unsigned}
use Rattle.bits.proofs.Every.{both}
use Rattle.rows.specs.Kinds.{width, source, offset, register, half_mask}
use Rattle.rows.specs.Rows.{row_of, row_count}
use Rattle.rows.specs.Layout.{page_place, flow_place, register_place, mask_place, offset_place, modifier_place, source_places, modifier_places, where_has, slot_at}
use Rattle.rows.specs.Served.Table.{shape, widths}
use Rattle.rows.proofs.RowLaws.{four_sources}
use Rattle.record.specs.Lists.{source_list, modifier_list}
use Rattle.record.specs.Instructions.{offset_number}
use Rattle.record.specs.Legality.{room, roomy}
use Rattle.record.specs.declared.instruction.Instruction.{Instruction}
use Rattle.record.specs.declared.instruction.Sources.{Sources}
use Rattle.record.proofs.NumberLaws.{from_up, head_places, head_numbers}
use Rattle.record.proofs.ShapeLaws.{no_destination, offset_there, sources_there, width_there}
use Rattle.writing.specs.Served.Parts.{narrow}

-- ---- modifiers

-- modifier j is v, x bits wide
module _ (ws : ℕ) (vs : List ℕ) (j : ℕ) {t : Bool} {v x : ℕ} (h : j < length vs) (e : t ≡ ltb v (2 ^ x)) (ev : v ≡ get_or vs j 0) (ex : x ≡ bits ws (4 * j) 3) where
  pub narrow_hit : t ≡ true → narrow ws (j + 1) (drop (j + 1) vs) ≡ narrow ws j (drop j vs)
  unfolding narrow
  narrow_hit q = rw (drop-cons vs j 0 h, ← ev, ← ex, ← e, q, add-one j)

  pub narrow_miss : t ≡ false → false ≡ narrow ws j (drop j vs)
  unfolding narrow
  narrow_miss q = rw (drop-cons vs j 0 h, ← ev, ← ex, ← e, q)

pub narrow_end : (ws : ℕ) (vs : List ℕ) (j : ℕ) → length vs ≡ j → true ≡ narrow ws j (drop j vs)
unfolding narrow
narrow_end ws vs j e = rw (drop_of_length-le vs (le_of_eq e))

module _ (k : ℕ) (h : k < row_count) where
  narrow_from : (n j : ℕ) (vs : List ℕ) → length vs ≡ n → j + n ≤ 14
      → narrow (widths (row_of k)) j vs ≡ fit (map (slot_at (row_of k)) (map modifier_place (from_up j n))) vs
  unfolding narrow fit
  narrow_from zero j [] l m = refl
  narrow_from zero j (v ∷ vs) l m = absurd (omega arith)
  narrow_from (suc n) j [] l m = absurd (omega arith)
  narrow_from (suc n) j (v ∷ vs) l m = rw (width_there k h j (omega arith), narrow_from n (suc j) vs (omega arith) (omega arith))

  pub narrow_room : (vs : List ℕ) → length vs ≡ 14 → narrow (widths (row_of k)) 0 vs ≡ room (row_of k) modifier_places vs
  narrow_room vs l = narrow_from 14 0 vs l (omega arith)

-- ---- sources: those that the row lacks are 0 exactly when the number that all give lies below the first of them

-- below this number source j has room, of a row that has n sources
abbrev limit : ℕ → ℕ → ℕ
limit n j = 2 ^ width (where_has (ltb j n) source)

-- the sources are bytes
abbrev pub Bytes : Sources → Type 0
Bytes s = (s.s0 < 256) × (s.s1 < 256) × (s.s2 < 256) × (s.s3 < 256)

module _ (s : Sources) (bytes : Bytes s) where
  abbrev Each : ℕ → Type 0
  Each n = (s.s0 < limit n 0) × (s.s1 < limit n 1) × (s.s2 < limit n 2) × (s.s3 < limit n 3)

  each : (n : ℕ) → n ≤ 4 → (little (source_list s) ≤ 2 ^ (8 * n) - 1) ↔ Each n
  unfolding little
  each zero h = (λ l. (omega arith, omega arith, omega arith, omega arith), λ e. omega arith)
  each (suc zero) h = (λ l. (omega arith, omega arith, omega arith, omega arith), λ e. omega arith)
  each (suc (suc zero)) h = (λ l. (omega arith, omega arith, omega arith, omega arith), λ e. omega arith)
  each (suc (suc (suc zero))) h = (λ l. (omega arith, omega arith, omega arith, omega arith), λ e. omega arith)
  each (suc (suc (suc (suc zero)))) h = (λ l. (omega arith, omega arith, omega arith, omega arith), λ e. omega arith)
  each (suc (suc (suc (suc (suc n))))) h = absurd (omega arith)

module _ (k : ℕ) (h : k < row_count) (s : Sources) (bytes : Bytes s) where
  met : (little (source_list s) ≤ shape (row_of k) % 2 ^ 32) ↔ Each s bytes (row_of k).sources
  met = rw (sources_there k h) (each s bytes (row_of k).sources (four_sources k h))

  pub sources_room : little (source_list s) ≤ shape (row_of k) % 2 ^ 32 → room (row_of k) source_places (source_list s) ≡ true
  unfolding fit
  sources_room e = let p = met.0 e in rw (lt-ltb _ _ p.0, lt-ltb _ _ p.1, lt-ltb _ _ p.2, lt-ltb _ _ p.3)

  pub sources_lack : shape (row_of k) % 2 ^ 32 < little (source_list s) → room (row_of k) source_places (source_list s) ≡ false
  unfolding fit
  sources_lack e = go (room (row_of k) source_places (source_list s)) refl
    where
      go : (t : Bool) → room (row_of k) source_places (source_list s) ≡ t → t ≡ false
      go false q = refl
      go true q =
          let a = both (ltb s.s0 (limit (row_of k).sources 0)) _ q in
          let b = both (ltb s.s1 (limit (row_of k).sources 1)) _ a.1 in
          let c = both (ltb s.s2 (limit (row_of k).sources 2)) _ b.1 in
          let d = both (ltb s.s3 (limit (row_of k).sources 3)) _ c.1 in
          absurd (omega (arith, met.1 (ltb-true _ _ a.0, ltb-true _ _ b.0, ltb-true _ _ c.0, ltb-true _ _ d.0)))

-- ---- page, flow, destination, offset: each has room where nothing of it stands past its width

sum_zero : (x y : ℕ) → eqb (x + y) 0 ≡ eqb x 0 && eqb y 0
sum_zero x y = go (eqb x 0) refl
  where
    go : (t : Bool) → eqb x 0 ≡ t → eqb (x + y) 0 ≡ t && eqb y 0
    go true e = rw (eqb-true x 0 e, zero-add y)
    go false e = ne_eqb (x + y) 0 (λ q. eqb-false x 0 e (omega arith))

shift_zero : (v n : ℕ) → eqb (v / 2 ^ n) 0 ≡ ltb v (2 ^ n)
shift_zero v n = go (ltb v (2 ^ n)) refl
  where
    go : (t : Bool) → ltb v (2 ^ n) ≡ t → eqb (v / 2 ^ n) 0 ≡ t
    go true e = eq-eqb (v / 2 ^ n) 0 (div-eq_of_lt (ltb-true v (2 ^ n) e))
    go false e = ne_eqb (v / 2 ^ n) 0 (λ z. omega (arith, ltb-false v (2 ^ n) e, (div-lt_iff_lt-mul {x = v} {y = 1} (pow_pos n)).0 (omega arith)))

-- a destination's register and half mask, and an offset, are so wide
register_width : (t : Bool) → 6 * (1 - choose t 0 1) ≡ width (where_has t register)
register_width true = refl
register_width false = refl

mask_width : (t : Bool) → 2 * (1 - choose t 0 1) ≡ width (where_has t half_mask)
mask_width true = refl
mask_width false = refl

offset_width : (t : Bool) → 27 * choose t 1 0 ≡ width (where_has t offset)
offset_width true = refl
offset_width false = refl

module _ (k : ℕ) (h : k < row_count) {d o : ℕ} (ed : d ≡ bits (shape (row_of k)) 47 1) (eo : o ≡ bits (shape (row_of k)) 32 1) (p f g m z : ℕ) where
  pub heads_room : eqb (p / 4 + f / 16 + g / 2 ^ (6 * (1 - d)) + m / 2 ^ (2 * (1 - d)) + z / 2 ^ (27 * o)) 0
      ≡ room (row_of k) (page_place ∷ flow_place ∷ register_place ∷ mask_place ∷ offset_place ∷ []) (p ∷ f ∷ g ∷ m ∷ z ∷ [])
  unfolding fit
  heads_room =
      rw (ed, eo, no_destination k h, offset_there k h, register_width (row_of k).destination, mask_width (row_of k).destination, offset_width (row_of k).offset)
      (simp (sum_zero, shift_zero, shift_zero p 2, shift_zero f 4, and_assoc, and-true))

pub offset_small : {n : ℕ} (z : ℤ) → n ≡ offset_number z → n ≤ 134217728
unfolding unsigned
offset_small (pos x) e = rw e (go x (ltb x 67108864) refl)
  where
    go : (x : ℕ) (t : Bool) → ltb x 67108864 ≡ t → choose t x 134217728 ≤ 134217728
    go x true q = omega (arith, ltb-true x 67108864 q)
    go x false q = omega arith
offset_small (negsuc x) e = rw e (go (ltb x 67108864))
  where
    go : (t : Bool) → choose t (134217727 - x) 134217728 ≤ 134217728
    go true = omega arith
    go false = omega arith

-- ---- the whole: first what stands alone, then the sources, then the modifiers

module _ (i : Instruction) {t : Bool} (et : t ≡ room (row_of i.row) head_places (head_numbers i)) where
  pub no_heads : t ≡ false → false ≡ roomy (row_of i.row) i
  unfolding roomy
  no_heads p = rw (← et, p)

  module _ (p : t ≡ true) (h : i.row < row_count) (bytes : Bytes i.sources) where
    pub no_sources : shape (row_of i.row) % 2 ^ 32 < little (source_list i.sources) → false ≡ roomy (row_of i.row) i
    unfolding roomy
    no_sources l = rw (← et, p, sources_lack i.row h i.sources bytes l)

    pub by_modifiers : little (source_list i.sources) ≤ shape (row_of i.row) % 2 ^ 32
        → narrow (widths (row_of i.row)) 0 (modifier_list i.modifiers) ≡ roomy (row_of i.row) i
    unfolding roomy
    by_modifiers l = rw (← et, p, sources_room i.row h i.sources bytes l) (narrow_room i.row h (modifier_list i.modifiers) refl)
