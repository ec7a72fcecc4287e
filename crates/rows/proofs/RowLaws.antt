-- The facts of the rows, each one test over the whole table. Assumes nothing.
use mathlib.Core.Path.{◌≡◌, refl, ap₂, ◌∙◌, sym, subst}
use mathlib.Core.Bool.{Bool, true, false, ◌&&◌, ◌||◌, not}
use mathlib.Core.List.{List, [], ◌∷◌}
use mathlib.Core.Logic.{◌⊎◌, inl, inr}
use Prim.Native.Nat.{ℕ, zero, suc, ◌<◌, ◌≤◌}
use native.Mathlib.Nat.{not-suc-le-zero, le_of_suc-le-suc}
use native.Mathlib.Omega.{arith}
use lib.Dec.{T, eqb, ltb, leb, ltb→lt, leb→le, eqb→eq}
use lib.ListN.{length, get_or}
use borrow.Author.Tests.{eq-eqb, eqb-true, ltb-true, ltb-false}
use Rattle.bits.specs.Fields.{bits, apart}
use Rattle.bits.proofs.Every.{every, at, and_l, and_r, both}
use Rattle.bits.proofs.FieldLaws.{Apart, apart_rule}
use Rattle.rows.specs.Rows.{Row, rows, row_of, no_row, row_count}
use Rattle.rows.specs.Layout.{Place, flow_place, places, kind_at, modifier_at, slots, fits}
use Rattle.rows.specs.Kinds.{width}
use Rattle.rows.proofs.TableLaws.{in_table}
use Rattle.rows.proofs.PlaceLaws.{placed, index, index_lt, at_index}

-- a test of each place of each row, carried to place i of row k
module _ (test : Row → Place → Bool) where
  abbrev pub on_places : ℕ → Row → Bool
  on_places k r = every (λ (i : ℕ) (p : Place). test r p) 0 places

  pub at_place : T (every on_places 0 rows) → (k : ℕ) → k < row_count → (p : Place) → T (placed p) → T (test (row_of k) p)
  at_place t k hk p hp =
      subst (λ (q : Place). T (test (row_of k) q)) (at_index p hp)
      (at (λ (i : ℕ) (q : Place). test (row_of k) q) places flow_place (at on_places rows no_row t k (in_table k hk)) (index p) (index_lt p hp))

-- ---- the fields of a row's word stand apart

apart_test : ℕ → Row → Bool
apart_test k r = apart 0 (slots r)

all_apart : T (every apart_test 0 rows)
unfolding apart_test rows apart modifier_at slots places
all_apart = tt

pub row_apart : (k : ℕ) → k < row_count → Apart 0 (slots (row_of k))
unfolding apart_test
row_apart k h = apart_rule 0 (slots (row_of k)) (at apart_test rows no_row all_apart k (in_table k h))

-- ---- rows that fit the same word are the same: one test of all pairs, carried to each pair

differ : Row → Row → Bool
differ a b =
    not (eqb a.opcode b.opcode)
    || (eqb a.second_low b.second_low && eqb a.second_width b.second_width && not (eqb a.second b.second))

pairwise : List Row → Bool
pairwise [] = true
pairwise (r ∷ rs) = every (λ (k : ℕ) (s : Row). differ r s) 0 rs && pairwise rs

distinct : T (pairwise rows)
unfolding pairwise differ rows
distinct = tt

pair : (rs : List Row) → T (pairwise rs) → (i j : ℕ) → i < j → j < length rs → T (differ (get_or rs i no_row) (get_or rs j no_row))
unfolding pairwise
pair [] t i j l h = absurd (not-suc-le-zero h)
pair (r ∷ rs) t i zero l h = absurd (not-suc-le-zero l)
pair (r ∷ rs) t zero (suc j) l h =
    at (λ (k : ℕ) (s : Row). differ r s) rs no_row (and_l (every (λ (k : ℕ) (s : Row). differ r s) 0 rs) (pairwise rs) t) j (le_of_suc-le-suc h)
pair (r ∷ rs) t (suc i) (suc j) l h =
    pair rs (and_r (every (λ (k : ℕ) (s : Row). differ r s) 0 rs) (pairwise rs) t) i j (le_of_suc-le-suc l) (le_of_suc-le-suc h)

-- a word that fits a row has its opcode and its secondary opcode
pub opcode_there : (r : Row) (w : ℕ) → fits r w ≡ true → bits w 48 9 ≡ r.opcode
opcode_there r w e = eqb-true _ _ (both (eqb (bits w 48 9) r.opcode) (eqb (bits w r.second_low r.second_width) r.second) e).0

pub second_there : (r : Row) (w : ℕ) → fits r w ≡ true → bits w r.second_low r.second_width ≡ r.second
second_there r w e = eqb-true _ _ (both (eqb (bits w 48 9) r.opcode) (eqb (bits w r.second_low r.second_width) r.second) e).1

not_both : (a b : Row) (w : ℕ) → T (differ a b) → fits a w ≡ true → fits b w ≡ true → ⊥
unfolding differ
not_both a b w t p q =
    let o : a.opcode ≡ b.opcode = sym (opcode_there a w p) ∙ opcode_there b w q in
    let u : T (eqb a.second_low b.second_low && eqb a.second_width b.second_width && not (eqb a.second b.second)) =
    rw (eq-eqb a.opcode b.opcode o) at t in
    let x = eqb a.second_low b.second_low in
    let y = eqb a.second_width b.second_width in
    let v = not (eqb a.second b.second) in
    let e1 : a.second_low ≡ b.second_low = eqb→eq _ _ (and_l x y (and_l (x && y) v u)) in
    let e2 : a.second_width ≡ b.second_width = eqb→eq _ _ (and_r x y (and_l (x && y) v u)) in
    let e3 : a.second ≡ b.second = sym (second_there a w p) ∙ ap₂ (λ (m n : ℕ). bits w m n) e1 e2 ∙ second_there b w q in
    rw (eq-eqb a.second b.second e3) at (and_r (x && y) v u)

pub one_row : (w i j : ℕ) → i < row_count → j < row_count → fits (row_of i) w ≡ true → fits (row_of j) w ≡ true → i ≡ j
one_row w i j hi hj p q = go (ltb i j) refl (ltb j i) refl
  where
    go : (t : Bool) → ltb i j ≡ t → (t' : Bool) → ltb j i ≡ t' → i ≡ j
    go true e t' e' = absurd (not_both (row_of i) (row_of j) w (pair rows distinct i j (ltb-true i j e) (in_table j hj)) p q)
    go false e true e' = absurd (not_both (row_of j) (row_of i) w (pair rows distinct j i (ltb-true j i e') (in_table i hi)) q p)
    go false e false e' = omega (arith, ltb-false i j e, ltb-false j i e')

-- ---- widths: nothing is wider than 27 bits, and a modifier than 4

span_test : Row → Place → Bool
span_test r p = leb (width (kind_at r p)) 27

spans_right : T (every (on_places span_test) 0 rows)
unfolding span_test rows places modifier_at
spans_right = tt

pub width_le : (k : ℕ) → k < row_count → (p : Place) → T (placed p) → width (kind_at (row_of k) p) ≤ 27
unfolding span_test
width_le k hk p hp = leb→le _ _ (at_place span_test spans_right k hk p hp)

-- ---- a secondary opcode stands at bit 16 or 24, or there is none

second_test : ℕ → Row → Bool
second_test k r =
    ltb r.second_low 64 && ltb r.second_width 64
    && (eqb r.second_low 16 || (eqb r.second_low 24 || (eqb r.second_width 0 && eqb r.second 0)))

seconds_right : T (every second_test 0 rows)
unfolding second_test rows
seconds_right = tt

pub record Secondary (r : Row) : Type 0 where
  pub low_lt : r.second_low < 64
  pub width_lt : r.second_width < 64
  pub somewhere : (r.second_low ≡ 16) ⊎ ((r.second_low ≡ 24) ⊎ ((r.second_width ≡ 0) × (r.second ≡ 0)))

pub secondary : (k : ℕ) → k < row_count → Secondary (row_of k)
unfolding second_test
secondary k h =
    let r = row_of k in
    let a = ltb r.second_low 64 in
    let b = ltb r.second_width 64 in
    let c = eqb r.second_low 16 in
    let d = eqb r.second_low 24 in
    let e = eqb r.second_width 0 && eqb r.second 0 in
    let t : T (a && b && (c || (d || e))) = at second_test rows no_row seconds_right k (in_table k h) in
    record {
      low_lt = ltb→lt _ _ (and_l a b (and_l (a && b) (c || (d || e)) t));
      width_lt = ltb→lt _ _ (and_r a b (and_l (a && b) (c || (d || e)) t));
      somewhere = pick c refl d refl (and_r (a && b) (c || (d || e)) t);
    }
  where
    pick : (x : Bool) → eqb (row_of k).second_low 16 ≡ x → (y : Bool) → eqb (row_of k).second_low 24 ≡ y
        → T (x || (y || (eqb (row_of k).second_width 0 && eqb (row_of k).second 0)))
        → ((row_of k).second_low ≡ 16) ⊎ (((row_of k).second_low ≡ 24) ⊎ (((row_of k).second_width ≡ 0) × ((row_of k).second ≡ 0)))
    pick true p y q t = inl (eqb-true _ _ p)
    pick false p true q t = inr (inl (eqb-true _ _ q))
    pick false p false q t =
        inr (inr (
          eqb→eq _ _ (and_l (eqb (row_of k).second_width 0) (eqb (row_of k).second 0) t),
          eqb→eq _ _ (and_r (eqb (row_of k).second_width 0) (eqb (row_of k).second 0) t),
        ))

-- ---- a row has at most four sources

count_test : ℕ → Row → Bool
count_test k r = leb r.sources 4

counts_right : T (every count_test 0 rows)
unfolding count_test rows
counts_right = tt

pub four_sources : (k : ℕ) → k < row_count → (row_of k).sources ≤ 4
unfolding count_test
four_sources k h = leb→le _ _ (at count_test rows no_row counts_right k (in_table k h))
