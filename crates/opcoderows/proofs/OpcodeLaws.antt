-- The rows of an opcode: what the request asks of them, and the row of a word among them. Assumes nothing.
use Rattle.std.specs.Prelude.{Option, None, Some}
use mathlib.Core.Path.{◌≡◌, refl, sym, ap, ◌∙◌, subst}
use mathlib.Core.Bool.{Bool, true, false}
use mathlib.Core.List.{List, [], ◌∷◌}
use Prim.Native.Nat.{ℕ, zero, suc, ◌+◌, ◌<◌}
use native.Mathlib.Nat.{not-suc-le-zero, le_of_suc-le-suc, zero-add, add-zero}
use native.Mathlib.Omega.{arith}
use lib.Dec.{eqb, ltb}
use lib.ListN.{length, get_or}
use borrow.Author.Tests.{eqb-true, eqb-false, ltb-true, ltb-false, lt-ltb}
use Rattle.bits.proofs.OptionLaws.{Some-injective, None-ne-Some, Some-ne-None}
use Rattle.bits.specs.Fields.{bits, choose}
use Rattle.bits.specs.Lists.{kth}
use Rattle.bits.proofs.Every.{clash}
use Rattle.rows.specs.Rows.{Row, rows, row_of, no_row, row_count}
use Rattle.rows.specs.Layout.{fits, find}
use Rattle.rows.proofs.TableLaws.{in_table, count_rows}
use Rattle.rows.proofs.RowLaws.{opcode_there}
use Rattle.rows.proofs.FindLaws.{find_fits, find_row}
use Rattle.opcoderows.specs.Opcodes.{having, rows_with, row_with, first_fit, row_for, OwnRows}

-- ---- the rows of an opcode

module _ (o : ℕ) where
  -- n is the number of one of the rows, which are counted from i, and has the opcode
  Among : List Row → ℕ → ℕ → Type 0
  Among rs i n = (m : ℕ) × ((n ≡ i + m) × ((m < length rs) × ((get_or rs m no_row).opcode ≡ o)))

  later : (r : Row) (rs : List Row) (i n : ℕ) → Among rs (suc i) n → Among (r ∷ rs) i n
  unfolding Among
  later r rs i n (m, (e, (h, q))) = (suc m, (omega (arith, e), (omega arith, q)))

  -- what is listed has the opcode
  given : (rs : List Row) (i k n : ℕ) → kth (having o rs i) k ≡ Some n → Among rs i n
  unfolding having kth Among
  given [] i k n e = absurd (None-ne-Some n e)
  given (r ∷ rs) i k n e = go (eqb r.opcode o) refl k e (λ j y. given rs (suc i) j n y)
    where
      go : (b : Bool) → eqb r.opcode o ≡ b → (k : ℕ) → kth (choose b (i ∷ having o rs (suc i)) (having o rs (suc i))) k ≡ Some n
          → ((j : ℕ) → kth (having o rs (suc i)) j ≡ Some n → Among rs (suc i) n) → Among (r ∷ rs) i n
      go true q zero y f = (0, (sym (Some-injective i n y) ∙ sym (add-zero i), (omega arith, eqb-true r.opcode o q)))
      go true q (suc k) y f = later r rs i n (f k y)
      go false q k y f = later r rs i n (f k y)

  -- in row order
  ordered : (rs : List Row) (i j k a b : ℕ) → kth (having o rs i) j ≡ Some a → kth (having o rs i) k ≡ Some b → j < k → a < b
  unfolding having kth Among
  ordered [] i j k a b e f h = absurd (None-ne-Some a e)
  ordered (r ∷ rs) i j k a b e f h = go (eqb r.opcode o) j k e f h (λ m n y z l. ordered rs (suc i) m n a b y z l)
    where
      go : (t : Bool) → (j k : ℕ) → kth (choose t (i ∷ having o rs (suc i)) (having o rs (suc i))) j ≡ Some a
          → kth (choose t (i ∷ having o rs (suc i)) (having o rs (suc i))) k ≡ Some b → j < k
          → ((m n : ℕ) → kth (having o rs (suc i)) m ≡ Some a → kth (having o rs (suc i)) n ≡ Some b → m < n → a < b) → a < b
      go true j zero y z l f = absurd (not-suc-le-zero l)
      go true zero (suc k) y z l f = let (m, (q, _)) = given rs (suc i) k b z in omega (arith, q, Some-injective i a y)
      go true (suc j) (suc k) y z l f = f j k y z (le_of_suc-le-suc l)
      go false j k y z l f = f j k y z l

  -- each row that has the opcode is listed
  there : (rs : List Row) (i m : ℕ) → m < length rs → (get_or rs m no_row).opcode ≡ o → (k : ℕ) × (kth (having o rs i) k ≡ Some (i + m))
  unfolding having kth
  there [] i m h e = absurd (not-suc-le-zero h)
  there (r ∷ rs) i zero h e = go (eqb r.opcode o) refl
    where
      go : (b : Bool) → eqb r.opcode o ≡ b → (k : ℕ) × (kth (choose b (i ∷ having o rs (suc i)) (having o rs (suc i))) k ≡ Some (i + zero))
      go true q = (0, ap Some (sym (add-zero i)))
      go false q = absurd (eqb-false r.opcode o q e)
  there (r ∷ rs) i (suc m) h e = go (eqb r.opcode o) (there rs (suc i) m (le_of_suc-le-suc h) e)
    where
      go : (b : Bool) → (k : ℕ) × (kth (having o rs (suc i)) k ≡ Some (suc i + m))
          → (k : ℕ) × (kth (choose b (i ∷ having o rs (suc i)) (having o rs (suc i))) k ≡ Some (i + suc m))
      go true (k, q) = (suc k, q ∙ ap Some (omega arith))
      go false (k, q) = (k, q ∙ ap Some (omega arith))

-- ---- of the table

pub with_opcode : (o k i : ℕ) → row_with o k ≡ Some i → (i < row_count) × ((row_of i).opcode ≡ o)
unfolding Among
with_opcode o k i e =
    let (m, (q, (h, c))) = given o rows 0 k i e in
    let z : i ≡ m = q ∙ zero-add m in
    (omega (arith, z, h, count_rows), ap (λ (n : ℕ). (row_of n).opcode) z ∙ c)

pub with_order : (o j k a b : ℕ) → row_with o j ≡ Some a → row_with o k ≡ Some b → j < k → a < b
with_order o j k a b e f h = ordered o rows 0 j k a b e f h

pub with_row : (i : ℕ) → i < row_count → (k : ℕ) × (row_with (row_of i).opcode k ≡ Some i)
with_row i h = let (k, q) = there (row_of i).opcode rows 0 i (in_table i h) refl in (k, q ∙ ap Some (zero-add i))

-- at one k only
pub with_one : (o i j k : ℕ) → row_with o j ≡ Some i → row_with o k ≡ Some i → j ≡ k
with_one o i j k e f = go (ltb j k) refl (ltb k j) refl
  where
    go : (a : Bool) → ltb j k ≡ a → (b : Bool) → ltb k j ≡ b → j ≡ k
    go true p b q = absurd (omega (arith, with_order o j k i i e f (ltb-true j k p)))
    go false p true q = absurd (omega (arith, with_order o k j i i f e (ltb-true k j q)))
    go false p false q = omega (arith, ltb-false j k p, ltb-false k j q)

-- ---- the row of a word

-- what the first that fits is
fit_given : (ks : List ℕ) (w n : ℕ) → first_fit ks w ≡ Some n → (fits (row_of n) w ≡ true) × ((j : ℕ) × (kth ks j ≡ Some n))
unfolding first_fit kth
fit_given [] w n e = absurd (None-ne-Some n e)
fit_given (k ∷ ks) w n e = go (fits (row_of k) w) refl e (fit_given ks w n)
  where
    go : (b : Bool) → fits (row_of k) w ≡ b → choose b (Some k) (first_fit ks w) ≡ Some n
        → (first_fit ks w ≡ Some n → (fits (row_of n) w ≡ true) × ((j : ℕ) × (kth ks j ≡ Some n))) → (fits (row_of n) w ≡ true) × ((j : ℕ) × (kth (k ∷ ks) j ≡ Some n))
    go true q y g = let z = Some-injective k n y in (subst (λ (x : ℕ). fits (row_of x) w ≡ true) z q, (0, y))
    go false q y g = let (f, (j, z)) = g y in (f, (suc j, z))

-- where there is none, nothing that is listed fits
fit_none : (ks : List ℕ) (w j n : ℕ) → first_fit ks w ≡ None → kth ks j ≡ Some n → fits (row_of n) w ≡ false
unfolding first_fit kth
fit_none [] w j n e f = absurd (None-ne-Some n f)
fit_none (k ∷ ks) w j n e f = go (fits (row_of k) w) refl e j f (λ i y z. fit_none ks w i n y z)
  where
    go : (b : Bool) → fits (row_of k) w ≡ b → choose b (Some k) (first_fit ks w) ≡ None → (j : ℕ) → kth (k ∷ ks) j ≡ Some n
        → ((i : ℕ) → first_fit ks w ≡ None → kth ks i ≡ Some n → fits (row_of n) w ≡ false) → fits (row_of n) w ≡ false
    go true q y j z g = absurd (Some-ne-None k y)
    go false q y zero z g = subst (λ (x : ℕ). fits (row_of x) w ≡ false) (Some-injective k n z) q
    go false q y (suc j) z g = g j y z

-- a row's number, or none past the last
abbrev pub numbered : ℕ → Option ℕ
numbered k = choose (ltb k row_count) (Some k) None

-- the row that a word fits is found among its opcode's
pub found_among : (w : ℕ) → row_for w ≡ numbered (find rows 0 w)
found_among w = go (row_for w) refl (ltb (find rows 0 w) row_count) refl
  where
    go : (x : Option ℕ) → row_for w ≡ x → (b : Bool) → ltb (find rows 0 w) row_count ≡ b → row_for w ≡ choose b (Some (find rows 0 w)) None
    go (Some n) e b p =
        let (f, (j, y)) = fit_given (rows_with (bits w 48 9)) w n e in
        let (h, _) = with_opcode (bits w 48 9) j n y in
        let z : find rows 0 w ≡ n = find_row w n h f in
        e ∙ ap (λ (c : Bool). choose c (Some n) None) (sym (lt-ltb (find rows 0 w) row_count (omega arith)) ∙ p) ∙ ap (λ (m : ℕ). choose b (Some m) None) (sym z)
    go None e true p =
        let h = ltb-true (find rows 0 w) row_count p in
        let f = find_fits w h in
        let (k, q) = with_row (find rows 0 w) h in
        let y : row_with (bits w 48 9) k ≡ Some (find rows 0 w) = ap (λ (c : ℕ). row_with c k) (opcode_there (row_of (find rows 0 w)) w f) ∙ q in
        clash (sym f ∙ fit_none (rows_with (bits w 48 9)) w k (find rows 0 w) e y)
    go None e false p = e

pub own_rows : OwnRows row_for
own_rows = record { own = mine; fitting = that }
  where
    mine : (w k : ℕ) → row_for w ≡ Some k → (k < row_count) × ((row_of k).opcode ≡ bits w 48 9)
    mine w k e = let (_, (j, y)) = fit_given (rows_with (bits w 48 9)) w k e in with_opcode (bits w 48 9) j k y

    that : (w k : ℕ) → k < row_count → fits (row_of k) w ≡ true → row_for w ≡ Some k
    that w k h f =
        let s : numbered (find rows 0 w) ≡ Some k = rw (find_row w k h f, lt-ltb k row_count h) in
        found_among w ∙ s
