-- A line where contents differ, and the lines of indexes, of rows and of sets one after the other. Assumes nothing.
use mathlib.Core.Path.{◌≡◌, refl, sym, ap, ap₂, ◌∙◌}
use mathlib.Core.List.{List, [], ◌∷◌, ◌++◌, append_assoc}
use Prim.Native.Nat.{ℕ, zero, suc, ◌+◌, ◌-◌, ◌*◌, ◌/◌, ◌%◌, ◌<◌, ◌≤◌}
use native.Mathlib.Nat.{add-zero, zero-add, add-suc, suc-add, add_comm, mul-zero, mul-suc, div-eq_of_lt, mod-eq_of_lt, mul-add-div, mul-add-mod_self_left}
use native.Mathlib.Numerals.{add-one}
use native.Mathlib.Omega.{arith}
use borrow.Author.Tests.{eq-eqb, ne_eqb}
use lib.ListN.{length, get_or}
use Rattle.differences.specs.declared.line.What.{What}
use Rattle.differences.specs.declared.line.Line.{Line}
use Rattle.differences.specs.Differences.{line, where_differs, lines_from, lines_of}

module _ (w : What) (i : ℕ) {x y : ℕ} where
  pub no_line : x ≡ y → [] ≡ where_differs w i x y
  no_line e = sym (rw (eq-eqb x y e))

  pub one_line : (x ≡ y → ⊥) → (line w i x y ∷ []) ≡ where_differs w i x y
  one_line n = sym (rw (ne_eqb x y n))

module _ (f : ℕ → List Line) where
  -- up to e
  pub lines_step : (i e : ℕ) → i < e → lines_from f i (e - i) ≡ f i ++ lines_from f (i + 1) (e - (i + 1))
  unfolding lines_from
  lines_step i e h =
      let q : e - i ≡ suc (e - (i + 1)) = omega arith in
      rw (q, add-one i)

  pub lines_end : (i e : ℕ) → e ≤ i → lines_from f i (e - i) ≡ []
  unfolding lines_from
  lines_end i e h =
      let q : e - i ≡ 0 = omega arith in
      rw q

  pub lines_add : (i x y : ℕ) → lines_from f i (x + y) ≡ lines_from f i x ++ lines_from f (i + x) y
  unfolding lines_from
  lines_add i zero y = rw (add-zero i, zero-add y)
  lines_add i (suc x) y = rw (suc-add x y, add-suc i x, ← suc-add i x) (ap (λ (l : List Line). f i ++ l) (lines_add (suc i) x y) ∙ sym (append_assoc (f i) _ _))

  -- the same lines at indexes that are d higher
  pub lines_shift : (g : ℕ → List Line) (d i n : ℕ) → ((j : ℕ) → i ≤ j → j < i + n → f (d + j) ≡ g j) → lines_from f (d + i) n ≡ lines_from g i n
  unfolding lines_from
  lines_shift g d i zero h = refl
  lines_shift g d i (suc n) h =
      ap₂ (λ (l m : List Line). l ++ m) (h i (omega arith) (omega arith))
      (ap (λ (k : ℕ). lines_from f k n) (sym (add-suc d i)) ∙ lines_shift g d (suc i) n (λ j l k. h j (omega (arith, l)) (omega (arith, k))))

pub lines_same : {f g : ℕ → List Line} (i n : ℕ) → ((j : ℕ) → i ≤ j → j < i + n → f j ≡ g j) → lines_from f i n ≡ lines_from g i n
unfolding lines_from
lines_same i zero h = refl
lines_same i (suc n) h =
    ap₂ (λ (l m : List Line). l ++ m) (h i (omega arith) (omega arith)) (lines_same (suc i) n (λ j l k. h j (omega (arith, l)) (omega (arith, k))))

-- rows of c lines each, one row after the other
module _ (f : ℕ → ℕ → List Line) (c : ℕ) (some : 0 < c) where
  in_row : (j k : ℕ) → k < c → f ((c * j + k) / c) ((c * j + k) % c) ≡ f j k
  in_row j k h = ap₂ f (mul-add-div some j k ∙ ap (λ (x : ℕ). j + x) (div-eq_of_lt h) ∙ add-zero j) (mul-add-mod_self_left c j k ∙ mod-eq_of_lt h)

  row : (j : ℕ) → lines_from (λ (q : ℕ). f (q / c) (q % c)) (c * j) c ≡ lines_from (f j) 0 c
  row j =
      ap (λ (i : ℕ). lines_from (λ (q : ℕ). f (q / c) (q % c)) i c) (sym (add-zero (c * j)))
      ∙ lines_shift (λ (q : ℕ). f (q / c) (q % c)) (f j) (c * j) 0 c (λ k _ h. in_row j k (omega arith))

  pub rows_from : (j n : ℕ) → lines_from (λ (q : ℕ). f (q / c) (q % c)) (c * j) (c * n) ≡ lines_from (λ (i : ℕ). lines_from (f i) 0 c) j n
  unfolding lines_from
  rows_from j zero = rw (mul-zero c)
  rows_from j (suc n) =
      let g : ℕ → List Line = λ q. f (q / c) (q % c) in
      ap (lines_from g (c * j)) (mul-suc c n ∙ add_comm (c * n) c)
      ∙ lines_add g (c * j) c (c * n)
      ∙ ap₂ (λ (l m : List Line). l ++ m) (row j) (ap (λ (i : ℕ). lines_from g i (c * n)) (sym (mul-suc c j)) ∙ rows_from (suc j) n)

-- the lines of some sets by their place
pub lines_listed : (f g : ℕ → List Line) (ks : List ℕ) (i : ℕ) → ((j : ℕ) → j < length ks → g (i + j) ≡ f (get_or ks j 0)) → lines_from g i (length ks) ≡ lines_of f ks
unfolding lines_from lines_of
lines_listed f g [] i h = refl
lines_listed f g (k ∷ ks) i h =
    ap₂ (λ (l m : List Line). l ++ m) (ap g (sym (add-zero i)) ∙ h 0 (omega arith))
    (lines_listed f g ks (suc i) (λ j l. ap g (suc-add i j ∙ sym (add-suc i j)) ∙ h (suc j) (omega arith)))
