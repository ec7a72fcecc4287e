-- Which fields of a word are legal, from the numbers of its row's line: each a test over the rows. Assumes nothing.
use mathlib.Core.Path.{◌≡◌, refl, sym, ap, ap₂, ◌∙◌}
use mathlib.Core.Bool.{Bool, true, false, ◌&&◌, ◌||◌, not}
use mathlib.Core.List.{List, [], ◌∷◌, map}
use mathlib.Core.Logic.{⊎_elim}
use Prim.Native.Nat.{ℕ, suc, ◌+◌, ◌-◌, ◌*◌, ◌/◌, ◌%◌, ◌^◌, ◌<◌, ◌≤◌}
use native.Mathlib.Nat.{mod-lt, add-zero, div-eq_of_lt}
use native.Mathlib.Omega.{arith}
use lib.Bits.{bit_and, bit_or, or_shr, or_mod}
use lib.Dec.{T, eqb, leb, leb→le}
use lib.ListN.{get_or}
use lib.Pow.{field, mod-mod-pow, shr-shr, pow_pos}
use borrow.Author.Tests.{eq-eqb, ne_eqb, eqb-true}
use Rattle.bits.specs.Fields.{bits, choose}
use Rattle.bits.specs.Sets.{has, Has}
use Rattle.bits.specs.Outcomes.{Outcome, passes, gives, refuses, require, ◌then◌}
use Rattle.bits.proofs.Every.{iff, iff_eq, every, at, T_true, and_l, and_r, clash}
use Rattle.bits.proofs.SetLaws.{has_and, has_both, has_true, has_false, member_below, subset_le}
use Rattle.rows.specs.Kinds.{width, legal_value, flow, half_mask}
use Rattle.rows.specs.Rows.{Row, rows, row_of, no_row, row_count}
use Rattle.rows.specs.Layout.{Place, modifier_place, mask_place, flow_place, low, kind_at, where_has, modifier_at, modifier_places}
use Rattle.rows.specs.Served.Table.{upto, one_if, kind_of, shape, widths, limits, restricted, pairs}
use Rattle.rows.proofs.TableLaws.{in_table}
use Rattle.rows.proofs.SetOfLaws.{upto_at}
use Rattle.record.specs.Answers.{refusal}
use Rattle.record.specs.Lists.{modifier_list}
use Rattle.record.specs.Instructions.{number_in, instruction_of}
use Rattle.record.specs.Legality.{judge_modifiers}
use Rattle.record.specs.declared.answer.Refusal.{Refusal}

-- ---- a test of two functions over all rows and all numbers below n

module _ (n : ℕ) (a b : ℕ → Row → ℕ → Bool) where
  abbrev agree : ℕ → Row → Bool
  agree k r = upto n (λ (x : ℕ). iff (a k r x) (b k r x))

  agreed : T (every agree 0 rows) → (k : ℕ) → k < row_count → (x : ℕ) → x < n → a k (row_of k) x ≡ b k (row_of k) x
  agreed t k h x l =
      iff_eq (a k (row_of k) x) (b k (row_of k) x)
      (upto_at n (λ (y : ℕ). iff (a k (row_of k) y) (b k (row_of k) y)) (at agree rows no_row t k (in_table k h)) x l)

-- ---- a field inside another

pub inner : (x n d m : ℕ) → m + d ≤ n → x % 2 ^ n / 2 ^ d % 2 ^ m ≡ x / 2 ^ d % 2 ^ m
inner x n d m h =
    let e : n - d + d ≡ n = omega arith in
    let g : n - d - m + m ≡ n - d = omega arith in
    let f : x % 2 ^ n / 2 ^ d ≡ x / 2 ^ d % 2 ^ (n - d) = rw e at (field x (n - d) d) in
    rw f (rw g at (mod-mod-pow (x / 2 ^ d) (n - d - m) m))

pub window : (w p n d m : ℕ) → m + d ≤ n → bits w p n / 2 ^ d % 2 ^ m ≡ bits w (p + d) m
window w p n d m h = inner (w / 2 ^ p) n d m h ∙ ap (λ (x : ℕ). x % 2 ^ m) (shr-shr w p d)

-- modifier j of a word of row k is legal
abbrev pub fair : ℕ → ℕ → ℕ → Bool
fair k w j = legal_value (kind_at (row_of k) (modifier_place j)) (number_in k w (modifier_place j))

-- the same, where x is a run of the word's bits and the modifier is at bit d of it
abbrev fair_in : Row → ℕ → ℕ → ℕ → Bool
fair_in r j d x = legal_value (kind_of r j) (x / 2 ^ d % 2 ^ width (kind_of r j))

-- how many bits the modifiers have at most
abbrev most : List ℕ
most = 2 ∷ 1 ∷ 1 ∷ 2 ∷ 4 ∷ 2 ∷ 2 ∷ 3 ∷ 1 ∷ 1 ∷ 4 ∷ 3 ∷ 1 ∷ 1 ∷ []

narrow : Row → ℕ → ℕ → Bool
narrow r j n = leb (width (kind_of r j)) n

narrow_test : ℕ → Row → Bool
narrow_test k r = every (narrow r) 0 most

all_narrow : T (every narrow_test 0 rows)
unfolding narrow_test narrow rows modifier_at
all_narrow = tt

-- ---- what the table says of x, a run of the word's bits, is what the row says

-- modifier i, at the run's bit 0, is illegal; it or modifier j, at bit d, is
first : ℕ → ℕ → Row → ℕ → Bool
first i k r x = not (fair_in r i 0 x)

either : ℕ → ℕ → ℕ → ℕ → Row → ℕ → Bool
either i j d k r x = not (fair_in r i 0 x && fair_in r j d x)

set_26 : ℕ → Row → ℕ → Bool
set_26 k r x = has (limits r) x

all_26 : T (every (agree 16 set_26 (either 4 5 2)) 0 rows)
unfolding set_26 either rows modifier_at
all_26 = tt

low_26 : ℕ → Row → ℕ → Bool
low_26 k r x = has (limits r) (bits x 0 (bits (widths r) 16 3))

all_low_26 : T (every (agree 16 low_26 (first 4)) 0 rows)
unfolding low_26 first rows modifier_at
all_low_26 = tt

set_36 : ℕ → Row → ℕ → Bool
set_36 k r x = has (limits r) (16 + x)

all_36 : T (every (agree 16 set_36 (either 10 11 1)) 0 rows)
unfolding set_36 either rows modifier_at
all_36 = tt

low_36 : ℕ → Row → ℕ → Bool
low_36 k r x = has (limits r) (16 + bits x 0 (bits (widths r) 40 3))

all_low_36 : T (every (agree 16 low_36 (first 10)) 0 rows)
unfolding low_36 first rows modifier_at
all_low_36 = tt

-- two bits that are 1, and may not be
twice_8 : ℕ → Row → ℕ → Bool
twice_8 k r x = (has x 0 && has x 1) && has (pairs r) 8

all_8 : T (every (agree 4 twice_8 (first 0)) 0 rows)
unfolding twice_8 first rows modifier_at
all_8 = tt

twice_33 : ℕ → Row → ℕ → Bool
twice_33 k r x = (has x 1 && has x 2) && has (pairs r) 33

all_33 : T (every (agree 8 twice_33 (first 7)) 0 rows)
unfolding twice_33 first rows modifier_at
all_33 = tt

-- the half mask, with the shape's bits there
masked : ℕ → Row → ℕ → Bool
masked k r x = eqb (bit_or x (bits (shape r + k * 2 ^ 48) 46 2)) 0

said_mask : ℕ → Row → ℕ → Bool
said_mask k r x = not (legal_value (kind_at r mask_place) (x / 2 ^ 0 % 2 ^ width (kind_at r mask_place)))

all_masks : T (every (agree 4 masked said_mask) 0 rows)
unfolding masked said_mask rows
all_masks = tt

-- the bits of w that are 1 together with the next one
doubled : (w p n d : ℕ) → 2 + d ≤ n → has (bit_and w (w / 2)) (p + d) ≡ has (bits w p n) d && has (bits w p n) (1 + d)
doubled w p n d h =
    let f : bits w p n / 2 ^ d % 2 ≡ w / 2 ^ (p + d) % 2 = window w p n d 1 (omega arith) in
    let g : bits w p n / 2 ^ (1 + d) % 2 ≡ w / 2 ^ (p + (1 + d)) % 2 = window w p n (1 + d) 1 (omega arith) in
    let e : 1 + (p + d) ≡ p + (1 + d) = omega arith in
    let s : w / 2 / 2 ^ (p + d) ≡ w / 2 ^ (p + (1 + d)) = rw e at (shr-shr w 1 (p + d)) in
    has_both w (w / 2) (p + d) ∙ rw (s, f, g)

-- pairs has no bits but 8 and 33
few : (a b : Bool) (i : ℕ) → i < 64 → T (not (has (2 ^ 8 * one_if a + 2 ^ 33 * one_if b) i) || (eqb i 8 || eqb i 33))
few true true i h = upto_at 64 (λ (i : ℕ). not (has (2 ^ 8 + 2 ^ 33) i) || (eqb i 8 || eqb i 33)) tt i h
few true false i h = upto_at 64 (λ (i : ℕ). not (has (2 ^ 8) i) || (eqb i 8 || eqb i 33)) tt i h
few false true i h = upto_at 64 (λ (i : ℕ). not (has (2 ^ 33) i) || (eqb i 8 || eqb i 33)) tt i h
few false false i h = upto_at 64 (λ (i : ℕ). not (has 0 i) || (eqb i 8 || eqb i 33)) tt i h

pairs_lt : (a b : Bool) → 2 ^ 8 * one_if a + 2 ^ 33 * one_if b < 2 ^ 64
pairs_lt true true = omega arith
pairs_lt true false = omega arith
pairs_lt false true = omega arith
pairs_lt false false = omega arith

-- the bits of a word of row k that are 1 together with the next one, and may not be
abbrev pub both_of : ℕ → ℕ → ℕ
both_of k w = bit_and (bit_and w (w / 2)) (pairs (row_of k))

pub nothing_in_0 : (i : ℕ) → has 0 i ≡ false
nothing_in_0 i = ap (λ (x : ℕ). eqb (x % 2) 1) (div-eq_of_lt (pow_pos i))

none_of_two : (r : Row) (v : ℕ) → eqb (bit_and v (pairs r)) 0 ≡ (not (has (bit_and v (pairs r)) 8) && not (has (bit_and v (pairs r)) 33))
none_of_two r v = go (has b 8) refl (has b 33) refl
  where
    b : ℕ
    b = bit_and v (pairs r)

    full : (i : ℕ) → has b i ≡ true → b ≡ 0 → ⊥
    full i e z = clash (sym e ∙ ap (λ (x : ℕ). has x i) z ∙ nothing_in_0 i)

    empty : has b 8 ≡ false → has b 33 ≡ false → (i : ℕ) → Has b i → Has 0 i
    empty e f i x =
        let p = ((has_and v (pairs r) i).0 x).1 in
        let l = member_below (pairs r) i (pairs_lt (restricted (kind_of r 0)) (restricted (kind_of r 7))) p in
        let t : T (not (has (pairs r) i) || (eqb i 8 || eqb i 33)) = few (restricted (kind_of r 0)) (restricted (kind_of r 7)) i l in
        two (eqb i 8) refl (eqb i 33) refl (rw (has_true (pairs r) i p) at t)
      where
        two : (s : Bool) → eqb i 8 ≡ s → (u : Bool) → eqb i 33 ≡ u → T (s || u) → Has 0 i
        two true q u g t = clash (sym (has_true b i x) ∙ ap (has b) (eqb-true i 8 q) ∙ e)
        two false q true g t = clash (sym (has_true b i x) ∙ ap (has b) (eqb-true i 33 g) ∙ f)
        two false q false g t = absurd t

    go : (s : Bool) → has b 8 ≡ s → (u : Bool) → has b 33 ≡ u → eqb b 0 ≡ (not s && not u)
    go true e u f = ne_eqb b 0 (full 8 e)
    go false e true f = ne_eqb b 0 (full 33 f)
    go false e false f = eq-eqb b 0 (omega (arith, subset_le b 0 (empty e f)))

-- ---- a word of row k

module _ (k w : ℕ) (h : k < row_count) where
  -- a modifier, from a run of n bits from bit p up
  from : (j p n d : ℕ) → j < 14 → get_or most j 0 + d ≤ n → low (modifier_place j) ≡ p + d → fair_in (row_of k) j d (bits w p n) ≡ fair k w j
  unfolding narrow_test narrow
  from j p n d lj ln e =
      let x = kind_of (row_of k) j in
      let l : width x ≤ get_or most j 0 = leb→le _ _ (at (narrow (row_of k)) most 0 (at narrow_test rows no_row all_narrow k (in_table k h)) j lj) in
      ap (legal_value x) (window w p n d (width x) (omega arith) ∙ ap (λ (q : ℕ). bits w q (width x)) (sym e))

  module _ (a : ℕ → Row → ℕ → Bool) (n : ℕ) where
    first_so : (i : ℕ) → i < 14 → get_or most i 0 ≤ n → T (every (agree (2 ^ n) a (first i)) 0 rows)
        → a k (row_of k) (bits w (low (modifier_place i)) n) ≡ not (fair k w i)
    unfolding first
    first_so i li ln t =
        agreed (2 ^ n) a (first i) t k h (bits w (low (modifier_place i)) n) (mod-lt _ (pow_pos n))
        ∙ ap not (from i (low (modifier_place i)) n 0 li (omega arith) (sym (add-zero _)))

    either_so : (i j d : ℕ) → i < 14 → get_or most i 0 ≤ n → j < 14 → get_or most j 0 + d ≤ n → low (modifier_place j) ≡ low (modifier_place i) + d
        → T (every (agree (2 ^ n) a (either i j d)) 0 rows) → a k (row_of k) (bits w (low (modifier_place i)) n) ≡ not (fair k w i && fair k w j)
    unfolding either
    either_so i j d li ln lj lm e t =
        agreed (2 ^ n) a (either i j d) t k h (bits w (low (modifier_place i)) n) (mod-lt _ (pow_pos n))
        ∙ ap₂ (λ (a b : Bool). not (a && b)) (from i (low (modifier_place i)) n 0 li (omega arith) (sym (add-zero _))) (from j (low (modifier_place i)) n d lj lm e)

  pub window_26 : has (limits (row_of k)) (bits w 26 4) ≡ not (fair k w 4 && fair k w 5)
  unfolding set_26
  window_26 = either_so set_26 4 4 5 2 (omega arith) (omega arith) (omega arith) (omega arith) refl all_26

  pub lower_26 : has (limits (row_of k)) (bits (bits w 26 4) 0 (bits (widths (row_of k)) 16 3)) ≡ not (fair k w 4)
  unfolding low_26
  lower_26 = first_so low_26 4 4 (omega arith) (omega arith) all_low_26

  pub window_36 : has (limits (row_of k)) (16 + bits w 36 4) ≡ not (fair k w 10 && fair k w 11)
  unfolding set_36
  window_36 = either_so set_36 4 10 11 1 (omega arith) (omega arith) (omega arith) (omega arith) refl all_36

  pub lower_36 : has (limits (row_of k)) (16 + bits (bits w 36 4) 0 (bits (widths (row_of k)) 40 3)) ≡ not (fair k w 10)
  unfolding low_36
  lower_36 = first_so low_36 4 10 (omega arith) (omega arith) all_low_36

  pub pair_8 : eqb (bits (both_of k w) 8 1) 1 ≡ not (fair k w 0)
  unfolding twice_8
  pair_8 =
      has_both (bit_and w (w / 2)) (pairs (row_of k)) 8
      ∙ ap (λ (b : Bool). b && has (pairs (row_of k)) 8) (doubled w 8 2 0 (omega arith))
      ∙ first_so twice_8 2 0 (omega arith) (omega arith) all_8

  pair_33 : has (both_of k w) 33 ≡ not (fair k w 7)
  unfolding twice_33
  pair_33 =
      has_both (bit_and w (w / 2)) (pairs (row_of k)) 33
      ∙ ap (λ (b : Bool). b && has (pairs (row_of k)) 33) (doubled w 32 3 1 (omega arith))
      ∙ first_so twice_33 3 7 (omega arith) (omega arith) all_33

  pub pairs_none : eqb (both_of k w) 0 ≡ (fair k w 0 && fair k w 7)
  pairs_none = none_of_two (row_of k) (bit_and w (w / 2)) ∙ ap₂ (λ (a b : Bool). not a && not b) pair_8 pair_33 ∙ twice (fair k w 0) (fair k w 7)
    where
      twice : (a b : Bool) → (not (not a) && not (not b)) ≡ (a && b)
      twice true true = refl
      twice true false = refl
      twice false b = refl

  pub flow_so : has 0xA7FF (bits w 59 4) ≡ legal_value flow (number_in k w flow_place)
  flow_so =
      iff_eq _ _ (upto_at 16 (λ (x : ℕ). iff (has 0xA7FF x) (legal_value flow x)) tt (bits w 59 4) (mod-lt _ (pow_pos 4)))

  pub mask_so : eqb (bits (bit_or w (shape (row_of k) + k * 2 ^ 48)) 46 2) 0 ≡ not (legal_value (kind_at (row_of k) mask_place) (number_in k w mask_place))
  unfolding masked said_mask
  mask_so =
      ap (λ (x : ℕ). eqb x 0) (ap (λ (x : ℕ). x % 2 ^ 2) (or_shr w _ 46) ∙ or_mod (w / 2 ^ 46) ((shape (row_of k) + k * 2 ^ 48) / 2 ^ 46) 2)
      ∙ agreed 4 masked said_mask all_masks k h (bits w 46 2) (mod-lt _ (pow_pos 2))
      ∙ ap (λ (x : ℕ). not (legal_value (kind_at (row_of k) mask_place) x)) (window w 46 2 0 (width (kind_at (row_of k) mask_place)) (small (row_of k).destination))
    where
      small : (d : Bool) → width (where_has d half_mask) + 0 ≤ 2
      small true = omega arith
      small false = omega arith

-- ---- modifiers, judged in their order

-- the modifiers that can be illegal, by their lowest bits
tested : Place → Bool
tested p = (eqb (low p) 8 || (eqb (low p) 26 || eqb (low p) 28)) || (eqb (low p) 32 || (eqb (low p) 36 || eqb (low p) 37))

-- of the others, all that has room is legal
free : Row → ℕ → Place → Bool
free r i p = tested p || upto (2 ^ width (kind_at r p)) (legal_value (kind_at r p))

free_test : ℕ → Row → Bool
free_test k r = every (free r) 0 modifier_places

all_free : T (every free_test 0 rows)
unfolding free_test free tested rows modifier_at
all_free = tt

pub then_end : {R : Type 0} (a : Outcome R (Unit {0})) → (a then passes) ≡ a
unfolding ◌then◌
then_end (gives tt) = refl
then_end (refuses r) = refl

module _ (k w : ℕ) where
  kept : List Place → Outcome Refusal (Unit {0})
  kept [] = passes
  kept (p ∷ ps) = choose (tested p) (require (legal_value (kind_at (row_of k) p) (number_in k w p)) (refusal 6 (low p)) then kept ps) (kept ps)

  keep : (i : ℕ) (ps : List Place) → T (every (free (row_of k)) i ps) → judge_modifiers (row_of k) ps (map (number_in k w) ps) ≡ kept ps
  unfolding judge_modifiers kept free ◌then◌
  keep i [] t = refl
  keep i (p ∷ ps) t =
      go (tested p) (and_l (free (row_of k) i p) (every (free (row_of k)) (suc i) ps) t)
      (keep (suc i) ps (and_r (free (row_of k) i p) (every (free (row_of k)) (suc i) ps) t))
    where
      ok : Bool
      ok = legal_value (kind_at (row_of k) p) (number_in k w p)

      judged : Outcome Refusal (Unit {0})
      judged = judge_modifiers (row_of k) ps (map (number_in k w) ps)

      go : (b : Bool) → T (b || upto (2 ^ width (kind_at (row_of k) p)) (legal_value (kind_at (row_of k) p))) → judged ≡ kept ps
          → (require ok (refusal 6 (low p)) then judged) ≡ choose b (require ok (refusal 6 (low p)) then kept ps) (kept ps)
      go true u e = rw e
      go false u e = rw (T_true ok (upto_at _ (legal_value (kind_at (row_of k) p)) u (number_in k w p) (mod-lt _ (pow_pos (width (kind_at (row_of k) p)))))) e

pub modifiers_so : (k w : ℕ) (h : k < row_count) → judge_modifiers (row_of k) modifier_places (modifier_list (instruction_of k w).modifiers)
    ≡ (require (fair k w 0) (refusal 6 8)
    then require (fair k w 4) (refusal 6 26)
    then require (fair k w 5) (refusal 6 28)
    then require (fair k w 7) (refusal 6 32)
    then require (fair k w 10) (refusal 6 36)
    then require (fair k w 11) (refusal 6 37))
unfolding kept tested free_test
modifiers_so k w h = keep k w 0 modifier_places (at free_test rows no_row all_free k (in_table k h)) ∙ rw then_end
