-- The tables of names and kinds say what the definitions say. Assumes nothing.
use mathlib.Core.Path.{◌≡◌, refl, sym, ap, ap₂, subst, ◌∙◌}
use mathlib.Core.Bool.{Bool, true, false, ◌&&◌}
use mathlib.Core.List.{List, [], ◌∷◌, map}
use Prim.Native.Nat.{ℕ, ◌+◌, ◌-◌, ◌*◌, ◌<◌, ◌≤◌}
use native.Mathlib.Omega.{arith}
use lib.Dec.{T, leb, eqb, leb→le, eqb→eq}
use lib.ListN.{length, take, drop, get_or, replicate, length-append, length-map, length-replicate, get_or-eq_default}
use lib.Seq.{take_at, get_or-take, get_or-drop}
use Rattle.bits.proofs.Every.{every, at, and_l, and_r, alike, alike_eq}
use Rattle.bits.specs.Fields.{choose}
use Rattle.rows.specs.Kinds.{Kind, absent, negate, absolute, conservative, eq, ftz, flush_inf, saturate, round_mode, result_type, clamp, lane_8, lane_16, widen, swizzle_half, swizzle_32, swizzle_16, swizzle_8, half_swizzle, condition, integer_condition, mux, combine, nan_mode, source, offset, second, register, half_mask, opcode, page, flow}
use Rattle.rows.specs.Names.{ascii, before_space}
use Rattle.rows.specs.Sources.{Special, reserved as reserved_constant, pages, special_at}
use Rattle.rows.specs.Rows.{rows, row_of, no_row, row_count}
use Rattle.rows.specs.Layout.{modifier_at}
use Rattle.rows.proofs.TableLaws.{get_or_map_in, in_table}
use Rattle.rows.proofs.FlatLaws.{sized, part, part_is}
use Rattle.rows.proofs.NameLaws.{no_name}
use Rattle.text.specs.Text.{unpadded, number_text, digits, digit_count}
use Rattle.fieldtext.specs.Enumerations.{Value, own, sign, swizzle, reserved, enumeration, value_text, field_text, owner, is, special_text, value_width, special_width}
use Rattle.fieldtext.specs.Served.Coded.{kinds, kind_number, fill, value_names, name_list, value_list, name_starts, name_counts, sixteen, row_kinds, kind_table, special_list, special_table, coded_value}

-- a text that has no space and is not longer than its place is found again in it
clean : ℕ → List ℕ → Bool
clean n s = eqb (before_space (fill n s)) (length s) && leb (length s) n

-- a text in a place of n bytes, with spaces after it
pub record Holds (n : ℕ) (place text : List ℕ) : Type 0 where
  pub long : length place ≡ n
  pub again : unpadded place ≡ text

filled : (n : ℕ) (s : List ℕ) → T (clean n s) → Holds n (fill n s) s
unfolding clean unpadded
filled n s t =
    let e = eqb→eq (before_space (fill n s)) (length s) (and_l (eqb (before_space (fill n s)) (length s)) (leb (length s) n) t) in
    let l = leb→le (length s) n (and_r (eqb (before_space (fill n s)) (length s)) (leb (length s) n) t) in
    record {
      long = simp (length-append, length-replicate) (omega (arith, l));
      again = ap (λ (k : ℕ). take k (fill n s)) e ∙ take_at s (replicate (n - length s) 32) (length s) refl;
    }

-- ---- the names of values

named : ℕ → Value → Bool
named i v = clean value_width (value_text v)

alike_all : List (List ℕ) → List (List ℕ) → Bool
alike_all [] [] = true
alike_all [] (y ∷ ys) = false
alike_all (x ∷ xs) [] = false
alike_all (x ∷ xs) (y ∷ ys) = alike x y && alike_all xs ys

-- the names of the kind with number m stand where they are said to, and are clean
told : ℕ → Kind → Bool
told m k =
    every named 0 (enumeration k)
    && alike_all (take (length (enumeration k)) (drop (get_or name_starts m 0) name_list)) (value_names k)

all_told : T (every told 0 kinds)
unfolding told named clean alike_all name_list before_space ascii
all_told = tt

alike_all_eq : (xs ys : List (List ℕ)) → T (alike_all xs ys) → xs ≡ ys
unfolding alike_all
alike_all_eq [] [] t = refl
alike_all_eq [] (y ∷ ys) t = absurd t
alike_all_eq (x ∷ xs) [] t = absurd t
alike_all_eq (x ∷ xs) (y ∷ ys) t =
    ap₂ (λ (a : List ℕ) (l : List (List ℕ)). a ∷ l) (alike_eq x y (and_l (alike x y) (alike_all xs ys) t)) (alike_all_eq xs ys (and_r (alike x y) (alike_all xs ys) t))

counted : ℕ → Kind → Bool
counted m k = eqb (get_or name_counts m 0) (length (enumeration k))

all_counted : T (every counted 0 kinds)
unfolding counted
all_counted = tt

-- the names of all kinds end where the list ends
placed : ℕ → Kind → Bool
placed m k = leb (get_or name_starts m 0 + get_or name_counts m 0) 125

all_placed : T (every placed 0 kinds)
unfolding placed
all_placed = tt

pub starts_fit : (m : ℕ) → m < 26 → get_or name_starts m 0 + get_or name_counts m 0 ≤ 125
unfolding placed
starts_fit m h = leb→le (get_or name_starts m 0 + get_or name_counts m 0) 125 (at placed kinds absent all_placed m h)

-- each has its place
as_long : T (every (sized value_width) 0 name_list)
unfolding name_list ascii
as_long = tt

count_names : length name_list ≡ 125
unfolding name_list
count_names = refl

-- the name of value v of the kind with number m
module _ (m v : ℕ) (h : m < 26) where
  abbrev k : Kind
  k = get_or kinds m absent

  count_is : get_or name_counts m 0 ≡ length (enumeration k)
  unfolding counted
  count_is = eqb→eq (get_or name_counts m 0) (length (enumeration k)) (at counted kinds absent all_counted m h)

  both_told : T (told m k)
  both_told = at told kinds absent all_told m h

  module _ (l : v < get_or name_counts m 0) where
    within : v < length (enumeration k)
    within = rw count_is at l

    name_is : get_or name_list (get_or name_starts m 0 + v) [] ≡ fill value_width (coded_value m v)
    unfolding told coded_value
    name_is =
        let s = get_or name_starts m 0 in
        let n = length (enumeration k) in
        let e = alike_all_eq (take n (drop s name_list)) (value_names k) (and_r (every named 0 (enumeration k)) (alike_all (take n (drop s name_list)) (value_names k)) both_told) in
        sym (get_or-drop s name_list v [])
        ∙ sym (get_or-take n (drop s name_list) v [] within)
        ∙ ap (λ (x : List (List ℕ)). get_or x v []) e
        ∙ get_or_map_in (λ (x : Value). fill value_width (value_text x)) (enumeration k) v reserved [] within

    name_filled : Holds value_width (fill value_width (coded_value m v)) (coded_value m v)
    unfolding told named coded_value
    name_filled =
        let s = get_or name_starts m 0 in
        let n = length (enumeration k) in
        filled value_width (value_text (get_or (enumeration k) v reserved))
        (at named (enumeration k) reserved (and_l (every named 0 (enumeration k)) (alike_all (take n (drop s name_list)) (value_names k)) both_told) v within)

    -- as it is read from a table that is lent
    pub value_read : {names : List ℕ} → names ≡ value_list → Holds value_width (part value_width (get_or name_starts m 0 + v) names) (coded_value m v)
    unfolding value_list
    value_read e =
        let j = get_or name_starts m 0 + v in
        rw (e, part_is value_width name_list j as_long (omega (arith, starts_fit m h, count_names)), name_is) name_filled

  -- past the last value
  pub no_value : get_or name_counts m 0 ≤ v → coded_value m v ≡ ascii ".?"
  unfolding coded_value
  no_value l = ap value_text (get_or-eq_default (enumeration k) reserved (rw count_is at l))

-- ---- the kinds of a row's modifiers

kinds_long : T (every (sized 14) 0 (map row_kinds rows))
unfolding rows
kinds_long = tt

-- as they are read from the code's table
pub row_kinds_read : {table : List ℕ} (k : ℕ) → table ≡ kind_table → k < row_count → part 14 k table ≡ row_kinds (row_of k)
unfolding kind_table
row_kinds_read k e h =
    let l = in_table k h in
    ap (part 14 k) e ∙ part_is 14 (map row_kinds rows) k kinds_long (rw length-map l) ∙ get_or_map_in row_kinds rows k no_row [] l

pub no_row_kinds : (k : ℕ) → row_count ≤ k → row_kinds (row_of k) ≡ replicate 14 0
unfolding modifier_at
no_row_kinds k h = ap row_kinds (no_name k h)

-- ---- the names of special constants

same_number : ℕ → ℕ → Bool
same_number j x = eqb x j

sixteen_in : T (every same_number 0 sixteen)
unfolding same_number
sixteen_in = tt

four : List ℕ
four = 0 ∷ 1 ∷ 2 ∷ 3 ∷ []

four_in : T (every same_number 0 four)
unfolding same_number four
four_in = tt

constant_named : ℕ → ℕ → ℕ → Bool
constant_named p j i =
    clean special_width (special_text (special_at p i))
    && alike (get_or special_list (p * 16 + i) []) (fill special_width (special_text (special_at p i)))

page_named : ℕ → ℕ → Bool
page_named j p = every (constant_named p) 0 sixteen

pages_named : T (every page_named 0 four)
unfolding page_named constant_named clean four special_list before_space ascii number_text digits digit_count
pages_named = tt

specials_long : T (every (sized special_width) 0 special_list)
unfolding special_list ascii number_text digits digit_count
specials_long = tt

count_specials : length special_list ≡ 64
unfolding special_list
count_specials = refl

pub no_page : (p i : ℕ) → 4 ≤ p → special_text (special_at p i) ≡ ascii "?"
no_page p i h = ap (λ (l : List Special). special_text (get_or l i reserved_constant)) (get_or-eq_default pages [] h)

-- no page has more than 16
of_16 : ℕ → List Special → Bool
of_16 j l = leb (length l) 16

all_of_16 : T (every of_16 0 pages)
unfolding of_16
all_of_16 = tt

pub no_special : (p i : ℕ) → p < 4 → 16 ≤ i → special_text (special_at p i) ≡ ascii "?"
unfolding of_16
no_special p i hp hi =
    let l = leb→le (length (get_or pages p [])) 16 (at of_16 pages [] all_of_16 p hp) in
    ap special_text (get_or-eq_default (get_or pages p []) reserved_constant (omega (arith, l)))

module _ (p i : ℕ) (hp : p < 4) (hi : i < 16) where
  p_is : get_or four p 0 ≡ p
  unfolding same_number four
  p_is = eqb→eq (get_or four p 0) p (at same_number four 0 four_in p hp)

  i_is : get_or sixteen i 0 ≡ i
  unfolding same_number
  i_is = eqb→eq (get_or sixteen i 0) i (at same_number sixteen 0 sixteen_in i hi)

  abbrev text : List ℕ
  text = special_text (special_at p i)

  both_named : T (clean special_width text && alike (get_or special_list (p * 16 + i) []) (fill special_width text))
  unfolding page_named constant_named four
  both_named =
      subst (λ (j : ℕ). T (constant_named p i j)) i_is
      (at (constant_named p) sixteen 0 (subst (λ (q : ℕ). T (every (constant_named q) 0 sixteen)) p_is (at page_named four 0 pages_named p hp)) i hi)

  -- as it is read from the code's table
  pub special_read : {names : List ℕ} → names ≡ special_table → Holds special_width (part special_width (p * 16 + i) names) text
  unfolding special_table
  special_read e =
      let c = clean special_width text in
      let a = alike (get_or special_list (p * 16 + i) []) (fill special_width text) in
      let f = alike_eq (get_or special_list (p * 16 + i) []) (fill special_width text) (and_r c a both_named) in
      rw (e, part_is special_width special_list (p * 16 + i) specials_long (omega (arith, count_specials)), f) (filled special_width text (and_l c a both_named))

-- ---- whose a kind is, by its number

pub record Coded (k : Kind) (v : ℕ) : Type 0 where
  pub as_own : choose (leb 1 (kind_number k) && leb (kind_number k) 12) (coded_value (kind_number k) v) [] ≡ choose (is own (owner k)) (field_text k v) []
  pub as_sign : choose (leb 13 (kind_number k) && leb (kind_number k) 14) (coded_value (kind_number k) v) [] ≡ choose (is sign (owner k)) (field_text k v) []
  pub as_swizzle : choose (leb 15 (kind_number k) && leb (kind_number k) 23) (coded_value (kind_number k) v) [] ≡ choose (is swizzle (owner k)) (field_text k v) []

pub coded : (k : Kind) (v : ℕ) → Coded k v
unfolding coded_value
coded absent v = record { as_own = refl; as_sign = refl; as_swizzle = refl }
coded negate v = record { as_own = refl; as_sign = refl; as_swizzle = refl }
coded absolute v = record { as_own = refl; as_sign = refl; as_swizzle = refl }
coded conservative v = record { as_own = refl; as_sign = refl; as_swizzle = refl }
coded eq v = record { as_own = refl; as_sign = refl; as_swizzle = refl }
coded ftz v = record { as_own = refl; as_sign = refl; as_swizzle = refl }
coded flush_inf v = record { as_own = refl; as_sign = refl; as_swizzle = refl }
coded saturate v = record { as_own = refl; as_sign = refl; as_swizzle = refl }
coded round_mode v = record { as_own = refl; as_sign = refl; as_swizzle = refl }
coded result_type v = record { as_own = refl; as_sign = refl; as_swizzle = refl }
coded clamp v = record { as_own = refl; as_sign = refl; as_swizzle = refl }
coded lane_8 v = record { as_own = refl; as_sign = refl; as_swizzle = refl }
coded lane_16 v = record { as_own = refl; as_sign = refl; as_swizzle = refl }
coded widen v = record { as_own = refl; as_sign = refl; as_swizzle = refl }
coded swizzle_half v = record { as_own = refl; as_sign = refl; as_swizzle = refl }
coded swizzle_32 v = record { as_own = refl; as_sign = refl; as_swizzle = refl }
coded swizzle_16 v = record { as_own = refl; as_sign = refl; as_swizzle = refl }
coded swizzle_8 v = record { as_own = refl; as_sign = refl; as_swizzle = refl }
coded half_swizzle v = record { as_own = refl; as_sign = refl; as_swizzle = refl }
coded condition v = record { as_own = refl; as_sign = refl; as_swizzle = refl }
coded integer_condition v = record { as_own = refl; as_sign = refl; as_swizzle = refl }
coded mux v = record { as_own = refl; as_sign = refl; as_swizzle = refl }
coded combine v = record { as_own = refl; as_sign = refl; as_swizzle = refl }
coded nan_mode v = record { as_own = refl; as_sign = refl; as_swizzle = refl }
coded source v = record { as_own = refl; as_sign = refl; as_swizzle = refl }
coded offset v = record { as_own = refl; as_sign = refl; as_swizzle = refl }
coded (second n) v = record { as_own = refl; as_sign = refl; as_swizzle = refl }
coded register v = record { as_own = refl; as_sign = refl; as_swizzle = refl }
coded half_mask v = record { as_own = refl; as_sign = refl; as_swizzle = refl }
coded opcode v = record { as_own = refl; as_sign = refl; as_swizzle = refl }
coded page v = record { as_own = refl; as_sign = refl; as_swizzle = refl }
coded flow v = record { as_own = refl; as_sign = refl; as_swizzle = refl }
