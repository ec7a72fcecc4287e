-- Names are handed out as they are: one test over the rows. Assumes nothing.
use Rattle.std.specs.Prelude.{Option, Some, None}
use Rattle.std.specs.Option.{unwrap_or}
use Rattle.std.specs.List.{position_or_len}
use mathlib.Core.Path.{◌≡◌, refl, sym, ap, ◌∙◌}
use mathlib.Core.Bool.{Bool, true, false, not, cond}
use mathlib.Core.List.{List, [], ◌∷◌, map}
use Prim.Native.Nat.{ℕ, suc, ◌+◌, ◌-◌, ◌*◌, ◌<◌, ◌≤◌}
use native.Mathlib.Omega.{arith}
use lib.Dec.{T, eqb, ltb, eqb→eq}
use lib.ListN.{length, get_or, drop, length-map, get_or-eq_default}
use lib.Seq.{drop-cons, drop-length, get_or-take, get_or-drop}
use borrow.Author.Tests.{eq-eqb, ne_eqb, ltb-false}
use Rattle.bits.specs.Fields.{choose}
use Rattle.bits.proofs.Every.{every, at}
use Rattle.rows.specs.Rows.{Row, rows, row_of, no_row, row_count}
use Rattle.rows.specs.Names.{ascii, name_of, name_width, filled, name, names, before_space}
use Rattle.rows.proofs.TableLaws.{in_table, count_rows, get_or_map_in}
use Rattle.rows.proofs.FlatLaws.{sized, part, part_is}

-- the count up to a space, byte by byte
module _ (s : List ℕ) (i : ℕ) (h : i < length s) where
  pub space_here : get_or s i 0 ≡ 32 → before_space (drop i s) ≡ 0
  unfolding before_space
  space_here e = rw (drop-cons s i 0 h, eq-eqb (get_or s i 0) 32 e)

  pub no_space : (get_or s i 0 ≡ 32 → ⊥) → before_space (drop i s) ≡ suc (before_space (drop (suc i) s))
  unfolding before_space
  no_space n = rw (drop-cons s i 0 h, ne_eqb (get_or s i 0) 32 n)

pub space_end : (s : List ℕ) (i : ℕ) → length s ≡ i → before_space (drop i s) ≡ 0
unfolding before_space
space_end s i e = rw (← e, drop-length s)

-- the first space is where `position` finds it
abbrev pub is_space : ℕ → Bool
is_space b = eqb b 32

before_is : (s : List ℕ) → position_or_len is_space s ≡ before_space s
unfolding before_space
before_is [] = refl
before_is (b ∷ s) = go (eqb b 32) (before_is s)
  where
    go : (t : Bool) → position_or_len is_space s ≡ before_space s → cond (not t) (1 + position_or_len is_space s) 0 ≡ choose t 0 (suc (before_space s))
    go true e = refl
    go false e = omega arith

before_le : (s : List ℕ) → before_space s ≤ length s
unfolding before_space
before_le [] = omega arith
before_le (b ∷ s) = go (eqb b 32) (before_le s)
  where
    go : (t : Bool) → before_space s ≤ length s → choose t 0 (suc (before_space s)) ≤ suc (length s)
    go true l = omega arith
    go false l = omega arith

pub before_found : (s : List ℕ) {r : Option ℕ} {n : ℕ} → length s ≡ n
    → r ≡ cond (ltb (position_or_len is_space s) (length s)) (Some (position_or_len is_space s)) None → unwrap_or r n ≡ before_space s
before_found s {r} {n} h e = ap (λ (o : Option ℕ). unwrap_or o n) e ∙ go (ltb (position_or_len is_space s) (length s)) refl
  where
    go : (t : Bool) → ltb (position_or_len is_space s) (length s) ≡ t
        → unwrap_or (cond t (Some (position_or_len is_space s)) None) n ≡ before_space s
    go true q = before_is s
    go false q = omega (arith, h, before_is s, before_le s, ltb-false (position_or_len is_space s) (length s) q)

-- a name has no space in it
test : ℕ → Row → Bool
test k r = eqb (before_space (filled (ascii r.name))) (length (ascii r.name))

all_names : T (every test 0 rows)
unfolding test before_space ascii rows
all_names = tt

-- each has its place in the table
abbrev line : Row → List ℕ
line r = filled (ascii r.name)

all_long : T (every (sized name_width) 0 (map line rows))
unfolding ascii rows
all_long = tt

module _ (k : ℕ) (h : k < row_count) where
  in_lines : k < length (map line rows)
  in_lines = rw length-map (in_table k h)

  line_is : get_or (map line rows) k [] ≡ filled (name_of k)
  line_is = get_or_map_in line rows k no_row [] (in_table k h)

  pub name_in : part name_width k names ≡ filled (name_of k)
  unfolding names
  name_in = part_is name_width (map line rows) k all_long in_lines ∙ line_is

  pub name_long : length (filled (name_of k)) ≡ name_width
  name_long = sym (ap length line_is) ∙ eqb→eq (length (get_or (map line rows) k [])) name_width (at (sized name_width) (map line rows) [] all_long k in_lines)

  pub byte_in : (i : ℕ) → i < name_width → get_or names (k * name_width + i) 0 ≡ get_or (filled (name_of k)) i 0
  byte_in i l =
      let m = k * name_width in
      sym (get_or-drop m names i 0)
      ∙ sym (get_or-take (m + name_width - m) (drop m names) i 0 (omega arith))
      ∙ ap (λ (s : List ℕ). get_or s i 0) name_in

pub name_there : (k : ℕ) {s : List ℕ} {n : ℕ} → k < row_count → s ≡ filled (name_of k) → n ≡ before_space s → record { bytes = s; len = n } ≡ name k
unfolding name test
name_there k {s} {n} h e q =
    let l = eqb→eq (before_space (filled (name_of k))) (length (name_of k)) (at test rows no_row all_names k (in_table k h)) in
    λ j. record { bytes = e j; len = (q ∙ ap before_space e ∙ l) j }

pub no_name : (k : ℕ) → row_count ≤ k → row_of k ≡ no_row
no_name k h = get_or-eq_default rows no_row (omega (arith, count_rows))
