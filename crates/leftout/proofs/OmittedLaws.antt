-- What is left out, entry by entry: the name that a word has, and what the code's tables say. Assumes nothing.
use mathlib.Core.Path.{◌≡◌, refl, sym, ap, ◌∙◌, subst}
use mathlib.Core.Bool.{Bool, true, false, cond, not, ◌&&◌}
use mathlib.Core.List.{List, [], ◌∷◌, ◌++◌, map}
use Prim.Native.Nat.{ℕ, zero, suc, ◌+◌, ◌-◌, ◌*◌, ◌<◌, ◌≤◌}
use native.Mathlib.Nat.{not-suc-le-zero, le_of_suc-le-suc}
use native.Mathlib.Omega.{arith}
use lib.Dec.{T, eqb, leb, ltb, eqb→eq, leb→le}
use lib.ListN.{length, take, drop, get_or, replicate, length-append, length-replicate, length-map, get_or-eq_default}
use lib.Seq.{take_at, drop_at, drop-drop}
use native.Mathlib.Numerals.{one-add}
use Rattle.std.specs.Prelude.{Some, None}
use Rattle.std.proofs.lemmas.Bool.Decides.{nat_tests}
use Rattle.std.specs.List.{position, position_or_len}
use Rattle.bits.specs.Fields.{bits, choose}
use Rattle.bits.proofs.Every.{every, at, and_l, and_r}
use Rattle.rows.specs.Names.{ascii}
use Rattle.leftout.specs.Omitted.{Omitted, omitted, omitted_at, omitted_count, longest_omitted, none}
use Rattle.leftout.specs.LeftOut.{fits, first_name, left_out}
use Rattle.leftout.specs.Served.Tables.{omitted_name, key_of, key_fits, key_table, filled, joined, name_text, before_filling, unfilled}

count_omitted : length omitted ≡ omitted_count
unfolding omitted
count_omitted = refl

pub in_omitted : (k : ℕ) → k < omitted_count → k < length omitted
in_omitted k h = subst (λ (n : ℕ). k < n) (sym count_omitted) h

pub no_name : (k : ℕ) → omitted_count ≤ k → omitted_name k ≡ []
unfolding ascii
no_name k h = ap (λ (o : Omitted). ascii o.name) (get_or-eq_default omitted none (omega (arith, count_omitted)))

-- ---- keys

-- what an entry is known by is found again in its key
told : ℕ → Omitted → Bool
told k o =
    eqb (bits (key_of o) 0 9) o.opcode && eqb (bits (key_of o) 18 4) o.second
    && (eqb (bits (key_of o) 9 6) o.second_low && eqb (bits (key_of o) 15 3) o.second_width)

all_told : T (every told 0 omitted)
unfolding told omitted
all_told = tt

key_told : (w k : ℕ) (o : Omitted) → T (told k o) → key_fits (key_of o) w ≡ fits o w
unfolding told
key_told w k o t =
    let a = eqb (bits (key_of o) 0 9) o.opcode in
    let b = eqb (bits (key_of o) 18 4) o.second in
    let c = eqb (bits (key_of o) 9 6) o.second_low in
    let d = eqb (bits (key_of o) 15 3) o.second_width in
    let l = and_l (a && b) (c && d) t in
    let r = and_r (a && b) (c && d) t in
    let ea : bits (key_of o) 0 9 ≡ o.opcode = eqb→eq _ _ (and_l a b l) in
    let eb : bits (key_of o) 18 4 ≡ o.second = eqb→eq _ _ (and_r a b l) in
    let ec : bits (key_of o) 9 6 ≡ o.second_low = eqb→eq _ _ (and_l c d r) in
    let ed : bits (key_of o) 15 3 ≡ o.second_width = eqb→eq _ _ (and_r c d r) in
    rw (ea, eb, ec, ed)

-- what a position says of the place
placed : (n len k : ℕ) → cond (ltb n len) (Some n) None ≡ Some k → (k ≡ n) × (n < len)
placed n len k e = (grind (arith, nat_tests), grind (arith, nat_tests))

unplaced : (n len : ℕ) → cond (ltb n len) (Some n) None ≡ None → len ≤ n
unplaced n len e = grind (arith, nat_tests)

-- the name of a word is that of the first entry whose key it fits
module _ (w : ℕ) where
  abbrev by_key : ℕ → Bool
  by_key key = key_fits key w

  first_at : (os : List Omitted) (i : ℕ) → T (every told i os) → first_name os w ≡ ascii (get_or os (position_or_len by_key (map key_of os)) none).name
  unfolding first_name ascii
  first_at [] i t = refl
  first_at (o ∷ os) i t =
      let e = key_told w i o (and_l (told i o) (every told (suc i) os) t) in
      let r = first_at os (suc i) (and_r (told i o) (every told (suc i) os) t) in
      rw e (elim (fits o w) as (λ b. choose b (ascii o.name) (first_name os w) ≡ ascii (get_or (o ∷ os) (cond (not b) (1 + position_or_len by_key (map key_of os)) 0) none).name) [
        | true ↦ refl
        | false ↦ rw (one-add (position_or_len by_key (map key_of os))) r
      ])

  first : left_out w ≡ omitted_name (position_or_len by_key key_table)
  unfolding key_table
  first = first_at omitted 0 all_told

  keys_counted : length key_table ≡ omitted_count
  unfolding key_table
  keys_counted = simp length-map count_omitted

  pub fitting : (k : ℕ) → position by_key key_table ≡ Some k → (k < omitted_count) × (left_out w ≡ omitted_name k)
  fitting k e =
      let n = position_or_len by_key key_table in
      let q = placed n (length key_table) k e in
      (omega (arith, keys_counted, q.0, q.1), rw q.0 first)

  pub fitting_none : position by_key key_table ≡ None → left_out w ≡ []
  fitting_none e =
      let n = position_or_len by_key key_table in
      first ∙ no_name n (omega (arith, keys_counted, unplaced n (length key_table) e))

-- ---- names

-- a name does not end with a space, and is not longer than its place
named : ℕ → Omitted → Bool
named k o = eqb (before_filling (filled (ascii o.name))) (length (ascii o.name)) && leb (length (ascii o.name)) longest_omitted

all_named : T (every named 0 omitted)
unfolding named before_filling ascii omitted
all_named = tt

module _ (k : ℕ) (o : Omitted) (t : T (named k o)) where
  abbrev s : List ℕ
  s = ascii o.name

  short : length s ≤ longest_omitted
  unfolding named
  short = leb→le (length s) longest_omitted (and_r (eqb (before_filling (filled s)) (length s)) (leb (length s) longest_omitted) t)

  length_filled : length (filled s) ≡ longest_omitted
  length_filled = simp (length-append, length-replicate) (omega (arith, short))

  again : unfilled (filled s) ≡ s
  unfolding named unfilled
  again =
      let e = eqb→eq (before_filling (filled s)) (length s) (and_l (eqb (before_filling (filled s)) (length s)) (leb (length s) longest_omitted) t) in
      ap (λ (n : ℕ). take n (filled s)) e ∙ take_at s (replicate (longest_omitted - length s) 32) (length s) refl

-- where name k of some stands
block : (os : List Omitted) (i k : ℕ) → T (every named i os) → k < length os
    → take longest_omitted (drop (k * longest_omitted) (joined os)) ≡ filled (ascii (get_or os k none).name)
block [] i k t h = absurd (not-suc-le-zero h)
block (o ∷ os) i zero t h = take_at (filled (ascii o.name)) (joined os) longest_omitted (length_filled i o (and_l (named i o) (every named (suc i) os) t))
block (o ∷ os) i (suc k) t h =
    let f = filled (ascii o.name) in
    let e : suc k * longest_omitted ≡ longest_omitted + k * longest_omitted = omega arith in
    let d = drop_at f (joined os) longest_omitted (length_filled i o (and_l (named i o) (every named (suc i) os) t)) in
    rw (e, ← drop-drop (k * longest_omitted) longest_omitted (f ++ joined os), d) (block os (suc i) k (and_r (named i o) (every named (suc i) os) t) (le_of_suc-le-suc h))

-- as it is read from the code's table
module _ {text : List ℕ} (k : ℕ) (e : text ≡ name_text) (h : k < omitted_count) where
  pub name_read : unfilled (take longest_omitted (drop (k * longest_omitted) text)) ≡ omitted_name k
  unfolding name_text
  name_read =
      let l = in_omitted k h in
      ap (λ (t : List ℕ). unfilled (take longest_omitted (drop (k * longest_omitted) t))) e
      ∙ ap unfilled (block omitted 0 k all_named l)
      ∙ again k (omitted_at k) (at named omitted none all_named k l)
