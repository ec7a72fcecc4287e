-- Text at the front of a buffer: digits from the lowest up, and one text after another. Assumes nothing.
use mathlib.Core.Path.{◌≡◌, refl, sym, ap, ◌∙◌}
use mathlib.Core.List.{List, [], ◌∷◌, ◌++◌, append_assoc, append-nil}
use Prim.Native.Nat.{ℕ, zero, suc, ◌+◌, ◌-◌, ◌/◌, ◌%◌, ◌<◌, ◌≤◌}
use native.Mathlib.Omega.{arith}
use borrow.Author.Tests.{lt-ltb, le-ltb}
use lib.Dec.{eqb, ltb}
use mathlib.Core.Bool.{cond, not}
use Rattle.std.specs.Prelude.{Some, None}
use lib.ListN.{length, take, drop, set, length-append, length-set, length-drop}
use lib.Seq.{drop-cons, drop-set-lt, get_or-set_same, append_snoc, set_split, take_at, drop_at, take-length, drop-length, drop-drop}
use Rattle.std.specs.List.{position, position_or_len}
use Rattle.std.specs.Option.{unwrap_or}
use Rattle.std.proofs.lemmas.Bool.Decides.{nat_tests}
use Rattle.std.proofs.lemmas.List.Sums.{prefix_len-le-length}
use Rattle.std.proofs.lemmas.List.Recursion.{is_position_or_len}
use native.Mathlib.Numerals.{one-add}
use Rattle.rows.specs.Names.{before_space}
use Rattle.text.specs.Text.{digit, digits, digit_count, Put}

pub length_digits : (base k n : ℕ) → length (digits base k n) ≡ k
unfolding digits
length_digits base zero n = refl
length_digits base (suc k) n =
    let h : length (digits base k (n / base)) ≡ k = length_digits base k (n / base) in
    simp length-append (omega arith)

-- a digit is put in front of those that are there
pub digit_before : (base j rest : ℕ) (out : List ℕ) → j < length out
    → digits base j (rest / base) ++ drop j (set out j (digit (rest % base))) ≡ digits base (suc j) rest ++ drop (suc j) out
unfolding digits
digit_before base j rest out h =
    let d = digit (rest % base) in
    let l : j < length (set out j d) = simp length-set h in
    rw (drop-cons (set out j d) j 0 l, get_or-set_same out j d 0 h, drop-set-lt (suc j) out j d (omega arith), append_snoc (digits base j (rest / base)) d (drop (suc j) out))

-- how many digits a number is written with, digit by digit, where there is room for one more
module _ (base most k n : ℕ) (h : k < most) where
  more : most - k ≡ suc (most - suc k)
  more = omega arith

  pub last_digit : n < base → digit_count base (most - k) n ≡ 1
  unfolding digit_count
  last_digit l = rw (more, lt-ltb n base l)

  pub one_more : base ≤ n → digit_count base (most - k) n ≡ suc (digit_count base (most - suc k) (n / base))
  unfolding digit_count
  one_more l = rw (more, le-ltb n base l)

pub no_more : (base n : ℕ) {k : ℕ} → k ≡ 0 → digit_count base k n ≡ 0
unfolding digit_count
no_more base n e = rw e

pub put_one : (b : ℕ) (out : List ℕ) → 0 < length out → Put (b ∷ []) out (set out 0 b) 1
put_one b out h = record { counts = refl; fills = set_split out 0 b h }

-- one text after another: the second is put at the front of the part that starts where the first ends
module _ {x y before mid after : List ℕ} {at r : ℕ} (p : Put x before mid at) (q : Put y (take (length mid - at) (drop at mid)) after r) where
  abbrev rest : List ℕ
  rest = drop (length x) before

  from_there : drop at mid ≡ rest
  from_there = ap (drop at) p.fills ∙ drop_at x rest at (sym p.counts)

  as_long : length mid - at ≡ length rest
  as_long = sym (length-drop at mid) ∙ ap length from_there

  pub put_next : Put (x ++ y) before (take at mid ++ (after ++ drop (length mid - at) (drop at mid))) (at + r)
  put_next =
      let t : take at mid ≡ x = ap (take at) p.fills ∙ take_at x rest at (sym p.counts) in
      let d : take (length mid - at) (drop at mid) ≡ rest = rw (as_long, from_there) (take-length rest) in
      let n : drop (length mid - at) (drop at mid) ≡ [] = rw (as_long, from_there) (drop-length rest) in
      let f : after ≡ y ++ drop (length y) rest = rw d at q.fills in
      let l : length (x ++ y) ≡ length x + length y = length-append x y in
      record {
        counts = rw (p.counts, q.counts) (sym l);
        fills = rw (t, n, f, l, append-nil (y ++ drop (length y) rest), drop-drop (length y) (length x) before) (sym (append_assoc x y (drop (length x + length y) before)));
      }

pub length_put : {x before after : List ℕ} {r : ℕ} → Put x before after r → r ≤ length before → length after ≡ length before
length_put {x} {before} p h =
    let e : length x ≤ length before = rw p.counts at h in
    ap length p.fills ∙ simp (length-append, length-drop) (omega arith)

-- no text leaves a buffer as it is
pub put_nothing : {x : List ℕ} → x ≡ [] → (before : List ℕ) → Put x before before 0
put_nothing e before = rw e (record { counts = refl; fills = refl })

pub same_text : {x y before after : List ℕ} {r : ℕ} → x ≡ y → Put x before after r → Put y before after r
same_text e p = rw e at p

-- the text can be read back from the front
pub put_front : {x before after : List ℕ} {r : ℕ} → Put x before after r → take r after ≡ x
put_front {x} {before} {r = r} p = ap (take r) p.fills ∙ take_at x (drop (length x) before) r (sym p.counts)

pub put_room : {x before after : List ℕ} {r : ℕ} → Put x before after r → r ≤ length after
put_room {x} {before} p = rw p.fills (simp length-append (omega (arith, p.counts)))

-- the count up to a space is the place of the first one, or the length
found_or : (n len : ℕ) → n ≤ len → unwrap_or (cond (ltb n len) (Some n) None) len ≡ n
found_or n len h = grind (arith, nat_tests, unwrap_or)

first_space : (s : List ℕ) → before_space s ≡ position_or_len (λ b. eqb b 32) s
unfolding before_space
first_space = is_position_or_len before_space (λ b. eqb b 32) refl (λ _ xs. rw (one-add (before_space xs)))

pub space_within : (s : List ℕ) → before_space s ≤ length s
space_within s = rw (first_space s) (prefix_len-le-length (λ b. not (eqb b 32)) s)

pub space_at : (s : List ℕ) → unwrap_or (position (λ b. eqb b 32) s) (length s) ≡ before_space s
space_at s = found_or (position_or_len (λ b. eqb b 32) s) (length s) (prefix_len-le-length (λ b. not (eqb b 32)) s) ∙ sym (first_space s)
