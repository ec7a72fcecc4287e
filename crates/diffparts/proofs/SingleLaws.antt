-- Which line a part has. Assumes nothing.
use mathlib.Core.Path.{◌≡◌, sym}
use mathlib.Core.Bool.{true, false, ◌&&◌}
use mathlib.Core.List.{List}
use Prim.Native.Nat.{ℕ, ◌+◌, ◌-◌, ◌*◌, ◌/◌, ◌%◌, ◌<◌, ◌≤◌, max, min}
use native.Mathlib.Omega.{arith}
use borrow.Author.Tests.{lt-ltb, le-ltb, eq-eqb, ne_eqb}
use lib.Dec.{eqb}
use lib.ListN.{length, get_or}
use Rattle.container.specs.Formats.{most_instructions}
use Rattle.container.specs.Container.{version_of, count_of}
use Rattle.container.proofs.FormatLaws.{at_most}
use Rattle.container.proofs.OpeningLaws.{sized}
use Rattle.differences.specs.Sets.{low_and_high, sets_of}
use Rattle.differences.specs.Differences.{removed_line, added_line, entry_line, note_line}
use Rattle.differences.proofs.SetLaws.{by_sets, one_set, two_sets}
use Rattle.diffparts.specs.Served.Parts.{Counted, longer, set_count, set_line, set_part, single_lines}

-- at least one set is compared, and no more than two
pub some_sets : (v w : ℕ) → (0 < length (sets_of v w)) × (length (sets_of v w) ≤ 2)
some_sets = by_sets (λ (ks : List ℕ). (0 < length ks) × (length ks ≤ 2)) (omega arith, omega arith) (omega arith, omega arith)

-- no container has more instructions
pub few : {a b : List ℕ} {n m : ℕ} → Counted a n b m → (max n m ≤ most_instructions) × (min n m ≤ most_instructions)
few {a} {b} k =
    let x = (sized a k.both.first.opens).few in
    let y = (sized b k.both.second.opens).few in
    (omega (arith, k.first_count, k.second_count, x, y), omega (arith, k.first_count, x))

-- so the parts are few
pub small : {a b : List ℕ} {n m x s y : ℕ} (v w : ℕ) → Counted a n b m → x ≡ max n m → s ≡ length (sets_of v w) → y ≡ min n m
    → (x ≤ 2048) × (s * (y + 1) ≤ 2 * 2049) × (y ≤ 2048)
small v w k ex es ey =
    let f = few k in
    let t = some_sets v w in
    (omega (arith, f, ex), at_most 2 2049 (omega (arith, t, es)) (omega (arith, f, ey)), omega (arith, f, ey))

module _ (a b : List ℕ) where
  abbrev n : ℕ
  n = count_of a

  abbrev m : ℕ
  m = count_of b

  pub at_removed : (p : ℕ) → p < n → removed_line a p ≡ single_lines a b p
  unfolding single_lines
  at_removed p h = sym (rw (lt-ltb p n h))

  pub at_added : (p : ℕ) → n ≤ p → p < m → added_line b p ≡ single_lines a b p
  unfolding single_lines
  at_added p l h = sym (rw (le-ltb p n l, lt-ltb p m h))

  pub at_set : (p : ℕ) → n ≤ p → m ≤ p → set_part a b (p - longer a b) ≡ single_lines a b p
  unfolding single_lines
  at_set p l k = sym (rw (le-ltb p n l, le-ltb p m k))

  -- a set of the entry sets, or of an annotation
  pub at_entry : (j k : ℕ) → j ≡ 0 → entry_line a b k ≡ set_line a b j k
  unfolding set_line
  at_entry j k e = sym (rw (eq-eqb j 0 e))

  pub at_note : (j k : ℕ) → (j ≡ 0 → ⊥) → note_line a b (j - 1) k ≡ set_line a b j k
  unfolding set_line
  at_note j k e = sym (rw (ne_eqb j 0 e))

  -- part q of the sets, by how many are compared
  module _ (q : ℕ) where
    pub of_one_set : (eqb (version_of a) 1 && eqb (version_of b) 1) ≡ true → set_line a b q 0 ≡ set_part a b q
    unfolding set_part
    of_one_set e =
        let s : q / 1 ≡ q = omega arith in
        let t : q % 1 ≡ 0 = omega arith in
        rw (one_set (version_of a) (version_of b) e, s, t)

    pub of_two_sets : (eqb (version_of a) 1 && eqb (version_of b) 1) ≡ false → set_line a b (q / 2) (get_or low_and_high (q % 2) 0) ≡ set_part a b q
    unfolding set_part
    of_two_sets e = rw (two_sets (version_of a) (version_of b) e)

    -- and what it is of
    pub below_one : {k : ℕ} → (eqb (version_of a) 1 && eqb (version_of b) 1) ≡ true → q < set_count a b * (k + 1) → q ≤ k
    below_one e h = omega (arith, rw (one_set (version_of a) (version_of b) e) at h)

    pub below_two : {k : ℕ} → (eqb (version_of a) 1 && eqb (version_of b) 1) ≡ false → q < set_count a b * (k + 1) → q / 2 ≤ k
    below_two e h = omega (arith, rw (two_sets (version_of a) (version_of b) e) at h)
