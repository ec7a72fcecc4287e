-- How many lines the list has at most. Assumes nothing.
use mathlib.Core.Path.{◌≡◌, subst}
use mathlib.Core.Bool.{Bool, true, false}
use mathlib.Core.List.Memᴰ
use mathlib.Core.List.{List, [], ◌∷◌, ◌++◌, Memᴰ}
use Prim.Native.Nat.{ℕ, zero, suc, ◌+◌, ◌-◌, ◌*◌, ◌/◌, ◌%◌, ◌<◌, ◌≤◌, min}
use native.Mathlib.Nat.{mul-zero, mul-suc, le_refl, add-le-add}
use native.Mathlib.Omega.{arith}
use lib.Dec.{eqb, ltb}
use lib.ListN.{length, get_or, length-append}
use Rattle.bits.specs.Fields.{choose}
use Rattle.container.specs.Formats.{most_instructions}
use Rattle.container.specs.Container.{version_of, count_of, entry_of}
use Rattle.container.proofs.FormatLaws.{at_most}
use Rattle.container.proofs.OpeningLaws.{sized}
use Rattle.differences.specs.declared.line.What.{What}
use Rattle.differences.specs.declared.line.What.TheVariants.{Entry, Annotation, Version}
use Rattle.differences.specs.declared.line.Line.{Line}
use Rattle.differences.specs.Records.{fields, field_count, contents}
use Rattle.differences.specs.Differences.{line, instruction_of, where_differs, field_lines, lines_from, lines_of, shared, version_lines, instruction_lines, removed_line, added_line, extra_lines, entry_line, note_line, entry_lines, note_lines, content_lines, differences}
use Rattle.differences.specs.Sets.{compared, note_of, set_in}
use Rattle.differences.specs.Numbers.{most_lines}
use Rattle.differences.specs.Asked.{Differs, at_version, at_field, at_removed, at_added, at_entry, at_note}
use Rattle.diffparts.specs.Served.Parts.{Both, longer, set_count, part_count, set_line, set_part, single_lines, singles_from}
use Rattle.differences.proofs.ListLaws.{member_from}
use Rattle.differences.proofs.DiffersLaws.{fields_length, listed_differs, in_version, in_content}
use Rattle.diffparts.proofs.SingleLaws.{some_sets}
use Rattle.diff.proofs.WalkLaws.{two_parts}

pub differs_few : (w : What) (i x y : ℕ) → length (where_differs w i x y) ≤ 1
differs_few w i x y = go (eqb x y)
  where
    go : (t : Bool) → length (choose t [] (line w i x y ∷ [])) ≤ 1
    go true = omega arith
    go false = omega arith

fields_few : (i : ℕ) (ws : List What) (xs ys : List ℕ) → length (field_lines i ws xs ys) ≤ length ws
unfolding field_lines
fields_few i (w ∷ ws) (x ∷ xs) (y ∷ ys) =
    let r = fields_few i ws xs ys in
    let d = differs_few w i x y in
    let e = length-append (where_differs w i x y) (field_lines i ws xs ys) in
    omega (arith, r, d, e)
fields_few i [] xs ys = omega arith
fields_few i (w ∷ ws) [] ys = omega arith
fields_few i (w ∷ ws) (x ∷ xs) [] = omega arith

pub from_few : (f : ℕ → List Line) (b : ℕ) → ((j : ℕ) → length (f j) ≤ b) → (n i : ℕ) → length (lines_from f i n) ≤ b * n
unfolding lines_from
from_few f b h zero i = omega (arith, mul-zero b)
from_few f b h (suc n) i =
    let r = from_few f b h n (suc i) in
    let e = length-append (f i) (lines_from f (suc i) n) in
    omega (arith, r, e, h i, mul-suc b n)

pub of_few : (f : ℕ → List Line) → ((k : ℕ) → length (f k) ≤ 1) → (ks : List ℕ) → length (lines_of f ks) ≤ length ks
unfolding lines_of
of_few f h [] = omega arith
of_few f h (k ∷ ks) =
    let r = of_few f h ks in
    let e = length-append (f k) (lines_of f ks) in
    omega (arith, r, e, h k)

of_parts : (a b : List ℕ) (p : ℕ) {l : Line} → Memᴰ l (lines_from (single_lines a b) p (part_count a b - p)) → Memᴰ l (singles_from a b p)
unfolding singles_from
of_parts a b p m = m

module _ (a b : List ℕ) (both : Both a b) where
  pub few_a : count_of a ≤ most_instructions
  few_a = (sized a both.first.opens).few

  pub few_b : count_of b ≤ most_instructions
  few_b = (sized b both.second.opens).few

  pub instruction_few : (i : ℕ) → length (instruction_lines a b i) ≤ field_count
  unfolding instruction_lines
  instruction_few i = rw (← fields_length) (fields_few i fields (contents (instruction_of a i)) (contents (instruction_of b i)))

  -- two lines of sets at most
  sets_few : (f : ℕ → List Line) → ((k : ℕ) → length (f k) ≤ 1) → length (lines_of f (compared a b)) ≤ 2
  sets_few f h = omega (arith, of_few f h (compared a b), some_sets (version_of a) (version_of b))

  entry_few : length (entry_lines a b) ≤ 2
  unfolding entry_lines
  entry_few = sets_few (entry_line a b) (λ k. differs_few (Entry k) 0 (set_in k (entry_of a)) (set_in k (entry_of b)))

  note_few : (i : ℕ) → length (note_lines a b i) ≤ 2
  unfolding note_lines
  note_few i = sets_few (note_line a b i) (λ k. differs_few (Annotation k) i (set_in k (note_of a i)) (set_in k (note_of b i)))

  extra_few : length (extra_lines a b) ≤ 1 * (count_of a - count_of b) + 1 * (count_of b - count_of a)
  unfolding extra_lines
  extra_few =
      let x = lines_from (removed_line a) (count_of b) (count_of a - count_of b) in
      let y = lines_from (added_line b) (count_of a) (count_of b - count_of a) in
      let p = from_few (removed_line a) 1 (λ j. omega arith) (count_of a - count_of b) (count_of b) in
      let q = from_few (added_line b) 1 (λ j. omega arith) (count_of b - count_of a) (count_of a) in
      let e = length-append x y in
      sum e p q
    where
      sum : {l x y p q : ℕ} → l ≡ x + y → x ≤ p → y ≤ q → l ≤ p + q
      sum e p q = omega (arith, e, p, q)

  pub few_lines : length (differences a b) ≤ most_lines
  unfolding differences content_lines
  few_lines =
      let s = shared a b in
      let x = lines_from (instruction_lines a b) 0 s in
      let z = lines_from (note_lines a b) 0 s in
      let p = from_few (instruction_lines a b) field_count instruction_few s 0 in
      let q = from_few (note_lines a b) 2 note_few s 0 in
      let v = differs_few Version 0 (version_of a) (version_of b) in
      let c = length-append (version_lines a b) (content_lines a b) in
      let e = length-append (x ++ extra_lines a b ++ entry_lines a b) z in
      let f = length-append (x ++ extra_lines a b) (entry_lines a b) in
      let g = length-append x (extra_lines a b) in
      total (count_of a) (count_of b) few_a few_b c v e f g p extra_few entry_few q
    where
      total : (n m : ℕ) {t w l k j x y d z : ℕ} → n ≤ 2048 → m ≤ 2048 → t ≡ w + l → w ≤ 1 → l ≡ k + z → k ≡ j + d → j ≡ x + y → x ≤ 22 * min n m
          → y ≤ 1 * (n - m) + 1 * (m - n) → d ≤ 2 → z ≤ 2 * min n m → t ≤ 49155
      total n m hn hm c v e f g p q d z = omega (arith, hn, hm, c, v, e, f, g, p, q, d, z)

  small : {l : Line} → Differs a b l → l.index < most_instructions
  small (at_version n) = omega arith
  small (at_field i j h k n) = omega (arith, h, few_a)
  small (at_removed i h k) = omega (arith, k, few_a)
  small (at_added i h k) = omega (arith, k, few_b)
  small (at_entry k m n) = omega arith
  small (at_note i k h m n) = omega (arith, h, few_a)

  pub small_index : {l : Line} → Memᴰ l (differences a b) → l.index < most_instructions
  small_index m = small (listed_differs a b m)

  pub single_few : (p : ℕ) → length (single_lines a b p) ≤ 1
  unfolding single_lines set_part set_line
  single_few p = go (ltb p (count_of a)) (ltb p (count_of b)) (eqb j 0)
    where
      j : ℕ
      j = (p - longer a b) / set_count a b

      k : ℕ
      k = get_or (compared a b) ((p - longer a b) % set_count a b) 0

      go : (s t u : Bool) → length (choose s (removed_line a p) (choose t (added_line b p) (choose u (entry_line a b k) (note_line a b (j - 1) k)))) ≤ 1
      go true t u = omega arith
      go false true u = omega arith
      go false false true = differs_few (Entry k) 0 (set_in k (entry_of a)) (set_in k (entry_of b))
      go false false false = differs_few (Annotation k) (j - 1) (set_in k (note_of a (j - 1))) (set_in k (note_of b (j - 1)))

  -- the extra instructions, and two sets of each annotation and of the entry sets
  pub few_parts : part_count a b ≤ longer a b + 2 * (shared a b + 1)
  few_parts =
      add-le-add (le_refl (longer a b)) (at_most 2 (shared a b + 1) (some_sets (version_of a) (version_of b)).1 (le_refl (shared a b + 1)))

  -- the index of the versions' line, and of a part's line
  pub version_index : {l : Line} → Memᴰ l (version_lines a b) → l.index < most_instructions
  version_index m = small_index (in_version a b m)

  pub part_index : (p : ℕ) {l : Line} → shared a b ≤ p → p < part_count a b → Memᴰ l (single_lines a b p) → l.index < most_instructions
  part_index p {l} h k m =
      small_index (in_content a b (subst (Memᴰ l) (two_parts a b) (Memᴰ.append_right (lines_from (instruction_lines a b) 0 (shared a b)) inside)))
    where
      inside : Memᴰ l (singles_from a b (shared a b))
      inside = of_parts a b (shared a b) (member_from (single_lines a b) (part_count a b - shared a b) (shared a b) p h (omega (arith, k, h)) m)
