-- The steps of a walk along what differs. Assumes nothing.
use Rattle.std.specs.Prelude.{Some, None}
use mathlib.Core.Path.{◌≡◌, refl, sym, ap, ap₂, ◌∙◌}
use mathlib.Core.Bool.{Bool, true, false}
use mathlib.Core.List.{List, [], ◌∷◌, ◌++◌, append_assoc, append-nil}
use Prim.Native.Nat.{ℕ, ◌+◌, ◌-◌, ◌*◌, ◌<◌, ◌≤◌, max}
use native.Mathlib.Nat.{add-zero, zero-add, sub-zero, mul-zero, add-sub_cancel_left}
use native.Mathlib.Numerals.{add-one}
use native.Mathlib.Omega.{arith}
use lib.Dec.{ltb}
use lib.ListN.{length, get_or}
use borrow.Author.Tests.{eq-eqb, ltb-true, ltb-false}
use Rattle.bits.specs.Outcomes.{◌then◌}
use Rattle.container.specs.Container.{version_of, count_of, words_of, eight}
use Rattle.container.specs.Opening.{Opens}
use Rattle.container.proofs.OpeningLaws.{length_words, length_part}
use Rattle.reading.specs.Reader.{read, read_number}
use Rattle.safety.specs.Program.{instruction_in, instruction_at}
use Rattle.differences.specs.declared.line.What.{What}
use Rattle.differences.specs.declared.line.What.TheVariants.{Row}
use Rattle.differences.specs.declared.line.Line.{Line}
use Rattle.diff.specs.declared.cursor.At.{At}
use Rattle.differences.specs.Records.{fields, field_count, contents}
use Rattle.differences.specs.Sets.{compared}
use Rattle.differences.specs.Differences.{line, field_lines, lines_from, instruction_of, word_of, shared, instruction_lines, removed_line, added_line, extra_lines, entry_line, note_line, entry_lines, note_lines, content_lines}
use Rattle.diffparts.specs.Served.Parts.{longer, set_count, part_count, set_line, set_part, single_lines, singles_from}
use Rattle.diff.specs.Served.Cursor.{fields_from, differing_from, told_at, Found, from_instruction, remaining, stage_stepped}
use Rattle.differences.proofs.DiffersLaws.{contents_length}
use Rattle.differences.proofs.LineLaws.{lines_step, lines_end, lines_add, lines_shift, lines_same, rows_from, lines_listed}
use Rattle.diff.proofs.ScanLaws.{none_from, all_fields, line_found, no_line_found}
use Rattle.diffparts.proofs.SingleLaws.{some_sets, at_removed, at_added, at_set, at_entry, at_note}

-- a word that stands in a container is read as its eight bytes are
module _ (s : List ℕ) (o : Opens s) (i : ℕ) (h : i < count_of s) where
  eight_long : length (eight (words_of s) i) ≡ 8
  eight_long = length_part (words_of s) (8 * i) 8 (omega (arith, length_words s o))

  pub said : contents (instruction_in (read_number (word_of s i))) ≡ contents (instruction_of s i)
  unfolding instruction_at read ◌then◌
  said = rw eight_long

-- equal words have no field that differs
alike : (xs : List ℕ) (i : ℕ) (ws : List What) → field_lines i ws xs xs ≡ []
unfolding field_lines
alike xs i [] = refl
alike [] i (w ∷ ws) = refl
alike (x ∷ xs) i (w ∷ ws) = rw (eq-eqb x x refl) (alike xs i ws)

module _ (a b : List ℕ) (i : ℕ) where
  pub same_words : contents (instruction_of a i) ≡ contents (instruction_of b i) → instruction_lines a b i ≡ []
  unfolding instruction_lines
  same_words e = rw e (alike (contents (instruction_of b i)) i fields)

module _ (a b : List ℕ) (i : ℕ) {xs ys : List ℕ} (ex : xs ≡ contents (instruction_of a i)) (ey : ys ≡ contents (instruction_of b i)) where
  pub whole : instruction_lines a b i ≡ fields_from i 0 xs ys
  unfolding instruction_lines
  whole = rw (← ex, ← ey) (all_fields i xs ys (ap length ex ∙ contents_length _) (ap length ey ∙ contents_length _))

-- the first field in which two instructions differ, from all of their fields
pub found : (a b : List ℕ) (i : ℕ) (xs ys : List ℕ) → instruction_lines a b i ≡ fields_from i 0 xs ys → Found a b i (differing_from xs ys 0) xs ys
found a b i xs ys e =
    record {
      differ = λ f q. let l = line_found xs ys i 0 (sym q) in (l.0, e ∙ l.1);
      same = λ q. e ∙ no_line_found xs ys i 0 (sym q);
    }

module _ (a b : List ℕ) where
  abbrev n : ℕ
  n = count_of a

  abbrev m : ℕ
  m = count_of b

  -- ---- the parts after the instructions that both have

  pub singles_step : (p : ℕ) → p < part_count a b → singles_from a b p ≡ single_lines a b p ++ singles_from a b (p + 1)
  unfolding singles_from
  singles_step p h = lines_step (single_lines a b) p (part_count a b) h

  pub singles_end : (p : ℕ) → part_count a b ≤ p → singles_from a b p ≡ []
  unfolding singles_from
  singles_end p h = lines_end (single_lines a b) p (part_count a b) h

  -- ---- the instructions that both have

  module _ (at : At) (xs ys : List ℕ) where
    pub none_here : field_count ≤ at.field → remaining a b at xs ys ≡ from_instruction a b (max at.next (shared a b)) at.next
    unfolding remaining
    none_here h = rw (none_from xs ys at.index at.field h)

    -- the fields at hand have a line, or none
    pub tells_field : {f : ℕ} → Some f ≡ differing_from xs ys at.field
        → stage_stepped a b (max at.next (shared a b)) (Some (told_at xs ys at.index f at.next)) xs ys ≡ remaining a b at xs ys
    unfolding remaining
    tells_field e = ap (λ (l : List Line). l ++ from_instruction a b (max at.next (shared a b)) at.next) (sym (line_found xs ys at.index at.field e).1)

    pub no_field : None ≡ differing_from xs ys at.field → remaining a b at xs ys ≡ from_instruction a b (max at.next (shared a b)) at.next
    unfolding remaining
    no_field e = ap (λ (l : List Line). l ++ from_instruction a b (max at.next (shared a b)) at.next) (no_line_found xs ys at.index at.field e)

  module _ (p i : ℕ) where
    pub instruction_step : i < shared a b → from_instruction a b p i ≡ instruction_lines a b i ++ from_instruction a b p (i + 1)
    instruction_step h = ap (λ (l : List Line). l ++ singles_from a b p) (lines_step (instruction_lines a b) i (shared a b) h) ∙ append_assoc (instruction_lines a b i) _ _

    pub instruction_end : shared a b ≤ i → from_instruction a b p i ≡ singles_from a b p
    instruction_end h = ap (λ (l : List Line). l ++ singles_from a b p) (lines_end (instruction_lines a b) i (shared a b) h)

    -- instruction i has a line
    pub tells_instruction : {f : ℕ} {xs ys : List ℕ} → i < shared a b → p ≡ shared a b → Found a b i (Some f) xs ys
        → stage_stepped a b p (Some (told_at xs ys i f (i + 1))) xs ys ≡ from_instruction a b p i
    unfolding remaining
    tells_instruction {f} {xs} {ys} h e l =
        let q : max (i + 1) (shared a b) ≡ p = omega (arith, h, e) in
        ap (λ (x : ℕ). line (get_or fields f Row) i (get_or xs f 0) (get_or ys f 0) ∷ fields_from i (f + 1) xs ys ++ from_instruction a b x (i + 1)) q
        ∙ sym (instruction_step h ∙ ap (λ (t : List Line). t ++ from_instruction a b p (i + 1)) (l.differ f refl).1)

    pub skips_instruction : {xs ys : List ℕ} → i < shared a b → Found a b i None xs ys → from_instruction a b p i ≡ from_instruction a b p (i + 1)
    skips_instruction h l = instruction_step h ∙ ap (λ (t : List Line). t ++ from_instruction a b p (i + 1)) (l.same refl)

  -- after a line of part p
  pub after_single : (p : ℕ) → shared a b ≤ p → (xs ys : List ℕ) → remaining a b (record { index = 0; field = field_count; next = p + 1 }) xs ys ≡ singles_from a b (p + 1)
  unfolding remaining
  after_single p h xs ys =
      let q : max (p + 1) (shared a b) ≡ p + 1 = omega arith in
      rw (none_from xs ys 0 field_count (omega arith), lines_end (instruction_lines a b) (p + 1) (shared a b) (omega arith), q)

  -- ---- all that they hold

  extras : lines_from (single_lines a b) (shared a b) (longer a b - shared a b) ≡ extra_lines a b
  unfolding extra_lines
  extras = go (ltb n m) refl
    where
      go : (t : Bool) → ltb n m ≡ t → lines_from (single_lines a b) (shared a b) (longer a b - shared a b)
          ≡ lines_from (removed_line a) m (n - m) ++ lines_from (added_line b) n (m - n)
      go true e =
          let h = ltb-true n m e in
          let x : shared a b ≡ n = omega (arith, h) in
          let y : longer a b - shared a b ≡ m - n = omega (arith, h) in
          ap₂ (lines_from (single_lines a b)) x y ∙ lines_same n (m - n) (λ p l k. sym (at_added a b p l (omega (arith, h, k))))
          ∙ ap (λ (l : List Line). l ++ lines_from (added_line b) n (m - n)) (sym (lines_end (removed_line a) m n (omega (arith, h))))
      go false e =
          let h = ltb-false n m e in
          let x : shared a b ≡ m = omega (arith, h) in
          let y : longer a b - shared a b ≡ n - m = omega (arith, h) in
          ap₂ (lines_from (single_lines a b)) x y ∙ lines_same m (n - m) (λ p l k. sym (at_removed a b p (omega (arith, h, k)))) ∙ sym (append-nil _)
          ∙ ap (λ (l : List Line). lines_from (removed_line a) m (n - m) ++ l) (sym (lines_end (added_line b) n m h))

  -- the sets, by their places: row 0 is that of the entry sets, and row i + 1 that of the annotations at index i
  abbrev set_row : ℕ → List Line
  set_row j = lines_from (λ (k : ℕ). set_line a b j (get_or (compared a b) k 0)) 0 (set_count a b)

  entry_row : set_row 0 ≡ entry_lines a b
  unfolding entry_lines
  entry_row =
      lines_listed (entry_line a b) (λ (k : ℕ). set_line a b 0 (get_or (compared a b) k 0)) (compared a b) 0
      (λ k _. ap (λ (x : ℕ). set_line a b 0 (get_or (compared a b) x 0)) (zero-add k) ∙ sym (at_entry a b 0 (get_or (compared a b) k 0) refl))

  note_row : (i : ℕ) → set_row (1 + i) ≡ note_lines a b i
  unfolding note_lines
  note_row i =
      let back : 1 + i - 1 ≡ i = omega arith in
      lines_listed (note_line a b i) (λ (k : ℕ). set_line a b (1 + i) (get_or (compared a b) k 0)) (compared a b) 0
      (λ k _.
      ap (λ (x : ℕ). set_line a b (1 + i) (get_or (compared a b) x 0)) (zero-add k)
      ∙ sym (at_note a b (1 + i) (get_or (compared a b) k 0) (λ e. omega (arith, e)))
      ∙ ap (λ (x : ℕ). note_line a b x (get_or (compared a b) k 0)) back)

  all_rows : lines_from set_row 0 (shared a b + 1) ≡ entry_lines a b ++ lines_from (note_lines a b) 0 (shared a b)
  unfolding lines_from
  all_rows =
      rw (add-one (shared a b))
      (ap₂ (λ (x y : List Line). x ++ y) entry_row (lines_shift set_row (note_lines a b) 1 0 (shared a b) (λ i _ _. note_row i)))

  sets : lines_from (single_lines a b) (longer a b) (set_count a b * (shared a b + 1)) ≡ entry_lines a b ++ lines_from (note_lines a b) 0 (shared a b)
  unfolding set_part
  sets =
      let c = set_count a b in
      let x = longer a b in
      let count = c * (shared a b + 1) in
      ap (λ (p : ℕ). lines_from (single_lines a b) p count) (sym (add-zero x))
      ∙ lines_shift (single_lines a b) (set_part a b) x 0 count
      (λ q _ _. sym (at_set a b (x + q) (omega arith) (omega arith)) ∙ ap (set_part a b) (add-sub_cancel_left x q))
      ∙ ap (λ (q : ℕ). lines_from (set_part a b) q count) (sym (mul-zero c))
      ∙ rows_from (λ (j k : ℕ). set_line a b j (get_or (compared a b) k 0)) c (some_sets (version_of a) (version_of b)).0 0 (shared a b + 1)
      ∙ all_rows

  -- the parts after the instructions that both have are the rest of what they hold
  all_singles : singles_from a b (shared a b) ≡ extra_lines a b ++ (entry_lines a b ++ lines_from (note_lines a b) 0 (shared a b))
  unfolding singles_from
  all_singles =
      let f = single_lines a b in
      let s = shared a b in
      let c = set_count a b * (s + 1) in
      let k : part_count a b - s ≡ (longer a b - s) + c = counted (longer a b) s c (omega arith) in
      let e : s + (longer a b - s) ≡ longer a b = omega arith in
      ap (lines_from f s) k ∙ lines_add f s (longer a b - s) c
      ∙ ap₂ (λ (x y : List Line). x ++ y) extras (ap (λ (p : ℕ). lines_from f p c) e ∙ sets)
    where
      counted : (x s c : ℕ) → s ≤ x → x + c - s ≡ (x - s) + c
      counted x s c h = omega arith

  -- what they hold: the instructions that both have, and the parts after them
  pub two_parts : lines_from (instruction_lines a b) 0 (shared a b) ++ singles_from a b (shared a b) ≡ content_lines a b
  unfolding content_lines
  two_parts =
      let x = lines_from (instruction_lines a b) 0 (shared a b) in
      ap (λ (l : List Line). x ++ l) all_singles
      ∙ sym (append_assoc x (extra_lines a b) _)
      ∙ sym (append_assoc (x ++ extra_lines a b) (entry_lines a b) _)

  -- before the first line all of it remains
  pub from_start : (xs ys : List ℕ) → remaining a b (record { index = 0; field = field_count; next = 0 }) xs ys ≡ content_lines a b
  unfolding remaining
  from_start xs ys =
      let s : max 0 (shared a b) ≡ shared a b = omega arith in
      rw (none_from xs ys 0 field_count (omega arith), s, sub-zero (shared a b)) two_parts
