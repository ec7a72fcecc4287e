-- The lines stand in order: by part, then by index, then by field or set. Assumes nothing.
use mathlib.Core.Path.{◌≡◌, refl, sym, ap, ◌∙◌, subst}
use mathlib.Core.Bool.{Bool, true, false, ◌&&◌}
use mathlib.Core.List.Memᴰ
use mathlib.Core.List.{List, [], ◌∷◌, ◌++◌, map, Memᴰ}
use mathlib.Core.Logic.{⊎_elim}
use Prim.Native.Nat.{ℕ, suc, ◌-◌, ◌<◌, ◌≤◌}
use native.Mathlib.Omega.{arith}
use lib.Dec.{T, eqb, leb, eqb→eq, leb→le}
use Rattle.bits.specs.Fields.{choose}
use Rattle.bits.proofs.Every.{and_l, and_r}
use Rattle.container.specs.Container.{version_of, count_of, entry_of}
use Rattle.differences.specs.declared.line.What.{What}
use Rattle.differences.specs.declared.line.What.TheVariants.{Added, Removed, Entry, Annotation, Version}
use Rattle.differences.specs.declared.line.Line.{Line}
use Rattle.differences.specs.Records.{fields, contents}
use Rattle.differences.specs.Sets.{sets_of, compared, note_of, set_in}
use Rattle.differences.specs.Differences.{line, where_differs, field_lines, lines_from, lines_of, instruction_of, word_of, shared, version_lines, instruction_lines, removed_line, added_line, extra_lines, entry_lines, note_lines, content_lines, differences}
use Rattle.differences.specs.Asked.{stage, rank, Before, by_stage, by_index, by_field}
use Rattle.differences.proofs.ListLaws.{Ordered, ordered_append, ordered_from, from_member}
use Rattle.differences.proofs.SetLaws.{by_sets}
use Rattle.differences.proofs.DiffersLaws.{differing, instruction_part, removed_part, added_part, note_part}

-- a line of part s, of a part up to s, and of index i in part s
abbrev Staged : ℕ → Line → Type 0
Staged s l = stage l.what ≡ s

abbrev Upto : ℕ → Line → Type 0
Upto s l = stage l.what ≤ s

abbrev Placed : ℕ → ℕ → Line → Type 0
Placed s i l = Staged s l × (l.index ≡ i)

-- all lines of a list
abbrev All : (Line → Type 0) → List Line → Type 0
All P ls = (l : Line) → Memᴰ l ls → P l

placed_at : (w : What) (i x y : ℕ) {l : Line} → l ≡ line w i x y → Placed (stage w) i l
placed_at w i x y e = (ap (λ (l : Line). stage l.what) e, ap (λ (l : Line). l.index) e)

-- a line alone is in order
one_ordered : (l : Line) → Ordered Before (l ∷ [])
one_ordered l = (λ m q. absurd (Memᴰ.not-nil q), tt)

-- where two numbers are compared there is at most one line
single : (w : What) (i x y : ℕ) → All (Placed (stage w) i) (where_differs w i x y)
single w i x y l m = placed_at w i x y (differing w i x y m).1

single_ordered : (w : What) (i x y : ℕ) → Ordered Before (where_differs w i x y)
single_ordered w i x y = go (eqb x y)
  where
    go : (t : Bool) → Ordered Before (choose t [] (line w i x y ∷ []))
    go true = tt
    go false = one_ordered (line w i x y)

-- what stands in part s, with ranks that rise from n up
rising : ℕ → ℕ → List What → Bool
rising s n [] = true
rising s n (w ∷ ws) = leb n (rank w) && (eqb (stage w) s && rising s (suc (rank w)) ws)

fields_rise : T (rising 1 0 fields)
unfolding rising fields
fields_rise = tt

-- the sets of the entry sets, and those of annotations
entries_rise : (v w : ℕ) → T (rising 3 0 (map Entry (sets_of v w)))
unfolding rising
entries_rise = by_sets (λ (ks : List ℕ). T (rising 3 0 (map Entry ks))) tt tt

notes_rise : (v w : ℕ) → T (rising 4 0 (map Annotation (sets_of v w)))
unfolding rising
notes_rise = by_sets (λ (ks : List ℕ). T (rising 4 0 (map Annotation ks))) tt tt

record Rising (s n : ℕ) (w : What) (ws : List What) : Type 0 where
  low : n ≤ rank w
  part : stage w ≡ s
  rest : T (rising s (suc (rank w)) ws)

rises : (s n : ℕ) (w : What) (ws : List What) → T (rising s n (w ∷ ws)) → Rising s n w ws
unfolding rising
rises s n w ws t =
    let u = and_r (leb n (rank w)) _ t in
    record { low = leb→le _ _ (and_l (leb n (rank w)) _ t); part = eqb→eq _ _ (and_l (eqb (stage w) s) _ u); rest = and_r (eqb (stage w) s) _ u }

-- the lines of an index, field by field or set by set
module _ (s i : ℕ) where
  abbrev From : ℕ → Line → Type 0
  From n l = Placed s i l × (n ≤ rank l.what)

  field_first : (n : ℕ) (w : What) (x y : ℕ) → n ≤ rank w → stage w ≡ s → All (From n) (where_differs w i x y)
  field_first n w x y h z l m =
      let e = (differing w i x y m).1 in
      let p = placed_at w i x y e in
      ((p.0 ∙ z, p.1), omega (arith, h, ap (λ (l : Line). rank l.what) e))

  field_all : (n : ℕ) (ws : List What) (xs ys : List ℕ) → T (rising s n ws) → All (From n) (field_lines i ws xs ys)
  unfolding field_lines
  field_all n [] xs ys t l m = absurd (Memᴰ.not-nil m)
  field_all n (w ∷ ws) [] ys t l m = absurd (Memᴰ.not-nil m)
  field_all n (w ∷ ws) (x ∷ xs) [] t l m = absurd (Memᴰ.not-nil m)
  field_all n (w ∷ ws) (x ∷ xs) (y ∷ ys) t l m =
      let r = rises s n w ws t in
      ⊎_elim (λ q. field_first n w x y r.low r.part l q)
      (λ q. let p = field_all (suc (rank w)) ws xs ys r.rest l q in (p.0, omega (arith, r.low, p.1)))
      (Memᴰ.append_cases (where_differs w i x y) m)

  field_ordered : (n : ℕ) (ws : List What) (xs ys : List ℕ) → T (rising s n ws) → Ordered Before (field_lines i ws xs ys)
  unfolding field_lines
  field_ordered n [] xs ys t = tt
  field_ordered n (w ∷ ws) [] ys t = tt
  field_ordered n (w ∷ ws) (x ∷ xs) [] t = tt
  field_ordered n (w ∷ ws) (x ∷ xs) (y ∷ ys) t =
      let r = rises s n w ws t in
      ordered_append Before (where_differs w i x y) (field_lines i ws xs ys) (single_ordered w i x y) (field_ordered (suc (rank w)) ws xs ys r.rest)
      (λ l m p q.
      let e = (differing w i x y p).1 in
      let u = placed_at w i x y e in
      let v = field_all (suc (rank w)) ws xs ys r.rest m q in
      by_field (u.0 ∙ r.part ∙ sym v.0.0) (u.1 ∙ sym v.0.1) (omega (arith, ap (λ (l : Line). rank l.what) e, v.1)))

  -- sets are like fields
  module _ (w : ℕ → What) (x y : ℕ → ℕ) where
    as_fields : (ks : List ℕ) → field_lines i (map w ks) (map x ks) (map y ks) ≡ lines_of (λ (k : ℕ). where_differs (w k) i (x k) (y k)) ks
    unfolding field_lines lines_of
    as_fields [] = refl
    as_fields (k ∷ ks) = ap (λ (ls : List Line). where_differs (w k) i (x k) (y k) ++ ls) (as_fields ks)

    sets_all : (ks : List ℕ) → T (rising s 0 (map w ks)) → All (Placed s i) (lines_of (λ (k : ℕ). where_differs (w k) i (x k) (y k)) ks)
    sets_all ks t l m = (field_all 0 (map w ks) (map x ks) (map y ks) t l (subst (Memᴰ l) (sym (as_fields ks)) m)).0

    sets_ordered : (ks : List ℕ) → T (rising s 0 (map w ks)) → Ordered Before (lines_of (λ (k : ℕ). where_differs (w k) i (x k) (y k)) ks)
    sets_ordered ks t = subst (Ordered Before) (as_fields ks) (field_ordered 0 (map w ks) (map x ks) (map y ks) t)

-- a part of the list whose lines go by index
module _ (s : ℕ) (f : ℕ → List Line) (placed : (i : ℕ) → All (Placed s i) (f i)) where
  part_staged : (n i : ℕ) → All (Staged s) (lines_from f i n)
  part_staged n i l m = let r = from_member f n i m in (placed r.0 l r.3).0

  part_ordered : ((i : ℕ) → Ordered Before (f i)) → (n i : ℕ) → Ordered Before (lines_from f i n)
  part_ordered o =
      ordered_from f Before o
      (λ i j l m h p q.
      let u = placed i l p in
      let v = placed j m q in
      by_index (u.0 ∙ sym v.0) (omega (arith, u.1, v.1, h)))

-- a later part after an earlier one
module _ (xs ys : List Line) (s t : ℕ) (h : s < t) (late : All (Staged t) ys) where
  staged_ordered : All (Upto s) xs → Ordered Before xs → Ordered Before ys → Ordered Before (xs ++ ys)
  staged_ordered early o p =
      ordered_append Before xs ys o p (λ l m q r. by_stage (omega (arith, early l q, late m r)))

  staged_upto : All (Upto s) xs → All (Upto t) (xs ++ ys)
  staged_upto early l m = ⊎_elim (λ q. omega (arith, early l q)) (λ q. omega (arith, late l q)) (Memᴰ.append_cases xs m)

module _ (a b : List ℕ) where
  instruction_placed : (i : ℕ) → All (Placed 1 i) (instruction_lines a b i)
  unfolding instruction_lines
  instruction_placed i l m = (field_all 1 i 0 fields (contents (instruction_of a i)) (contents (instruction_of b i)) fields_rise l m).0

  instruction_ordered : (i : ℕ) → Ordered Before (instruction_lines a b i)
  unfolding instruction_lines
  instruction_ordered i = field_ordered 1 i 0 fields (contents (instruction_of a i)) (contents (instruction_of b i)) fields_rise

  removed_placed : (i : ℕ) → All (Placed 2 i) (removed_line a i)
  removed_placed i l m = placed_at Removed i (word_of a i) 0 (Memᴰ.eq_of_singleton m)

  added_placed : (i : ℕ) → All (Placed 2 i) (added_line b i)
  added_placed i l m = placed_at Added i 0 (word_of b i) (Memᴰ.eq_of_singleton m)

  extra_staged : All (Staged 2) (extra_lines a b)
  unfolding extra_lines
  extra_staged l m =
      ⊎_elim (λ q. part_staged 2 (removed_line a) removed_placed (count_of a - count_of b) (count_of b) l q)
      (λ q. part_staged 2 (added_line b) added_placed (count_of b - count_of a) (count_of a) l q) (Memᴰ.append_cases (removed_part a b) m)

  -- one of the two has no extra instructions
  extra_ordered : Ordered Before (extra_lines a b)
  unfolding extra_lines
  extra_ordered =
      let n = count_of a - count_of b in
      let k = count_of b - count_of a in
      ordered_append Before (removed_part a b) (added_part a b)
      (part_ordered 2 (removed_line a) removed_placed (λ i. one_ordered (line Removed i (word_of a i) 0)) n (count_of b))
      (part_ordered 2 (added_line b) added_placed (λ i. one_ordered (line Added i 0 (word_of b i))) k (count_of a))
      (λ l m p q.
      let u = from_member (removed_line a) n (count_of b) p in
      let v = from_member (added_line b) k (count_of a) q in
      absurd (omega (arith, u.1, u.2, v.1, v.2)))

  -- set k of the entry sets, and of the annotation at index i
  abbrev of_entry : List ℕ → ℕ → ℕ
  of_entry s k = set_in k (entry_of s)

  abbrev of_note : List ℕ → ℕ → ℕ → ℕ
  of_note s i k = set_in k (note_of s i)

  entry_staged : All (Staged 3) (entry_lines a b)
  unfolding entry_lines
  entry_staged l m = (sets_all 3 0 Entry (of_entry a) (of_entry b) (compared a b) (entries_rise (version_of a) (version_of b)) l m).0

  entry_ordered : Ordered Before (entry_lines a b)
  unfolding entry_lines
  entry_ordered = sets_ordered 3 0 Entry (of_entry a) (of_entry b) (compared a b) (entries_rise (version_of a) (version_of b))

  note_placed : (i : ℕ) → All (Placed 4 i) (note_lines a b i)
  unfolding note_lines
  note_placed i = sets_all 4 i Annotation (of_note a i) (of_note b i) (compared a b) (notes_rise (version_of a) (version_of b))

  note_ordered : (i : ℕ) → Ordered Before (note_lines a b i)
  unfolding note_lines
  note_ordered i = sets_ordered 4 i Annotation (of_note a i) (of_note b i) (compared a b) (notes_rise (version_of a) (version_of b))

  abbrev n : ℕ
  n = shared a b

  instructions_staged : All (Staged 1) (instruction_part a b)
  instructions_staged = part_staged 1 (instruction_lines a b) instruction_placed n 0

  notes_staged : All (Staged 4) (note_part a b)
  notes_staged = part_staged 4 (note_lines a b) note_placed n 0

  content_ordered : Ordered Before (content_lines a b)
  unfolding content_lines
  content_ordered =
      let p = instruction_part a b in
      let e = extra_lines a b in
      let s = entry_lines a b in
      let one : All (Upto 1) p = λ l m. omega (arith, instructions_staged l m) in
      let two = staged_upto p e 1 2 (omega arith) extra_staged one in
      let three = staged_upto (p ++ e) s 2 3 (omega arith) entry_staged two in
      staged_ordered (p ++ e ++ s) (note_part a b) 3 4 (omega arith) notes_staged three
      (staged_ordered (p ++ e) s 2 3 (omega arith) entry_staged two
      (staged_ordered p e 1 2 (omega arith) extra_staged one (part_ordered 1 (instruction_lines a b) instruction_placed instruction_ordered n 0) extra_ordered)
      entry_ordered)
      (part_ordered 4 (note_lines a b) note_placed note_ordered n 0)

  -- no line of a container's content is one of the versions
  content_late : (l : Line) → Memᴰ l (content_lines a b) → 0 < stage l.what
  unfolding content_lines
  content_late l m =
      let p = instruction_part a b in
      let e = extra_lines a b in
      ⊎_elim
      (λ q.
      ⊎_elim (λ r. ⊎_elim (λ t. omega (arith, instructions_staged l t)) (λ t. omega (arith, extra_staged l t)) (Memᴰ.append_cases p r))
      (λ r. omega (arith, entry_staged l r)) (Memᴰ.append_cases (p ++ e) q))
      (λ q. omega (arith, notes_staged l q)) (Memᴰ.append_cases (p ++ e ++ entry_lines a b) m)

  pub differences_ordered : Ordered Before (differences a b)
  unfolding differences
  differences_ordered =
      ordered_append Before (version_lines a b) (content_lines a b) (single_ordered Version 0 (version_of a) (version_of b)) content_ordered
      (λ l m p q. by_stage (omega (arith, (single Version 0 (version_of a) (version_of b) l p).0, content_late m q)))
