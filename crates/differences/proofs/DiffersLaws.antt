-- A line stands on the list exactly when it tells of a difference. Assumes nothing.
use mathlib.Core.Path.{◌≡◌, refl, sym, subst}
use mathlib.Core.Bool.{Bool, true, false}
use mathlib.Core.List.Memᴰ
use mathlib.Core.List.{List, [], ◌∷◌, ◌++◌, Memᴰ}
use mathlib.Core.Logic.{◌≢◌, ⊎_elim}
use Prim.Native.Nat.{ℕ, zero, suc, ◌-◌, ◌<◌}
use native.Mathlib.Nat.{le_of_suc-le-suc, not-suc-le-zero}
use native.Mathlib.Omega.{arith}
use borrow.Author.Tests.{eqb-false, ne_eqb}
use lib.Dec.{eqb}
use lib.ListN.{length, get_or}
use Rattle.bits.specs.Fields.{choose}
use Rattle.container.specs.Container.{version_of, count_of, entry_of}
use Rattle.record.specs.declared.instruction.Instruction.{Instruction}
use Rattle.differences.specs.declared.line.What.{What}
use Rattle.differences.specs.declared.line.What.TheVariants.{Row, Entry, Annotation, Version}
use Rattle.differences.specs.declared.line.Line.{Line}
use Rattle.differences.specs.Records.{fields, field_count, contents}
use Rattle.differences.specs.Sets.{compared, note_of, set_in}
use Rattle.differences.specs.Differences.{line, where_differs, field_lines, lines_from, instruction_of, shared, version_lines, instruction_lines, removed_line, added_line, extra_lines, entry_line, note_line, entry_lines, note_lines, content_lines, differences}
use Rattle.differences.specs.Asked.{Differs, at_version, at_field, at_removed, at_added, at_entry, at_note}
use Rattle.differences.proofs.ListLaws.{from_member, member_from, of_member, member_of}

-- a line where two numbers differ, and none where they are equal
module _ (w : What) (i x y : ℕ) where
  pub differing : {l : Line} → Memᴰ l (where_differs w i x y) → (x ≢ y) × (l ≡ line w i x y)
  differing {l} m = go (eqb x y) refl m
    where
      go : (t : Bool) → eqb x y ≡ t → Memᴰ l (choose t [] (line w i x y ∷ [])) → (x ≢ y) × (l ≡ line w i x y)
      go true e q = absurd (Memᴰ.not-nil q)
      go false e q = (eqb-false x y e, Memᴰ.eq_of_singleton q)

  differs_to : x ≢ y → Memᴰ (line w i x y) (where_differs w i x y)
  differs_to n = rw (ne_eqb x y n) (Memᴰ.head refl)

-- the lines of an index, field by field
module _ (i : ℕ) where
  fields_of : (ws : List What) (xs ys : List ℕ) {l : Line} → Memᴰ l (field_lines i ws xs ys)
      → (j : ℕ) × (j < length ws) × (get_or xs j 0 ≢ get_or ys j 0) × (l ≡ line (get_or ws j Row) i (get_or xs j 0) (get_or ys j 0))
  unfolding field_lines
  fields_of [] xs ys m = absurd (Memᴰ.not-nil m)
  fields_of (w ∷ ws) [] ys m = absurd (Memᴰ.not-nil m)
  fields_of (w ∷ ws) (x ∷ xs) [] m = absurd (Memᴰ.not-nil m)
  fields_of (w ∷ ws) (x ∷ xs) (y ∷ ys) m =
      ⊎_elim (λ q. let r = differing w i x y q in (0, omega arith, r.0, r.1))
      (λ q. let r = fields_of ws xs ys q in (suc r.0, omega (arith, r.1), r.2, r.3)) (Memᴰ.append_cases (where_differs w i x y) m)

  fields_to : (ws : List What) (xs ys : List ℕ) (j : ℕ) → j < length ws → j < length xs → j < length ys → get_or xs j 0 ≢ get_or ys j 0
      → Memᴰ (line (get_or ws j Row) i (get_or xs j 0) (get_or ys j 0)) (field_lines i ws xs ys)
  unfolding field_lines
  fields_to [] xs ys j h k l n = absurd (not-suc-le-zero h)
  fields_to (w ∷ ws) [] ys j h k l n = absurd (not-suc-le-zero k)
  fields_to (w ∷ ws) (x ∷ xs) [] j h k l n = absurd (not-suc-le-zero l)
  fields_to (w ∷ ws) (x ∷ xs) (y ∷ ys) zero h k l n = Memᴰ.append_left (field_lines i ws xs ys) (differs_to w i x y n)
  fields_to (w ∷ ws) (x ∷ xs) (y ∷ ys) (suc j) h k l n =
      Memᴰ.append_right (where_differs w i x y) (fields_to ws xs ys j (le_of_suc-le-suc h) (le_of_suc-le-suc k) (le_of_suc-le-suc l) n)

pub fields_length : length fields ≡ field_count
unfolding fields
fields_length = refl

pub contents_length : (x : Instruction) → length (contents x) ≡ field_count
unfolding contents
contents_length x = refl

-- the parts of the list
abbrev pub instruction_part : List ℕ → List ℕ → List Line
instruction_part a b = lines_from (instruction_lines a b) 0 (shared a b)

abbrev pub removed_part : List ℕ → List ℕ → List Line
removed_part a b = lines_from (removed_line a) (count_of b) (count_of a - count_of b)

abbrev pub added_part : List ℕ → List ℕ → List Line
added_part a b = lines_from (added_line b) (count_of a) (count_of b - count_of a)

abbrev pub note_part : List ℕ → List ℕ → List Line
note_part a b = lines_from (note_lines a b) 0 (shared a b)

-- each line tells of a difference
module _ (a b : List ℕ) {l : Line} where
  instruction_true : Memᴰ l (instruction_part a b) → Differs a b l
  unfolding instruction_lines
  instruction_true m =
      let r = from_member (instruction_lines a b) (shared a b) 0 m in
      let f = fields_of r.0 fields (contents (instruction_of a r.0)) (contents (instruction_of b r.0)) r.3 in
      subst (Differs a b) (sym f.3) (at_field r.0 f.0 (omega (arith, r.2)) (omega (arith, f.1, fields_length)) f.2)

  removed_true : Memᴰ l (removed_part a b) → Differs a b l
  removed_true m =
      let r = from_member (removed_line a) (count_of a - count_of b) (count_of b) m in
      subst (Differs a b) (sym (Memᴰ.eq_of_singleton r.3)) (at_removed r.0 r.1 (omega (arith, r.1, r.2)))

  added_true : Memᴰ l (added_part a b) → Differs a b l
  added_true m =
      let r = from_member (added_line b) (count_of b - count_of a) (count_of a) m in
      subst (Differs a b) (sym (Memᴰ.eq_of_singleton r.3)) (at_added r.0 r.1 (omega (arith, r.1, r.2)))

  extra_true : Memᴰ l (extra_lines a b) → Differs a b l
  unfolding extra_lines
  extra_true m = ⊎_elim removed_true added_true (Memᴰ.append_cases (removed_part a b) m)

  version_true : Memᴰ l (version_lines a b) → Differs a b l
  version_true m = let d = differing Version 0 (version_of a) (version_of b) m in subst (Differs a b) (sym d.1) (at_version d.0)

  entry_true : Memᴰ l (entry_lines a b) → Differs a b l
  unfolding entry_lines
  entry_true m =
      let r = of_member (entry_line a b) (compared a b) m in
      let k = r.0 in
      let d = differing (Entry k) 0 (set_in k (entry_of a)) (set_in k (entry_of b)) r.2 in
      subst (Differs a b) (sym d.1) (at_entry k r.1 d.0)

  note_true : Memᴰ l (note_part a b) → Differs a b l
  unfolding note_lines
  note_true m =
      let r = from_member (note_lines a b) (shared a b) 0 m in
      let i = r.0 in
      let q = of_member (note_line a b i) (compared a b) r.3 in
      let k = q.0 in
      let d = differing (Annotation k) i (set_in k (note_of a i)) (set_in k (note_of b i)) q.2 in
      subst (Differs a b) (sym d.1) (at_note i k (omega (arith, r.2)) q.1 d.0)

  content_true : Memᴰ l (content_lines a b) → Differs a b l
  unfolding content_lines
  content_true m = ⊎_elim early note_true (Memᴰ.append_cases (instruction_part a b ++ extra_lines a b ++ entry_lines a b) m)
    where
      early : Memᴰ l (instruction_part a b ++ extra_lines a b ++ entry_lines a b) → Differs a b l
      early q =
          ⊎_elim (λ r. ⊎_elim instruction_true extra_true (Memᴰ.append_cases (instruction_part a b) r)) entry_true
          (Memᴰ.append_cases (instruction_part a b ++ extra_lines a b) q)

  pub listed_differs : Memᴰ l (differences a b) → Differs a b l
  unfolding differences
  listed_differs m = ⊎_elim version_true content_true (Memᴰ.append_cases (version_lines a b) m)

-- a line of a part is on the list
module _ (a b : List ℕ) {l : Line} where
  pub in_version : Memᴰ l (version_lines a b) → Memᴰ l (differences a b)
  unfolding differences
  in_version m = Memᴰ.append_left (content_lines a b) m

  pub in_content : Memᴰ l (content_lines a b) → Memᴰ l (differences a b)
  unfolding differences
  in_content m = Memᴰ.append_right (version_lines a b) m

  in_instructions : Memᴰ l (instruction_part a b) → Memᴰ l (content_lines a b)
  unfolding content_lines
  in_instructions m = Memᴰ.append_left (note_part a b) (Memᴰ.append_left (entry_lines a b) (Memᴰ.append_left (extra_lines a b) m))

  in_extra : Memᴰ l (extra_lines a b) → Memᴰ l (content_lines a b)
  unfolding content_lines
  in_extra m = Memᴰ.append_left (note_part a b) (Memᴰ.append_left (entry_lines a b) (Memᴰ.append_right (instruction_part a b) m))

  in_entry : Memᴰ l (entry_lines a b) → Memᴰ l (content_lines a b)
  unfolding content_lines
  in_entry m = Memᴰ.append_left (note_part a b) (Memᴰ.append_right (instruction_part a b ++ extra_lines a b) m)

  in_notes : Memᴰ l (note_part a b) → Memᴰ l (content_lines a b)
  unfolding content_lines
  in_notes m = Memᴰ.append_right (instruction_part a b ++ extra_lines a b ++ entry_lines a b) m

-- each difference has its line
module _ (a b : List ℕ) where
  pub differs_listed : {l : Line} → Differs a b l → Memᴰ l (differences a b)
  unfolding instruction_lines extra_lines entry_lines note_lines
  differs_listed (at_version n) = in_version a b (differs_to Version 0 (version_of a) (version_of b) n)
  differs_listed (at_field i j h k n) =
      let x = instruction_of a i in
      let y = instruction_of b i in
      let m = fields_to i fields (contents x) (contents y) j (omega (arith, fields_length)) (omega (arith, contents_length x)) (omega (arith, contents_length y)) n in
      in_content a b (in_instructions a b (member_from (instruction_lines a b) (shared a b) 0 i (omega arith) (omega arith) m))
  differs_listed (at_removed i h k) =
      in_content a b
      (in_extra a b (Memᴰ.append_left (added_part a b) (member_from (removed_line a) (count_of a - count_of b) (count_of b) i h (omega arith) (Memᴰ.head refl))))
  differs_listed (at_added i h k) =
      in_content a b
      (in_extra a b (Memᴰ.append_right (removed_part a b) (member_from (added_line b) (count_of b - count_of a) (count_of a) i h (omega arith) (Memᴰ.head refl))))
  differs_listed (at_entry k m n) =
      in_content a b (in_entry a b (member_of (entry_line a b) (compared a b) m (differs_to (Entry k) 0 (set_in k (entry_of a)) (set_in k (entry_of b)) n)))
  differs_listed (at_note i k h m n) =
      let q = member_of (note_line a b i) (compared a b) m (differs_to (Annotation k) i (set_in k (note_of a i)) (set_in k (note_of b i)) n) in
      in_content a b (in_notes a b (member_from (note_lines a b) (shared a b) 0 i (omega arith) (omega arith) q))
