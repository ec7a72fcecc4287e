-- Version 1 in a comparison: its sets are taken as both halves, and two version 1 containers list as before. Assumes nothing.
use mathlib.Core.Path.{◌≡◌, refl, sym, ap, ap₂, ◌∙◌}
use mathlib.Core.Bool.{Bool, true, false}
use mathlib.Core.List.{List, [], ◌++◌, append-nil}
use Prim.Native.Nat.{ℕ, ◌*◌}
use native.Mathlib.Nat.{add-zero}
use lib.Dec.{eqb}
use Rattle.bits.specs.Fields.{choose}
use Rattle.bits.specs.Halves.{both}
use Rattle.container.specs.Formats.{format_of}
use Rattle.container.specs.Container.{version_of, entry_of}
use Rattle.safety.specs.Program.{annotation_at}
use Rattle.differences.specs.declared.line.What.TheVariants.{Entry, Annotation, Version}
use Rattle.differences.specs.declared.line.Line.{Line}
use Rattle.differences.specs.Sets.{the_one, sets_of, compared, note_of, set_in}
use Rattle.differences.specs.Differences.{where_differs, lines_from, lines_of, shared, version_lines, instruction_lines, extra_lines, entry_line, note_line, entry_lines, note_lines, content_lines, differences}
use Rattle.differences.specs.Version1.{one_entry, one_note, Version1AsBoth, one_set_list, Version1AsBefore}
use Rattle.differences.proofs.SetLaws.{one_set}
use Rattle.differences.proofs.LineLaws.{no_line, lines_same}

-- whichever set is asked for
either_set : (x k : ℕ) → set_in k (both x) ≡ x
either_set x k = go (eqb k 2)
  where
    go : (t : Bool) → choose t x x ≡ x
    go true = refl
    go false = refl

module _ (s : List ℕ) (e : version_of s ≡ 1) where
  entry_both : entry_of s ≡ both (one_entry s)
  unfolding entry_of format_of
  entry_both = rw e

  note_both : (i : ℕ) → note_of s i ≡ both (one_note s i)
  unfolding annotation_at format_of
  note_both i = rw (e, add-zero (8 * i))

pub as_both : Version1AsBoth
as_both s e = record {
  entry = λ k. ap (set_in k) (entry_both s e) ∙ either_set (one_entry s) k;
  note = λ i k. ap (set_in k) (note_both s e i) ∙ either_set (one_note s i) k;
}

module _ (a b : List ℕ) (p : version_of a ≡ 1) (q : version_of b ≡ 1) where
  the_one_compared : compared a b ≡ the_one
  the_one_compared = ap₂ sets_of p q ∙ one_set 1 1 refl

  entry_alone : entry_lines a b ≡ where_differs (Entry 0) 0 (one_entry a) (one_entry b)
  unfolding entry_lines lines_of
  entry_alone =
      ap (lines_of (entry_line a b)) the_one_compared ∙ append-nil _ ∙ ap₂ (where_differs (Entry 0) 0) ((as_both a p).entry 0) ((as_both b q).entry 0)

  note_alone : (i : ℕ) → note_lines a b i ≡ where_differs (Annotation 0) i (one_note a i) (one_note b i)
  unfolding note_lines lines_of
  note_alone i =
      ap (lines_of (note_line a b i)) the_one_compared ∙ append-nil _ ∙ ap₂ (where_differs (Annotation 0) i) ((as_both a p).note i 0) ((as_both b q).note i 0)

  no_version : [] ≡ version_lines a b
  no_version = no_line Version 0 (p ∙ sym q)

pub as_before : Version1AsBefore
unfolding differences content_lines one_set_list
as_before a b p q =
    ap (λ (l : List Line). l ++ content_lines a b) (sym (no_version a b p q))
    ∙ ap₂ (λ (l m : List Line). lines_from (instruction_lines a b) 0 (shared a b) ++ extra_lines a b ++ l ++ m) (entry_alone a b p q)
    (lines_same 0 (shared a b) (λ i _ _. note_alone a b p q i))
