-- The lines of a program one after another. Assumes nothing.
use mathlib.Core.Path.{◌≡◌, refl, sym, ap, ◌∙◌}
use mathlib.Core.Bool.{Bool, true, false, ◌||◌}
use mathlib.Core.List.{List, [], ◌∷◌, ◌++◌, append_assoc, append-nil}
use Prim.Native.Nat.{ℕ, zero, suc, ◌+◌, ◌-◌, ◌<◌, ◌≤◌, max}
use native.Mathlib.Omega.{arith}
use native.Mathlib.Numerals.{add-one}
use borrow.Author.Tests.{eq-eqb, ne_eqb, ltb-false, eqb-true, eqb-false}
use lib.Dec.{eqb, ltb}
use lib.ListN.{length, get_or, set, replicate, length-set, length-replicate, get_or-replicate}
use lib.Seq.{get_or-set_same, get_or-set_other}
use Rattle.container.specs.Formats.{most_instructions}
use Rattle.bits.specs.Fields.{choose}
use Rattle.bits.specs.declared.halves.Halves.{Halves}
use Rattle.safety.specs.Program.{annotation_at}
use Rattle.rows.specs.Names.{ascii}
use Rattle.text.specs.Text.{space, line_feed, decimal, hex, Put}
use Rattle.text.proofs.TextLaws.{put_nothing}
use Rattle.registertext.specs.Registers.{registers_text}
use Rattle.wordtext.specs.Columns.{column_of}
use Rattle.showlines.specs.Lines.{number_in, column_at, widest, padded, leads_to, targeted, mark_text, line_text, line, lines, title}
use Rattle.showlines.specs.Served.Marks.{marked_at, marks_of}

-- ---- the width of a column

pub title_width : (words : List ℕ) (n : ℕ) → 11 ≡ widest words n 0
unfolding widest ascii
title_width words n = refl

pub one_wider : (words : List ℕ) (n i : ℕ) {most k : ℕ} → most ≡ widest words n i → k ≡ length (column_at words n i)
    → max most k ≡ widest words n (i + 1)
unfolding widest
one_wider words n i e f = rw (add-one i, e, f)

pub titled : (width : ℕ) → ascii "       word              instruction" ++ replicate (width - 11) space ++ ascii "  note\n" ≡ title width
unfolding title ascii
titled width = sym (append_assoc (ascii "       word              instruction" ++ replicate (width - 11) space) (ascii "  note") (line_feed ∷ []))

-- ---- the marks

pub no_marks : (words : List ℕ) (n : ℕ) → replicate most_instructions false ≡ marks_of words n 0
unfolding marks_of
no_marks words n = refl

pub one_mark : (words : List ℕ) (n i : ℕ) {marks : List Bool} {j : ℕ} → marks ≡ marks_of words n i → j ≡ leads_to words n i
    → marked_at marks n j ≡ marks_of words n (i + 1)
unfolding marks_of
one_mark words n i e f = rw (add-one i, e, f)

-- the mark at index i says whether a branch leads there
length_marked : (marks : List Bool) (n j : ℕ) → length (marked_at marks n j) ≡ length marks
length_marked marks n j = go (ltb j n)
  where
    go : (t : Bool) → length (choose t (set marks j true) marks) ≡ length marks
    go true = length-set marks j true
    go false = refl

length_marks : (words : List ℕ) (n k : ℕ) → length (marks_of words n k) ≡ most_instructions
unfolding marks_of
length_marks words n zero = length-replicate {A = Bool} most_instructions false
length_marks words n (suc k) = length_marked (marks_of words n k) n (leads_to words n k) ∙ length_marks words n k

mark_is : (marks : List Bool) (n j i : ℕ) (t : Bool) → i < n → n ≤ length marks → get_or marks i false ≡ t
    → get_or (marked_at marks n j) i false ≡ (t || eqb j i)
mark_is marks n j i t h l e = go (ltb j n) (eqb j i) refl refl
  where
    with_true : (s : Bool) → (s || true) ≡ true
    with_true true = refl
    with_true false = refl

    with_false : (s : Bool) → (s || false) ≡ s
    with_false true = refl
    with_false false = refl

    go : (a b : Bool) → ltb j n ≡ a → eqb j i ≡ b → get_or (choose a (set marks j true) marks) i false ≡ (t || b)
    go true true p q =
        let f = eqb-true j i q in
        rw (with_true t, ← f) (get_or-set_same marks j true false (omega (arith, f)))
    go true false p q = rw (with_false t) (get_or-set_other marks j i true false (λ r. eqb-false j i q (sym r)) ∙ e)
    go false true p q = absurd (let f = eqb-true j i q in omega (arith, ltb-false j n p, f))
    go false false p q = rw (with_false t) e

marks_are : (words : List ℕ) (n k i : ℕ) → n ≤ most_instructions → i < n → get_or (marks_of words n k) i false ≡ targeted words n k i
unfolding marks_of targeted
marks_are words n zero i f h = get_or-replicate most_instructions i false false (omega arith)
marks_are words n (suc k) i f h =
    mark_is (marks_of words n k) n (leads_to words n k) i (targeted words n k i) h (omega (arith, length_marks words n k)) (marks_are words n k i f h)

pub mark_tells : (words : List ℕ) (n i : ℕ) {marks : List Bool} → marks ≡ marks_of words n n → n ≤ most_instructions → i < n
    → get_or marks i false ≡ targeted words n n i
mark_tells words n i e f h = ap (λ (l : List Bool). get_or l i false) e ∙ marks_are words n n i f h

-- ---- the lines

pub one_line : (mark : Bool) (n width i w : ℕ) (note : Halves)
    → mark_text mark ++ decimal 4 i ++ ascii "  " ++ hex 16 w ++ ascii "  " ++ padded width (column_of n i w) ++ ascii "  " ++ registers_text note ++ (line_feed ∷ [])
    ≡ line_text mark n width i w note
unfolding line_text
one_line mark n width i w note = refl

module _ (v : ℕ) (words notes : List ℕ) (n width at : ℕ) (fault : List ℕ) where
  pub same_line : (i : ℕ) {mark : Bool} {w : ℕ} {note : Halves} → mark ≡ targeted words n n i → w ≡ number_in words i → note ≡ annotation_at v notes i
      → line_text mark n width i w note ≡ line v words notes n width i
  same_line i e f g = rw (e, f, g)

  pub not_here : (i : ℕ) → (i ≡ at → ⊥) → line v words notes n width i ≡ line v words notes n width i ++ choose (eqb i at) fault []
  not_here i h = rw (ne_eqb i at h) (sym (append-nil (line v words notes n width i)))

  pub here : (i : ℕ) → i ≡ at → line v words notes n width i ++ fault ≡ line v words notes n width i ++ choose (eqb i at) fault []
  here i h = rw (eq-eqb i at h)

  pub no_lines : (before : List ℕ) → Put (lines v words notes n width at fault 0) before before 0
  unfolding lines
  no_lines = put_nothing refl

  pub line_more : (k : ℕ)
      → lines v words notes n width at fault k ++ (line v words notes n width k ++ choose (eqb k at) fault [])
      ≡ lines v words notes n width at fault (k + 1)
  unfolding lines
  line_more k = rw (add-one k)
