-- Texts with a byte 0 after them. Assumes nothing.
use mathlib.Core.Path.{◌≡◌, refl, sym, ◌∙◌}
use mathlib.Core.Bool.{Bool, true, false}
use mathlib.Core.List.{List}
use Prim.Native.Nat.{ℕ, suc, ◌<◌, ◌≤◌}
use native.Mathlib.Omega.{arith}
use borrow.Author.Tests.{lt-ltb, le-ltb, ltb-true, ltb-false}
use lib.Dec.{T, ltb, ltb→lt}
use lib.ListN.{length, drop, set, get_or, length-append}
use lib.Seq.{drop-cons, set_at}
use Rattle.bits.specs.Fields.{choose}
use Rattle.bits.proofs.Every.{every, at}
use Rattle.rows.specs.Rows.{Row, rows, no_row, row_count}
use Rattle.rows.specs.Names.{ascii, name_of}
use Rattle.rows.proofs.TableLaws.{in_table}
use Rattle.rows.proofs.NameLaws.{no_name}
use Rattle.text.specs.Text.{Put}
use Rattle.disasm.specs.Assembly.{row_text, instruction_text}
use Rattle.form.specs.Form.{instruction_of_form}
use Rattle.codes.specs.Texts.{text_after, name_after}
use Rattle.codes.specs.Promises.{TextNeverEmpty, NoNameMeansNone}

-- a 0 is put after a text
pub terminated : {t before mid : List ℕ} {n : ℕ} → Put t before mid n → n < length before → set mid n 0 ≡ text_after t before
unfolding text_after
terminated {t} {before} {n = n} p h =
    let l : length t < length before = rw p.counts at h in
    rw (p.fills, drop-cons before (length t) 0 l)
    (set_at t (get_or before (length t) 0) (drop (suc (length t)) before) 0 n (sym p.counts))

pub name_put : {mid before : List ℕ} {n : ℕ} (row : ℕ) → row < row_count → Put (name_of row) before mid n → n < length before
    → set mid n 0 ≡ name_after row before
unfolding name_after
name_put row h p l = terminated p l ∙ rw (lt-ltb row row_count h)

pub nameless : (row : ℕ) (before : List ℕ) → row_count ≤ row → (0 ≡ length (name_of row)) × (before ≡ name_after row before)
unfolding name_after ascii
nameless row before h = (rw (no_name row h), rw (le-ltb row row_count h))

-- each row has a name
has_name : ℕ → Row → Bool
has_name k r = ltb 0 (length (ascii r.name))

all_named : T (every has_name 0 rows)
unfolding has_name ascii rows
all_named = tt

named : (k : ℕ) → k < row_count → 0 < length (name_of k)
unfolding has_name
named k h = ltb→lt 0 (length (name_of k)) (at has_name rows no_row all_named k (in_table k h))

-- so a text begins with a name or a question mark
begins : (k : ℕ) → 0 < length (row_text k)
unfolding ascii
begins k = go (ltb k row_count) refl
  where
    go : (t : Bool) → ltb k row_count ≡ t → 0 < length (choose t (name_of k) (ascii "?"))
    go true e = named k (ltb-true k row_count e)
    go false e = omega arith

pub text_never_empty : TextNeverEmpty
unfolding instruction_text
text_never_empty f = simp length-append (omega (arith, begins (instruction_of_form f).row))

pub no_name_means_none : NoNameMeansNone
unfolding ascii
no_name_means_none row = (there, λ h. rw (no_name row h))
  where
    there : length (name_of row) ≡ 0 → row_count ≤ row
    there e = go (ltb row row_count) refl
      where
        go : (t : Bool) → ltb row row_count ≡ t → row_count ≤ row
        go true q = absurd (omega (arith, e, named row (ltb-true row row_count q)))
        go false q = ltb-false row row_count q
