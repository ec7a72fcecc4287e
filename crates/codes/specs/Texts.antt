-- Texts as C has them: with a byte 0 after the last one.
use Rattle.std.specs.Prelude.{List, ◌∷◌, ◌++◌, ℕ, suc, ltb, length, drop}
use Rattle.bits.specs.Fields.{choose}
use Rattle.rows.specs.Rows.{row_count}
use Rattle.rows.specs.Names.{name_of}
use Rattle.disasm.specs.Assembly.{instruction_text}
use Rattle.form.specs.Form.{instruction_of_form}

-- a buffer afterwards: the text and a 0 at its front, and otherwise what it held
unfoldable pub text_after : List ℕ → List ℕ → List ℕ
text_after t buffer = t ++ (0 ∷ drop (suc (length t)) buffer)

-- the text of a form, whatever its padding is
abbrev pub form_text : List ℕ → List ℕ
form_text f = instruction_text (instruction_of_form f)

-- the buffer for a row's name: where there is no such row it keeps what it held
unfoldable pub name_after : ℕ → List ℕ → List ℕ
name_after row buffer = choose (ltb row row_count) (text_after (name_of row) buffer) buffer
