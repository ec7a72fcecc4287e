-- 002's name for a word that no row fits: what the scope leaves out.
use Rattle.std.specs.Prelude.{◌≡◌, Bool, true, ◌&&◌, List, [], ◌∷◌, ℕ, ◌<◌, eqb}
use Rattle.bits.specs.Fields.{bits, choose}
use Rattle.rows.specs.Rows.{row_of, row_count}
use Rattle.rows.specs.Layout.{fits as fits_row}
use Rattle.rows.specs.Names.{ascii}
use Rattle.leftout.specs.Omitted.{Omitted, omitted, omitted_at, omitted_count}

-- a word has the opcode and the secondary opcode of an instruction
abbrev pub fits : Omitted → ℕ → Bool
fits o w = eqb (bits w 48 9) o.opcode && eqb (bits w o.second_low o.second_width) o.second

-- the bytes of the name of the first of some that a word fits; none where it fits none
unfoldable pub first_name : List Omitted → ℕ → List ℕ
first_name [] w = []
first_name (o ∷ os) w = choose (fits o w) (ascii o.name) (first_name os w)

-- the bytes of the name of a word
abbrev pub left_out : ℕ → List ℕ
left_out w = first_name omitted w

-- What is left out stands apart.
pub record Apart : Type 0 where
  -- no word that a row fits is one that is left out
  pub from_rows : (w i k : ℕ) → i < omitted_count → k < row_count → fits (omitted_at i) w ≡ true → fits_row (row_of k) w ≡ true → ⊥
  -- and no word has two names
  pub one_name : (w i j : ℕ) → i < omitted_count → j < omitted_count → fits (omitted_at i) w ≡ true → fits (omitted_at j) w ≡ true → i ≡ j
