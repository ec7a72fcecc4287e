-- What a row lacks where a bit stands that it leaves unassigned (01, The frame; 02, Item 5): which bit is stray, and what it would be for.
use Rattle.std.specs.Prelude.{◌≡◌, Bool, true, false, ◌&&◌, not, List, [], ◌∷◌, ◌++◌, ℕ, ◌*◌, ◌/◌, ◌<◌, eqb, leb, ltb}
use Rattle.bits.specs.Fields.{choose, slot, inside, assigned}
use Rattle.rows.specs.Kinds.{width}
use Rattle.rows.specs.Names.{ascii, name_of}
use Rattle.rows.specs.Rows.{Row, Modifier, rows, row_of, row_count}
use Rattle.rows.specs.Layout.{slots, find}
use Rattle.text.specs.Text.{number_text}

-- source k; a source and a modifier; a modifier; a destination; or nothing that any row has
pub data Lack : Type 0 where
  no_source : ℕ → Lack
  neither no_modifier no_destination nothing : Lack

-- by the bit: the sources stand in bits 0 to 31, eight bits each, modifiers from bit 24 on where there is no source 3, and up to 39, the
-- destination in 40 to 47, and past it all is assigned but bit 63
unfoldable pub lack_at : ℕ → Lack
lack_at p =
    choose (ltb p 24) (no_source (p / 8))
    (choose (ltb p 32) neither (choose (ltb p 40) no_modifier (choose (ltb p 48) no_destination nothing)))

abbrev pub lack_text : Lack → List ℕ
lack_text (no_source k) = ascii "no source " ++ number_text 10 1 k
lack_text neither = ascii "neither a source nor a modifier"
lack_text no_modifier = ascii "no modifier"
lack_text no_destination = ascii "no destination"
lack_text nothing = ascii "nothing"

-- the text for bit p, the lowest that is 1 and unassigned in the word w (02, Item 5): the bit, the name of the word's row, what that lacks there
unfoldable pub stray_text : ℕ → ℕ → List ℕ
stray_text w p =
    ascii "bit " ++ number_text 10 3 p ++ ascii " is 1, where " ++ name_of (find rows 0 w) ++ ascii " has " ++ lack_text (lack_at p)

-- no modifier of some stands at bit p
abbrev pub bare : List Modifier → ℕ → Bool
bare [] p = true
bare (m ∷ ms) p = not (inside (slot m.low (width m.kind)) p) && bare ms p

-- that a row lacks it at bit p
abbrev pub lacks : Row → ℕ → Lack → Bool
lacks r p (no_source k) = inside (slot (8 * k) 8) p && leb r.sources k
lacks r p neither = inside (slot 24 8) p && (leb r.sources 3 && bare r.modifiers p)
lacks r p no_modifier = inside (slot 32 8) p && bare r.modifiers p
lacks r p no_destination = inside (slot 40 8) p && not r.destination
lacks r p nothing = eqb p 63

-- what is told of an unassigned bit is so, for every row
abbrev pub LackTrue : Type 0
LackTrue = (k p : ℕ) → k < row_count → p < 64 → assigned (slots (row_of k)) p ≡ false → lacks (row_of k) p (lack_at p) ≡ true
