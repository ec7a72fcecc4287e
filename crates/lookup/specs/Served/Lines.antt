-- Each row as a line of numbers by which a word of it is judged.
use Rattle.std.specs.Prelude.{◌≡◌, true, ℕ, ◌+◌, ◌*◌, ◌%◌, ◌^◌, ◌<◌, Option, Some}
use Rattle.std.specs.Int.Bits.{bit_or}
use Rattle.bits.specs.Fields.{bits}
use Rattle.rows.specs.Rows.{row_of, row_count}
use Rattle.rows.specs.Layout.{fits}
use Rattle.rows.specs.Served.Table.{set_of, fixed_bit, fixed, pairs, limits, widths, shape}
use Rattle.rows.specs.declared.table.Row.{Row as Words}
use Rattle.lookup.specs.declared.Line.{Line}

-- row k's line; past the table's end that of the row that has nothing
unfoldable pub line_of : ℕ → Line
line_of k =
    record {
      fixed_bits = set_of (fixed_bit (row_of k)) 64;
      fixed = fixed (row_of k);
      pairs = pairs (row_of k);
      limits = limits (row_of k);
      modifiers = widths (row_of k);
      shape = shape (row_of k) + k * 2 ^ 48;
    }

-- `OwnRows` (Opcodes) of a word and the line that was found for it.
pub record OwnRow (w : ℕ) (found : Option Line) : Type 0 where
  -- it is the line of a row that has the word's opcode, or none
  pub own : (l : Line) → found ≡ Some l → (k : ℕ) × ((k < row_count) × (((row_of k).opcode ≡ bits w 48 9) × (l ≡ line_of k)))
  -- and the line of the row that fits, if one does
  pub fitting : (k : ℕ) → k < row_count → fits (row_of k) w ≡ true → found ≡ Some (line_of k)

-- a line from a row of the table
abbrev pub line_from : ℕ → Words → Line
line_from k v =
    record {
      fixed_bits = v.fixed_bits;
      fixed = bit_or (v.opcode * 2 ^ 48 % 2 ^ 64) (v.second * 2 ^ bits v.shape 33 6 % 2 ^ 64);
      pairs = v.pairs;
      limits = v.limits;
      modifiers = v.modifiers;
      shape = bit_or v.shape (k * 2 ^ 48 % 2 ^ 64);
    }
