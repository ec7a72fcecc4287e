-- The line of a word's row. Assumes nothing.
use Rattle.std.specs.Prelude.{Option, None, Some, option_map}
use mathlib.Core.Path.{◌≡◌, refl, sym, ap, ◌∙◌}
use Prim.Native.Nat.{ℕ, ◌<◌}
use Rattle.bits.proofs.OptionLaws.{Some-injective, Some-ne-None}
use Rattle.bits.specs.Fields.{bits}
use Rattle.rows.specs.Rows.{row_of, row_count}
use Rattle.opcoderows.specs.Opcodes.{row_for}
use Rattle.lookup.specs.Served.Lines.{line_of, OwnRow}
use Rattle.lookup.specs.declared.Line.{Line}
use Rattle.opcoderows.proofs.OpcodeLaws.{own_rows}

pub own_row : (w : ℕ) {found : Option Line} → found ≡ option_map line_of (row_for w) → OwnRow w found
own_row w {found} e =
    record {
      own = λ l q. mine (row_for w) refl l (sym q ∙ e);
      fitting = λ k h f. e ∙ ap (option_map line_of) (own_rows.fitting w k h f);
    }
  where
    mine : (x : Option ℕ) → row_for w ≡ x → (l : Line) → Some l ≡ option_map line_of x
        → (k : ℕ) × ((k < row_count) × (((row_of k).opcode ≡ bits w 48 9) × (l ≡ line_of k)))
    mine (Some k) p l q = let (h, o) = own_rows.own w k p in (k, (h, (o, Some-injective l (line_of k) q)))
    mine None p l q = absurd (Some-ne-None l q)
