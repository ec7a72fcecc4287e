-- The readable words are read, and they alone. Assumes nothing.
use mathlib.Core.Path.{◌≡◌, refl}
use mathlib.Core.Bool.{Bool, true, false}
use mathlib.Core.List.{List}
use Prim.Native.Nat.{ℕ, ◌*◌, ◌<◌}
use native.Mathlib.Nat.{mod-one, lt_of_lt_of_le}
use lib.ListN.{length, get_or}
use borrow.Author.Tests.{eq-eqb, lt-ltb}
use Rattle.bits.specs.Fields.{bits}
use Rattle.bits.specs.Bytes.{little}
use Rattle.bits.specs.Outcomes.{gives, ◌then◌}
use Rattle.rows.specs.Kinds.{Kind, width, absent, half_mask}
use Rattle.rows.specs.Sources.{source_legal}
use Rattle.rows.specs.Rows.{rows, row_of, row_count}
use Rattle.rows.specs.Layout.{source_place, modifier_lows, where_has, fits, find}
use Rattle.rows.proofs.RowLaws.{one_row, four_sources, opcode_there, second_there}
use Rattle.rows.proofs.FindLaws.{find_fits, find_row}
use Rattle.record.specs.Instructions.{number_in, instruction_of}
use Rattle.record.specs.Legality.{source_ok}
use Rattle.reading.specs.Reader.{read_row, read}
use Rattle.codec.specs.Demand2.{Allowed, Fits, Readable}
use Rattle.record.specs.declared.instruction.Instruction.{Instruction}
use Rattle.record.proofs.NumberLaws.{source_in, modifier_in}
use Rattle.reading.proofs.StrayLaws.{clean_stray, stray_clean}
use Rattle.record.proofs.LegalLaws.{Passed, judge_passes, passes_judge, ok_source, source_is_ok}
use Rattle.codec.proofs.EachModifier.{modifiers_each, each_modifier}
use Rattle.writing.proofs.RoundTrip.{Parsed, parsed}

-- the test and the statement that a word fits a row
pub fits_test : (k w : ℕ) → Fits k w → fits (row_of k) w ≡ true
fits_test k w f = rw (eq-eqb _ _ f.0, eq-eqb _ _ f.1)

pub test_fits : (k w : ℕ) → fits (row_of k) w ≡ true → Fits k w
test_fits k w e = (opcode_there (row_of k) w e, second_there (row_of k) w e)

pub no_two : (w j k : ℕ) → j < row_count → k < row_count → Fits j w → Fits k w → j ≡ k
no_two w j k hj hk p q = one_row w j k hj hk (fits_test j w p) (fits_test k w q)

-- kind x, at bit p of a word, has a legal value; where nothing stands, it has
abbrev Good : ℕ → ℕ → Kind → Type 0
Good w p x = Allowed x (bits w p (width x))

nothing : (w p : ℕ) → Good w p absent
nothing w p = rw (mod-one _)

-- a readable word is read
module _ (bs : List ℕ) (a : Readable bs) where
  abbrev w : ℕ
  w = little bs

  abbrev k : ℕ
  k = a.row

  mask_fair : (t : Bool) → (t ≡ true → Allowed half_mask (bits w 46 2)) → Good w 46 (where_has t half_mask)
  mask_fair true h = h refl
  mask_fair false h = nothing w 46

  source_fair : (j : ℕ) → source_ok (row_of k) (bits w 57 2) j (number_in k w (source_place j)) ≡ true
  source_fair j = source_is_ok (row_of k) (bits w 57 2) j _ (λ l. rw (lt-ltb j (row_of k).sources l) (a.sources_legal j l))

  fair : Passed (row_of k) (instruction_of k w)
  fair =
      record {
        flow_ok = a.flow_legal;
        mask_ok = mask_fair (row_of k).destination a.destination_legal;
        modifiers_ok = λ j h. rw (modifier_in (number_in k w) j h) (each_modifier (Good w) (nothing w) (row_of k).modifiers a.modifiers_legal (get_or modifier_lows j 0));
        sources_ok = λ j h. rw (source_in (number_in k w) j h) (source_fair j);
      }

  pub readable_read : read bs ≡ gives (instruction_of a.row (little bs))
  unfolding read read_row ◌then◌
  readable_read =
      rw (
        eq-eqb (length bs) 8 a.eight,
        find_row w k a.in_table (fits_test k w a.fits),
        lt-ltb k row_count a.in_table,
        clean_stray k w a.unassigned,
        passes_judge (row_of k) (instruction_of k w) fair,
      )

-- a word that is read is readable
module _ (bs : List ℕ) (i : Instruction) (e : read bs ≡ gives i) where
  abbrev w' : ℕ
  w' = little bs

  abbrev k' : ℕ
  k' = find rows 0 (little bs)

  f : Parsed bs i
  f = parsed bs i e

  p : Passed (row_of k') (instruction_of k' w')
  p = judge_passes (row_of k') (instruction_of k' w') f.legal

  source_at : (j : ℕ) → j < (row_of k').sources → source_legal (bits w' 57 2) (bits w' (8 * j) 8) ≡ true
  source_at j l =
      let h = lt_of_lt_of_le l (four_sources k' f.row) in
      rw (source_in (number_in k' w') j h, lt-ltb j (row_of k').sources l) at (ok_source (row_of k') (bits w' 57 2) j _ (p.sources_ok j h) l)

  pub read_readable : Readable bs
  read_readable =
      record {
        eight = f.eight;
        row = k';
        in_table = f.row;
        fits = test_fits k' w' (find_fits w' f.row);
        only = λ j l q. no_two w' j k' l f.row q (test_fits k' w' (find_fits w' f.row));
        unassigned = stray_clean k' w' f.clean;
        flow_legal = p.flow_ok;
        destination_legal = λ t. rw t at p.mask_ok;
        modifiers_legal = modifiers_each (Good w') (nothing w') k' f.row (λ j h. rw (modifier_in (number_in k' w') j h) at (p.modifiers_ok j h));
        sources_legal = source_at;
      }
