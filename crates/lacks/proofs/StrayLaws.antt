-- What the row of a word lacks where a bit stands, and the number of that row. Assumes nothing.
use Rattle.std.specs.Prelude.{None, Some, option_map}
use mathlib.Core.Path.{◌≡◌, refl, ap, ◌∙◌, subst}
use mathlib.Core.Bool.{Bool, true, false, ◌||◌}
use Prim.Native.Nat.{ℕ, ◌/◌}
use native.Mathlib.Omega.{arith}
use borrow.Author.Tests.{ltb-false}
use lib.Dec.{T, ltb}
use Rattle.bits.proofs.OptionLaws.{None-ne-Some}
use Rattle.bits.specs.Fields.{choose, assigned}
use Rattle.bits.proofs.Every.{every, at, T_true}
use Rattle.rows.specs.Rows.{Row, rows, row_of, no_row, row_count}
use Rattle.rows.specs.Layout.{places, slots, modifier_at, find}
use Rattle.rows.specs.Served.Table.{upto}
use Rattle.rows.proofs.TableLaws.{in_table}
use Rattle.rows.proofs.SetOfLaws.{upto_at}
use Rattle.rows.proofs.FindLaws.{find_le}
use Rattle.opcoderows.specs.Opcodes.{row_for}
use Rattle.lookup.specs.Served.Lines.{line_of}
use Rattle.lookup.specs.declared.Line.{Line}
use Rattle.opcoderows.proofs.OpcodeLaws.{found_among}
use Rattle.judge.proofs.JudgeLaws.{line_fitted}
use Rattle.reading.proofs.SourceBytes.{shape_row}
use Rattle.lacks.specs.Lacks.{lack_at, lacks, LackTrue}

module _ (w : ℕ) where
  pub row_found : {l : Line} → Some l ≡ option_map line_of (row_for w) → l.shape / 281474976710656 ≡ find rows 0 w
  unfolding line_of
  row_found {l} e =
      ap (λ (x : Line). x.shape / 281474976710656) (line_fitted w e).line ∙ shape_row (find rows 0 w) (find_le w)

  pub none_found : None ≡ option_map line_of (row_for w) → row_count ≡ find rows 0 w
  none_found e = go (ltb (find rows 0 w) row_count) refl (e ∙ ap (option_map line_of) (found_among w))
    where
      go : (b : Bool) → ltb (find rows 0 w) row_count ≡ b → None ≡ option_map line_of (choose b (Some (find rows 0 w)) None) → row_count ≡ find rows 0 w
      go true p q = absurd (None-ne-Some (line_of (find rows 0 w)) q)
      go false p q = omega (arith, find_le w, ltb-false (find rows 0 w) row_count p)

-- that it is so, by one test over the rows
lack_test : ℕ → Row → Bool
lack_test k r = upto 64 (λ (p : ℕ). assigned (slots r) p || lacks r p (lack_at p))

all_lacks : T (every lack_test 0 rows)
unfolding lack_test lack_at rows places slots modifier_at assigned
all_lacks = tt

pub lack_true : LackTrue
unfolding lack_test
lack_true k p h l e =
    let t = upto_at 64 (λ (p : ℕ). assigned (slots (row_of k)) p || lacks (row_of k) p (lack_at p)) (at lack_test rows no_row all_lacks k (in_table k h)) p l in
    T_true (lacks (row_of k) p (lack_at p)) (subst (λ (x : Bool). T (x || lacks (row_of k) p (lack_at p))) e t)
