-- The stray bits of a word: those that its row leaves unassigned. Assumes nothing.
use mathlib.Core.Path.{◌≡◌, refl, ◌∙◌}
use mathlib.Core.Bool.{Bool, true, false, ◌&&◌, not}
use Prim.Native.Nat.{ℕ, ◌/◌, ◌^◌, ◌≤◌, ◌<◌}
use native.Mathlib.Nat.{mod-lt, lt_of_lt_of_le, div-eq_of_lt, zero-add}
use native.Mathlib.Omega.{arith}
use lib.Dec.{ltb, eqb}
use lib.Pow.{pow_pos, pow_mono}
use borrow.Author.Tests.{ne_eqb, eqb-false, ltb-true, ltb-false}
use Rattle.bits.specs.Fields.{bits, split, join, assigned}
use Rattle.bits.specs.Sets.{has}
use Rattle.bits.proofs.FieldLaws.{join_split}
use Rattle.bits.proofs.SetLaws.{lowest_le, lowest_below, lowest_none}
use Rattle.rows.specs.Rows.{row_of, row_count}
use Rattle.rows.specs.Layout.{slots}
use Rattle.rows.proofs.RowLaws.{row_apart}
use Rattle.reading.specs.Reader.{stray, lowest_stray}

one_bit : (w b : ℕ) → eqb (bits w b 1) 1 ≡ false → bits w b 1 ≡ 0
one_bit w b h = let l : bits w b 1 < 2 = mod-lt (w / 2 ^ b) (pow_pos 1) in omega (arith, eqb-false (bits w b 1) 1 h)

and_true : (t : Bool) → t && true ≡ false → t ≡ false
and_true true y = y
and_true false y = refl

and_false : (t : Bool) → t && false ≡ false
and_false true = refl
and_false false = refl

module _ (k w : ℕ) where
  -- none is stray: each bit that is unassigned is 0
  pub stray_clean : lowest_stray k w ≡ 64 → (b : ℕ) → b < 64 → assigned (slots (row_of k)) b ≡ false → bits w b 1 ≡ 0
  unfolding lowest_stray
  stray_clean e b h q = one_bit w b (off (lowest_below (stray k w) 64 0 b (omega arith) (omega (arith, e))))
    where
      off : (has w b && not (assigned (slots (row_of k)) b)) ≡ false → has w b ≡ false
      off z = and_true (has w b) (rw q at z)

  pub clean_stray : ((b : ℕ) → b < 64 → assigned (slots (row_of k)) b ≡ false → bits w b 1 ≡ 0) → lowest_stray k w ≡ 64
  unfolding lowest_stray
  clean_stray h = lowest_none (stray k w) 64 0 (λ b l m. none b (omega arith) (assigned (slots (row_of k)) b) refl) ∙ zero-add 64
    where
      none : (b : ℕ) → b < 64 → (t : Bool) → assigned (slots (row_of k)) b ≡ t → stray k w b ≡ false
      none b l true q = rw q (and_false (has w b))
      none b l false q = rw (ne_eqb (bits w b 1) 1 (λ y. absurd (omega (arith, y, h b l q))))

  pub stray_le : lowest_stray k w ≤ 64
  unfolding lowest_stray
  stray_le = rw (zero-add 64) at (lowest_le (stray k w) 64 0)

  -- the word is what its numbers make
  pub join_of_clean : w < 2 ^ 64 → k < row_count → lowest_stray k w ≡ 64 → join (slots (row_of k)) (split (slots (row_of k)) w) ≡ w
  join_of_clean hw h e = join_split w hw (row_apart k h) (λ b l q. low b q (ltb b 64) refl)
    where
      low : (b : ℕ) → assigned (slots (row_of k)) b ≡ false → (t : Bool) → ltb b 64 ≡ t → bits w b 1 ≡ 0
      low b q true z = stray_clean e b (ltb-true b 64 z) q
      low b q false z = rw (div-eq_of_lt (lt_of_lt_of_le hw (pow_mono (ltb-false b 64 z))))
