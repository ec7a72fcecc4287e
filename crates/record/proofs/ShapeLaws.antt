-- What the numbers of a row's shape and widths say: tests over all rows. Assumes nothing.
use mathlib.Core.Path.{◌≡◌, ap}
use mathlib.Core.Bool.{Bool}
use mathlib.Core.List.{List, [], ◌∷◌}
use Prim.Native.Nat.{ℕ, ◌-◌, ◌*◌, ◌%◌, ◌^◌, ◌<◌}
use lib.Dec.{T, eqb, eqb→eq}
use lib.ListN.{get_or}
use Rattle.bits.specs.Fields.{bits, choose}
use Rattle.bits.proofs.Every.{every, at, alike, alike_eq}
use Rattle.rows.specs.Kinds.{width}
use Rattle.rows.specs.Rows.{Row, rows, row_of, no_row, row_count}
use Rattle.rows.specs.Layout.{modifier_place, kind_at, modifier_at}
use Rattle.rows.specs.Served.Table.{upto, shape, widths}
use Rattle.rows.proofs.TableLaws.{in_table}
use Rattle.rows.proofs.SetOfLaws.{upto_at}

-- what the shape says, and what the row has
said : Row → List ℕ
said r = bits (shape r) 47 1 ∷ bits (shape r) 32 1 ∷ bits (shape r) 33 6 ∷ shape r % 2 ^ 32 ∷ []

held : Row → List ℕ
held r = choose r.destination 0 1 ∷ choose r.offset 1 0 ∷ r.second_low ∷ (2 ^ (8 * r.sources) - 1) ∷ []

shape_test : ℕ → Row → Bool
shape_test k r = alike (said r) (held r)

shapes_right : T (every shape_test 0 rows)
unfolding shape_test said held rows
shapes_right = tt

width_test : Row → ℕ → Bool
width_test r j = eqb (bits (widths r) (4 * j) 3) (width (kind_at r (modifier_place j)))

widths_test : ℕ → Row → Bool
widths_test k r = upto 14 (width_test r)

widths_right : T (every widths_test 0 rows)
unfolding widths_test width_test rows modifier_at
widths_right = tt

module _ (k : ℕ) (h : k < row_count) where
  same : said (row_of k) ≡ held (row_of k)
  unfolding shape_test
  same = alike_eq _ _ (at shape_test rows no_row shapes_right k (in_table k h))

  pub no_destination : bits (shape (row_of k)) 47 1 ≡ choose (row_of k).destination 0 1
  unfolding said held
  no_destination = ap (λ (l : List ℕ). get_or l 0 0) same

  pub offset_there : bits (shape (row_of k)) 32 1 ≡ choose (row_of k).offset 1 0
  unfolding said held
  offset_there = ap (λ (l : List ℕ). get_or l 1 0) same

  pub second_low_there : bits (shape (row_of k)) 33 6 ≡ (row_of k).second_low
  unfolding said held
  second_low_there = ap (λ (l : List ℕ). get_or l 2 0) same

  pub sources_there : shape (row_of k) % 2 ^ 32 ≡ 2 ^ (8 * (row_of k).sources) - 1
  unfolding said held
  sources_there = ap (λ (l : List ℕ). get_or l 3 0) same

  pub width_there : (j : ℕ) → j < 14 → bits (widths (row_of k)) (4 * j) 3 ≡ width (kind_at (row_of k) (modifier_place j))
  unfolding widths_test width_test
  width_there j l = eqb→eq _ _ (upto_at 14 (width_test (row_of k)) (at widths_test rows no_row widths_right k (in_table k h)) j l)
