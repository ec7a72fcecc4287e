-- What is left out stands apart: one test of each entry against all rows, and one against all other entries. Assumes nothing.
use mathlib.Core.Path.{◌≡◌, refl, sym, ap₂, ◌∙◌}
use mathlib.Core.Bool.{Bool, true, false, ◌&&◌, ◌||◌, not}
use mathlib.Core.List.{[]}
use Prim.Native.Nat.{ℕ, ◌<◌}
use lib.Dec.{T, eqb, eqb→eq}
use borrow.Author.Tests.{eq-eqb, eqb-true}
use Rattle.bits.specs.Fields.{bits}
use Rattle.bits.proofs.Every.{every, at, and_l, and_r}
use Rattle.rows.specs.Rows.{Row, rows, row_of, no_row, row_count}
use Rattle.rows.specs.Layout.{fits as fits_row}
use Rattle.rows.proofs.TableLaws.{in_table}
use Rattle.rows.proofs.RowLaws.{opcode_there, second_there}
use Rattle.leftout.specs.Omitted.{Omitted, omitted, omitted_at, omitted_count, none}
use Rattle.leftout.specs.LeftOut.{fits, Apart}
use Rattle.leftout.proofs.OmittedLaws.{in_omitted}

-- an entry as a row of which only the opcodes are known
abbrev as_row : Omitted → Row
as_row o =
    record {
      name = o.name;
      opcode = o.opcode;
      second_low = o.second_low;
      second_width = o.second_width;
      second = o.second;
      destination = false;
      sources = 0;
      offset = false;
      modifiers = [];
    }

-- another opcode, or at the same place another secondary opcode
differ : Row → Row → Bool
differ a b =
    not (eqb a.opcode b.opcode)
    || (eqb a.second_low b.second_low && eqb a.second_width b.second_width && not (eqb a.second b.second))

not_both : (a b : Row) (w : ℕ) → T (differ a b) → fits_row a w ≡ true → fits_row b w ≡ true → ⊥
unfolding differ
not_both a b w t p q =
    let o : a.opcode ≡ b.opcode = sym (opcode_there a w p) ∙ opcode_there b w q in
    let u : T (eqb a.second_low b.second_low && eqb a.second_width b.second_width && not (eqb a.second b.second)) =
    rw (eq-eqb a.opcode b.opcode o) at t in
    let x = eqb a.second_low b.second_low in
    let y = eqb a.second_width b.second_width in
    let v = not (eqb a.second b.second) in
    let e1 : a.second_low ≡ b.second_low = eqb→eq _ _ (and_l x y (and_l (x && y) v u)) in
    let e2 : a.second_width ≡ b.second_width = eqb→eq _ _ (and_r x y (and_l (x && y) v u)) in
    let e3 : a.second ≡ b.second = sym (second_there a w p) ∙ ap₂ (λ (m n : ℕ). bits w m n) e1 e2 ∙ second_there b w q in
    rw (eq-eqb a.second b.second e3) at (and_r (x && y) v u)

-- ---- an entry and a row

from_row : Omitted → ℕ → Row → Bool
from_row o k r = differ (as_row o) r

from_rows : ℕ → Omitted → Bool
from_rows i o = every (from_row o) 0 rows

all_from_rows : T (every from_rows 0 omitted)
unfolding from_rows from_row differ omitted rows
all_from_rows = tt

row_apart : (i k : ℕ) → i < omitted_count → k < row_count → T (differ (as_row (omitted_at i)) (row_of k))
unfolding from_rows from_row
row_apart i k hi hk = at (from_row (omitted_at i)) rows no_row (at from_rows omitted none all_from_rows i (in_omitted i hi)) k (in_table k hk)

-- ---- two entries

from_other : ℕ → Omitted → ℕ → Omitted → Bool
from_other i o j p = eqb i j || differ (as_row o) (as_row p)

from_others : ℕ → Omitted → Bool
from_others i o = every (from_other i o) 0 omitted

all_from_others : T (every from_others 0 omitted)
unfolding from_others from_other differ omitted
all_from_others = tt

one : (w i j : ℕ) → i < omitted_count → j < omitted_count → fits (omitted_at i) w ≡ true → fits (omitted_at j) w ≡ true → i ≡ j
unfolding from_others from_other
one w i j hi hj p q =
    go (eqb i j) refl (at (from_other i (omitted_at i)) omitted none (at from_others omitted none all_from_others i (in_omitted i hi)) j (in_omitted j hj))
  where
    go : (t : Bool) → eqb i j ≡ t → T (t || differ (as_row (omitted_at i)) (as_row (omitted_at j))) → i ≡ j
    go true e d = eqb-true i j e
    go false e d = absurd (not_both (as_row (omitted_at i)) (as_row (omitted_at j)) w d p q)

pub stands_apart : Apart
stands_apart =
    record {
      from_rows = λ w i k hi hk p q. not_both (as_row (omitted_at i)) (row_of k) w (row_apart i k hi hk) p q;
      one_name = one;
    }
