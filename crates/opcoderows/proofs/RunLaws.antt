-- The runs list the rows of each opcode; so the call does what the request asks. Assumes nothing.
use Rattle.std.specs.Prelude.{None, Some}
use mathlib.Core.Path.{◌≡◌, refl, sym, ap, ◌∙◌, subst}
use mathlib.Core.Bool.{Bool, true, false, ◌&&◌}
use mathlib.Core.List.{List, [], ◌∷◌}
use Prim.Native.Nat.{ℕ, zero, suc, ◌+◌, ◌<◌, ◌≤◌}
use native.Mathlib.Nat.{not-suc-le-zero, le_of_suc-le-suc, add-zero, add-suc, suc-add}
use native.Mathlib.Omega.{arith}
use lib.Dec.{T, eqb, ltb, leb, ltb→lt, leb→le}
use lib.ListN.{length}
use borrow.Author.Tests.{eqb-true, ltb-true, ltb-false, le-leb}
use Rattle.bits.specs.Fields.{choose}
use Rattle.bits.specs.Lists.{kth}
use Rattle.bits.proofs.ListLaws.{kth_past, kth_stays}
use Rattle.bits.proofs.Every.{every, alike, alike_eq, and_l, and_r}
use Rattle.rows.specs.Rows.{Row, rows, row_count}
use Rattle.rows.specs.Served.Table.{upto}
use Rattle.rows.proofs.SetOfLaws.{upto_at}
use Rattle.opcoderows.specs.Opcodes.{having, rows_with, row_with, Indexes}
use Rattle.opcoderows.specs.Served.Keyed.{lookup}
use Rattle.opcoderows.specs.Served.Slots.{block_at, slot_of}
use Rattle.opcoderows.specs.Served.Runs.{no_run, runs, run_at, moved, row_in, listed}
use Rattle.opcoderows.specs.declared.Run.{Run}
use Rattle.opcoderows.proofs.KeyedLaws.{tested, lookup_passes}
use Rattle.opcoderows.proofs.SlotLaws.{no_slot}
use Rattle.opcoderows.proofs.OpcodeLaws.{with_opcode, with_order, with_row, with_one}

abbrev pub run_of : ℕ → Run
run_of opcode = run_at (slot_of opcode)

-- ---- one test of all opcodes that a word can have: the run in an opcode's slot lists the rows that have it

run_test : ℕ → Bool
run_test o = alike (rows_with o) (listed (run_of o).first (run_of o).count)

runs_right : T (upto 512 run_test)
unfolding run_test having listed row_in run_at slot_of block_at rows
runs_right = tt

-- and one of all rows: they have such an opcode
low_test : ℕ → Row → Bool
low_test k r = ltb r.opcode 512

rows_low : T (every low_test 0 rows)
unfolding low_test rows
rows_low = tt

-- so no other opcode has rows
no_rows : (rs : List Row) (i o : ℕ) → T (every low_test i rs) → 512 ≤ o → having o rs i ≡ []
unfolding having low_test
no_rows [] i o t h = refl
no_rows (r ∷ rs) i o t h =
    go (eqb r.opcode o) refl (no_rows rs (suc i) o (and_r (ltb r.opcode 512) (every low_test (suc i) rs) t) h)
  where
    go : (b : Bool) → eqb r.opcode o ≡ b → having o rs (suc i) ≡ [] → choose b (i ∷ having o rs (suc i)) (having o rs (suc i)) ≡ []
    go true q n =
        let l = ltb→lt r.opcode 512 (and_l (ltb r.opcode 512) (every low_test (suc i) rs) t) in
        absurd (omega (arith, l, eqb-true r.opcode o q))
    go false q n = n

-- each opcode's run lists its rows
pub rows_listed : (o : ℕ) → rows_with o ≡ listed (run_of o).first (run_of o).count
unfolding run_test listed run_at
rows_listed o = go (ltb o 512) refl
  where
    go : (b : Bool) → ltb o 512 ≡ b → rows_with o ≡ listed (run_of o).first (run_of o).count
    go true e = alike_eq (rows_with o) _ (upto_at 512 run_test runs_right o (ltb-true o 512 e))
    go false e =
        let h = ltb-false o 512 e in
        no_rows rows 0 o rows_low h ∙ ap (λ (s : ℕ). listed (run_at s).first (run_at s).count) (sym (no_slot o h))

small_test : ℕ → Run → Bool
small_test slot r = leb (r.first + r.count) row_count && leb r.count 25

runs_small : T (tested small_test runs)
unfolding small_test
runs_small = tt

pub run_small : (o : ℕ) → ((run_of o).first + (run_of o).count ≤ row_count) × ((run_of o).count ≤ 25)
unfolding run_at small_test
run_small o =
    let r = lookup no_run runs (slot_of o) in
    let a = leb (r.first + r.count) row_count in
    let b = leb r.count 25 in
    let t : T (a && b) = lookup_passes small_test no_run runs (slot_of o) runs_small tt in
    (leb→le _ _ (and_l a b t), leb→le _ _ (and_r a b t))

-- ---- the k-th row of a run

kth_listed : (p n k : ℕ) → k < n → kth (listed p n) k ≡ Some (row_in (p + k))
unfolding kth listed
kth_listed p zero k h = absurd (not-suc-le-zero h)
kth_listed p (suc n) zero h = ap (λ (x : ℕ). Some (row_in x)) (sym (add-zero p))
kth_listed p (suc n) (suc k) h = kth_listed (suc p) n k (le_of_suc-le-suc h) ∙ ap (λ (x : ℕ). Some (row_in x)) (suc-add p k ∙ sym (add-suc p k))

length_listed : (p n : ℕ) → length (listed p n) ≡ n
unfolding listed
length_listed p zero = refl
length_listed p (suc n) = ap suc (length_listed (suc p) n)

module _ (o k : ℕ) where
  pub run_past : (run_of o).count ≤ k → row_with o k ≡ None
  run_past h = kth_past (rows_with o) k (subst (λ (n : ℕ). n ≤ k) (sym (ap length (rows_listed o) ∙ length_listed (run_of o).first (run_of o).count)) h)

  pub run_in : k < (run_of o).count → row_with o k ≡ Some (row_in ((run_of o).first + k))
  run_in h = ap (λ (xs : List ℕ). kth xs k) (rows_listed o) ∙ kth_listed (run_of o).first (run_of o).count k h

-- ---- rows of the order

moved_test : ℕ → ℕ → Bool
moved_test p r = leb r (p + 2)

moved_right : T (tested moved_test moved)
unfolding moved_test
moved_right = tt

-- a row stands at most two places before its own
pub row_in_le : (p : ℕ) → row_in p ≤ p + 2
unfolding row_in moved_test
row_in_le p = leb→le (lookup p moved p) (p + 2) (lookup_passes moved_test p moved p moved_right (T-le p))
  where
    T-le : (p : ℕ) → T (leb p (p + 2))
    T-le p = subst T (sym (le-leb p (p + 2) (omega arith))) tt

-- ---- what the request asks

pub indexes : Indexes row_with
indexes =
    record {
      has_it = with_opcode;
      at_one = λ i h. let (k, q) = with_row i h in (k, (q, λ j e. with_one _ i j k e q));
      in_order = with_order;
      from_0 = λ o j k e h. kth_stays (rows_with o) j k e h;
      at_most_25 = λ o k h. run_past o k (omega (arith, (run_small o).1));
    }
