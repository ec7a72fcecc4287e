use Rattle.std.specs.Prelude.{Some}
use mathlib.Core.Path.{◌≡◌, sym, ap, ◌∙◌, subst}
use Prim.Native.Nat.{ℕ, ◌+◌, ◌<◌, ◌≤◌}
use native.Mathlib.Omega.{arith}
use Rattle.rows.specs.Rows.{row_count}
use Rattle.opcoderows.specs.Served.Slots.{slot_of}
use Rattle.opcoderows.specs.Served.Runs.{run_at, row_in}
use Rattle.opcoderows.specs.declared.Run.{Run}
use Rattle.opcoderows.proofs.RunLaws.{run_of, run_small, run_past, run_in, row_in_le}
use Rattle.opcoderows.proofs.row_with.Goals as goal

-- the run that was found is the opcode's
found : (o : ℕ) {s : ℕ} {r : Run} → s ≡ slot_of o → r ≡ run_at s → r ≡ run_of o
found o es er = er ∙ ap run_at es

-- which ends within the table
small : (o : ℕ) {r : Run} → r ≡ run_of o → r.first + r.count ≤ row_count
small o e = subst (λ (r : Run). r.first + r.count ≤ row_count) (sym e) (run_small o).0

pub returns-then-run-k : goal.returns-then-run-k
returns-then-run-k c =
    let a = c.args in
    let e = found a.opcode c.slot_of.ensures c.run_at-run.ensures in
    sym (run_past a.opcode a.k (subst (λ (c : Run). c.count ≤ a.k) e c.if-run-k.true))

pub overflow_add-run : goal.overflow_add-run
overflow_add-run c =
    record { fits = omega (arith, small _ (found _ c.slot_of.ensures c.run_at-run.ensures), c.if-run-k.false) }

pub overflow_cast-result : goal.overflow_cast-result
overflow_cast-result c =
    let l = row_in_le (c.run_at-run.result.first + c.args.k) in
    record { fits = omega (arith, small _ (found _ c.slot_of.ensures c.run_at-run.ensures), c.if-run-k.false, l, c.row_in.ensures) }

pub returns : goal.returns
returns c =
    let a = c.args in
    let e = found a.opcode c.slot_of.ensures c.run_at-run.ensures in
    ap Some (c.row_in.ensures ∙ ap (λ (c : Run). row_in (c.first + a.k)) e)
    ∙ sym (run_in a.opcode a.k (subst (λ (c : Run). a.k < c.count) e c.if-run-k.false))
