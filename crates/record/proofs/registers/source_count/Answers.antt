use mathlib.Core.Path.{◌≡◌, ap₂, ◌∙◌}
use Prim.Native.Nat.{ℕ, ◌*◌}
use Rattle.bits.specs.Fields.{bits}
use Rattle.rows.specs.Rows.{row_of}
use Rattle.record.proofs.RegisterLaws.{count_law, count_le}
use Rattle.record.proofs.registers.source_count.Goals as goal

pub returns : goal.returns
returns c =
    let k = c.args.row in
    let e : c.bits_at.result ≡ (row_of k).sources =
    c.bits_at.ensures.0
    ∙ ap₂ (λ (x y : ℕ). bits x (y * 4) 4) c.counts.ensures c.from.ensures
    ∙ count_law k in
    (e, rw e (count_le k))
