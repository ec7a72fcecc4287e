use mathlib.Core.Path.{sym, ap, ◌∙◌, subst}
use Prim.Native.Nat.{ℕ, ◌+◌, ◌*◌, ◌%◌, ◌<◌}
use native.Mathlib.Omega.{arith}
use Rattle.bits.specs.Fields.{bits}
use Rattle.opcoderows.specs.Served.Slots.{slot_of}
use Rattle.opcoderows.specs.declared.Block.{Block}
use Rattle.opcoderows.proofs.SlotLaws.{block_small}
use Rattle.opcoderows.proofs.slot_of.Goals as goal

pub overflow_add-result : goal.overflow_add-result
overflow_add-result c =
    let b = c.block_at-block in
    let s : b.result.first < 64 = subst (λ (x : Block). x.first < 64) (sym b.ensures) (block_small _) in
    record { fits = omega (arith, s, c.bits_at.ensures.1) }

pub returns : goal.returns
unfolding slot_of
returns c =
    ap (λ (n : ℕ). c.block_at-block.result.first + n) c.bits_at.ensures.0
    ∙ ap (λ (x : Block). x.first + bits x.steps (c.args.opcode % 16 * 4) 4) c.block_at-block.ensures
