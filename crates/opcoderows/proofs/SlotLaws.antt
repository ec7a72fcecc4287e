-- The slots of the opcodes. Assumes nothing.
use mathlib.Core.Path.{◌≡◌, ap, ◌∙◌}
use mathlib.Core.Bool.{Bool}
use Prim.Native.Nat.{ℕ, ◌+◌, ◌*◌, ◌/◌, ◌%◌, ◌^◌, ◌<◌, ◌≤◌}
use native.Mathlib.Nat.{div-eq_of_lt}
use native.Mathlib.Omega.{arith}
use lib.Dec.{T, ltb, ltb→lt}
use lib.Pow.{pow_pos}
use Rattle.bits.specs.Fields.{bits}
use Rattle.opcoderows.specs.Served.Slots.{block, blocks, block_at, slot_of}
use Rattle.opcoderows.specs.declared.Block.{Block}
use Rattle.opcoderows.proofs.KeyedLaws.{tested, keeps_below, lookup_out, lookup_passes}

-- a block's first slot is small
first_test : ℕ → Block → Bool
first_test h b = ltb b.first 64

firsts_right : T (tested first_test blocks)
unfolding first_test
firsts_right = tt

pub block_small : (h : ℕ) → (block_at h).first < 64
unfolding block_at first_test
block_small h = ltb→lt _ _ (lookup_passes first_test (block 0 0) blocks h firsts_right tt)

-- the blocks are those of opcodes below 512, so any other opcode has the empty slot 0
pub no_slot : (o : ℕ) → 512 ≤ o → slot_of o ≡ 0
unfolding slot_of block_at
no_slot o h = ap (λ (b : Block). b.first + bits b.steps (o % 16 * 4) 4) (lost (o / 16) (omega arith)) ∙ ap (λ (n : ℕ). 0 + n % 2 ^ 4) (div-eq_of_lt (pow_pos (o % 16 * 4)))
  where
    lost : (h : ℕ) → 32 ≤ h → block_at h ≡ block 0 0
    lost h l = lookup_out first_test (block 0 0) blocks h (keeps_below 32 blocks tt h l)
