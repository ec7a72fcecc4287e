-- The index by opcode: each opcode has a slot, its own or, where no row has the opcode, an empty one.
use Rattle.std.specs.Prelude.{List, [], ◌∷◌, ℕ, ◌+◌, ◌*◌, ◌/◌, ◌%◌}
use Rattle.bits.specs.Fields.{bits}
use Rattle.opcoderows.specs.Served.Keyed.{Keyed, keyed, lookup}
use Rattle.opcoderows.specs.declared.Block.{Block}

abbrev pub block : ℕ → ℕ → Block
block steps first = record { steps = steps; first = first }

-- the blocks of sixteen opcodes, by an opcode's number without its lowest four bits: for each opcode four bits that lead from the block's
-- first slot, which is empty, to the opcode's own
abbrev pub blocks : List (Keyed Block)
blocks =
    keyed 0x00 (block 0x1 0)
    ∷ keyed 0x01 (block 0x1000000000000000 2)
    ∷ keyed 0x02 (block 0x1 4)
    ∷ keyed 0x09 (block 0x4000300000021 6)
    ∷ keyed 0x0A (block 0x210000 11)
    ∷ keyed 0x0B (block 0x4032100000000 14)
    ∷ keyed 0x0C (block 0x321 19)
    ∷ keyed 0x0F (block 0x87600540321 23)
    ∷ keyed 0x15 (block 0x210000 32)
    ∷ []

unfoldable pub block_at : ℕ → Block
block_at high = lookup (block 0 0) blocks high

unfoldable pub slot_of : ℕ → ℕ
slot_of opcode = (block_at (opcode / 16)).first + bits (block_at (opcode / 16)).steps (opcode % 16 * 4) 4
