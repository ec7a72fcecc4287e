-- What an instruction does to registers and where it goes (01, How registers are held), for any record.
use Rattle.std.specs.Prelude.{Bool, ◌&&◌, ℕ, ◌/◌, ◌%◌, ◌^◌, ltb, leb, eqb, get_or}
use Rattle.bits.specs.Fields.{choose}
use Rattle.bits.specs.Sets.{single, union}
use Rattle.bits.specs.Halves.{Half, lower, upper, halves}
use Rattle.bits.specs.declared.halves.Halves.{Halves}
use Rattle.rows.specs.Rows.{row_of}
use Rattle.record.specs.Lists.{source_list}
use Rattle.record.specs.declared.instruction.Instruction.{Instruction}

-- a source byte that reads a register: one below 128; its number is the byte, or the byte minus 64
abbrev pub reads_register : ℕ → Bool
reads_register b = ltb b 128

-- a source byte that reads and releases a register (the paper's "released"): 64 to 127
abbrev pub kills_register : ℕ → Bool
kills_register b = leb 64 b && ltb b 128

-- source j, where the row has it, adds its register to a set if it passes the test
abbrev pub source_set : (ℕ → Bool) → Instruction → ℕ → ℕ
source_set test i j =
    choose (ltb j (row_of i.row).sources && test (get_or (source_list i.sources) j 0)) (2 ^ (get_or (source_list i.sources) j 0 % 64)) 0

abbrev pub sources_set : (ℕ → Bool) → Instruction → ℕ
sources_set test i = union (union (union (source_set test i 0) (source_set test i 1)) (source_set test i 2)) (source_set test i 3)

-- the registers of the sources that the row has and that read one
unfoldable pub reads : Instruction → ℕ
reads i = sources_set reads_register i

-- those that it releases
unfoldable pub kills : Instruction → ℕ
kills i = sources_set kills_register i

-- what it fully writes: its destination, where both halves are written
unfoldable pub defines : Instruction → ℕ
defines i = choose ((row_of i.row).destination && eqb i.half_mask 3) (single i.register) 0

-- the half mask has a half of the destination: bit 0 stands for the low one, bit 1 for the high one
abbrev pub masked : Half → ℕ → Bool
masked lower mask = eqb (mask % 2) 1
masked upper mask = eqb (mask / 2 % 2) 1

abbrev pub writes_half : Half → Instruction → ℕ
writes_half h i = choose ((row_of i.row).destination && masked h i.half_mask) (single i.register) 0

-- what it writes, by halves (02, Item 7): of its destination the halves in its mask
unfoldable pub writes : Instruction → Halves
writes i = halves (writes_half lower i) (writes_half upper i)

-- with flow `end` nothing follows, not even where BRANCHZ has it
abbrev pub ends : Instruction → Bool
ends i = eqb i.flow 15

-- BRANCHZ, the only row that has an offset, also goes on to i + 1 + offset
abbrev pub branches : Instruction → Bool
branches i = (row_of i.row).offset
