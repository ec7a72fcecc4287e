-- Which instructions can be replayed (02, Item 8), and the number with which another is refused.
use Rattle.std.specs.Prelude.{Bool, true, false, not, ◌&&◌, ◌||◌, List, [], ◌∷◌, ℕ, eqb, ltb}
use Rattle.bits.specs.Fields.{choose}
use Rattle.rows.specs.Rows.{row_of}
use Rattle.rows.specs.Sources.{Meaning, register_read, register_released, uniform, immediate, special, refused, meaning}
use Rattle.record.specs.declared.instruction.Instruction.{Instruction}

-- the nine rows, by their numbers in 01's table: NOP, BRANCHZ, MOV.i32, CLZ.u32, POPCOUNT.i32, BITREV.i32, NOT_OLD.i32, FADD.f32, MUX.i32
abbrev pub nop_row : ℕ
nop_row = 0

abbrev pub branchz_row : ℕ
branchz_row = 1

abbrev pub mov_row : ℕ
mov_row = 30

abbrev pub clz_row : ℕ
clz_row = 31

abbrev pub popcount_row : ℕ
popcount_row = 37

abbrev pub bitrev_row : ℕ
bitrev_row = 38

abbrev pub not_row : ℕ
not_row = 39

abbrev pub fadd_row : ℕ
fadd_row = 53

abbrev pub mux_row : ℕ
mux_row = 55

abbrev pub nine_rows : List ℕ
nine_rows = nop_row ∷ branchz_row ∷ mov_row ∷ clz_row ∷ popcount_row ∷ bitrev_row ∷ not_row ∷ fadd_row ∷ mux_row ∷ []

abbrev pub one_of : List ℕ → ℕ → Bool
one_of [] n = false
one_of (k ∷ ks) n = eqb n k || one_of ks n

-- the row is one of the nine
unfoldable pub runs : ℕ → Bool
runs row = one_of nine_rows row

-- what is written is a whole register: a half write has another mask than 3
unfoldable pub writes_whole : Instruction → Bool
writes_whole x = not (row_of x.row).destination || eqb x.half_mask 3

-- no combine and no widen other than none. Of the nine rows BRANCHZ has a combine, at bit 37, and FADD.f32 a widen for each source, at bits
-- 28 and 26.
unfoldable pub takes_whole : Instruction → Bool
takes_whole x =
    choose (eqb x.row branchz_row) (eqb x.modifiers.m37 0)
    (choose (eqb x.row fadd_row) (eqb x.modifiers.m28 0 && eqb x.modifiers.m26 0) true)

-- what the three sources of an instruction mean; a place that its row does not use is 0, which is a register, and no row of the nine has four
abbrev pub source_0 : Instruction → Meaning
source_0 x = meaning x.page x.sources.s0

abbrev pub source_1 : Instruction → Meaning
source_1 x = meaning x.page x.sources.s1

abbrev pub source_2 : Instruction → Meaning
source_2 x = meaning x.page x.sources.s2

-- no special constant: entries from 32 up mean one, or are refused when the word is read
abbrev pub ordinary : Meaning → Bool
ordinary (register_read r) = true
ordinary (register_released r) = true
ordinary (uniform u) = true
ordinary (immediate v) = true
ordinary (special s p) = false
ordinary refused = false

-- of so many uniforms there is the one that a source names, if it names one
abbrev pub supplied : ℕ → Meaning → Bool
supplied n (register_read r) = true
supplied n (register_released r) = true
supplied n (uniform u) = ltb u n
supplied n (immediate v) = true
supplied n (special s p) = true
supplied n refused = true

abbrev pub all_three : (Meaning → Bool) → Instruction → Bool
all_three test x = test (source_0 x) && test (source_1 x) && test (source_2 x)

-- the machine can run the instruction: one of the nine rows, whole registers, no special constant
unfoldable pub replayable : Instruction → Bool
replayable x = runs x.row && writes_whole x && takes_whole x && all_three ordinary x

-- the number with which an instruction is refused where there are n uniforms, or 0: 30 where the machine cannot run it, else 31 where a
-- uniform is past the list
unfoldable pub fault : ℕ → Instruction → ℕ
fault n x = choose (replayable x) (choose (all_three (supplied n) x) 0 31) 30
