-- The instructions that 002 has and the scope leaves out (01, What the tool reads and what it ignores): by what a word is known as one.
use Rattle.std.specs.Prelude.{List, [], ◌∷◌, ℕ, get_or}
use Prim.Native.String.{String}

-- an instruction: 002's name for it, or one for all that share its opcode; its opcode; the lowest bit, the width and the value of its secondary opcode (width 0: the opcode
-- alone decides)
pub record Omitted : Type 0 where
  pub name : String
  pub opcode : ℕ
  pub second_low : ℕ
  pub second_width : ℕ
  pub second : ℕ

-- the opcode alone decides: 002 has no secondary opcode for it, or paper 01 does not say where that stands. The latter holds of messages and
-- of shifts, whose secondary opcodes have nine bits; there one name stands for all that share the opcode, without the type where only that
-- differs, so also for LD_BUFFER (02, Item 10, has its place).
abbrev pub alone : String → ℕ → Omitted
alone name opcode = record { name = name; opcode = opcode; second_low = 0; second_width = 0; second = 0 }

-- one or two sources: the secondary opcode has four bits, from bit 16 up (01, The frame)
abbrev pub at_16 : String → ℕ → ℕ → Omitted
at_16 name opcode second = record { name = name; opcode = opcode; second_low = 16; second_width = 4; second = second }

-- three sources: it stands from bit 24 up, and has two bits for the opcodes of comparisons, 0xF0 to 0xFA (01, The frame)
abbrev pub at_24 : String → ℕ → ℕ → Omitted
at_24 name opcode second = record { name = name; opcode = opcode; second_low = 24; second_width = 2; second = second }

-- in 002's order; a name for several stands where the first of them does
unfoldable pub omitted : List Omitted
omitted =
    -- a branch, a barrier, selects of integers
    alone "BRANCHZI" 0x2F
    ∷ alone "BARRIER" 0x45
    ∷ alone "CSEL.u32" 0x150
    ∷ alone "CSEL.v2u16" 0x151
    ∷ alone "CSEL.s32" 0x158
    ∷ alone "CSEL.v2s16" 0x159
    -- varyings
    ∷ alone "LD_VAR_SPECIAL" 0x56
    ∷ alone "LD_VAR_BUF_IMM.f32" 0x5C
    ∷ alone "LD_VAR_BUF_IMM.f16" 0x5D
    ∷ alone "LD_VAR_BUF.f32" 0x6C
    ∷ alone "LD_VAR_BUF.f16" 0x6D
    ∷ alone "LD_VAR" 0x64
    ∷ alone "LD_VAR_IMM" 0x54
    ∷ alone "LD_VAR_FLAT" 0x55
    ∷ alone "LD_VAR_FLAT_IMM" 0x41
    -- attributes, textures, memory
    ∷ alone "LD_ATTR_IMM or LD_TEX_IMM" 0x66
    ∷ alone "LD_ATTR or LD_TEX" 0x76
    ∷ alone "LEA_ATTR_IMM or LEA_TEX_IMM" 0x67
    ∷ alone "LEA_ATTR or LEA_TEX" 0x77
    ∷ alone "LD_BUFFER" 0x6A
    ∷ alone "LEA_BUF_IMM" 0x5E
    ∷ alone "LOAD" 0x60
    ∷ alone "STORE" 0x61
    ∷ alone "LEA_BUFFER" 0x6B
    ∷ alone "ST_CVT" 0x71
    -- tile buffer, blending, depth and stencil
    ∷ alone "LD_TILE" 0x78
    ∷ alone "ST_TILE" 0x79
    ∷ alone "BLEND" 0x7F
    ∷ alone "ATEST" 0x7D
    ∷ alone "ZS_EMIT" 0x7E
    -- one source
    ∷ at_16 "NOT_OLD.i64" 0x191 0xE
    ∷ alone "WMASK" 0x95
    ∷ at_16 "FREXPM.f32" 0x99 0
    ∷ at_16 "FREXPM.v2f16" 0x99 1
    ∷ at_16 "FREXPE.f32" 0x99 2
    ∷ at_16 "FREXPE.v2f16" 0x99 3
    ∷ at_16 "FRCP.f16" 0x9C 1
    ∷ at_16 "FRSQ.f16" 0x9C 3
    ∷ at_16 "FPCLASS.f16" 0x9C 0xB
    -- two sources, floating-point
    ∷ at_16 "FMIN.f32" 0xA4 2
    ∷ at_16 "FMIN.v2f16" 0xA5 2
    ∷ at_16 "FMAX.f32" 0xA4 3
    ∷ at_16 "FMAX.v2f16" 0xA5 3
    ∷ at_16 "V2F32_TO_V2F16" 0xA5 4
    ∷ at_16 "LDEXP.f32" 0xA4 6
    ∷ at_16 "LDEXP.v2f16" 0xA5 6
    ∷ at_16 "FEXP.f32" 0xA4 8
    ∷ at_16 "FADD_LSCALE.f32" 0xA4 9
    ∷ at_16 "FATAN_ASSIST.f32" 0xA4 0xE
    -- two sources, integers
    ∷ at_16 "IADD.u32" 0xA0 0
    ∷ at_16 "IADD.v2u16" 0xA1 0
    ∷ at_16 "IADD.v4u8" 0xA2 0
    ∷ at_16 "IADD.s32" 0xA8 0
    ∷ at_16 "IADD.v2s16" 0xA9 0
    ∷ at_16 "IADD.v4s8" 0xAA 0
    ∷ at_16 "IADD.u64" 0x1A3 0
    ∷ at_16 "IADD.s64" 0x1AB 0
    ∷ at_16 "MKVEC.v2i16" 0xA1 5
    ∷ at_16 "ISUB.u32" 0xA0 1
    ∷ at_16 "ISUB.v2u16" 0xA1 1
    ∷ at_16 "ISUB.v4u8" 0xA2 1
    ∷ at_16 "ISUB.s32" 0xA8 1
    ∷ at_16 "ISUB.v2s16" 0xA9 1
    ∷ at_16 "ISUB.v4s8" 0xAA 1
    ∷ at_16 "ISUB.u64" 0x1A3 1
    ∷ at_16 "ISUB.s64" 0x1AB 1
    ∷ at_16 "SEG_ADD.u64" 0x1A3 6
    ∷ at_16 "SHADDX.u64" 0x1A3 7
    ∷ at_16 "SHADDX.s64" 0x1AB 7
    ∷ at_16 "IMUL.i32" 0xA0 0xA
    ∷ at_16 "IMUL.v2i16" 0xA1 0xA
    ∷ at_16 "IMUL.v4i8" 0xA2 0xA
    ∷ at_16 "IMUL.s32" 0xA8 0xA
    ∷ at_16 "IMUL.v2s16" 0xA9 0xA
    ∷ at_16 "IMUL.v4s8" 0xAA 0xA
    ∷ at_16 "IMULD.u64" 0x1A3 0xA
    ∷ at_16 "HADD.u32" 0xA0 0xB
    ∷ at_16 "HADD.v2u16" 0xA1 0xB
    ∷ at_16 "HADD.v4u8" 0xA2 0xB
    ∷ at_16 "HADD.s32" 0xA8 0xB
    ∷ at_16 "HADD.v2s16" 0xA9 0xB
    ∷ at_16 "HADD.v4s8" 0xAA 0xB
    ∷ at_16 "CLPER.i32" 0xA0 0xF
    ∷ at_16 "CLPER.v2u16" 0xA1 0xF
    ∷ at_16 "CLPER.v4u8" 0xA2 0xF
    ∷ at_16 "CLPER.s32" 0xA8 0xF
    ∷ at_16 "CLPER.v2s16" 0xA9 0xF
    ∷ at_16 "CLPER.v4s8" 0xAA 0xF
    ∷ at_16 "CLPER.u64" 0x1A3 0xF
    ∷ at_16 "CLPER.s64" 0x1AB 0xF
    -- three sources
    ∷ alone "FMA.f32" 0xB2
    ∷ alone "FMA.v2f16" 0xB3
    ∷ alone "a shift, as LSHIFT_AND.i32" 0xB4
    ∷ alone "a shift, as LSHIFT_AND.v2i16" 0xB5
    ∷ alone "a shift, as LSHIFT_AND.v4i8" 0xB6
    ∷ alone "a shift, as LSHIFT_AND.i64" 0x1B7
    ∷ alone "MKVEC.v2i8" 0xBD
    -- three sources, comparisons
    ∷ at_24 "ICMP_AND.s32" 0xF8 1
    ∷ at_24 "ICMP_AND.v2s16" 0xF9 1
    ∷ at_24 "ICMP_AND.v4s8" 0xFA 1
    ∷ at_24 "ICMP_MULTI.u32" 0xF0 2
    ∷ at_24 "ICMP_MULTI.s32" 0xF8 2
    -- one source and an immediate
    ∷ alone "IADD_IMM.i32" 0x110
    ∷ alone "IADD_IMM.v2i16" 0x111
    ∷ alone "IADD_IMM.v4i8" 0x112
    ∷ alone "FADD_IMM.f32" 0x114
    ∷ alone "FADD_IMM.v2f16" 0x115
    -- atomic operations on memory
    ∷ alone "ATOM1_RETURN" 0x69
    ∷ alone "ATOM" 0x68
    ∷ alone "ATOM_RETURN" 0x120
    -- textures, and varyings with textures
    ∷ alone "TEX_FETCH" 0x125
    ∷ alone "TEX_SINGLE" 0x128
    ∷ alone "TEX_GATHER" 0x129
    ∷ alone "TEX_GRADIENT" 0x12A
    ∷ alone "TEX_DUAL" 0x12F
    ∷ alone "VAR_TEX_BUF_SINGLE" 0x130
    ∷ alone "VAR_TEX_BUF_GATHER" 0x131
    ∷ alone "VAR_TEX_BUF_GRADIENT" 0x132
    ∷ alone "VAR_TEX_BUF_DUAL" 0x137
    ∷ alone "VAR_TEX_SINGLE" 0x138
    ∷ alone "VAR_TEX_GATHER" 0x139
    ∷ alone "VAR_TEX_GRADIENT" 0x13A
    ∷ alone "VAR_TEX_DUAL" 0x13F
    -- four sources
    ∷ alone "FMA_RSCALE.f32" 0x160
    ∷ alone "FMA_RSCALE_N.f32" 0x161
    ∷ alone "FMA_RSCALE_LEFT.f32" 0x162
    ∷ alone "FMA_RSCALE_SCALE16.f32" 0x163
    ∷ []

abbrev pub omitted_count : ℕ
omitted_count = 127

-- the most bytes that a name has
abbrev pub longest_omitted : ℕ
longest_omitted = 28

-- past the table's end there is one without a name
abbrev pub none : Omitted
none = alone "" 0

-- number k of the table
abbrev pub omitted_at : ℕ → Omitted
omitted_at k = get_or omitted k none
