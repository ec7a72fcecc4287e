-- The 77 rows of the instruction table in the paper's order (01, The 77 rows).
use Rattle.std.specs.Prelude.{Bool, true, false, List, [], ◌∷◌, ◌++◌, ℕ, zero, suc, ◌-◌, ◌*◌, leb, eqb, get_or}
use Prim.Native.String.{String}
use Rattle.bits.specs.Fields.{choose}
use Rattle.rows.specs.Kinds.{Kind, ◌to◌, within, negate, absolute, conservative, eq, ftz, flush_inf, saturate, round_mode, result_type, clamp, lane_8, lane_16, widen, swizzle_half, swizzle_32, swizzle_16, swizzle_8, half_swizzle, condition, integer_condition, mux, combine, nan_mode}

-- a modifier: its lowest bit, which names it, and its kind
pub record Modifier : Type 0 where
  pub low : ℕ
  pub kind : Kind

abbrev pub md : ℕ → Kind → Modifier
md p k = record { low = p; kind = k }

-- a row: its name; its opcode; the lowest bit, the width and the value of its secondary opcode (width 0: it has none); whether it
-- has a destination; how many sources; whether it has a branch offset; its modifiers
pub record Row : Type 0 where
  pub name : String
  pub opcode : ℕ
  pub second_low : ℕ
  pub second_width : ℕ
  pub second : ℕ
  pub destination : Bool
  pub sources : ℕ
  pub offset : Bool
  pub modifiers : List Modifier

-- the lowest bit of a secondary opcode (01, The frame): past the bytes of sources 0 and 1, or of all three where the row has three
abbrev pub low_of_second : ℕ → ℕ
low_of_second sources = choose (leb sources 2) 16 24

-- and its width (01, The frame): 5 bits for the conversions' opcode, 2 for those of the comparisons, else 4
abbrev pub width_of_second : ℕ → ℕ
width_of_second opcode = choose (eqb opcode 0x90) 5 (choose (within (0xF0 to 0xF2 ∷ 0xF4 to 0xF5 ∷ 0xF8 to 0xFA ∷ []) opcode) 2 4)

-- rows without a secondary opcode: no destination, and with one
abbrev pub bare : String → ℕ → ℕ → List Modifier → Row
bare name opcode sources ms =
    record {
      name = name;
      opcode = opcode;
      second_low = 0;
      second_width = 0;
      second = 0;
      destination = false;
      sources = sources;
      offset = false;
      modifiers = ms;
    }

abbrev pub plain : String → ℕ → ℕ → List Modifier → Row
plain name opcode sources ms =
    record {
      name = name;
      opcode = opcode;
      second_low = 0;
      second_width = 0;
      second = 0;
      destination = true;
      sources = sources;
      offset = false;
      modifiers = ms;
    }

-- a row with a secondary opcode, which 01 writes after a slash
abbrev pub row : String → ℕ → ℕ → ℕ → List Modifier → Row
row name opcode second sources ms =
    record {
      name = name;
      opcode = opcode;
      second_low = low_of_second sources;
      second_width = width_of_second opcode;
      second = second;
      destination = true;
      sources = sources;
      offset = false;
      modifiers = ms;
    }

abbrev pub one : String → ℕ → ℕ → List Modifier → Row
one name opcode second ms = row name opcode second 1 ms

abbrev pub three : String → ℕ → ℕ → List Modifier → Row
three name opcode second ms = row name opcode second 3 ms

-- the fields that belong to source k (01, The frame). N: a bit for negate and, above it, one for absolute
abbrev pub N : ℕ → List Modifier
N k = md (38 - 2 * k) negate ∷ md (39 - 2 * k) absolute ∷ []

-- F and H share a place of two bits
abbrev pub F : ℕ → List Modifier
F k = md (28 - 2 * k) widen ∷ []

abbrev pub H : ℕ → List Modifier
H k = md (28 - 2 * k) swizzle_half ∷ []

-- the lowest of the four bits of W32, W16 and W8, which only sources 0 and 1 have
abbrev pub low_of_swizzle : ℕ → ℕ
low_of_swizzle zero = 36
low_of_swizzle (suc k) = 26

abbrev pub W32 : ℕ → List Modifier
W32 k = md (low_of_swizzle k) swizzle_32 ∷ []

abbrev pub W16 : ℕ → List Modifier
W16 k = md (low_of_swizzle k) swizzle_16 ∷ []

abbrev pub W8 : ℕ → List Modifier
W8 k = md (low_of_swizzle k) swizzle_8 ∷ []

-- the fields that belong to no source: R, the round mode; C, a condition; I, one of integers; T, the result type, here Ty; X, the mux
abbrev pub R : List Modifier
R = md 30 round_mode ∷ []

abbrev pub C : List Modifier
C = md 32 condition ∷ []

abbrev pub I : List Modifier
I = md 32 integer_condition ∷ []

abbrev pub Ty : List Modifier
Ty = md 30 result_type ∷ []

abbrev pub X : List Modifier
X = md 32 mux ∷ []

-- the rows without a destination. BRANCHZ is the only one of all that has an offset, in bits 8 to 34; above it stand conservative, eq and
-- combine.
abbrev pub branchz : Row
branchz =
    record {
      name = "BRANCHZ";
      opcode = 0x1F;
      second_low = 0;
      second_width = 0;
      second = 0;
      destination = false;
      sources = 1;
      offset = true;
      modifiers = md 37 combine ∷ md 36 eq ∷ md 35 conservative ∷ [];
    }

abbrev pub without_destination : List Row
without_destination =
    bare "NOP" 0x00 0 []
    ∷ branchz
    ∷ bare "DISCARD.f32" 0x20 2 (N 0 ++ F 0 ++ N 1 ++ F 1 ++ C)
    ∷ []

-- four sources without fields, and C
abbrev pub selects : List Row
selects =
    plain "CSEL.f32" 0x154 4 C
    ∷ plain "CSEL.v2f16" 0x155 4 C
    ∷ []

-- opcode 0x90, one source
abbrev pub conversions : List Row
conversions =
    -- R and W16; R and W32; H alone
    one "V2S16_TO_V2F16" 0x90 0x7 (R ++ W16 0)
    ∷ one "V2U16_TO_V2F16" 0x90 0x17 (R ++ W16 0)
    ∷ one "S32_TO_F32" 0x90 0x9 (R ++ W32 0)
    ∷ one "U32_TO_F32" 0x90 0x19 (R ++ W32 0)
    ∷ one "S16_TO_S32" 0x90 0x4 (H 0)
    ∷ one "S16_TO_F32" 0x90 0x5 (H 0)
    ∷ one "U16_TO_U32" 0x90 0x14 (H 0)
    ∷ one "U16_TO_F32" 0x90 0x15 (H 0)
    -- R and N; these and H; these and a lane of one bit
    ∷ one "F32_TO_S32" 0x90 0xC (R ++ N 0)
    ∷ one "F32_TO_U32" 0x90 0x1C (R ++ N 0)
    ∷ one "V2F16_TO_V2S16" 0x90 0xE (R ++ N 0 ++ H 0)
    ∷ one "V2F16_TO_V2U16" 0x90 0x1E (R ++ N 0 ++ H 0)
    ∷ one "F16_TO_S32" 0x90 0xA (R ++ N 0 ++ H 0)
    ∷ one "F16_TO_U32" 0x90 0x1A (R ++ N 0 ++ H 0)
    ∷ one "F16_TO_F32" 0x90 0xB (R ++ N 0 ++ (md 28 lane_16 ∷ []))
    -- a lane of two bits; a half-swizzle
    ∷ one "S8_TO_S32" 0x90 0x0 (md 28 lane_8 ∷ [])
    ∷ one "S8_TO_F32" 0x90 0x1 (md 28 lane_8 ∷ [])
    ∷ one "U8_TO_U32" 0x90 0x10 (md 28 lane_8 ∷ [])
    ∷ one "U8_TO_F32" 0x90 0x11 (md 28 lane_8 ∷ [])
    ∷ one "V2S8_TO_V2S16" 0x90 0x2 (md 36 half_swizzle ∷ [])
    ∷ one "V2S8_TO_V2F16" 0x90 0x3 (md 36 half_swizzle ∷ [])
    ∷ one "V2U8_TO_V2U16" 0x90 0x12 (md 36 half_swizzle ∷ [])
    ∷ one "V2U8_TO_V2F16" 0x90 0x13 (md 36 half_swizzle ∷ [])
    -- R and N, and F or H
    ∷ one "FROUND.f32" 0x90 0xD (R ++ N 0 ++ F 0)
    ∷ one "FROUND.v2f16" 0x90 0xF (R ++ N 0 ++ H 0)
    ∷ []

-- opcode 0x91, one source
abbrev pub moves : List Row
moves =
    one "MOV.i32" 0x91 0 []
    ∷ one "CLZ.u32" 0x91 4 []
    ∷ one "CLZ.v2u16" 0x91 5 (H 0)
    ∷ one "CLZ.v4u8" 0x91 6 []
    ∷ one "IABS.s32" 0x91 8 (W32 0)
    ∷ one "IABS.v2s16" 0x91 9 (W16 0)
    ∷ one "IABS.v4s8" 0x91 0xA []
    ∷ one "POPCOUNT.i32" 0x91 0xC []
    ∷ one "BITREV.i32" 0x91 0xD []
    ∷ one "NOT_OLD.i32" 0x91 0xE []
    ∷ []

-- opcode 0x98, one source with N; from bit 8 up NaN mode, ftz and flush_inf
abbrev pub flush_modifiers : List Modifier
flush_modifiers = md 8 nan_mode ∷ md 10 ftz ∷ md 11 flush_inf ∷ []

abbrev pub flushes : List Row
flushes =
    one "FLUSH.f32" 0x98 0 (N 0 ++ F 0 ++ flush_modifiers)
    ∷ one "FLUSH.v2f16" 0x98 1 (N 0 ++ H 0 ++ flush_modifiers)
    ∷ []

-- opcode 0x9C, one source: first the rows with N and F, then those without fields
abbrev pub functions : List Row
functions =
    one "FRCP.f32" 0x9C 0 (N 0 ++ F 0)
    ∷ one "FRSQ.f32" 0x9C 2 (N 0 ++ F 0)
    ∷ one "FLOGD.f32" 0x9C 8 (N 0 ++ F 0)
    ∷ one "FPCLASS.f32" 0x9C 10 (N 0 ++ F 0)
    ∷ one "FLOG_TABLE.f32" 0x9C 12 (N 0 ++ F 0)
    ∷ one "FRCP_APPROX.f32" 0x9C 14 (N 0 ++ F 0)
    ∷ one "FRSQ_APPROX.f32" 0x9C 15 (N 0 ++ F 0)
    ∷ one "FSIN_TABLE.u6" 0x9C 4 []
    ∷ one "FCOS_TABLE.u6" 0x9C 5 []
    ∷ one "FSINCOS_OFFSET.u6" 0x9C 6 []
    ∷ one "FEXP_TABLE.u4" 0x9C 13 []
    ∷ []

-- two sources with N, and a clamp
abbrev pub additions : List Row
additions =
    row "FADD.f32" 0xA4 0 2 (N 0 ++ N 1 ++ (md 32 clamp ∷ []) ++ F 0 ++ F 1)
    ∷ row "FADD.v2f16" 0xA5 0 2 (N 0 ++ N 1 ++ (md 32 clamp ∷ []) ++ H 0 ++ H 1)
    ∷ []

-- three sources, and X
abbrev pub muxes : List Row
muxes =
    plain "MUX.i32" 0xB8 3 X
    ∷ plain "MUX.v2i16" 0xB9 3 (X ++ H 0 ++ H 1 ++ H 2)
    ∷ plain "MUX.v4i8" 0xBA 3 X
    ∷ []

-- three sources: the first two rows have N on sources 0 and 1, the next two on each source, the last two on none, but saturate
abbrev pub cubes : List Row
cubes =
    three "CUBE_SSEL" 0xBC 0 (N 0 ++ N 1)
    ∷ three "CUBE_TSEL" 0xBC 1 (N 0 ++ N 1)
    ∷ plain "CUBEFACE1" 0xC0 3 (N 0 ++ N 1 ++ N 2)
    ∷ plain "CUBEFACE2_V9" 0xC1 3 (N 0 ++ N 1 ++ N 2)
    ∷ three "IDP.v4s8" 0xC2 0 (md 30 saturate ∷ [])
    ∷ three "IDP.v4u8" 0xC2 1 (md 30 saturate ∷ [])
    ∷ []

-- three sources, of which the last has no fields; in each of the groups OR comes first, in all types, then AND
abbrev pub comparisons : List Row
comparisons =
    -- unsigned: I, T and the swizzle of the type's width
    three "ICMP_OR.u32" 0xF0 0 (I ++ Ty ++ W32 0 ++ W32 1)
    ∷ three "ICMP_OR.v2u16" 0xF1 0 (I ++ Ty ++ W16 0 ++ W16 1)
    ∷ three "ICMP_OR.v4u8" 0xF2 0 (I ++ Ty ++ W8 0 ++ W8 1)
    ∷ three "ICMP_AND.u32" 0xF0 1 (I ++ Ty ++ W32 0 ++ W32 1)
    ∷ three "ICMP_AND.v2u16" 0xF1 1 (I ++ Ty ++ W16 0 ++ W16 1)
    ∷ three "ICMP_AND.v4u8" 0xF2 1 (I ++ Ty ++ W8 0 ++ W8 1)
    -- floating-point: C, T and N, and F or H by width
    ∷ three "FCMP_OR.f32" 0xF4 0 (C ++ Ty ++ N 0 ++ N 1 ++ F 0 ++ F 1)
    ∷ three "FCMP_OR.v2f16" 0xF5 0 (C ++ Ty ++ N 0 ++ N 1 ++ H 0 ++ H 1)
    ∷ three "FCMP_AND.f32" 0xF4 1 (C ++ Ty ++ N 0 ++ N 1 ++ F 0 ++ F 1)
    ∷ three "FCMP_AND.v2f16" 0xF5 1 (C ++ Ty ++ N 0 ++ N 1 ++ H 0 ++ H 1)
    -- signed, OR only: the fields of the unsigned rows
    ∷ three "ICMP_OR.s32" 0xF8 0 (I ++ Ty ++ W32 0 ++ W32 1)
    ∷ three "ICMP_OR.v2s16" 0xF9 0 (I ++ Ty ++ W16 0 ++ W16 1)
    ∷ three "ICMP_OR.v4s8" 0xFA 0 (I ++ Ty ++ W8 0 ++ W8 1)
    ∷ []

unfoldable pub rows : List Row
rows =
    without_destination ++ selects ++ conversions ++ moves ++ flushes ++ functions ++ additions ++ muxes ++ cubes ++ comparisons

abbrev pub row_count : ℕ
row_count = 77

-- past the table's end there is a row that has nothing
abbrev pub no_row : Row
no_row = bare "" 0 0 []

-- row number k
abbrev pub row_of : ℕ → Row
row_of k = get_or rows k no_row
