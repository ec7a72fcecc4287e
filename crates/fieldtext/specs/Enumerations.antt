-- What is written for the values of an instruction's fields: the names of 002's enumerations, in 002's order. Fields of one bit are written by
-- 002's names for them, but a source's negate and absolute as Mesa's text has them.
use Rattle.std.specs.Prelude.{Bool, true, false, List, [], ◌∷◌, ◌++◌, ℕ, get_or, take}
use Prim.Native.String.{String}
use Rattle.rows.specs.Kinds.{Kind, absent, negate, absolute, conservative, eq, ftz, flush_inf, saturate, round_mode, result_type, clamp, lane_8, lane_16, widen, swizzle_half, swizzle_32, swizzle_16, swizzle_8, half_swizzle, condition, integer_condition, mux, combine, nan_mode, source, offset, second, register, half_mask, opcode, page, flow}
use Rattle.rows.specs.Names.{ascii}
use Rattle.rows.specs.Sources.{Special, reserved as no_constant, warp_id, framebuffer_size, atest_datum, sample, blend_descriptor, thread_local_pointer, workgroup_local_pointer, resource_table_pointer, lane_id, core_id, program_counter}
use Rattle.text.specs.Text.{number_text}

-- a value of an enumeration
pub data Value : Type 0 where
  named : String → Value
  -- a value that is not written: the one that 002 marks as the default; of one bit 0; of the half mask the whole register
  default : String → Value
  reserved : Value

-- a default is not written, a reserved value is a question mark
abbrev pub value_text : Value → List ℕ
value_text (named s) = ascii "." ++ ascii s
value_text (default s) = []
value_text reserved = ascii ".?"

-- one bit, which is written where it is 1
abbrev pub switch : String → List Value
switch s = default "" ∷ named s ∷ []

-- 002's "Flow"
abbrev pub flows : List Value
flows =
    default "none"
    ∷ named "wait0"
    ∷ named "wait1"
    ∷ named "wait01"
    ∷ named "wait2"
    ∷ named "wait02"
    ∷ named "wait12"
    ∷ named "wait012"
    ∷ named "wait0126"
    ∷ named "wait"
    ∷ named "reconverge"
    ∷ reserved
    ∷ reserved
    ∷ named "discard"
    ∷ reserved
    ∷ named "end"
    ∷ []

-- 002's "Swizzles (8-bit)"
abbrev pub swizzles_8 : List Value
swizzles_8 =
    default "b0123"
    ∷ named "b3210"
    ∷ named "b0101"
    ∷ named "b2323"
    ∷ named "b0000"
    ∷ named "b1111"
    ∷ named "b2222"
    ∷ named "b3333"
    ∷ named "b2301"
    ∷ named "b1032"
    ∷ named "b0011"
    ∷ named "b2233"
    ∷ []

-- 002's "Half-swizzles (8-bit)"
abbrev pub half_swizzles : List Value
half_swizzles =
    named "b00"
    ∷ named "b10"
    ∷ named "b20"
    ∷ named "b30"
    ∷ named "b01"
    ∷ named "b11"
    ∷ named "b21"
    ∷ named "b31"
    ∷ named "b02"
    ∷ named "b12"
    ∷ named "b22"
    ∷ named "b32"
    ∷ named "b03"
    ∷ named "b13"
    ∷ named "b23"
    ∷ named "b33"
    ∷ []

-- 002's "Swizzles (16-bit)"
abbrev pub swizzles_16 : List Value
swizzles_16 =
    named "h00"
    ∷ named "h10"
    ∷ default "h01"
    ∷ named "h11"
    ∷ named "b00"
    ∷ named "b20"
    ∷ named "b02"
    ∷ named "b22"
    ∷ named "b11"
    ∷ named "b31"
    ∷ named "b13"
    ∷ named "b33"
    ∷ named "b01"
    ∷ named "b23"
    ∷ []

-- 002's "Swizzles (32-bit)"
abbrev pub swizzles_32 : List Value
swizzles_32 =
    default "none" ∷ reserved ∷ named "h0" ∷ named "h1" ∷ named "b0" ∷ named "b1" ∷ named "b2" ∷ named "b3" ∷ []

-- 002's "Condition"
abbrev pub conditions : List Value
conditions =
    named "eq"
    ∷ named "gt"
    ∷ named "ge"
    ∷ named "ne"
    ∷ named "lt"
    ∷ named "le"
    ∷ named "gtlt"
    ∷ named "total"
    ∷ []

-- the enumeration that names the values of a kind of field, by 002's title for it; a half mask is written as 002 writes halves (01, The
-- frame). What is no modifier, flow or half mask is not named.
abbrev pub enumeration : Kind → List Value
enumeration absent = []
enumeration negate = switch "neg"
enumeration absolute = switch "abs"
enumeration conservative = switch "conservative"
enumeration eq = switch "eq"
enumeration ftz = switch "ftz"
enumeration flush_inf = switch "flush_inf"
enumeration saturate = switch "saturate"
-- "Round mode"
enumeration round_mode = default "rte" ∷ named "rtp" ∷ named "rtn" ∷ named "rtz" ∷ []
-- "Result type"
enumeration result_type = named "i1" ∷ named "f1" ∷ named "m1" ∷ named "u1" ∷ []
-- "Clamp"
enumeration clamp = default "none" ∷ named "clamp_0_inf" ∷ named "clamp_m1_1" ∷ named "clamp_0_1" ∷ []
-- "Lane (8-bit)"
enumeration lane_8 = named "b0" ∷ named "b1" ∷ named "b2" ∷ named "b3" ∷ []
-- "Lane (16-bit)"
enumeration lane_16 = named "h0" ∷ named "h1" ∷ []
-- "Widen"
enumeration widen = default "none" ∷ named "h0" ∷ named "h1" ∷ []
-- H has the first four (01, The frame)
enumeration swizzle_half = take 4 swizzles_16
enumeration swizzle_32 = swizzles_32
enumeration swizzle_16 = swizzles_16
enumeration swizzle_8 = swizzles_8
enumeration half_swizzle = half_swizzles
enumeration condition = conditions
enumeration integer_condition = conditions
-- "Mux"
enumeration mux = named "neg" ∷ default "int_zero" ∷ named "fp_zero" ∷ named "bit" ∷ []
-- "Combine"
enumeration combine = default "none" ∷ named "h0" ∷ named "h1" ∷ named "and" ∷ named "lowbits" ∷ []
-- "NaN mode", which has no default
enumeration nan_mode = named "none" ∷ named "flush_nan" ∷ named "quiet_nan" ∷ []
enumeration source = []
enumeration offset = []
enumeration (second n) = []
enumeration register = []
enumeration half_mask = reserved ∷ named "h0" ∷ named "h1" ∷ default "" ∷ []
enumeration opcode = []
enumeration page = []
enumeration flow = flows

-- what is written for a value of a field; a number past the enumeration's end is reserved
abbrev pub field_text : Kind → ℕ → List ℕ
field_text k v = value_text (get_or (enumeration k) v reserved)

-- whose a modifier is: the instruction's own; a source's sign; the part of a source that is used, or how its parts are put together
pub data Owner : Type 0 where
  own sign swizzle nobody : Owner

abbrev pub owner : Kind → Owner
owner absent = nobody
owner negate = sign
owner absolute = sign
owner conservative = own
owner eq = own
owner ftz = own
owner flush_inf = own
owner saturate = own
owner round_mode = own
owner result_type = own
owner clamp = own
owner lane_8 = swizzle
owner lane_16 = swizzle
owner widen = swizzle
owner swizzle_half = swizzle
owner swizzle_32 = swizzle
owner swizzle_16 = swizzle
owner swizzle_8 = swizzle
owner half_swizzle = swizzle
owner condition = own
owner integer_condition = own
owner mux = own
owner combine = swizzle
owner nan_mode = own
owner source = nobody
owner offset = nobody
owner (second n) = nobody
owner register = nobody
owner half_mask = nobody
owner opcode = nobody
owner page = nobody
owner flow = nobody

-- the same owner
abbrev pub is : Owner → Owner → Bool
is own own = true
is own sign = false
is own swizzle = false
is own nobody = false
is sign own = false
is sign sign = true
is sign swizzle = false
is sign nobody = false
is swizzle own = false
is swizzle sign = false
is swizzle swizzle = true
is swizzle nobody = false
is nobody own = false
is nobody sign = false
is nobody swizzle = false
is nobody nobody = true

-- the names of the special constants (002, "FAU special page 0", "1" and "3"); a question mark where there is none
abbrev pub special_text : Special → List ℕ
special_text no_constant = ascii "?"
special_text warp_id = ascii "warp_id"
special_text framebuffer_size = ascii "framebuffer_size"
special_text atest_datum = ascii "atest_datum"
special_text sample = ascii "sample"
special_text (blend_descriptor n) = ascii "blend_descriptor_" ++ number_text 10 1 n
special_text thread_local_pointer = ascii "thread_local_pointer"
special_text workgroup_local_pointer = ascii "workgroup_local_pointer"
special_text resource_table_pointer = ascii "resource_table_pointer"
special_text lane_id = ascii "lane_id"
special_text core_id = ascii "core_id"
special_text program_counter = ascii "program_counter"

-- no value has a longer name, with its dot, and no special constant has one
abbrev pub value_width : ℕ
value_width = 13

abbrev pub special_width : ℕ
special_width = 23
