-- What a field of a word may hold (01, The frame).
use Rattle.std.specs.Prelude.{Bool, false, ◌&&◌, ◌||◌, List, [], ◌∷◌, ℕ, leb}

-- the values from `first` to `last`
pub record Range : Type 0 where
  pub first : ℕ
  pub last : ℕ

infix 70 ◌to◌
abbrev pub ◌to◌ : ℕ → ℕ → Range
a to b = record { first = a; last = b }

abbrev pub only : ℕ → Range
only a = a to a

-- v lies in one of the ranges
abbrev pub within : List Range → ℕ → Bool
within [] v = false
within (r ∷ rs) v = (leb r.first v && leb v r.last) || within rs v

-- the kinds of fields
pub data Kind : Type 0 where
  -- no field: nothing but 0
  absent : Kind
  -- one bit each: what N has of a source, BRANCHZ's conservative and eq, FLUSH's ftz and flush_inf, IDP's saturate
  negate absolute conservative eq ftz flush_inf saturate : Kind
  -- R, 002's "Round mode", and T, 002's "Result type"
  round_mode result_type : Kind
  -- FADD's clamp, 002's "Clamp"
  clamp : Kind
  -- a lane: 002's "Lane (8-bit)", and "Lane (16-bit)", which has one bit
  lane_8 lane_16 : Kind
  -- F, 002's "Widen"
  widen : Kind
  -- H, the first four of 002's "Swizzles (16-bit)"
  swizzle_half : Kind
  -- W32, W16 and W8, 002's "Swizzles" of these widths
  swizzle_32 swizzle_16 swizzle_8 : Kind
  -- 002's "Half-swizzles (8-bit)"
  half_swizzle : Kind
  -- C, 002's "Condition", and I, the same for integers
  condition integer_condition : Kind
  -- X, 002's "Mux"
  mux : Kind
  -- BRANCHZ's combine, 002's "Combine"
  combine : Kind
  -- FLUSH's NaN mode, 002's "NaN mode"
  nan_mode : Kind
  -- a source byte
  source : Kind
  -- BRANCHZ's offset
  offset : Kind
  -- a secondary opcode of some bits
  second : ℕ → Kind
  -- the destination's register and half mask
  register half_mask : Kind
  -- what every word has
  opcode page flow : Kind

-- what is to be known of a kind
pub record About : Type 0 where
  -- how many bits it has
  pub width : ℕ
  -- the legal values, as the paper gives them
  pub legal : List Range
  -- what a default instruction has there (the paper's fresh record)
  pub default : ℕ

abbrev pub modifier : ℕ → List Range → ℕ → About
modifier n l d = record { width = n; legal = l; default = d }

-- a field of which no number that has room is illegal; what is legal isn't asked
abbrev pub free : ℕ → About
free n = record { width = n; legal = []; default = 0 }

-- one bit, and two bits, of which every value is legal
abbrev pub flag : About
flag = modifier 1 (0 to 1 ∷ []) 0

abbrev pub two_bits : About
two_bits = modifier 2 (0 to 3 ∷ []) 0

-- the defaults are 0, but 2 for H and W16, 1 for mux, and 3, the whole register, for the half mask (01, The 77 rows); that of a source is
-- constant entry 0, which reads no register (02, Item 6)
abbrev pub about : Kind → About
about absent = record { width = 0; legal = only 0 ∷ []; default = 0 }
about negate = flag
about absolute = flag
about conservative = flag
about eq = flag
about ftz = flag
about flush_inf = flag
about saturate = flag
about round_mode = two_bits
about result_type = two_bits
about clamp = two_bits
about lane_8 = two_bits
about lane_16 = flag
-- F has three values
about widen = modifier 2 (0 to 2 ∷ []) 0
-- all four values of H are legal
about swizzle_half = modifier 2 (0 to 3 ∷ []) 2
-- of 16 values W32 lacks 1 and all from 8 up, W16 the last two, W8 the last four
about swizzle_32 = modifier 4 (only 0 ∷ 2 to 7 ∷ []) 0
about swizzle_16 = modifier 4 (0 to 13 ∷ []) 2
about swizzle_8 = modifier 4 (0 to 11 ∷ []) 0
about half_swizzle = modifier 4 (0 to 15 ∷ []) 0
about condition = modifier 3 (0 to 7 ∷ []) 0
-- I ends with 5
about integer_condition = modifier 3 (0 to 5 ∷ []) 0
about mux = modifier 2 (0 to 3 ∷ []) 1
-- combine ends with 4
about combine = modifier 3 (0 to 4 ∷ []) 0
-- the NaN mode ends with 2
about nan_mode = modifier 2 (0 to 2 ∷ []) 0
-- which bytes are legal is said by their meaning (Sources); from C0 up they are constant entries
about source = record { width = 8; legal = []; default = 0xC0 }
about offset = free 27
about (second n) = free n
about register = free 6
-- a half mask has a bit for each half, the low one first; a mask of no half is refused
about half_mask = record { width = 2; legal = 1 to 3 ∷ []; default = 3 }
about opcode = free 9
-- any page is legal; one that no source uses is kept all the same
about page = free 2
-- 002's "Flow", numbered from 0; reserved are 11, 12 and 14; `end` is 15
about flow = record { width = 4; legal = 0 to 10 ∷ only 13 ∷ only 15 ∷ []; default = 0 }

abbrev pub width : Kind → ℕ
width k = (about k).width

-- v is one of the legal values of a kind
abbrev pub legal_value : Kind → ℕ → Bool
legal_value k v = within (about k).legal v
