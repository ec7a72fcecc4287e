-- The nine rows are those of 02, Item 8, and of their modifiers those that `takes_whole` tests are all that are a combine or a widen. Assumes
-- nothing.
use mathlib.Core.Path.{◌≡◌, refl}
use mathlib.Core.Bool.{Bool, true, false}
use mathlib.Core.List.{List, [], ◌∷◌, map}
use Prim.Native.Nat.{ℕ}
use Rattle.bits.specs.Fields.{choose}
use Rattle.rows.specs.Rows.{Modifier, rows, row_of}
use Rattle.rows.specs.Kinds.{Kind, absent, negate, absolute, conservative, eq, ftz, flush_inf, saturate, round_mode, result_type, clamp, lane_8, lane_16, widen, swizzle_half, swizzle_32, swizzle_16, swizzle_8, half_swizzle, condition, integer_condition, mux, combine, nan_mode, source, offset, second, register, half_mask, opcode, page, flow}
use Rattle.operations.specs.Replayable.{nine_rows}

pub named : map (λ (k : ℕ). (row_of k).name) nine_rows ≡ "NOP" ∷ "BRANCHZ" ∷ "MOV.i32" ∷ "CLZ.u32" ∷ "POPCOUNT.i32" ∷ "BITREV.i32" ∷ "NOT_OLD.i32" ∷ "FADD.f32" ∷ "MUX.i32" ∷ []
unfolding rows
named = refl

-- a combine or a widen
unfoldable pub taken : Kind → Bool
taken absent = false
taken negate = false
taken absolute = false
taken conservative = false
taken eq = false
taken ftz = false
taken flush_inf = false
taken saturate = false
taken round_mode = false
taken result_type = false
taken clamp = false
taken lane_8 = false
taken lane_16 = false
taken widen = true
taken swizzle_half = false
taken swizzle_32 = false
taken swizzle_16 = false
taken swizzle_8 = false
taken half_swizzle = false
taken condition = false
taken integer_condition = false
taken mux = false
taken combine = true
taken nan_mode = false
taken source = false
taken offset = false
taken (second n) = false
taken register = false
taken half_mask = false
taken opcode = false
taken page = false
taken flow = false

-- the lowest bits of such modifiers
unfoldable pub lanes : List Modifier → List ℕ
unfolding taken
lanes [] = []
lanes (m ∷ ms) = choose (taken m.kind) (m.low ∷ lanes ms) (lanes ms)

pub tested : map (λ (k : ℕ). lanes (row_of k).modifiers) nine_rows ≡ [] ∷ (37 ∷ []) ∷ [] ∷ [] ∷ [] ∷ [] ∷ [] ∷ (28 ∷ 26 ∷ []) ∷ [] ∷ []
unfolding rows lanes
tested = refl
