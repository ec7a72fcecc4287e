-- The kinds of modifiers by number, and the names by kind and value, as the code's tables have them.
use Rattle.std.specs.Prelude.{◌&&◌, ℕ, ◌-◌, leb, get_or, length, replicate}
use mathlib.Core.List.{List, [], ◌∷◌, ◌++◌, map, flatten}
use Rattle.bits.specs.Fields.{choose}
use Rattle.rows.specs.Kinds.{Kind, absent, negate, absolute, conservative, eq, ftz, flush_inf, saturate, round_mode, result_type, clamp, lane_8, lane_16, widen, swizzle_half, swizzle_32, swizzle_16, swizzle_8, half_swizzle, condition, integer_condition, mux, combine, nan_mode, source, offset, second, register, half_mask, opcode, page, flow}
use Rattle.rows.specs.Rows.{Row, rows}
use Rattle.rows.specs.Layout.{Place, kind_at, modifier_places}
use Rattle.rows.specs.Sources.{special_at}
use Rattle.fieldtext.specs.Enumerations.{Value, enumeration, value_text, field_text, special_text, value_width, special_width}

-- the kinds in the order of their numbers
abbrev pub kinds : List Kind
kinds =
    absent
    ∷ nan_mode
    ∷ ftz
    ∷ flush_inf
    ∷ conservative
    ∷ eq
    ∷ condition
    ∷ integer_condition
    ∷ mux
    ∷ clamp
    ∷ round_mode
    ∷ result_type
    ∷ saturate
    ∷ negate
    ∷ absolute
    ∷ widen
    ∷ swizzle_half
    ∷ lane_8
    ∷ lane_16
    ∷ swizzle_32
    ∷ swizzle_16
    ∷ swizzle_8
    ∷ half_swizzle
    ∷ combine
    ∷ half_mask
    ∷ flow
    ∷ []

-- what has no name has the number of what is absent
abbrev pub kind_number : Kind → ℕ
kind_number absent = 0
kind_number nan_mode = 1
kind_number ftz = 2
kind_number flush_inf = 3
kind_number conservative = 4
kind_number eq = 5
kind_number condition = 6
kind_number integer_condition = 7
kind_number mux = 8
kind_number clamp = 9
kind_number round_mode = 10
kind_number result_type = 11
kind_number saturate = 12
kind_number negate = 13
kind_number absolute = 14
kind_number widen = 15
kind_number swizzle_half = 16
kind_number lane_8 = 17
kind_number lane_16 = 18
kind_number swizzle_32 = 19
kind_number swizzle_16 = 20
kind_number swizzle_8 = 21
kind_number half_swizzle = 22
kind_number combine = 23
kind_number half_mask = 24
kind_number flow = 25
kind_number source = 0
kind_number offset = 0
kind_number (second n) = 0
kind_number register = 0
kind_number opcode = 0
kind_number page = 0

-- the kinds of a row's modifiers
abbrev pub row_kinds : Row → List ℕ
row_kinds r = map (λ (p : Place). kind_number (kind_at r p)) modifier_places

-- those of all rows, one after another
unfoldable pub kind_table : List ℕ
kind_table = flatten (map row_kinds rows)

-- a text filled with spaces up to a width
abbrev pub fill : ℕ → List ℕ → List ℕ
fill n s = s ++ replicate (n - length s) 32

-- what is written for the values of a kind
abbrev pub value_names : Kind → List (List ℕ)
value_names k = map (λ (v : Value). fill value_width (value_text v)) (enumeration k)

-- the same of some kinds, one after another
abbrev pub names_of : List Kind → List (List ℕ)
names_of [] = []
names_of (k ∷ ks) = value_names k ++ names_of ks

-- of all kinds, but those whose names stand there already: conditions of integers, and H, which has the first names of W16
unfoldable pub name_list : List (List ℕ)
name_list =
    names_of (
    nan_mode
    ∷ ftz
    ∷ flush_inf
    ∷ conservative
    ∷ eq
    ∷ condition
    ∷ mux
    ∷ clamp
    ∷ round_mode
    ∷ result_type
    ∷ saturate
    ∷ negate
    ∷ absolute
    ∷ widen
    ∷ lane_8
    ∷ lane_16
    ∷ swizzle_32
    ∷ swizzle_16
    ∷ swizzle_8
    ∷ half_swizzle
    ∷ combine
    ∷ half_mask
    ∷ flow
    ∷ []
    )

-- the same, one after another
unfoldable pub value_list : List ℕ
value_list = flatten name_list

-- where a kind's names begin, by its number, and how many they are
abbrev pub name_starts : List ℕ
name_starts = 0 ∷ 0 ∷ 3 ∷ 5 ∷ 7 ∷ 9 ∷ 11 ∷ 11 ∷ 19 ∷ 23 ∷ 27 ∷ 31 ∷ 35 ∷ 37 ∷ 39 ∷ 41 ∷ 58 ∷ 44 ∷ 48 ∷ 50 ∷ 58 ∷ 72 ∷ 84 ∷ 100 ∷ 105 ∷ 109 ∷ []

abbrev pub name_counts : List ℕ
name_counts = 0 ∷ 3 ∷ 2 ∷ 2 ∷ 2 ∷ 2 ∷ 8 ∷ 8 ∷ 4 ∷ 4 ∷ 4 ∷ 4 ∷ 2 ∷ 2 ∷ 2 ∷ 3 ∷ 4 ∷ 4 ∷ 2 ∷ 8 ∷ 14 ∷ 12 ∷ 16 ∷ 5 ∷ 4 ∷ 16 ∷ []

abbrev pub sixteen : List ℕ
sixteen = 0 ∷ 1 ∷ 2 ∷ 3 ∷ 4 ∷ 5 ∷ 6 ∷ 7 ∷ 8 ∷ 9 ∷ 10 ∷ 11 ∷ 12 ∷ 13 ∷ 14 ∷ 15 ∷ []

-- the names of a page's special constants
abbrev pub special_names : ℕ → List (List ℕ)
special_names p = map (λ (i : ℕ). fill special_width (special_text (special_at p i))) sixteen

-- page by page
unfoldable pub special_list : List (List ℕ)
special_list = special_names 0 ++ special_names 1 ++ special_names 2 ++ special_names 3

-- the same, one after another
unfoldable pub special_table : List ℕ
special_table = flatten special_list

-- what is written for a value of the kind with a number
unfoldable pub coded_value : ℕ → ℕ → List ℕ
coded_value kind v = field_text (get_or kinds kind absent) v

-- modifier j of some kinds and values, if its kind is one of these
unfoldable pub coded_text : ℕ → ℕ → List ℕ → List ℕ → ℕ → List ℕ
coded_text first last ks vs j =
    choose (leb first (get_or ks j 0) && leb (get_or ks j 0) last) (coded_value (get_or ks j 0) (get_or vs j 0)) []

unfoldable pub coded_texts : ℕ → ℕ → List ℕ → List ℕ → List ℕ → List ℕ
coded_texts first last ks vs [] = []
coded_texts first last ks vs (j ∷ js) = coded_text first last ks vs j ++ coded_texts first last ks vs js
