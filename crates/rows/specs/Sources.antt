-- What a source byte means (01, The frame; 02, Item 2), with 002's immediates and special constants.
use Rattle.std.specs.Prelude.{◌≡◌, Bool, true, false, not, List, [], ◌∷◌, ◌⊎◌, ℕ, ◌+◌, ◌-◌, ◌*◌, ◌/◌, ◌%◌, ◌<◌, ◌≤◌, eqb, ltb, get_or}
use Rattle.bits.specs.Fields.{choose}

-- 002's "Immediates", entries 0 to 31
abbrev pub immediates : List ℕ
immediates =
    0x00000000
    ∷ 0xFFFFFFFF
    ∷ 0x7FFFFFFF
    ∷ 0xFAFCFDFE
    ∷ 0x01000000
    ∷ 0x80002000
    ∷ 0x70605030
    ∷ 0xC0B0A090
    ∷ 0x03020100
    ∷ 0x07060504
    ∷ 0x0B0A0908
    ∷ 0x0F0E0D0C
    ∷ 0x13121110
    ∷ 0x17161514
    ∷ 0x1B1A1918
    ∷ 0x1F1E1D1C
    ∷ 0x3F800000
    ∷ 0x3DCCCCCD
    ∷ 0x3EA2F983
    ∷ 0x3F317218
    ∷ 0x40490FDB
    ∷ 0x00000000
    ∷ 0x477FFF00
    ∷ 0x5C005BF8
    ∷ 0x2E660000
    ∷ 0x34000000
    ∷ 0x38000000
    ∷ 0x3C000000
    ∷ 0x40000000
    ∷ 0x44000000
    ∷ 0x48000000
    ∷ 0x42480000
    ∷ []

-- 002's special constants, and the value that 002 reserves
pub data Special : Type 0 where
  reserved : Special
  warp_id framebuffer_size atest_datum sample : Special
  blend_descriptor : ℕ → Special
  thread_local_pointer workgroup_local_pointer resource_table_pointer : Special
  lane_id core_id program_counter : Special

-- 002's enumerations "FAU special page 0", "1" and "3"; page 2 has none
abbrev pub specials_0 : List Special
specials_0 =
    reserved
    ∷ reserved
    ∷ warp_id
    ∷ reserved
    ∷ framebuffer_size
    ∷ atest_datum
    ∷ sample
    ∷ reserved
    ∷ blend_descriptor 0
    ∷ blend_descriptor 1
    ∷ blend_descriptor 2
    ∷ blend_descriptor 3
    ∷ blend_descriptor 4
    ∷ blend_descriptor 5
    ∷ blend_descriptor 6
    ∷ blend_descriptor 7
    ∷ []

abbrev pub specials_1 : List Special
specials_1 =
    reserved
    ∷ thread_local_pointer
    ∷ reserved
    ∷ workgroup_local_pointer
    ∷ reserved
    ∷ reserved
    ∷ reserved
    ∷ resource_table_pointer
    ∷ reserved
    ∷ reserved
    ∷ reserved
    ∷ reserved
    ∷ reserved
    ∷ reserved
    ∷ reserved
    ∷ reserved
    ∷ []

abbrev pub specials_3 : List Special
specials_3 =
    reserved
    ∷ lane_id
    ∷ reserved
    ∷ core_id
    ∷ reserved
    ∷ reserved
    ∷ reserved
    ∷ reserved
    ∷ reserved
    ∷ reserved
    ∷ reserved
    ∷ reserved
    ∷ reserved
    ∷ reserved
    ∷ reserved
    ∷ program_counter
    ∷ []

abbrev pub pages : List (List Special)
pages = specials_0 ∷ specials_1 ∷ [] ∷ specials_3 ∷ []

-- value i of a page's enumeration; reserved where it has no such value
abbrev pub special_at : ℕ → ℕ → Special
special_at page i = get_or (get_or pages page []) i reserved

-- a special value is 64 bits wide, two words (02, Item 2)
pub data Part : Type 0 where
  low_word high_word : Part

-- what a source byte means
pub data Meaning : Type 0 where
  -- a register, read plainly
  register_read : ℕ → Meaning
  -- a register, read for the last time and released
  register_released : ℕ → Meaning
  uniform : ℕ → Meaning
  -- a constant with its 32-bit value
  immediate : ℕ → Meaning
  -- one word of a special constant
  special : Special → Part → Meaning
  refused : Meaning

abbrev pub is_reserved : Special → Bool
is_reserved reserved = true
is_reserved warp_id = false
is_reserved framebuffer_size = false
is_reserved atest_datum = false
is_reserved sample = false
is_reserved (blend_descriptor n) = false
is_reserved thread_local_pointer = false
is_reserved workgroup_local_pointer = false
is_reserved resource_table_pointer = false
is_reserved lane_id = false
is_reserved core_id = false
is_reserved program_counter = false

-- a word of a special value; a reserved value is refused, both words of it
abbrev pub special_meaning : Special → Part → Meaning
special_meaning s p = choose (is_reserved s) refused (special s p)

-- the entries from 32 up, counted from there, are pairs: first a value's low word, then its high word
abbrev pub part_of : ℕ → Part
part_of d = choose (eqb (d % 2) 0) low_word high_word

abbrev pub pair_meaning : ℕ → ℕ → Meaning
pair_meaning page d = special_meaning (special_at page (d / 2)) (part_of d)

-- entry e of the constants on a page. Below 32 it is an immediate, the same on all pages (01, The frame). From 32 up value i of the page's
-- enumeration has its low word at entry 32 + 2i and its high word at 33 + 2i (02, Item 2).
abbrev pub constant_meaning : ℕ → ℕ → Meaning
constant_meaning page e = choose (ltb e 32) (immediate (get_or immediates e 0)) (pair_meaning page (e - 32))

-- what a byte means on a page (01, The frame). The 256 bytes are four runs of 64: registers read plainly; registers released; uniforms, of
-- which each page has its own 64; the entries of the constants.
unfoldable pub meaning : ℕ → ℕ → Meaning
meaning page b =
    choose (ltb b 64) (register_read b)
    (choose (ltb b 128) (register_released (b - 64))
    (choose (ltb b 192) (uniform (b - 128 + 64 * page)) (constant_meaning page (b - 192))))

abbrev pub is_refused : Meaning → Bool
is_refused (register_read r) = false
is_refused (register_released r) = false
is_refused (uniform u) = false
is_refused (immediate v) = false
is_refused (special s p) = false
is_refused refused = true

-- a source is legal exactly when its meaning isn't refused
abbrev pub source_legal : ℕ → ℕ → Bool
source_legal page b = not (is_refused (meaning page b))

-- Item 2 of 02 in its own words, of any way of giving bytes a meaning: where the two words of each value stand, that no other byte is one, and
-- that only words of reserved values are refused, among them all of page 2
pub record Paired (means : ℕ → ℕ → Meaning) : Type 0 where
  pub low : (page i : ℕ) → page < 4 → i < 16 → means page (192 + (32 + 2 * i)) ≡ special_meaning (special_at page i) low_word
  pub high : (page i : ℕ) → page < 4 → i < 16 → means page (192 + (33 + 2 * i)) ≡ special_meaning (special_at page i) high_word
  pub no_other : (page b : ℕ) (s : Special) (p : Part) → page < 4 → b < 256 → means page b ≡ special s p → 192 + 32 ≤ b
  pub refused_only : (page b : ℕ) → page < 4 → b < 256 → means page b ≡ refused
      → (i : ℕ) × (i < 16) × ((b ≡ 192 + (32 + 2 * i)) ⊎ (b ≡ 192 + (33 + 2 * i))) × (special_at page i ≡ reserved)
  pub page_2 : (b : ℕ) → 192 + 32 ≤ b → b < 256 → means 2 b ≡ refused
