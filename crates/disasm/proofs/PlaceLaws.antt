-- The modifiers by their index are those at the bits that the text names; sources one after another. Assumes nothing.
use mathlib.Core.Path.{◌≡◌, refl, ap, ap₂}
use mathlib.Core.Bool.{true, false}
use mathlib.Core.List.{List, ◌++◌, append_assoc}
use Prim.Native.Nat.{ℕ, zero, suc, ◌+◌, ◌<◌, ◌≤◌}
use borrow.Author.Tests.{lt-ltb, le-ltb, eq-eqb, ne_eqb}
use lib.ListN.{get_or}
use Rattle.rows.specs.Names.{ascii, name_of}
use Rattle.rows.specs.Rows.{row_of, row_count}
use Rattle.rows.specs.Kinds.{flow}
use Rattle.rows.specs.Layout.{modifier_at}
use Rattle.rows.specs.Sources.{meaning}
use Rattle.record.specs.declared.instruction.Instruction.{Instruction}
use Rattle.record.specs.Lists.{source_list, modifier_list}
use Rattle.text.specs.Text.{number_text, Put}
use Rattle.text.proofs.TextLaws.{put_nothing}
use Rattle.fieldtext.specs.Enumerations.{own, sign, swizzle, field_text}
use Rattle.fieldtext.specs.Served.Coded.{row_kinds, coded_value, coded_text, coded_texts}
use Rattle.fieldtext.proofs.CodedLaws.{Coded, coded}
use Rattle.sourcetext.specs.SourceText.{meaning_text}
use Rattle.disasm.specs.Assembly.{modifiers_text, own_bits, sign_bits, swizzle_bits, source_text, sources_text, separator, before_sources, destination_text, signed_text, first_operand, last_operand, operands_text, row_text, opcode_text}
use Rattle.sourcetext.specs.Served.SourcePlaces.{sign_places, swizzle_places, coded_source}
use Rattle.disasm.specs.Served.Places.{own_places, coded_sources}

joined : {a b c d : List ℕ} → a ≡ c → b ≡ d → a ++ b ≡ c ++ d
joined p q = ap₂ (λ (x y : List ℕ). x ++ y) p q

module _ (x : Instruction) where
  abbrev ks : List ℕ
  ks = row_kinds (row_of x.row)

  abbrev vs : List ℕ
  vs = modifier_list x.modifiers

  -- the modifier whose lowest bit is p, with value v
  at_bit : (p v : ℕ) → Coded (modifier_at (row_of x.row).modifiers p) v
  at_bit p v = coded (modifier_at (row_of x.row).modifiers p) v

  pub own_coded : coded_texts 1 12 ks vs own_places ≡ modifiers_text own x own_bits
  unfolding coded_texts coded_text
  own_coded =
      let m = x.modifiers in
      joined (at_bit 8 m.m8).as_own
      (joined (at_bit 10 m.m10).as_own
      (joined (at_bit 11 m.m11).as_own
      (joined (at_bit 35 m.m35).as_own
      (joined (at_bit 36 m.m36).as_own
      (joined (at_bit 32 m.m32).as_own
      (joined (at_bit 30 m.m30).as_own refl))))))

  sign_coded : (k : ℕ) → coded_texts 13 14 ks vs (sign_places k) ≡ modifiers_text sign x (sign_bits k)
  unfolding coded_texts coded_text
  sign_coded zero = joined (at_bit 38 x.modifiers.m38).as_sign (joined (at_bit 39 x.modifiers.m39).as_sign refl)
  sign_coded (suc zero) = joined (at_bit 36 x.modifiers.m36).as_sign (joined (at_bit 37 x.modifiers.m37).as_sign refl)
  sign_coded (suc (suc zero)) = joined (at_bit 34 x.modifiers.m34).as_sign (joined (at_bit 35 x.modifiers.m35).as_sign refl)
  sign_coded (suc (suc (suc k))) = refl

  swizzle_coded : (k : ℕ) → coded_texts 15 23 ks vs (swizzle_places k) ≡ modifiers_text swizzle x (swizzle_bits k)
  unfolding coded_texts coded_text
  swizzle_coded zero =
      joined (at_bit 28 x.modifiers.m28).as_swizzle
      (joined (at_bit 36 x.modifiers.m36).as_swizzle
      (joined (at_bit 37 x.modifiers.m37).as_swizzle refl))
  swizzle_coded (suc zero) = joined (at_bit 26 x.modifiers.m26).as_swizzle refl
  swizzle_coded (suc (suc zero)) = joined (at_bit 24 x.modifiers.m24).as_swizzle refl
  swizzle_coded (suc (suc (suc k))) = refl

  abbrev byte : ℕ → ℕ
  byte k = get_or (source_list x.sources) k 0

  source_coded : (k : ℕ) → coded_source ks vs x.page (byte k) k ≡ source_text x k
  unfolding coded_source source_text
  source_coded k = joined (ap (λ (t : List ℕ). meaning_text (meaning x.page (byte k)) ++ t) (sign_coded k)) (swizzle_coded k)

  pub sources_coded : (n : ℕ) → coded_sources ks vs x.page (source_list x.sources) (before_sources x) n ≡ sources_text x n
  unfolding coded_sources sources_text
  sources_coded zero = refl
  sources_coded (suc k) = joined (sources_coded k) (ap (λ (t : List ℕ). separator (before_sources x + k) ++ t) (source_coded k))

-- one source more
module _ (kinds values : List ℕ) (page : ℕ) (bs : List ℕ) (first : ℕ) where
  pub no_sources : (before : List ℕ) → Put (coded_sources kinds values page bs first 0) before before 0
  unfolding coded_sources
  no_sources = put_nothing refl

  pub one_source : (k : ℕ)
      → (coded_sources kinds values page bs first k ++ separator (first + k)) ++ coded_source kinds values page (get_or bs k 0) k
      ≡ coded_sources kinds values page bs first (suc k)
  unfolding coded_sources
  one_source k = append_assoc (coded_sources kinds values page bs first k) (separator (first + k)) (coded_source kinds values page (get_or bs k 0) k)

-- what stands before an operand
pub first_separator : (j : ℕ) → j ≡ 0 → separator j ≡ ascii " "
first_separator j e = rw (eq-eqb j 0 e)

pub other_separator : (j : ℕ) → (j ≡ 0 → ⊥) → separator j ≡ ascii ", "
other_separator j e = rw (ne_eqb j 0 e)

-- the name of a row
pub named_row : (k : ℕ) → k < row_count → row_text k ≡ name_of k
named_row k h = rw (lt-ltb k row_count h)

pub unnamed_row : (k : ℕ) → row_count ≤ k → row_text k ≡ ascii "?"
unnamed_row k h = rw (le-ltb k row_count h)

-- the destination
module _ (x : Instruction) where
  pub no_destination : (row_of x.row).destination ≡ false → (before : List ℕ) → Put (first_operand x) before before 0
  no_destination e = put_nothing (rw e)

  pub destination_coded : (row_of x.row).destination ≡ true
      → ascii " r" ++ number_text 10 3 x.register ++ coded_value 24 x.half_mask ≡ first_operand x
  unfolding destination_text coded_value ascii
  destination_coded e = rw e

  pub no_offset : (row_of x.row).offset ≡ false → (before : List ℕ) → Put (last_operand x) before before 0
  no_offset e = put_nothing (rw e)

  pub offset_coded : (row_of x.row).offset ≡ true → ascii ", offset:" ++ signed_text x.offset ≡ last_operand x
  offset_coded e = rw e

  pub opcode_coded : {kinds values : List ℕ} → kinds ≡ row_kinds (row_of x.row) → values ≡ modifier_list x.modifiers
      → row_text x.row ++ coded_texts 1 12 kinds values own_places ++ coded_value 25 x.flow ≡ opcode_text x
  unfolding coded_value
  opcode_coded p q = rw (p, q) (ap (λ (t : List ℕ). row_text x.row ++ t ++ field_text flow x.flow) (own_coded x))

  pub operands_coded : {kinds values bytes : List ℕ} {first n : ℕ} → kinds ≡ row_kinds (row_of x.row) → values ≡ modifier_list x.modifiers
      → bytes ≡ source_list x.sources → first ≡ before_sources x → n ≡ (row_of x.row).sources
      → first_operand x ++ coded_sources kinds values x.page bytes first n ++ last_operand x ≡ operands_text x
  operands_coded p q r s t = rw (p, q, r, s, t) (ap (λ (l : List ℕ). first_operand x ++ l ++ last_operand x) (sources_coded x (row_of x.row).sources))
