-- What is known of a word says what its instruction has. Assumes nothing.
use mathlib.Core.Path.{◌≡◌, sym, ap, ◌∙◌}
use mathlib.Core.Bool.{Bool, true, false}
use mathlib.Core.List.{List, [], ◌∷◌, map}
use Prim.Native.Nat.{ℕ, ◌+◌, ◌*◌, ◌/◌, ◌%◌, ◌^◌, ◌<◌}
use native.Mathlib.Nat.{mul-zero, mul-one, mod-one}
use native.Mathlib.Omega.{arith}
use lib.Dec.{T}
use lib.ListN.{length}
use borrow.Author.Tests.{eq-eqb, ne_eqb}
use Rattle.bits.specs.Bytes.{little}
use Rattle.bits.specs.Outcomes.{Outcome, refuses, ◌then◌}
use Rattle.record.specs.Answers.{refusal}
use Rattle.record.specs.declared.instruction.Instruction.{Instruction}
use Rattle.record.specs.declared.answer.Refusal.{Refusal}
use Rattle.reading.specs.Reader.{read_number, read}
use Rattle.bits.specs.Fields.{bits, choose}
use Rattle.bits.proofs.Every.{every, at, alike, alike_eq}
use Rattle.rows.specs.Kinds.{width, offset}
use Rattle.rows.specs.Rows.{Row, rows, row_of, no_row, row_count}
use Rattle.rows.specs.Layout.{modifier_place, offset_place, kind_at, modifier_at, modifier_lows, modifier_indexes, modifier_places, source_places, where_has}
use Rattle.rows.specs.Served.Table.{widths, shape}
use Rattle.rows.proofs.TableLaws.{in_table}
use Rattle.record.specs.Lists.{sources_of}
use Rattle.record.specs.Instructions.{number_in}
use Rattle.record.specs.Served.Modifiers.{modifiers_in}
use Rattle.record.proofs.ShapeLaws.{offset_there}
use Rattle.judge.specs.Served.Judge.{Known, bytes_of}
use Rattle.judge.specs.declared.Fit.{Fit}
use Rattle.reading.proofs.SourceBytes.{shape_row, byte_there}

-- ---- the modifiers

-- runs of bits, from these places up and of these widths
runs : ℕ → List ℕ → List ℕ → List ℕ
runs w [] ns = []
runs w (p ∷ ps) [] = []
runs w (p ∷ ps) (n ∷ ns) = bits w p n ∷ runs w ps ns

-- the widths of a row's modifiers, by its number and by its kinds
packed_widths : Row → List ℕ
packed_widths r = map (λ (j : ℕ). bits (widths r) (4 * j) 3) modifier_indexes

kind_widths : Row → List ℕ
kind_widths r = map (λ (j : ℕ). width (kind_at r (modifier_place j))) modifier_indexes

widths_test : ℕ → Row → Bool
widths_test k r = alike (packed_widths r) (kind_widths r)

widths_right : T (every widths_test 0 rows)
unfolding widths_test packed_widths kind_widths rows modifier_at
widths_right = tt

pub modifiers_there : (k w : ℕ) → k < row_count → modifiers_in (widths (row_of k)) w ≡ map (number_in k w) modifier_places
unfolding modifiers_in runs packed_widths kind_widths widths_test
modifiers_there k w h =
    ap (runs w modifier_lows) {x = packed_widths (row_of k)} {y = kind_widths (row_of k)}
    (alike_eq (packed_widths (row_of k)) (kind_widths (row_of k)) (at widths_test rows no_row widths_right k (in_table k h)))

-- ---- the offset

above : (x k : ℕ) → (x + k * 281474976710656) / 4294967296 % 2 ≡ x / 4294967296 % 2
above x k = omega arith

module _ (k w : ℕ) (f : Fit) (n : Known k w f) where
  pub row_known : f.shape / 281474976710656 ≡ k
  row_known = ap (λ (x : Fit). x.shape / 281474976710656) n.fit ∙ shape_row k (omega (arith, n.in_table))

  pub sources_known : bytes_of f.sources ≡ sources_of (map (number_in k w) source_places)
  sources_known =
      let b = byte_there k w n.in_table in
      ap (λ (x : Fit). bytes_of x.sources) n.fit
      ∙ (λ j. record { s0 = b 0 (omega arith) j; s1 = b 1 (omega arith) j; s2 = b 2 (omega arith) j; s3 = b 3 (omega arith) j })

  pub modifiers_known : modifiers_in f.modifiers w ≡ map (number_in k w) modifier_places
  modifiers_known = ap (λ (x : Fit). modifiers_in x.modifiers w) n.fit ∙ modifiers_there k w n.in_table

  pub offset_known : bits w 8 27 * bits f.shape 32 1 ≡ number_in k w offset_place
  offset_known =
      ap (λ (x : ℕ). bits w 8 27 * x)
      (ap (λ (x : Fit). bits x.shape 32 1) n.fit ∙ above (shape (row_of k)) k ∙ offset_there k n.in_table)
      ∙ by (row_of k).offset
    where
      by : (t : Bool) → bits w 8 27 * choose t 1 0 ≡ bits w 8 (width (where_has t offset))
      by true = mul-one (bits w 8 27)
      by false = mul-zero (bits w 8 27) ∙ sym (mod-one (w / 2 ^ 8))

-- ---- bytes of any count

pub wrong_length : (bs : List ℕ) → (length bs ≡ 8 → ⊥) → refuses (refusal 1 0) ≡ read bs
unfolding read ◌then◌
wrong_length bs n = rw (ne_eqb (length bs) 8 n)

pub right_length : (bs : List ℕ) {w : ℕ} {a : Outcome Refusal Instruction} → length bs ≡ 8 → w ≡ little bs → a ≡ read_number w → a ≡ read bs
unfolding read ◌then◌
right_length bs l ew ea = rw (eq-eqb (length bs) 8 l, ← ew) ea
