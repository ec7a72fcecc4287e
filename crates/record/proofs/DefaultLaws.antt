-- The defaults of a row, from its line in the table, and what they read: one test over the rows each. Assumes nothing.
use mathlib.Core.Path.{◌≡◌}
use mathlib.Core.Bool.{Bool, ◌&&◌}
use mathlib.Core.List.{List, map}
use Prim.Native.Nat.{ℕ, ◌-◌, ◌*◌, ◌/◌, ◌^◌, ◌<◌}
use lib.Dec.{T, eqb, ltb, eqb→eq, ltb→lt}
use borrow.Author.Tests.{ltb-true}
use Rattle.bits.specs.Fields.{bits}
use Rattle.bits.specs.Outcomes.{Outcome, gives, require}
use Rattle.bits.proofs.OutcomeLaws.{then_gives, required}
use Rattle.bits.proofs.Every.{every, at, and_l, and_r, alike, alike_eq}
use Rattle.rows.specs.Kinds.{about}
use Rattle.rows.specs.Rows.{Row, rows, row_of, no_row, row_count}
use Rattle.rows.specs.Layout.{Place, mask_place, source_places, modifier_places, modifier_at, kind_at}
use Rattle.rows.specs.Served.Table.{widths, limits, shape}
use Rattle.rows.proofs.TableLaws.{in_table}
use Rattle.record.specs.Answers.{refusal}
use Rattle.record.specs.Defaults.{default_instruction, fresh}
use Rattle.record.specs.Registers.{reads}
use Rattle.record.specs.Served.Modifiers.{modifiers_in}
use Rattle.record.specs.Served.Sources.{default_sources_in}
use Rattle.record.specs.declared.instruction.Instruction.{Instruction}
use Rattle.record.specs.declared.answer.Refusal.{Refusal}

-- the word that holds a row's defaults
abbrev pub default_bits : Row → ℕ
default_bits r = limits r / 4294967296 * 16777216

defaults : Row → List Place → List ℕ
defaults r ps = map (λ (p : Place). (about (kind_at r p)).default) ps

modifiers_test : ℕ → Row → Bool
modifiers_test k r = alike (modifiers_in (widths r) (default_bits r)) (defaults r modifier_places)

modifiers_right : T (every modifiers_test 0 rows)
unfolding modifiers_test defaults modifiers_in rows modifier_at
modifiers_right = tt

others_test : ℕ → Row → Bool
others_test k r =
    alike (default_sources_in (shape r)) (defaults r source_places)
    && (eqb (3 * (1 - bits (shape r) 47 1)) (about (kind_at r mask_place)).default && ltb (default_bits r) (2 ^ 64))

others_right : T (every others_test 0 rows)
unfolding others_test defaults rows modifier_at
others_right = tt

unread_test : ℕ → Row → Bool
unread_test k r = eqb (reads (default_instruction k)) 0

none_read : T (every unread_test 0 rows)
unfolding unread_test reads rows modifier_at
none_read = tt

module _ (k : ℕ) (h : k < row_count) where
  abbrev r : Row
  r = row_of k

  pub default_modifiers : modifiers_in (widths r) (default_bits r) ≡ map (λ (p : Place). (about (kind_at r p)).default) modifier_places
  unfolding modifiers_test defaults
  default_modifiers = alike_eq _ _ (at modifiers_test rows no_row modifiers_right k (in_table k h))

  tested : T (others_test k r)
  tested = at others_test rows no_row others_right k (in_table k h)

  pub default_sources : default_sources_in (shape r) ≡ map (λ (p : Place). (about (kind_at r p)).default) source_places
  unfolding others_test defaults
  default_sources =
      alike_eq _ _ (and_l (alike (default_sources_in (shape r)) (defaults r source_places))
      (eqb (3 * (1 - bits (shape r) 47 1)) (about (kind_at r mask_place)).default && ltb (default_bits r) (2 ^ 64)) tested)

  rest : T (eqb (3 * (1 - bits (shape r) 47 1)) (about (kind_at r mask_place)).default && ltb (default_bits r) (2 ^ 64))
  unfolding others_test
  rest =
      and_r (alike (default_sources_in (shape r)) (defaults r source_places))
      (eqb (3 * (1 - bits (shape r) 47 1)) (about (kind_at r mask_place)).default && ltb (default_bits r) (2 ^ 64)) tested

  pub default_mask : 3 * (1 - bits (shape r) 47 1) ≡ (about (kind_at r mask_place)).default
  default_mask = eqb→eq _ _ (and_l (eqb (3 * (1 - bits (shape r) 47 1)) (about (kind_at r mask_place)).default) (ltb (default_bits r) (2 ^ 64)) rest)

  pub default_lt : default_bits r < 2 ^ 64
  default_lt = ltb→lt _ _ (and_r (eqb (3 * (1 - bits (shape r) 47 1)) (about (kind_at r mask_place)).default) (ltb (default_bits r) (2 ^ 64)) rest)

  unread : T (eqb (reads (default_instruction k)) 0)
  unfolding unread_test
  unread = at unread_test rows no_row none_read k (in_table k h)

  pub default_reads : reads (default_instruction k) ≡ 0
  default_reads = eqb→eq _ _ unread

-- a fresh record is the default of a row that there is
pub fresh_made : (k : ℕ) (i : Instruction) → fresh k ≡ gives i → (k < row_count) × (default_instruction k ≡ i)
unfolding fresh
fresh_made k i e =
    let a = then_gives (require (ltb k row_count) (refusal 2 0)) (gives (default_instruction k)) i e in
    (ltb-true k row_count (required _ (refusal 2 0) a.0), given_eq a.1)
  where
    given_eq : {x y : Instruction} → ◌≡◌ {A = Outcome Refusal Instruction} (gives x) (gives y) → x ≡ y
    given_eq {x} {y} q = cc
