use mir.Syntax.{w32}
use mir.ValLaws.{to_z-of_z}
use mathlib.Core.Path.{ap, ap₂, ◌∙◌}
use Prim.Native.Nat.{ℕ, ◌*◌}
use native.Mathlib.Omega.{arith}
use Rattle.record.specs.Lists.{modifiers_of}
use Rattle.record.specs.Instructions.{offset_of}
use Rattle.reader.proofs.KnownLaws.{row_known, sources_known, modifiers_known, offset_known}
use Rattle.reader.proofs.instruction_of.Goals as goal

pub overflow_cast-result : goal.overflow_cast-result
overflow_cast-result c = let x = c.requires in record { fits = omega (arith, row_known x.0 _ _ x.1, x.1.in_table) }

pub returns : goal.returns
returns c =
    λ k n j.
    record {
      row = row_known k _ _ n j;
      page = c.bits_at-3.ensures.0 j;
      flow = c.bits_at-4.ensures.0 j;
      register = (c.bits_at-5.ensures.0 ∙ n.register) j;
      half_mask = (c.bits_at-6.ensures.0 ∙ n.mask) j;
      sources = (c.sources_in-sources.ensures ∙ sources_known k _ _ n) j;
      modifiers = (c.modifiers_in-modifiers.ensures ∙ ap modifiers_of (modifiers_known k _ _ n)) j;
      offset = (to_z-of_z w32 c.offset_of-offset.result (record { sfits = c.offset_of-offset.type_inv }) ∙ c.offset_of-offset.ensures ∙ ap offset_of (ap₂ (λ (x y : ℕ). x * y) c.bits_at.ensures.0 c.bits_at-2.ensures.0 ∙ offset_known k _ _ n)) j;
    }
