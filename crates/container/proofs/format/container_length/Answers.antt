use native.Mathlib.Omega.{arith}
use Prim.Native.Nat.{ℕ, ◌+◌, ◌*◌, ◌<◌, ◌≤◌}
use Rattle.container.specs.declared.format.Format.{Format}
use Rattle.container.proofs.FormatLaws.{Bounded, bounded_by, at_most}
use Rattle.container.proofs.format.container_length.Goals as goal

-- the part that grows with the count
product : {f : Format} {n : ℕ} → Bounded f → n < 65536 → (8 + f.annotation) * n ≤ 24 * 65536
product b l = at_most 24 65536 (omega (arith, b.annotation_most)) (omega (arith, l))

pub overflow_add-result : goal.overflow_add-result
overflow_add-result c = let b = bounded_by _ c.format_of-f.ensures in record { fits = omega (arith, b.annotation_most) }

pub overflow_mul-result : goal.overflow_mul-result
overflow_mul-result c = let b = bounded_by _ c.format_of-f.ensures in record { fits = omega (arith, product b c.requires) }

pub overflow_add-result-2 : goal.overflow_add-result-2
overflow_add-result-2 c = let b = bounded_by _ c.format_of-f.ensures in record { fits = omega (arith, b.header_most, product b c.requires) }
