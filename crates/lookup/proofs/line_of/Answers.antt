use mathlib.Core.Path.{◌≡◌, sym, subst}
use Prim.Native.Nat.{ℕ, ◌/◌, ◌%◌, ◌^◌, ◌<◌}
use native.Mathlib.Omega.{arith}
use lib.Bits.{and_le_r}
use Rattle.lookup.specs.Served.Index.{group_at, second_of}
use Rattle.lookup.specs.declared.Group.{Group}
use Rattle.lookup.proofs.LineLaws.{own_row}
use Rattle.lookup.proofs.IndexLaws.{group_small, led_none, led_line}
use Rattle.lookup.proofs.line_of.Goals as goal
use Rattle.std.proofs.lemmas.Grind.{common_steps}

-- a group is small
small : (s w : ℕ) {g : Group} → g ≡ group_at s → (second_of g w < 32) × (g.cell < 256)
small s w {g} e =
    let b = subst (λ (x : Group). (x.mask < 32) × (x.cell < 256)) (sym e) (group_small s) in
    (omega (arith, b.0, and_le_r (w / 2 ^ (g.low % 64)) g.mask), b.1)

pub bits_at-requires-2 : goal.bits_at-requires-2
bits_at-requires-2 c =
    (omega (arith, (small _ c.args.w c.group_at-g.ensures).0), omega arith)

pub returns-then-bits_at-eq0 : goal.returns-then-bits_at-eq0
returns-then-bits_at-eq0 c = grind (arith, common_steps, own_row, led_none)

pub overflow_add-g : goal.overflow_add-g
overflow_add-g c =
    let s = small _ c.args.w c.group_at-g.ensures in
    record { fits = omega (arith, s.0, s.1) }

pub returns : goal.returns
returns c = grind (arith, common_steps, own_row, led_line)
