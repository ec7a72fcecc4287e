use mathlib.Core.Path.{ap, ◌∙◌}
use mathlib.Core.List.{[], ◌∷◌}
use Prim.Native.Nat.{ℕ, ◌-◌, ◌*◌}
use native.Mathlib.Omega.{arith}
use lib.Pow.{shr_le}
use mir.Syntax.{w32}
use mir.Facts.{to_z-of_z}
use Rattle.bits.specs.Fields.{bits}
use Rattle.rows.specs.Rows.{row_of}
use Rattle.record.specs.Instructions.{offset_number}
use Rattle.record.specs.Legality.{room}
use Rattle.record.proofs.NumberLaws.{head_places}
use Rattle.writing.proofs.RoomLaws.{heads_room, offset_small}
use Rattle.wordparts.proofs.room.heads_fit.Goals as goal

pub overflow_add-result : goal.overflow_add-result
overflow_add-result c =
    let there = 1 - c.bits_at-there.result in
    omega (
      arith,
      shr_le c.from-3.result (6 * there),
      shr_le c.from-4.result (2 * there),
      shr_le c.offset_number.result (27 * c.bits_at-far.result),
      offset_small _ c.offset_number.ensures,
    )

pub returns : goal.returns
returns c =
    let i = c.args.i in
    let back = to_z-of_z {w = w32} {z = i.offset} (record { sfits = c.struct_told-1.given.1.1.1.1.1.1.1.0.1 }) in
    heads_room i.row c.requires.1 (c.bits_at-there.ensures.0 ∙ ap (λ (x : ℕ). bits x 47 1) c.requires.0)
    (c.bits_at-far.ensures.0 ∙ ap (λ (x : ℕ). bits x 32 1) c.requires.0) _ _ _ _ _
    ∙ (λ j. room (row_of i.row) head_places
    (c.from.ensures j
    ∷ c.from-2.ensures j
    ∷ c.from-3.ensures j
    ∷ c.from-4.ensures j
    ∷ (c.offset_number.ensures ∙ ap offset_number back) j
    ∷ []))
