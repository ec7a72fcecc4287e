use mathlib.Core.Path.{ap, ◌∙◌}
use Prim.Native.Nat.{◌+◌, ◌*◌}
use Rattle.bits.specs.Halves.{halves}
use Rattle.container.specs.declared.format.Format.{Format}
use Rattle.container.specs.Container.{number}
use Rattle.container.proofs.FormatLaws.{note_inside}
use Rattle.safety.specs.Program.{annotation_at}
use Rattle.flow.proofs.annotation_at.Goals as goal

pub halves_in-requires : goal.halves_in-requires
halves_in-requires c = note_inside _ c.format_of-f.ensures c.requires.0.long c.requires.1

pub returns : goal.returns
unfolding annotation_at
returns c =
    let a = c.args in
    let s = a.annotations.now in
    c.halves_in.ensures
    ∙ ap (λ (f : Format). halves (number s (f.annotation * a.i) 8) (number s (f.annotation * a.i + f.high) 8)) c.format_of-f.ensures
