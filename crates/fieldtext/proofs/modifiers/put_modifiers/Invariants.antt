use mathlib.Core.Path.{◌≡◌}
use Prim.Native.Nat.{◌*◌, ◌≤◌}
use lib.ListN.{length, take}
use Rattle.text.specs.Text.{Put}
use Rattle.fieldtext.specs.Enumerations.{value_width}
use Rattle.fieldtext.specs.Served.Coded.{coded_texts}
use Rattle.fieldtext.proofs.modifiers.put_modifiers.Given as goal

abbrev pub invariant-loop-place : goal.invariant-loop-place
invariant-loop-place l =
    (l.at ≤ value_width * l.place-index)
    × (length l.out ≡ length l.initial.out)
    × Put (coded_texts l.first l.last l.kinds l.values (take l.place-index l.places)) l.initial.out l.out l.at
