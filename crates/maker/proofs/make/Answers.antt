use mathlib.Core.Path.{◌≡◌, sym, ap, ◌∙◌}
use mathlib.Core.List.{List}
use Prim.Native.Nat.{ℕ, ◌*◌}
use native.Mathlib.Omega.{arith}
use lib.ListN.{length, take, replicate}
use Rattle.bits.specs.declared.halves.Halves.{Halves}
use Rattle.container.specs.declared.format.Format.{Format}
use Rattle.container.specs.Formats.{format_of}
use Rattle.packing.specs.Packing.{word_count}
use Rattle.infer.specs.Inference.{inference_outcome}
use Rattle.input.specs.Input.{Input}
use Rattle.maker.specs.Making.{blank, Read, Parted}
use Rattle.maker.proofs.MakingLaws.{notes_room, whole_room, lent, lent_length, answered, noted, fits, packed}
use Rattle.maker.proofs.make.Goals as goal

-- the annotations' buffer before they are found
blanked : {s : List ℕ} {v : ℕ} {e : Halves} {w : List ℕ} {i : Input} → Read i s → Parted s v e w → {f : Format} → f ≡ format_of v
    → take (f.annotation * word_count (length w)) (replicate 32768 0) ≡ blank v w
blanked {w = w} r p {f} e = lent 0 32768 _ (notes_room p r e) ∙ ap (λ (g : Format). replicate (g.annotation * word_count (length w)) 0) e

pub overflow_mul-notes : goal.overflow_mul-notes
overflow_mul-notes g c = record { fits = omega (arith, notes_room c.requires.1 c.requires.0 c.format_of.ensures) }

pub slice_bounds-notes-end : goal.slice_bounds-notes-end
slice_bounds-notes-end g c = notes_room c.requires.1 c.requires.0 c.format_of.ensures

pub slice_bounds-notes-end-2 : goal.slice_bounds-notes-end-2
slice_bounds-notes-end-2 g c = lent_length 0 32768 _ (notes_room c.requires.1 c.requires.0 c.format_of.ensures)

pub slice_bounds-out-end : goal.slice_bounds-out-end
slice_bounds-out-end g c = whole_room c.requires.1 c.requires.0 c.container_length.ensures

pub slice_bounds-out-end-2 : goal.slice_bounds-out-end-2
slice_bounds-out-end-2 g c = lent_length 0 49176 _ (whole_room c.requires.1 c.requires.0 c.container_length.ensures)

pub send-requires : goal.send-requires
send-requires g c =
    let p = c.requires in
    let b = blanked p.0 p.1 c.format_of.ensures in
    let i = c.infer.ensures in
    let k = ap inference_outcome c.in-Ok.is in
    let f = fits p.1 b i k c.infer.auto.annotations in
    let e = c.container_length.ensures in
    (p.0, answered p.1 b i ∙ k, packed p.1 _ (noted p.1 b i) f.0 f.1 (sym (lent_length 0 49176 _ (whole_room p.1 p.0 e)) ∙ e) c.pack.ensures.buffer)

pub tell_sweeps-requires : goal.tell_sweeps-requires
tell_sweeps-requires g c =
    let p = c.requires in
    (p.0, answered p.1 (blanked p.0 p.1 c.format_of.ensures) c.infer.ensures ∙ ap inference_outcome c.in-Ok.is)

pub refuse-requires : goal.refuse-requires
refuse-requires g c =
    let p = c.requires in
    (p.0, answered p.1 (blanked p.0 p.1 c.format_of.ensures) c.infer.ensures ∙ ap inference_outcome c.in-Err.is)
