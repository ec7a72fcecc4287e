use mathlib.Core.Path.{◌≡◌, refl, sym, ap, ◌∙◌}
use Prim.Native.Nat.{ℕ, ◌+◌, ◌*◌, ◌-◌}
use native.Mathlib.Omega.{arith}
use lib.ListN.{length, get_or}
use Rattle.bits.specs.Halves.{halves}
use Rattle.bits.specs.declared.halves.Halves.{Halves}
use Rattle.container.specs.declared.format.Format.{Format}
use Rattle.container.specs.Formats.{format_of, annotation_length, high_offset}
use Rattle.container.proofs.FormatLaws.{note_inside}
use Rattle.packing.proofs.FillLaws.{filled}
use Rattle.sweeps.specs.Sweeps.{note_bytes}
use Rattle.sweeps.proofs.ByteLaws.{room_for_two, low_stored, alone, high_stored, room}
use borrow.Author.Rules.{rules}
use Rattle.sweeps.proofs.encode.encode.Goals as goal
use Rattle.sweeps.proofs.encode.encode.Goals.{then-f-ne0, else-f-ne0}

pub loop-i-init : goal.loop-i-init
unfolding note_bytes
loop-i-init c = (refl, refl)

pub slice_bounds-store64-end : goal.slice_bounds-store64-end
slice_bounds-store64-end c = omega (arith, note_inside _ c.format_of-f.ensures c.requires.1 c.loop-i-test.true, c.loop-i.invariant.0)

pub slice_bounds-store64-end-then-f-ne0 : goal.slice_bounds-store64-end-then-f-ne0
slice_bounds-store64-end-then-f-ne0 c = omega (arith, room_for_two _ c.format_of-f.ensures c.if-f-ne0.true c.requires.1 c.loop-i-test.true, c.loop-i.invariant.0)

pub loop-i-preserved : goal.loop-i-preserved
loop-i-preserved c =
    let a = c.args in
    let l = c.loop-i in
    let f = c.format_of-f.ensures in
    let g : ℕ → Halves = λ j. halves (get_or a.lows.now j 0) (get_or a.highs.now j 0) in
    let start = c.format_of-f.result.annotation * l.i in
    let at : start ≡ annotation_length a.version * l.i = ap (λ (f : Format). f.annotation * l.i) f in
    let low = c.store64.ensures in
    let b = low_stored a.version g l.i l.out a.out.now low l.invariant.1 at (eight start) in (
      search rules,
      elim c.if-f-ne0.branch [
        | then-f-ne0 w ↦ rw w.out-is (high_stored a.version g l.i _ a.out.now low (λ z. w.if-f-ne0.true (high a.version f ∙ z)) b w.store64-then-f-ne0.ensures (ap (λ (n : ℕ). n + 8) at) (eight (start + 8)))
        | else-f-ne0 w ↦ rw w.out-is (alone a.version g l.i _ a.out.now low (sym (high a.version f) ∙ w.if-f-ne0.false) b)
      ],
    )
  where
    eight : (n : ℕ) → n + 8 - n ≡ 8
    eight n = omega arith

    high : (v : ℕ) {f : Format} → f ≡ format_of v → f.high ≡ high_offset v
    high v e = ap (λ (f : Format). f.high) e

pub returns : goal.returns
returns c =
    let a = c.args in
    let l = c.loop-i in
    let g : ℕ → Halves = λ j. halves (get_or a.lows.now j 0) (get_or a.highs.now j 0) in
    let e : l.i ≡ length a.lows.now = search rules in
    filled _ l.out a.out.now l.invariant.1 (room a.version g e c.requires.1) ∙ ap (note_bytes a.version g) e
