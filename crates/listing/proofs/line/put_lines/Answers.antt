use mathlib.Core.Path.{◌≡◌, refl, subst}
use Prim.Native.Nat.{ℕ}
use native.Mathlib.Numerals.{add-one}
use native.Mathlib.Omega.{arith}
use lib.ListN.{length-take, length-drop}
use Rattle.container.specs.Container.{count_of, words_of}
use Rattle.view.proofs.WordLaws.{opened_count}
use Rattle.text.specs.Text.{Put}
use Rattle.listing.specs.Listing.{lines}
use Rattle.text.proofs.TextLaws.{put_next}
use Rattle.listing.proofs.line.put_lines.Goals as goal

pub loop-i-init : goal.loop-i-init
unfolding lines
loop-i-init c = (omega arith, refl, record { counts = refl; fills = refl })

pub put_word-at-requires : goal.put_word-at-requires
put_word-at-requires c =
    let e = opened_count _ c.requires.0 in
    (c.requires.0, omega (arith, c.loop-i-test.true), c.all-names.ensures, simp (length-take, length-drop) (omega arith))

pub loop-i-preserved : goal.loop-i-preserved
unfolding lines
loop-i-preserved c =
    let l = c.loop-i in
    (omega arith, omega arith, rw (add-one l.i) (put_next l.invariant.2 c.put_word-at.ensures.0))

pub returns : goal.returns
returns c =
    let a = c.args in
    let l = c.loop-i in
    let o = opened_count _ c.requires.0 in
    let e : l.i ≡ count_of a.bytes.now = omega arith in
    (subst (λ (i : ℕ). Put (lines (words_of a.bytes.now) i) a.out.now l.out l.at) e l.invariant.2, omega arith)
