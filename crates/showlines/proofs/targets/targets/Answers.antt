use mathlib.Core.Path.{ap, ◌∙◌}
use Prim.Native.Nat.{ℕ}
use Rattle.reading.specs.Reader.{read_number}
use Rattle.showlines.specs.Lines.{leads_in}
use Rattle.showlines.proofs.LineLaws.{no_marks, one_mark}
use Rattle.showlines.proofs.targets.targets.Goals as goal

pub loop-i-init : goal.loop-i-init
loop-i-init c = no_marks c.args.words.now c.args.n

pub loop-i-preserved : goal.loop-i-preserved
loop-i-preserved c =
    let a = c.args in
    let l = c.loop-i in
    c.mark.ensures ∙ one_mark a.words.now a.n l.i l.invariant (ap (λ (w : ℕ). leads_in a.n l.i (read_number w)) c.number_at.ensures)
