use native.Mathlib.Omega.{arith}
use mathlib.Core.Path.{ap}
use Prim.Native.Nat.{ℕ}
use lib.ListN.{replicate}
use Rattle.rows.specs.Names.{ascii}
use Rattle.text.specs.Text.{space}
use Rattle.text.proofs.TextLaws.{put_next, same_text}
use Rattle.showlines.proofs.LineLaws.{titled}
use Rattle.show.proofs.program.put_title.Goals as goal

pub returns : goal.returns
unfolding ascii
returns c =
    let p = c.put_text-at.ensures in
    let q = same_text (ap (λ (k : ℕ). replicate k space) c.saturating_sub.ensures) c.put_spaces-at.ensures.0 in
    let r = c.put_text-at-2.ensures in
    (same_text (titled c.args.width) (put_next (put_next p q) r), omega (arith, p.counts, c.put_spaces-at.ensures.1, c.saturating_sub.ensures, r.counts))
