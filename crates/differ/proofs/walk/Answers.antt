use native.Mathlib.Omega.{arith}
use mathlib.Core.Path.{◌∙◌}
use Rattle.differences.specs.Differences.{differences}
use Rattle.diff.proofs.WalkLaws.{from_start}
use Rattle.diff.proofs.FewLaws.{few_lines}
use Rattle.differ.proofs.ComparingLaws.{line_in, count_in, at_line, at_end}
use Rattle.differ.proofs.walk.Goals as goal

pub loop-k-init : goal.loop-k-init
loop-k-init g c =
    (c.requires.2, from_start c.args.first.now c.args.second.now c.args.xs.now c.args.ys.now ∙ c.requires.3)

pub all_sent-requires : goal.all_sent-requires
all_sent-requires g c =
    count_in c.requires.0 (at_end (differences c.args.first.now c.args.second.now) c.loop-k.k c.loop-k.invariant.0 (c.in_default.ensures ∙ c.loop-k.invariant.1))

pub send_line-requires : goal.send_line-requires
send_line-requires g c =
    let t = at_line (differences c.args.first.now c.args.second.now) c.loop-k.k (c.in-Some.ensures ∙ c.loop-k.invariant.1) in
    (c.requires.0.all, line_in c.requires.0 c.loop-k.k t.0)

pub loop-k-preserved : goal.loop-k-preserved
loop-k-preserved g c =
    let t = at_line (differences c.args.first.now c.args.second.now) c.loop-k.k (c.in-Some.ensures ∙ c.loop-k.invariant.1) in
    (omega (arith, t.1), t.2)

pub all_sent-requires-2 : goal.all_sent-requires-2
all_sent-requires-2 g c =
    count_in c.requires.0 (omega (arith, c.loop-k.invariant.0, few_lines c.args.first.now c.args.second.now c.requires.1.both, c.loop-k-test.false))
