use mathlib.Core.Path.{refl}
use native.Mathlib.Numerals.{add-one}
use native.Mathlib.Omega.{arith}
use Rattle.text.proofs.TextLaws.{put_next, same_text}
use Rattle.disasm.proofs.PlaceLaws.{no_sources, one_source}
use Rattle.disasm.proofs.operands.put_sources.Goals as goal

pub loop-k-init : goal.loop-k-init
loop-k-init c = (omega arith, refl, no_sources c.args.kinds.now c.args.values.now c.args.page c.args.bytes.now c.args.first c.args.out.now)

pub loop-k-preserved : goal.loop-k-preserved
loop-k-preserved c =
    let l = c.loop-k in
    let a = c.args in
    let e = one_source a.kinds.now a.values.now a.page a.bytes.now a.first l.k in
    (omega arith, omega arith, rw (add-one l.k) (same_text e (put_next (put_next l.invariant.2 c.put_separator-at.ensures.0) c.put_source-at.ensures.0)))
