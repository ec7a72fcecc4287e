use mathlib.Core.Path.{◌≡◌, refl, sym, ap, ◌∙◌}
use native.Mathlib.Omega.{arith}
use Rattle.rows.specs.Names.{ascii}
use Rattle.text.proofs.TextLaws.{put_next, same_text}
use Rattle.registertext.specs.Registers.{members_text}
use Rattle.registertext.proofs.RegisterLaws.{no_members, one_member, no_register, some_registers}
use Rattle.registertext.proofs.put_registers.Goals as goal

pub returns-then-any-eq0 : goal.returns-then-any-eq0
unfolding ascii
returns-then-any-eq0 c = (same_text (no_register c.args.s (sym c.either-any.ensures ∙ c.if-any-eq0.true)) c.put_text.ensures, omega (arith, c.put_text.ensures.counts))

pub loop-r-init : goal.loop-r-init
loop-r-init c = (omega arith, refl, no_members c.args.s c.args.out.now)

pub loop-r-preserved : goal.loop-r-preserved
loop-r-preserved c = (omega (arith, c.put_member-at.ensures.1), omega arith, same_text (one_member c.args.s c.loop-r.r) (put_next c.loop-r.invariant.2 c.put_member-at.ensures.0))

pub returns : goal.returns
returns c =
    let l = c.loop-r in
    let s = c.args.s in
    let e : l.r ≡ 64 = omega arith in
    (same_text (ap (members_text s) e ∙ some_registers s (λ z. c.if-any-eq0.false (c.either-any.ensures ∙ z))) l.invariant.2, omega arith)
