use mathlib.Core.Path.{refl}
use Prim.Native.Nat.{◌<◌, ◌^◌}
use Rattle.judge.proofs.JudgeLaws.{fields_4, fields_5, fields_6, fields_7, fields_low}
use borrow.Author.Rules.{rules}
use Rattle.judge.proofs.judge_fields.Goals as goal

pub returns-then-not-has : goal.returns-then-not-has
returns-then-not-has c =
    let w = c.args.w in
    let hw : w < 2 ^ 64 = search rules in
    let pre = c.requires in
    fields_4 w hw c.args.l pre.0 pre.1 c.has.ensures c.bits_at.ensures.0 (c.if-not-has.true) c.refuse.ensures

pub returns-then-bits_at-eq-NO_HALF : goal.returns-then-bits_at-eq-NO_HALF
returns-then-bits_at-eq-NO_HALF c =
    let w = c.args.w in
    let hw : w < 2 ^ 64 = search rules in
    let pre = c.requires in
    fields_5 w hw c.args.l pre.0 pre.1 c.has.ensures c.bits_at.ensures.0 (c.if-not-has.false) c.bits_at-2.ensures.0 c.if-bits_at-eq-NO_HALF.true c.refuse-then-bits_at-eq-NO_HALF.ensures

pub returns-then-not-modifiers_ok : goal.returns-then-not-modifiers_ok
returns-then-not-modifiers_ok c =
    let w = c.args.w in
    let hw : w < 2 ^ 64 = search rules in
    let pre = c.requires in
    fields_6 w hw c.args.l pre.0 pre.1 c.has.ensures c.bits_at.ensures.0 (c.if-not-has.false) c.bits_at-2.ensures.0 c.if-bits_at-eq-NO_HALF.false c.modifiers_ok.ensures (c.if-not-modifiers_ok.true) c.refuse_modifier.ensures

pub returns-then-all_low : goal.returns-then-all_low
returns-then-all_low c =
    let w = c.args.w in
    let hw : w < 2 ^ 64 = search rules in
    let pre = c.requires in
    fields_low w hw c.args.l pre.0 pre.1 c.has.ensures c.bits_at.ensures.0 (c.if-not-has.false) c.bits_at-2.ensures.0 c.if-bits_at-eq-NO_HALF.false c.modifiers_ok.ensures (c.if-not-modifiers_ok.false) _ refl (c.all_low.ensures c.if-all_low.true) refl

pub returns : goal.returns
returns c =
    let w = c.args.w in
    let hw : w < 2 ^ 64 = search rules in
    let pre = c.requires in
    fields_7 w hw c.args.l pre.0 pre.1 c.has.ensures c.bits_at.ensures.0 (c.if-not-has.false) c.bits_at-2.ensures.0 c.if-bits_at-eq-NO_HALF.false c.modifiers_ok.ensures (c.if-not-modifiers_ok.false) _ refl c.judge_sources.ensures
