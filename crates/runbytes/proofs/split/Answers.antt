use mathlib.Core.Logic.{⊎_elim}
use Rattle.runbytes.proofs.SplitLaws.{too_short, wrong_kind, many_uniforms, many_recorded, cut_off, parted}
use Rattle.runbytes.proofs.split.Goals as goal

pub returns-then-bytes-lt-UNIFORMS_START : goal.returns-then-bytes-lt-UNIFORMS_START
returns-then-bytes-lt-UNIFORMS_START c = too_short c.args.bytes.now c.if-bytes-lt-UNIFORMS_START.true

pub returns-then-rows-gt1 : goal.returns-then-rows-gt1
returns-then-rows-gt1 c = wrong_kind c.args.bytes.now c.if-bytes-lt-UNIFORMS_START.false c.number_at-rows.ensures c.number_at-uniforms.ensures c.number_at-recorded.ensures c.if-rows-gt1.true

pub returns-then-uniforms-gt-MOST_UNIFORMS : goal.returns-then-uniforms-gt-MOST_UNIFORMS
returns-then-uniforms-gt-MOST_UNIFORMS c =
    let many = many_uniforms c.args.bytes.now c.if-bytes-lt-UNIFORMS_START.false c.number_at-rows.ensures c.number_at-uniforms.ensures c.number_at-recorded.ensures c.if-rows-gt1.false in
    let more = many_recorded c.args.bytes.now c.if-bytes-lt-UNIFORMS_START.false c.number_at-rows.ensures c.number_at-uniforms.ensures c.number_at-recorded.ensures c.if-rows-gt1.false in
    ⊎_elim (λ h. many h) (λ h. more h.0 h.1) c.then-uniforms-gt-MOST_UNIFORMS.either

pub returns-then-bytes-uniforms : goal.returns-then-bytes-uniforms
returns-then-bytes-uniforms c = cut_off c.args.bytes.now c.if-bytes-lt-UNIFORMS_START.false c.number_at-rows.ensures c.number_at-uniforms.ensures c.number_at-recorded.ensures c.if-rows-gt1.false c.if-uniforms-gt-MOST_UNIFORMS.false c.if-recorded-gt-MOST_RECORDED.false c.if-bytes-uniforms.true

pub returns : goal.returns
returns c = parted c.args.bytes.now c.if-bytes-lt-UNIFORMS_START.false c.number_at-rows.ensures c.number_at-uniforms.ensures c.number_at-recorded.ensures c.if-rows-gt1.false c.if-uniforms-gt-MOST_UNIFORMS.false c.if-recorded-gt-MOST_RECORDED.false c.if-bytes-uniforms.false c.number_at.ensures
