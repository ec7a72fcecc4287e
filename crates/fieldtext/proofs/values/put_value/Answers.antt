use mathlib.Core.Path.{sym}
use native.Mathlib.Omega.{arith}
use Rattle.rows.specs.Names.{ascii}
use Rattle.text.proofs.TextLaws.{same_text}
use Rattle.fieldtext.proofs.CodedLaws.{no_value, value_read, starts_fit}
use Rattle.fieldtext.proofs.values.put_value.Goals as goal

pub returns-then-k-v : goal.returns-then-k-v
unfolding ascii
returns-then-k-v c =
    let p = c.put_text.ensures in
    (same_text (sym (no_value c.args.kind c.args.v c.requires.1 c.if-k-v.true)) p, omega (arith, p.counts))

pub slice_bounds-put_padded-end : goal.slice_bounds-put_padded-end
slice_bounds-put_padded-end c = omega (arith, starts_fit c.args.kind c.requires.1)

pub returns : goal.returns
returns c =
    let r = value_read c.args.kind c.args.v c.requires.1 c.if-k-v.false c.requires.0 in
    let p = c.put_padded.ensures in
    (same_text r.again p.0, omega (arith, r.long, p.1))
