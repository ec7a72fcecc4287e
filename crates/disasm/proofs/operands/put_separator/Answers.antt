use Rattle.rows.specs.Names.{ascii}
use mathlib.Core.Path.{sym}
use native.Mathlib.Omega.{arith}
use Rattle.text.proofs.TextLaws.{same_text}
use Rattle.disasm.proofs.PlaceLaws.{first_separator, other_separator}
use mathlib.Core.Path.{sym}
use Rattle.disasm.proofs.operands.put_separator.Goals as goal

pub returns-then-j-eq0 : goal.returns-then-j-eq0
unfolding ascii
returns-then-j-eq0 c = (same_text (sym (first_separator c.args.j c.if-j-eq0.true)) c.put_text.ensures, omega (arith, c.put_text.ensures.counts))

pub returns : goal.returns
unfolding ascii
returns c = (same_text (sym (other_separator c.args.j c.if-j-eq0.false)) c.put_text-2.ensures, omega (arith, c.put_text-2.ensures.counts))
