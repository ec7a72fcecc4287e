use lib.ListN.{length}
use Rattle.text.proofs.TextLaws.{same_text}
use Rattle.disasm.specs.Assembly.{instruction_text}
use mathlib.Core.Path.{◌≡◌, ap}
use native.Mathlib.Omega.{arith}
use Rattle.codes.proofs.TextLaws.{terminated}
use borrow.Author.Rules.{rules}
use Rattle.capi.proofs.vsp_text.Goals as goal

pub returns : goal.returns
returns c =
    let p = same_text (ap instruction_text c.instruction_of_form.ensures) c.put_instruction-n.ensures.0 in
    let l : length c.args.text.now ≡ 534 = search rules in
    record { answer = p.counts; kept = terminated p (omega (arith, l, c.put_instruction-n.ensures.1)) }
