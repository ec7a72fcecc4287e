use native.Mathlib.Omega.{arith}
use Rattle.text.proofs.TextLaws.{put_next}
use Rattle.disasm.specs.Assembly.{instruction_text}
use Rattle.disasm.proofs.put_instruction.Goals as goal

pub returns : goal.returns
unfolding instruction_text
returns c =
    let p = c.put_opcode-at.ensures in
    let q = c.put_operands.ensures in
    (put_next p.0 q.0, omega (arith, p.1, q.1))
