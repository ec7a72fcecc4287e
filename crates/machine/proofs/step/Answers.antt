use Rattle.machine.proofs.StepLaws.{found, writes_one, writes_past, writes_none}
use Rattle.machine.proofs.step.Goals as goal

pub returns-then-d-lt64-clause-written : goal.returns-then-d-lt64-clause-written
returns-then-d-lt64-clause-written c =
    let a = c.args in
    writes_one a.o a.i a.registers.now c.in-Some.is c.if-d-lt64.true (found a.o a.i a.registers.now _ _ c.operand_worth-a.ensures c.others_worth-b.ensures c.stepped-e.ensures)

pub returns-else-d-lt64-clause-written : goal.returns-else-d-lt64-clause-written
returns-else-d-lt64-clause-written c = let a = c.args in writes_past a.o a.i a.registers.now c.in-Some.is c.if-d-lt64.false

pub returns-in_default-clause-written : goal.returns-in_default-clause-written
returns-in_default-clause-written c = let a = c.args in writes_none a.o a.i a.registers.now c.in_default.is
