use native.Mathlib.Omega.{arith}
use Rattle.record.specs.Registers.{kills_register, kills}
use Rattle.record.proofs.RegisterLaws.{kill_source, four_of}
use Rattle.record.proofs.instruction.Instruction.kills.Goals as goal

pub returns : goal.returns
unfolding kills
returns c =
    let i = c.args.self in
    let e = c.source_count-n.ensures.0 in
    four_of kills_register i (kill_source i 0 _ (omega arith) e c.read_set.ensures c.kill_set-k0.ensures)
    (kill_source i 1 _ (omega arith) e c.read_set-2.ensures c.kill_set-k1.ensures)
    (kill_source i 2 _ (omega arith) e c.read_set-3.ensures c.kill_set-k2.ensures)
    (kill_source i 3 _ (omega arith) e c.read_set-4.ensures c.kill_set-k3.ensures)
