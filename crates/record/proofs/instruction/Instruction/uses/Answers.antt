use Prim.Native.Nat.{◌<◌}
use native.Mathlib.Omega.{arith}
use Rattle.rows.specs.Rows.{row_of}
use Rattle.record.specs.Registers.{reads_register, kills_register, reads, kills}
use Rattle.record.proofs.RegisterLaws.{read_source, kill_source, three_of, four_of}
use Rattle.record.proofs.instruction.Instruction.uses.Goals as goal

pub returns-then-n-lt4 : goal.returns-then-n-lt4
unfolding reads kills
returns-then-n-lt4 c =
    let i = c.args.self in
    let e = c.source_count-n.ensures.0 in
    let h : (row_of i.row).sources < 4 = rw e at c.if-n-lt4.true in (
      three_of reads_register i h (read_source i 0 _ (omega arith) e c.read_set-r0.ensures) (read_source i 1 _ (omega arith) e c.read_set-r1.ensures)
          (read_source i 2 _ (omega arith) e c.read_set-r2.ensures),
      three_of kills_register i h (kill_source i 0 _ (omega arith) e c.read_set-r0.ensures c.kill_set.ensures)
          (kill_source i 1 _ (omega arith) e c.read_set-r1.ensures c.kill_set-2.ensures)
          (kill_source i 2 _ (omega arith) e c.read_set-r2.ensures c.kill_set-3.ensures),
    )

pub returns : goal.returns
unfolding reads kills
returns c =
    let i = c.args.self in
    let e = c.source_count-n.ensures.0 in (
      four_of reads_register i (read_source i 0 _ (omega arith) e c.read_set-r0.ensures) (read_source i 1 _ (omega arith) e c.read_set-r1.ensures)
          (read_source i 2 _ (omega arith) e c.read_set-r2.ensures) (read_source i 3 _ (omega arith) e c.read_set-r3.ensures),
      four_of kills_register i (kill_source i 0 _ (omega arith) e c.read_set-r0.ensures c.kill_set.ensures)
          (kill_source i 1 _ (omega arith) e c.read_set-r1.ensures c.kill_set-2.ensures)
          (kill_source i 2 _ (omega arith) e c.read_set-r2.ensures c.kill_set-3.ensures)
          (kill_source i 3 _ (omega arith) e c.read_set-r3.ensures c.kill_set-4.ensures),
    )
