use mathlib.Core.Path.{◌≡◌, sym, ◌∙◌}
use Prim.Native.Nat.{ℕ}
use native.Mathlib.Omega.{arith}
use Rattle.opcoderows.specs.Served.Slots.{block, blocks, block_at}
use Rattle.opcoderows.specs.declared.Block.{Block}
use Rattle.opcoderows.proofs.KeyedLaws.{Missed, unlisted, told}
use Rattle.opcoderows.proofs.block_at.Goals as goal
use Rattle.std.proofs.lemmas.Grind.{common_steps}

other : (k : ℕ) {x : Block} → Missed (Unit {0}) blocks k → x ≡ block 0 0 → x ≡ block_at k
unfolding block_at
other k m q = q ∙ sym (unlisted (block 0 0) blocks k m)

pub returns-in-0 : goal.returns-in-0
unfolding block_at
returns-in-0 c = told block_at c.args.high 0x00 (omega arith) c.block_with.ensures

pub returns-in-1 : goal.returns-in-1
unfolding block_at
returns-in-1 c = told block_at c.args.high 0x01 (omega arith) c.block_with-in-1.ensures

pub returns-in-2 : goal.returns-in-2
unfolding block_at
returns-in-2 c = told block_at c.args.high 0x02 (omega arith) c.block_with-in-2.ensures

pub returns-in-9 : goal.returns-in-9
unfolding block_at
returns-in-9 c = told block_at c.args.high 0x09 (omega arith) c.block_with-in-9.ensures

pub returns-in-10 : goal.returns-in-10
unfolding block_at
returns-in-10 c = told block_at c.args.high 0x0A (omega arith) c.block_with-in-10.ensures

pub returns-in-11 : goal.returns-in-11
unfolding block_at
returns-in-11 c = told block_at c.args.high 0x0B (omega arith) c.block_with-in-11.ensures

pub returns-in-12 : goal.returns-in-12
unfolding block_at
returns-in-12 c = told block_at c.args.high 0x0C (omega arith) c.block_with-in-12.ensures

pub returns-in-15 : goal.returns-in-15
unfolding block_at
returns-in-15 c = told block_at c.args.high 0x0F (omega arith) c.block_with-in-15.ensures

pub returns-in-21 : goal.returns-in-21
unfolding block_at
returns-in-21 c = told block_at c.args.high 0x15 (omega arith) c.block_with-in-21.ensures

pub returns-in_default : goal.returns-in_default
unfolding block_at
returns-in_default c = grind (arith, common_steps, other)
