use mathlib.Core.Path.{◌≡◌, subst}
use mathlib.Core.List.{List}
use Prim.Native.Nat.{ℕ, ◌+◌, ◌*◌, ◌<◌, ◌≤◌}
use native.Mathlib.Omega.{arith}
use lib.ListN.{length}
use Rattle.differences.specs.Records.{field_count}
use Rattle.differences.specs.Differences.{lines_from, shared, instruction_lines}
use Rattle.differences.specs.Numbers.{most_lines}
use Rattle.diffparts.specs.Served.Parts.{Both}
use Rattle.difflist.specs.Served.Placed.{Placed}
use Rattle.diff.proofs.FewLaws.{few_a, instruction_few}
use Rattle.difflist.proofs.FillLaws.{no_index, next_placed, index_room}
use Rattle.difflist.proofs.list.put_instructions.Goals as goal

-- i of the instructions that both have are put, after k lines
record UnderWay (a b o m : List ℕ) (both i k n : ℕ) : Type 0 where
  read : Both a b
  small : both ≤ 2048
  front : k ≤ 1
  long : length o ≡ 3 * most_lines
  low : i ≤ both
  put : Placed (lines_from (instruction_lines a b) 0 i) k o m n

under_way : {a b o m : List ℕ} {both i k n : ℕ} → Both a b × (both ≡ shared a b) × (k ≤ 1) × (length o ≡ 3 * most_lines) → (i ≤ both) × Placed (lines_from (instruction_lines a b) 0 i) k o m n → UnderWay a b o m both i k n
under_way {a} {b} r h =
    record {
      read = r.0;
      small = omega (arith, r.1, few_a a b r.0);
      front = r.2;
      long = r.3;
      low = h.0;
      put = h.1;
    }

-- they have 22 i lines at most
module _ {a b o m : List ℕ} {both i k n : ℕ} (u : UnderWay a b o m both i k n) where
  room : (n ≤ k + field_count * i) × (length m ≡ length o)
  room = index_room (instruction_lines a b) field_count (instruction_few a b u.read) 0 i k u.put (omega (arith, u.long, u.low, u.small, u.front))

  within : 3 * n ≤ length o
  within = omega (arith, u.long, u.low, u.small, u.front, room.0)

  more : i < both → 3 * (n + field_count) ≤ length m
  more q = omega (arith, u.long, u.small, u.front, room.0, room.1, q)

pub loop-i-init : goal.loop-i-init
loop-i-init c =
    let a = c.args in
    no_index (instruction_lines a.first.now a.second.now) 0 a.k a.out.now

pub put_instruction-n-requires : goal.put_instruction-n-requires
put_instruction-n-requires c =
    (c.requires.0, subst (λ (n : ℕ). c.loop-i.i < n) c.requires.1 c.loop-i-test.true, more (under_way c.requires (omega arith, c.loop-i.invariant)) c.loop-i-test.true)

pub loop-i-preserved : goal.loop-i-preserved
loop-i-preserved c =
    next_placed (instruction_lines c.args.first.now c.args.second.now) c.loop-i.i c.args.k c.loop-i.invariant c.put_instruction-n.ensures
    (within (under_way c.requires (omega arith, c.loop-i.invariant)))

pub returns : goal.returns
returns c =
    let e : c.loop-i.i ≡ c.args.shared = omega arith in
    subst (λ (i : ℕ). Placed (lines_from (instruction_lines c.args.first.now c.args.second.now) 0 i) c.args.k c.args.out.now c.loop-i.out c.loop-i.n) e c.loop-i.invariant
