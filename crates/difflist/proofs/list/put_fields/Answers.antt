use mathlib.Core.Path.{◌≡◌, subst}
use mathlib.Core.List.{List}
use Prim.Native.Nat.{ℕ, ◌+◌, ◌*◌, ◌<◌, ◌≤◌}
use native.Mathlib.Omega.{arith}
use lib.ListN.{length, get_or}
use Rattle.differences.specs.declared.line.What.TheVariants.{Row}
use Rattle.differences.specs.Records.{fields, field_count}
use Rattle.differences.specs.Differences.{lines_from}
use Rattle.diff.specs.Served.Cursor.{field_line, fields_from}
use Rattle.difflist.specs.Served.Placed.{Placed}
use Rattle.diff.proofs.FewLaws.{differs_few}
use Rattle.difflist.proofs.FillLaws.{no_index, next_placed, index_room}
use Rattle.difflist.proofs.list.put_fields.Goals as goal

-- f fields have f lines at most
module _ (i f k n : ℕ) (xs ys o m : List ℕ) (h : 3 * (k + field_count) ≤ length o) (l : f ≤ field_count) (p : Placed (lines_from (field_line i xs ys) 0 f) k o m n) where
  room : (n ≤ k + 1 * f) × (length m ≡ length o)
  room = index_room (field_line i xs ys) 1 (λ j. differs_few (get_or fields j Row) i (get_or xs j 0) (get_or ys j 0)) 0 f k p (omega (arith, h, l))

  within : 3 * n ≤ length o
  within = omega (arith, h, l, room.0)

  more : f < field_count → 3 * (n + 1) ≤ length m
  more q = omega (arith, h, room.0, room.1, q)

pub loop-f-init : goal.loop-f-init
loop-f-init c =
    let a = c.args in
    no_index (field_line a.index a.xs.now a.ys.now) 0 a.k a.out.now

pub put_field-n-requires : goal.put_field-n-requires
put_field-n-requires c =
    (c.requires.0, c.loop-f-test.true, more c.args.index c.loop-f.f c.args.k c.loop-f.n c.args.xs.now c.args.ys.now c.args.out.now c.loop-f.out c.requires.1 (omega arith) c.loop-f.invariant c.loop-f-test.true)

pub loop-f-preserved : goal.loop-f-preserved
loop-f-preserved c =
    next_placed (field_line c.args.index c.args.xs.now c.args.ys.now) c.loop-f.f c.args.k c.loop-f.invariant c.put_field-n.ensures
    (within c.args.index c.loop-f.f c.args.k c.loop-f.n c.args.xs.now c.args.ys.now c.args.out.now c.loop-f.out c.requires.1 (omega arith) c.loop-f.invariant)

pub returns : goal.returns
unfolding fields_from
returns c =
    let e : c.loop-f.f ≡ field_count = omega arith in
    subst (λ (n : ℕ). Placed (lines_from (field_line c.args.index c.args.xs.now c.args.ys.now) 0 n) c.args.k c.args.out.now c.loop-f.out c.loop-f.n) e c.loop-f.invariant
