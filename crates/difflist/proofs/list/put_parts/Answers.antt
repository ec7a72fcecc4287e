use mathlib.Core.Path.{◌≡◌, sym, ap₂, ◌∙◌, subst}
use mathlib.Core.List.{List}
use Prim.Native.Nat.{ℕ, ◌+◌, ◌-◌, ◌*◌, ◌<◌, ◌≤◌, min}
use native.Mathlib.Nat.{sub_self}
use native.Mathlib.Omega.{arith}
use lib.ListN.{length}
use Rattle.differences.specs.Records.{field_count}
use Rattle.differences.specs.Differences.{lines_from, shared}
use Rattle.differences.specs.Numbers.{most_lines}
use Rattle.diffparts.specs.Served.Parts.{Both, Counted, longer, part_count, single_lines, singles_from}
use Rattle.difflist.specs.Served.Placed.{Placed}
use Rattle.diff.proofs.FewLaws.{few_a, few_b, few_parts, single_few}
use Rattle.difflist.proofs.FillLaws.{no_index, index_placed, index_room}
use Rattle.difflist.proofs.list.put_parts.Goals as goal

-- the parts before p are put, after k lines
record UnderWay (a b o q : List ℕ) (k x end p l : ℕ) : Type 0 where
  read : Both a b
  from : x ≡ shared a b
  last : end ≡ part_count a b
  front : k ≤ 1 + field_count * shared a b
  long : length o ≡ 3 * most_lines
  low : x ≤ p
  high : p ≤ end
  put : Placed (lines_from (single_lines a b) x (p - x)) k o q l

under_way : {a b o q : List ℕ} {n m k x end p l : ℕ} → Counted a n b m × (k ≤ 1 + field_count * shared a b) × (length o ≡ 3 * most_lines) → x ≡ min n m → end ≡ part_count a b → (x ≤ p) × (p ≤ end) × Placed (lines_from (single_lines a b) x (p - x)) k o q l → UnderWay a b o q k x end p l
under_way r es ee h =
    let w = r.0 in
    record {
      read = w.both;
      from = es ∙ ap₂ min w.first_count w.second_count;
      last = ee;
      front = r.1;
      long = r.2;
      low = h.0;
      high = h.1;
      put = h.2;
    }

-- x instructions that both have, of which k lines tell with that of the versions, and parts up to `end`, of y instructions at most and two
-- sets of each annotation and of the entry sets
roomy : {k x y end p : ℕ} → k ≤ 1 + 22 * x → x ≤ y → y ≤ 2048 → end ≤ y + 2 * (x + 1) → p ≤ end → k + 1 * (p - x) ≤ 49155
roomy a b c d e = omega (arith, a, b, c, d, e)

module _ {a b o q : List ℕ} {k x end p l : ℕ} (u : UnderWay a b o q k x end p l) where
  from_shared : shared a b ≤ p
  from_shared = subst (λ (z : ℕ). z ≤ p) u.from u.low

  below_end : p < end → p < part_count a b
  below_end r = subst (λ (z : ℕ). p < z) u.last r

  fits : {j : ℕ} → j ≤ end → k + 1 * (j - x) ≤ most_lines
  fits r =
      let m = few_a a b u.read in
      let n = few_b a b u.read in
      roomy (subst (λ (z : ℕ). k ≤ 1 + field_count * z) (sym u.from) u.front) (subst (λ (z : ℕ). z ≤ longer a b) (sym u.from) (omega arith)) (omega (arith, m, n))
      (subst (λ (z : ℕ). end ≤ longer a b + 2 * (z + 1)) (sym u.from) (subst (λ (z : ℕ). z ≤ longer a b + 2 * (shared a b + 1)) (sym u.last) (few_parts a b u.read))) r

  room : (l ≤ k + 1 * (p - x)) × (length q ≡ length o)
  room = index_room (single_lines a b) 1 (single_few a b u.read) x (p - x) k u.put (omega (arith, u.long, fits u.high))

  within : 3 * l ≤ length o
  within = omega (arith, u.long, fits u.high, room.0)

  more : p < end → 3 * (l + 1) ≤ length q
  more r = omega (arith, u.long, u.low, fits r, room.0, room.1)

  all : end ≤ p → Placed (singles_from a b (shared a b)) k o q l
  unfolding singles_from
  all r =
      let e : p ≡ part_count a b = antisymmetric u.high r ∙ u.last in
      subst (λ (z : ℕ). Placed (lines_from (single_lines a b) z (part_count a b - z)) k o q l) u.from (subst (λ (z : ℕ). Placed (lines_from (single_lines a b) x (z - x)) k o q l) e u.put)
    where
      antisymmetric : {u v : ℕ} → u ≤ v → v ≤ u → u ≡ v
      antisymmetric s t = omega (arith, s, t)

pub loop-p-init : goal.loop-p-init
loop-p-init c =
    let n = c.min-p.result in
    let g = single_lines c.args.first.now c.args.second.now in
    subst (λ (x : ℕ). Placed (lines_from g n x) c.args.k c.args.out.now c.args.out.now c.args.k) (sym (sub_self n)) (no_index g n c.args.k c.args.out.now)

pub put_part-l-requires : goal.put_part-l-requires
put_part-l-requires c =
    let u = under_way c.requires c.min-p.ensures c.part_count-p-end.ensures (omega arith, omega arith, c.loop-p.invariant) in
    (c.requires.0, from_shared u, below_end u c.loop-p-test.true, more u c.loop-p-test.true)

pub loop-p-preserved : goal.loop-p-preserved
loop-p-preserved c =
    let n = c.min-p.result in
    let p = c.loop-p.p in
    let g = single_lines c.args.first.now c.args.second.now in
    let e : n + (p - n) ≡ p = omega arith in
    let d : p - n + 1 ≡ p + 1 - n = omega arith in
    subst (λ (x : ℕ). Placed (lines_from g n x) c.args.k c.args.out.now c.put_part-l.new.out c.put_part-l.result) d
    (index_placed g n (p - n) c.args.k c.loop-p.invariant
    (subst (λ (x : ℕ). Placed (g x) c.loop-p.l c.loop-p.out c.put_part-l.new.out c.put_part-l.result) (sym e) c.put_part-l.ensures)
    (within (under_way c.requires c.min-p.ensures c.part_count-p-end.ensures (omega arith, omega arith, c.loop-p.invariant))))

pub returns : goal.returns
returns c = all (under_way c.requires c.min-p.ensures c.part_count-p-end.ensures (omega arith, omega arith, c.loop-p.invariant)) c.loop-p-test.false
