use mathlib.Core.Path.{◌≡◌, refl, ap, ap₂, ◌∙◌, subst}
use mathlib.Core.List.{List, ◌++◌}
use Prim.Native.Nat.{ℕ, ◌+◌, ◌*◌, ◌≤◌, min}
use native.Mathlib.Omega.{arith}
use lib.ListN.{length}
use Rattle.container.specs.Container.{version_of}
use Rattle.differences.specs.declared.line.What.TheVariants.{Version}
use Rattle.differences.specs.declared.line.Line.{Line}
use Rattle.differences.specs.Records.{field_count}
use Rattle.differences.specs.Differences.{lines_from, shared, version_lines, instruction_lines, differences}
use Rattle.differences.specs.Numbers.{most_lines}
use Rattle.diffparts.specs.Served.Parts.{Counted, singles_from}
use Rattle.difflist.specs.Served.Placed.{Placed}
use Rattle.diff.proofs.WalkLaws.{two_parts}
use Rattle.diff.proofs.FewLaws.{differs_few, few_a, instruction_few}
use Rattle.diff.proofs.AnswerLaws.{after_version}
use Rattle.difflist.proofs.FillLaws.{placed_long, placed_next, index_room}
use Rattle.difflist.proofs.list.put_lines.Goals as goal

-- the line of the versions is put
module _ {a b o q : List ℕ} {n m k : ℕ} (w : Counted a n b m) (long : length o ≡ 3 * most_lines) (v : Placed (version_lines a b) 0 o q k) where
  one : (k ≤ 1) × (length q ≡ length o)
  one =
      let h = differs_few Version 0 (version_of a) (version_of b) in
      let c = v.counts in
      let l : k ≤ 1 = omega (arith, h, c) in
      (l, placed_long v (omega (arith, l, long)))

  -- and the lines of the instructions that both have
  module _ {x l : ℕ} {r : List ℕ} (ex : x ≡ min n m) (p : Placed (lines_from (instruction_lines a b) 0 x) k q r l) where
    counted : x ≡ shared a b
    counted = ex ∙ ap₂ min w.first_count w.second_count

    small : x ≤ 2048
    small = omega (arith, counted, few_a a b w.both)

    room : (l ≤ k + field_count * x) × (length r ≡ length q)
    room = index_room (instruction_lines a b) field_count (instruction_few a b w.both) 0 x k p (omega (arith, long, small, one))

    few : l ≤ 1 + field_count * shared a b
    few = subst (λ (z : ℕ). l ≤ 1 + field_count * z) counted (omega (arith, room.0, one.0))

    whole : {t : ℕ} {z : List ℕ} → Placed (singles_from a b (shared a b)) l r z t → Placed (differences a b) 0 o z t
    whole {t} {z} d =
        let e : lines_from (instruction_lines a b) 0 x ++ singles_from a b (shared a b) ≡ _ =
        ap (λ (y : ℕ). lines_from (instruction_lines a b) 0 y ++ singles_from a b (shared a b)) counted ∙ two_parts a b in
        subst (λ (ls : List Line). Placed ls 0 o z t) (ap (λ (ls : List Line). version_lines a b ++ ls) e ∙ after_version a b refl)
        (placed_next v (placed_next p d (omega (arith, long, small, room.0, one))) (omega (arith, long, one.0)))

pub put_parts-requires : goal.put_parts-requires
put_parts-requires c =
    let w = c.requires.0 in
    let v = c.put_version-k.ensures in
    let e = c.min.ensures in
    let p = c.put_instructions-l.ensures in
    (w, few w c.requires.1 v e p, (room w c.requires.1 v e p).1 ∙ (one w c.requires.1 v).1 ∙ c.requires.1)

pub returns : goal.returns
returns c =
    whole c.requires.0 c.requires.1 c.put_version-k.ensures c.min.ensures c.put_instructions-l.ensures c.put_parts.ensures
