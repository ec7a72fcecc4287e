use mathlib.Core.Path.{◌≡◌, sym, ap, ap₂, ◌∙◌}
use mathlib.Core.Bool.{Bool, ◌&&◌}
use Prim.Native.Nat.{ℕ, ◌/◌}
use lib.Dec.{eqb}
use Rattle.diffparts.specs.Served.Parts.{set_line}
use Rattle.diffparts.proofs.SingleLaws.{of_one_set, of_two_sets, below_one, below_two}
use Rattle.diffparts.proofs.single.line_of_set.Goals as goal

-- whether both are version 1
asked : {v w x y : ℕ} {r b : Bool} → v ≡ x → w ≡ y → r ≡ (eqb v 1 && eqb w 1) → r ≡ b → (eqb x 1 && eqb y 1) ≡ b
asked ev ew e is = sym (e ∙ ap₂ (λ (v w : ℕ). eqb v 1 && eqb w 1) ev ew) ∙ is

pub compare_set-requires : goal.compare_set-requires
compare_set-requires c =
    (c.requires.0, below_one c.args.first.now c.args.second.now c.args.q (asked c.version.ensures c.version-2.ensures c.one_set.ensures c.if-one_set.true) c.requires.1)

pub returns-then-one_set : goal.returns-then-one_set
returns-then-one_set c =
    c.compare_set.ensures ∙ of_one_set c.args.first.now c.args.second.now c.args.q (asked c.version.ensures c.version-2.ensures c.one_set.ensures c.if-one_set.true)

pub compare_set-requires-2 : goal.compare_set-requires-2
compare_set-requires-2 c =
    (c.requires.0, below_two c.args.first.now c.args.second.now c.args.q (asked c.version.ensures c.version-2.ensures c.one_set.ensures c.if-one_set.false) c.requires.1)

pub returns : goal.returns
returns c =
    let a = c.args.first.now in
    let b = c.args.second.now in
    c.compare_set-2.ensures ∙ ap (set_line a b (c.args.q / 2)) c.in_turn.ensures
    ∙ of_two_sets a b c.args.q (asked c.version.ensures c.version-2.ensures c.one_set.ensures c.if-one_set.false)
