-- A record passes exactly when its flow, its half mask, each modifier and each source are legal. Assumes nothing.
use mathlib.Core.Path.{◌≡◌, refl, sym, subst}
use mathlib.Core.Bool.{Bool, true, false, ◌&&◌, ◌||◌}
use mathlib.Core.List.{List, [], ◌∷◌}
use Prim.Native.Nat.{ℕ, zero, suc, ◌+◌, ◌^◌, ◌<◌}
use native.Mathlib.Nat.{not-suc-le-zero, le_of_suc-le-suc, add-zero, zero-add, add-suc, suc-add}
use native.Mathlib.Omega.{arith}
use lib.Dec.{T, ltb, leb, ltb→lt}
use lib.ListN.{length, get_or}
use borrow.Author.Tests.{lt-ltb, ltb-true, leb-true}
use Rattle.bits.specs.Fields.{choose}
use Rattle.bits.specs.Outcomes.{passes, require, ◌then◌}
use Rattle.bits.proofs.Every.{every, clash, and_l, and_r}
use Rattle.bits.proofs.OutcomeLaws.{then_gives, required}
use Rattle.rows.specs.Kinds.{Range, about, width, within, flow, legal_value}
use Rattle.rows.specs.Sources.{source_legal}
use Rattle.rows.specs.Rows.{Row, rows, row_of, row_count}
use Rattle.rows.specs.Layout.{Place, modifier_place, mask_place, flow_place, low, kind_at, modifier_at, modifier_places, places}
use Rattle.rows.proofs.PlaceLaws.{placed}
use Rattle.rows.proofs.RowLaws.{on_places, at_place}
use Rattle.record.specs.Answers.{refusal}
use Rattle.record.specs.Lists.{source_list, modifier_list}
use Rattle.record.specs.Legality.{judge_modifiers, source_ok, judge_sources, judge}
use Rattle.record.specs.declared.instruction.Instruction.{Instruction}
use Rattle.record.proofs.NumberLaws.{modifier_here}

-- ---- modifiers

module _ (r : Row) where
  modifiers_passed : (ps : List Place) (vs : List ℕ) → judge_modifiers r ps vs ≡ passes → (j : ℕ) → j < length ps → j < length vs
      → legal_value (kind_at r (get_or ps j flow_place)) (get_or vs j 0) ≡ true
  unfolding judge_modifiers
  modifiers_passed [] vs e j h l = absurd (not-suc-le-zero h)
  modifiers_passed (p ∷ ps) [] e j h l = absurd (not-suc-le-zero l)
  modifiers_passed (p ∷ ps) (v ∷ vs) e zero h l = required _ (refusal 6 (low p)) (then_gives (require (legal_value (kind_at r p) v) (refusal 6 (low p))) _ tt e).0
  modifiers_passed (p ∷ ps) (v ∷ vs) e (suc j) h l =
      modifiers_passed ps vs (then_gives (require (legal_value (kind_at r p) v) (refusal 6 (low p))) _ tt e).1 j (le_of_suc-le-suc h) (le_of_suc-le-suc l)

  pass_modifiers : (ps : List Place) (vs : List ℕ)
      → ((j : ℕ) → j < length ps → j < length vs → legal_value (kind_at r (get_or ps j flow_place)) (get_or vs j 0) ≡ true) → judge_modifiers r ps vs ≡ passes
  unfolding judge_modifiers ◌then◌
  pass_modifiers [] vs a = refl
  pass_modifiers (p ∷ ps) [] a = refl
  pass_modifiers (p ∷ ps) (v ∷ vs) a = rw (a 0 (omega arith) (omega arith)) (pass_modifiers ps vs (λ j h l. a (suc j) (omega arith) (omega arith)))

  -- ---- sources

  module _ (page : ℕ) where
    sources_passed : (k : ℕ) (bs : List ℕ) → judge_sources r page k bs ≡ passes → (j : ℕ) → j < length bs → source_ok r page (k + j) (get_or bs j 0) ≡ true
    unfolding judge_sources
    sources_passed k [] e j l = absurd (not-suc-le-zero l)
    sources_passed k (b ∷ bs) e zero l =
        rw (add-zero k) (required (source_ok r page k b) (refusal 7 k) (then_gives (require (source_ok r page k b) (refusal 7 k)) _ tt e).0)
    sources_passed k (b ∷ bs) e (suc j) l =
        rw (add-suc k j, ← suc-add k j)
        (sources_passed (suc k) bs (then_gives (require (source_ok r page k b) (refusal 7 k)) _ tt e).1 j (le_of_suc-le-suc l))

    pass_sources : (k : ℕ) (bs : List ℕ) → ((j : ℕ) → j < length bs → source_ok r page (k + j) (get_or bs j 0) ≡ true) → judge_sources r page k bs ≡ passes
    unfolding judge_sources ◌then◌
    pass_sources k [] a = refl
    pass_sources k (b ∷ bs) a =
        rw (rw (add-zero k) at (a 0 (omega arith))) (pass_sources (suc k) bs (λ j l. rw (suc-add k j, ← add-suc k j) (a (suc j) (omega arith))))

-- ---- the whole

-- what a record has that passes
pub record Passed (r : Row) (i : Instruction) : Type 0 where
  pub flow_ok : legal_value flow i.flow ≡ true
  pub mask_ok : legal_value (kind_at r mask_place) i.half_mask ≡ true
  pub modifiers_ok : (j : ℕ) → j < 14 → legal_value (kind_at r (modifier_place j)) (get_or (modifier_list i.modifiers) j 0) ≡ true
  pub sources_ok : (k : ℕ) → k < 4 → source_ok r i.page k (get_or (source_list i.sources) k 0) ≡ true

module _ (r : Row) (i : Instruction) where
  abbrev Legal : Place → ℕ → Type 0
  Legal p j = legal_value (kind_at r p) (get_or (modifier_list i.modifiers) j 0) ≡ true

  pub judge_passes : judge r i ≡ passes → Passed r i
  unfolding judge
  judge_passes e =
      let a = then_gives (require (legal_value flow i.flow) (refusal 4 0)) _ tt e in
      let b = then_gives (require (legal_value (kind_at r mask_place) i.half_mask) (refusal 5 0)) _ tt a.1 in
      let c = then_gives (judge_modifiers r modifier_places (modifier_list i.modifiers)) _ tt b.1 in
      record {
        flow_ok = required _ (refusal 4 0) a.0;
        mask_ok = required _ (refusal 5 0) b.0;
        modifiers_ok = λ j h. subst (λ (p : Place). Legal p j) (modifier_here j h) (modifiers_passed r modifier_places (modifier_list i.modifiers) c.0 j h h);
        sources_ok = λ k l. rw (zero-add k) at (sources_passed r i.page 0 (source_list i.sources) c.1 k l);
      }

  pub passes_judge : Passed r i → judge r i ≡ passes
  unfolding judge ◌then◌
  passes_judge p =
      let m = pass_modifiers r modifier_places (modifier_list i.modifiers) (λ j h l. rw (modifier_here j h) (p.modifiers_ok j h)) in
      let s = pass_sources r i.page 0 (source_list i.sources) (λ k l. rw (zero-add k) (p.sources_ok k l)) in
      rw (p.flow_ok, p.mask_ok, m, s)

-- a source is legal if the row has it
module _ (r : Row) (page k b : ℕ) where
  pub ok_source : source_ok r page k b ≡ true → k < r.sources → source_legal page b ≡ true
  ok_source e h = rw (lt-ltb k r.sources h) at e

  pub source_is_ok : (k < r.sources → source_legal page b ≡ true) → source_ok r page k b ≡ true
  source_is_ok h = go (ltb k r.sources) refl
    where
      go : (t : Bool) → ltb k r.sources ≡ t → choose t (source_legal page b) true ≡ true
      go true e = h (ltb-true k r.sources e)
      go false e = refl

-- ---- a legal value has room: one test over the places of all rows

below : List Range → ℕ → Bool
below [] n = true
below (r ∷ rs) n = ltb r.last n && below rs n

below_lt : (rs : List Range) (n v : ℕ) → T (below rs n) → within rs v ≡ true → v < n
unfolding below
below_lt [] n v t e = clash (sym e)
below_lt (r ∷ rs) n v t e = go (leb r.first v) (leb v r.last) refl e (below_lt rs n v (and_r (ltb r.last n) (below rs n) t))
  where
    last_lt : r.last < n
    last_lt = ltb→lt _ _ (and_l (ltb r.last n) (below rs n) t)

    go : (a b : Bool) → leb v r.last ≡ b → (a && b || within rs v) ≡ true → (within rs v ≡ true → v < n) → v < n
    go true true q z f = omega (arith, leb-true v r.last q, last_lt)
    go true false q z f = f z
    go false b q z f = f z

room_test : Row → Place → Bool
room_test r p = below (about (kind_at r p)).legal (2 ^ width (kind_at r p))

rooms_right : T (every (on_places room_test) 0 rows)
unfolding room_test below rows places modifier_at
rooms_right = tt

pub legal_room : (k : ℕ) → k < row_count → (p : Place) → T (placed p) → (v : ℕ) → legal_value (kind_at (row_of k) p) v ≡ true
    → v < 2 ^ width (kind_at (row_of k) p)
unfolding room_test
legal_room k h p t v e = below_lt (about (kind_at (row_of k) p)).legal (2 ^ width (kind_at (row_of k) p)) v (at_place room_test rooms_right k h p t) e
