-- Where each place stands in the list of places, and lists that are mapped from it. Assumes nothing.
use mathlib.Core.Path.{◌≡◌, refl, ap, sym, subst}
use mathlib.Core.Bool.{Bool, true, false, ◌||◌}
use mathlib.Core.List.{List}
use Prim.Native.Nat.{ℕ, zero, suc, ◌+◌, ◌<◌}
use native.Mathlib.Omega.{arith}
use lib.Dec.{T, ltb, eqb, ltb→lt}
use lib.ListN.{length, get_or}
use borrow.Author.Tests.{eqb-true}
use Rattle.bits.specs.Fields.{choose}
use Rattle.bits.proofs.Every.{every, T_true}
use Rattle.rows.specs.Layout.{Place, source_place, offset_place, second_place, modifier_place, register_place, mask_place, opcode_place, page_place, flow_place, places}

-- the places of the list
abbrev pub placed : Place → Bool
placed (source_place k) = ltb k 4
placed offset_place = true
placed (second_place p) = eqb p 16 || eqb p 24
placed (modifier_place j) = ltb j 14
placed register_place = true
placed mask_place = true
placed opcode_place = true
placed page_place = true
placed flow_place = true

-- where a place stands in the list
abbrev pub index : Place → ℕ
index (source_place zero) = 0
index (source_place (suc zero)) = 1
index (source_place (suc (suc zero))) = 6
index (source_place (suc (suc (suc k)))) = 8
index offset_place = 2
index (second_place p) = choose (eqb p 16) 7 9
index (modifier_place j) = choose (ltb j 3) (3 + j) (7 + j)
index register_place = 21
index mask_place = 22
index opcode_place = 23
index page_place = 24
index flow_place = 25

second_here : (p : ℕ) → T (eqb p 16 || eqb p 24) → (get_or places (choose (eqb p 16) 7 9) flow_place ≡ second_place p) × (choose (eqb p 16) 7 9 < 26)
unfolding places
second_here p h = go (eqb p 16) refl h
  where
    go : (t : Bool) → eqb p 16 ≡ t → T (t || eqb p 24) → (get_or places (choose t 7 9) flow_place ≡ second_place p) × (choose t 7 9 < 26)
    go true e u = (ap second_place (sym (eqb-true p 16 e)), omega arith)
    go false e u = (ap second_place (sym (eqb-true p 24 (T_true (eqb p 24) u))), omega arith)

modifier_here : (j : ℕ) → T (ltb j 14) → get_or places (choose (ltb j 3) (3 + j) (7 + j)) flow_place ≡ modifier_place j
unfolding places
modifier_here zero h = refl
modifier_here (suc zero) h = refl
modifier_here (suc (suc zero)) h = refl
modifier_here (suc (suc (suc zero))) h = refl
modifier_here (suc (suc (suc (suc zero)))) h = refl
modifier_here (suc (suc (suc (suc (suc zero))))) h = refl
modifier_here (suc (suc (suc (suc (suc (suc zero)))))) h = refl
modifier_here (suc (suc (suc (suc (suc (suc (suc zero))))))) h = refl
modifier_here (suc (suc (suc (suc (suc (suc (suc (suc zero)))))))) h = refl
modifier_here (suc (suc (suc (suc (suc (suc (suc (suc (suc zero))))))))) h = refl
modifier_here (suc (suc (suc (suc (suc (suc (suc (suc (suc (suc zero)))))))))) h = refl
modifier_here (suc (suc (suc (suc (suc (suc (suc (suc (suc (suc (suc zero))))))))))) h = refl
modifier_here (suc (suc (suc (suc (suc (suc (suc (suc (suc (suc (suc (suc zero)))))))))))) h = refl
modifier_here (suc (suc (suc (suc (suc (suc (suc (suc (suc (suc (suc (suc (suc zero))))))))))))) h = refl
modifier_here (suc (suc (suc (suc (suc (suc (suc (suc (suc (suc (suc (suc (suc (suc j)))))))))))))) h = absurd (omega (arith, ltb→lt (suc (suc (suc (suc (suc (suc (suc (suc (suc (suc (suc (suc (suc (suc j)))))))))))))) 14 h))

modifier_lt : (j : ℕ) → T (ltb j 14) → choose (ltb j 3) (3 + j) (7 + j) < 26
modifier_lt j h = go (ltb j 3) (ltb→lt j 14 h)
  where
    go : (t : Bool) → j < 14 → choose t (3 + j) (7 + j) < 26
    go true l = omega arith
    go false l = omega arith

pub at_index : (p : Place) → T (placed p) → get_or places (index p) flow_place ≡ p
unfolding places
at_index (source_place zero) h = refl
at_index (source_place (suc zero)) h = refl
at_index (source_place (suc (suc zero))) h = refl
at_index (source_place (suc (suc (suc zero)))) h = refl
at_index (source_place (suc (suc (suc (suc k))))) h = absurd (omega (arith, ltb→lt (suc (suc (suc (suc k)))) 4 h))
at_index offset_place h = refl
at_index (second_place p) h = (second_here p h).0
at_index (modifier_place j) h = modifier_here j h
at_index register_place h = refl
at_index mask_place h = refl
at_index opcode_place h = refl
at_index page_place h = refl
at_index flow_place h = refl

pub places_length : length places ≡ 26
unfolding places
places_length = refl

below_26 : (p : Place) → T (placed p) → index p < 26
below_26 (source_place zero) h = omega arith
below_26 (source_place (suc zero)) h = omega arith
below_26 (source_place (suc (suc zero))) h = omega arith
below_26 (source_place (suc (suc (suc k)))) h = omega arith
below_26 offset_place h = omega arith
below_26 (second_place p) h = (second_here p h).1
below_26 (modifier_place j) h = modifier_lt j h
below_26 register_place h = omega arith
below_26 mask_place h = omega arith
below_26 opcode_place h = omega arith
below_26 page_place h = omega arith
below_26 flow_place h = omega arith

pub index_lt : (p : Place) → T (placed p) → index p < length places
index_lt p h = subst (λ (n : ℕ). index p < n) (sym places_length) (below_26 p h)

-- ---- what holds at each place holds along the list

abbrev pub all_placed : List Place → Bool
all_placed ps = every (λ (i : ℕ) (p : Place). placed p) 0 ps
