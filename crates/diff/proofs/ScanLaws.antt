-- The fields of an instruction from one on, and the first of them in which two differ. Assumes nothing.
use Rattle.std.specs.Prelude.{Option, Some, None}
use Rattle.std.specs.Option.{MatchOption}
use Rattle.bits.proofs.OptionLaws.{Some-injective, Some-ne-None, None-ne-Some}
use mathlib.Core.Path.{◌≡◌, refl, sym, ap, ◌∙◌, subst}
use mathlib.Core.Bool.{Bool, true, false, not}
use mathlib.Core.List.{List, [], ◌∷◌, ◌++◌}
use Prim.Native.Nat.{ℕ, zero, suc, ◌+◌, ◌-◌, ◌<◌, ◌≤◌}
use native.Mathlib.Numerals.{add-one}
use native.Mathlib.Omega.{arith}
use lib.Dec.{eqb, ltb}
use lib.ListN.{length, get_or, drop, drop_of_length-le}
use lib.Seq.{drop-cons}
use borrow.Author.Tests.{eqb-true, eqb-false, eq-eqb, ne_eqb, ltb-true, ltb-false, lt-ltb, le-ltb}
use Rattle.bits.specs.Fields.{choose}
use Rattle.bits.specs.Sets.{lowest_from}
use Rattle.differences.specs.declared.line.What.TheVariants.{Row}
use Rattle.differences.specs.declared.line.Line.{Line}
use Rattle.differences.specs.Records.{fields, field_count}
use Rattle.differences.specs.Differences.{line, field_lines, lines_from}
use Rattle.diff.specs.Served.Cursor.{field_line, fields_from, scanned, differing_from}
use Rattle.differences.proofs.DiffersLaws.{fields_length}
use Rattle.differences.proofs.LineLaws.{lines_step, lines_end}

module _ (xs ys : List ℕ) where
  abbrev other : ℕ → Bool
  other j = not (eqb (get_or xs j 0) (get_or ys j 0))

  -- one field more
  stepped : (f : ℕ) → f < field_count → scanned xs ys f ≡ choose (other f) f (scanned xs ys (suc f))
  unfolding scanned lowest_from
  stepped f h =
      let e : field_count - f ≡ suc (field_count - suc f) = omega arith in
      ap (λ (n : ℕ). lowest_from other n f) e

  pub skips : (f : ℕ) → f < field_count → get_or xs f 0 ≡ get_or ys f 0 → scanned xs ys f ≡ scanned xs ys (f + 1)
  skips f h e = stepped f h ∙ rw (eq-eqb (get_or xs f 0) (get_or ys f 0) e, add-one f)

  pub stays : (f : ℕ) → f < field_count → (get_or xs f 0 ≡ get_or ys f 0 → ⊥) → f ≡ scanned xs ys f
  stays f h n = sym (stepped f h ∙ rw (ne_eqb (get_or xs f 0) (get_or ys f 0) n))

  pub passes_end : (f : ℕ) → field_count ≤ f → f ≡ scanned xs ys f
  unfolding scanned lowest_from
  passes_end f h =
      let e : field_count - f ≡ 0 = omega arith in
      rw e

  -- none of the fields from f to g differs
  abbrev Alike : ℕ → ℕ → Type 0
  Alike f g = (k : ℕ) → f ≤ k → k < g → get_or xs k 0 ≡ get_or ys k 0

  over : (n f g : ℕ) → f + n ≡ g → g ≤ field_count → Alike f g → scanned xs ys f ≡ scanned xs ys g
  over zero f g e h a = let q : f ≡ g = omega (arith, e) in ap (scanned xs ys) q
  over (suc n) f g e h a =
      skips f (omega (arith, e, h)) (a f (omega arith) (omega (arith, e)))
      ∙ over n (f + 1) g (omega (arith, e)) h (λ k l m. a k (omega (arith, l)) m)

  -- what a search finds
  pub searched : (f : ℕ) (r : Option ℕ)
      → MatchOption r (Alike f field_count) (λ g. (f ≤ g) × (g < field_count) × (get_or xs g 0 ≡ get_or ys g 0 → ⊥) × Alike f g)
      → r ≡ differing_from xs ys f
  searched f None a =
      let low : field_count ≤ scanned xs ys f = go (ltb f field_count) refl in
      rw (le-ltb (scanned xs ys f) field_count low) refl
    where
      go : (t : Bool) → ltb f field_count ≡ t → field_count ≤ scanned xs ys f
      go true e =
          let h = ltb-true f field_count e in
          omega (arith, over (field_count - f) f field_count (omega (arith, h)) (omega arith) a, passes_end field_count (omega arith))
      go false e =
          let h = ltb-false f field_count e in
          omega (arith, passes_end f h, h)
  searched f (Some g) a =
      let e : scanned xs ys f ≡ g = over (g - f) f g (omega (arith, a.0)) (omega (arith, a.1)) a.3 ∙ sym (stays g a.1 a.2) in
      rw (e, lt-ltb g field_count a.1) refl

  some_found : (f : ℕ) {g : ℕ} → Some g ≡ differing_from xs ys f → (g ≡ scanned xs ys f) × (g < field_count)
  some_found f {g} e = go (ltb (scanned xs ys f) field_count) refl
    where
      go : (t : Bool) → ltb (scanned xs ys f) field_count ≡ t → (g ≡ scanned xs ys f) × (g < field_count)
      go true q =
          let s : g ≡ scanned xs ys f = Some-injective _ _ (rw q at e) in
          (s, omega (arith, s, ltb-true (scanned xs ys f) field_count q))
      go false q = absurd (Some-ne-None g (rw q at e))

  none_found : (f : ℕ) → None ≡ differing_from xs ys f → field_count ≤ scanned xs ys f
  none_found f e = go (ltb (scanned xs ys f) field_count) refl
    where
      go : (t : Bool) → ltb (scanned xs ys f) field_count ≡ t → field_count ≤ scanned xs ys f
      go true q = absurd (None-ne-Some _ (rw q at e))
      go false q = ltb-false (scanned xs ys f) field_count q

  -- from field 22 on there is nothing
  pub none_from : (i f : ℕ) → field_count ≤ f → fields_from i f xs ys ≡ []
  unfolding fields_from
  none_from i f h = lines_end (field_line i xs ys) f field_count h

  module _ (i : ℕ) where
    head_line : (f : ℕ) → f < field_count → fields_from i f xs ys ≡ field_line i xs ys f ++ fields_from i (suc f) xs ys
    unfolding fields_from
    head_line f h = lines_step (field_line i xs ys) f field_count h ∙ rw (add-one f)

    abbrev Rest : ℕ → ℕ → Type 0
    Rest f d =
        (d < field_count → fields_from i f xs ys ≡ line (get_or fields d Row) i (get_or xs d 0) (get_or ys d 0) ∷ fields_from i (d + 1) xs ys)
        × (field_count ≤ d → fields_from i f xs ys ≡ [])

    -- the fields from f on: none before the first that differs
    first_line : (n f : ℕ) → field_count ≤ f + n → Rest f (scanned xs ys f)
    first_line zero f h =
        let e = passes_end f (omega arith) in
        (λ l. absurd (omega (arith, e, l, h)), λ l. none_from i f (omega arith))
    first_line (suc n) f h = go (first_line n (suc f) (omega arith))
      where
        here : f < field_count → (t : Bool) → eqb (get_or xs f 0) (get_or ys f 0) ≡ t → Rest (suc f) (scanned xs ys (suc f)) → Rest f (scanned xs ys f)
        here l true e r =
            let q = skips f l (eqb-true (get_or xs f 0) (get_or ys f 0) e) ∙ ap (scanned xs ys) (add-one f) in
            let s : fields_from i f xs ys ≡ fields_from i (suc f) xs ys = head_line f l ∙ rw e in
            (λ k. s ∙ rw q (r.0 (rw (sym q) k)), λ k. s ∙ r.1 (rw (sym q) k))
        here l false e r =
            let q = stays f l (eqb-false (get_or xs f 0) (get_or ys f 0) e) in
            (λ k. head_line f l ∙ rw (e, sym q, add-one f), λ k. absurd (omega (arith, k, q, l)))

        go : Rest (suc f) (scanned xs ys (suc f)) → Rest f (scanned xs ys f)
        go r = test (ltb f field_count) refl
          where
            test : (t : Bool) → ltb f field_count ≡ t → Rest f (scanned xs ys f)
            test true e = here (ltb-true f field_count e) (eqb (get_or xs f 0) (get_or ys f 0)) refl r
            test false e =
                let l = ltb-false f field_count e in
                let q = passes_end f l in
                (λ k. absurd (omega (arith, q, k, l)), λ k. none_from i f l)

    pub line_found : (f : ℕ) {g : ℕ} → Some g ≡ differing_from xs ys f
        → (g < field_count) × (fields_from i f xs ys ≡ line (get_or fields g Row) i (get_or xs g 0) (get_or ys g 0) ∷ fields_from i (g + 1) xs ys)
    line_found f {g} e =
        let s = some_found f e in
        let r : Rest f g = subst (Rest f) (sym s.0) (first_line field_count f (omega arith)) in
        (s.1, r.0 s.1)

    pub no_line_found : (f : ℕ) → None ≡ differing_from xs ys f → fields_from i f xs ys ≡ []
    no_line_found f e = (first_line field_count f (omega arith)).1 (none_found f e)

-- all fields, by their index
module _ (i : ℕ) (xs ys : List ℕ) (long_x : length xs ≡ field_count) (long_y : length ys ≡ field_count) where
  by_index : (n f : ℕ) → f + n ≡ field_count → field_lines i (drop f fields) (drop f xs) (drop f ys) ≡ lines_from (field_line i xs ys) f n
  unfolding field_lines lines_from
  by_index zero f e = rw (drop_of_length-le fields {i = f} (omega (arith, e, fields_length)))
  by_index (suc n) f e =
      rw (drop-cons fields f Row (omega (arith, e, fields_length)), drop-cons xs f 0 (omega (arith, e, long_x)), drop-cons ys f 0 (omega (arith, e, long_y)))
      (ap (λ (l : List Line). field_line i xs ys f ++ l) (by_index n (suc f) (omega (arith, e))))

  pub all_fields : field_lines i fields xs ys ≡ fields_from i 0 xs ys
  unfolding fields_from
  all_fields = by_index field_count 0 (omega arith)
