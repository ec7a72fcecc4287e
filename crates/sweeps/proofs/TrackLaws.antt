-- The sweeps of one half by itself: they are what the sweeps do to that half, and those of both are as many as the half that takes more has.
-- Assumes nothing.
use mathlib.Core.Path.{◌≡◌, refl, sym, ap, ap₂, ◌∙◌, subst, subst⁻¹}
use mathlib.Core.Bool.{Bool, true, false, ◌&&◌}
use mathlib.Core.Logic.{⊎_elim}
use Prim.Native.Nat.{ℕ, zero, suc, max, ◌-◌, ◌^◌, ◌<◌, ◌≤◌}
use native.Mathlib.Nat.{eq-or-lt_of_le, eq-zero-or-pos, le_of_suc-le-suc, zero-add}
use native.Mathlib.Omega.{arith}
use lib.Bits.{and_le_l}
use Rattle.bits.specs.Sets.{lowest_from}
use Rattle.bits.specs.Halves.{Half, lower, upper, half_of, halves}
use Rattle.bits.specs.declared.halves.Halves.{Halves}
use Rattle.bits.proofs.Every.{clash, both as both_true}
use Rattle.bits.proofs.SetLaws.{lowest_below, lowest_at}
use Rattle.bits.proofs.HalfLaws.{half_of_both}
use Rattle.container.specs.Formats.{known}
use Rattle.container.proofs.FormatLaws.{known_one}
use Rattle.packing.specs.Packing.{taken}
use Rattle.packing.proofs.PackLaws.{taken_low, taken_whole}
use Rattle.safety.specs.Program.{Program, successors, fills, after}
use Rattle.safety.proofs.ProgramLaws.{Small, half_small}
use Rattle.sweeps.specs.Sweeps.{all_registers, among, first_note, narrowed_if, swept, note, unchanged, sweeps}
use Rattle.sweeps.specs.Served.Tracks.{left_of, narrowed_set, swept_set, half_note, half_unchanged, half_sweeps}
use Rattle.sweeps.proofs.SameLaws.{sets_of, sets_to, sets_ext, same_by_halves}
use Rattle.sweeps.proofs.SweepLaws.{lowest_is, rests}

-- one half of what an instruction leaves, of a narrowed note, and of a note after some turns of a sweep
left_half : (p : Program) (h : Half) (t : ℕ) (held : Halves)
    → half_of h (after p.version (p.instruction t) held) ≡ left_of p h t (half_of h held)
unfolding after
left_half p lower t held = refl
left_half p upper t held = refl

narrowed_half : (h : Half) (b : Bool) (x y : Halves) → half_of h (narrowed_if b x y) ≡ narrowed_set b (half_of h x) (half_of h y)
narrowed_half lower true x y = refl
narrowed_half lower false x y = refl
narrowed_half upper true x y = refl
narrowed_half upper false x y = refl

module _ (p : Program) (h : Half) where
  swept_half : (old : ℕ → Halves) (t j : ℕ) → half_of h (swept p old t j) ≡ swept_set p h (λ i. half_of h (old i)) t j
  unfolding swept swept_set
  swept_half old zero j = refl
  swept_half old (suc t) j =
      let b = among j (successors (p.instruction t) t) in
      narrowed_half h b (swept p old t j) (after p.version (p.instruction t) (old t))
      ∙ ap₂ (narrowed_set b) (swept_half old t j) (left_half p h t (old t))

  -- so it is a sweep of that half's notes
  pub note_next : (k j : ℕ) → half_note p h (suc k) j ≡ swept_set p h (half_note p h k) p.count j
  unfolding note
  note_next k j = swept_half (note p k) p.count j

  -- which looks at the old notes of the program alone
  pub swept_ext : (a b : ℕ → ℕ) → ((i : ℕ) → i < p.count → a i ≡ b i) → (t : ℕ) → t ≤ p.count → (j : ℕ) → j < p.count
      → swept_set p h a t j ≡ swept_set p h b t j
  unfolding swept_set
  swept_ext a b e zero l j q = e j q
  swept_ext a b e (suc t) l j q = rw (swept_ext a b e t (omega arith) j q, e t (omega arith))

  -- where a sweep changes nothing, the next one does not either
  still_next : (k : ℕ) → half_unchanged p h k ≡ true → half_unchanged p h (suc k) ≡ true
  unfolding half_unchanged
  still_next k e =
      sets_to p.count (half_note p h (suc (suc k))) (half_note p h (suc k)) (λ j l.
      note_next (suc k) j
      ∙ swept_ext (half_note p h (suc k)) (half_note p h k) (sets_of p.count (half_note p h (suc k)) (half_note p h k) e) p.count (omega arith) j l
      ∙ sym (note_next k j))

  pub still_on : (k m : ℕ) → k ≤ m → half_unchanged p h k ≡ true → half_unchanged p h m ≡ true
  still_on k zero l e = subst (λ (i : ℕ). half_unchanged p h i ≡ true) (let z : k ≡ 0 = omega arith in z) e
  still_on k (suc m) l e =
      ⊎_elim (λ q. subst (λ (i : ℕ). half_unchanged p h i ≡ true) q e)
      (λ q. still_next m (still_on k m (le_of_suc-le-suc q) e)) (eq-or-lt_of_le l)

  -- and the notes stay
  stays : (k m : ℕ) → k ≤ m → half_unchanged p h k ≡ true → (j : ℕ) → j < p.count → half_note p h m j ≡ half_note p h k j
  unfolding half_unchanged
  stays k zero l e j q = ap (λ (i : ℕ). half_note p h i j) (let z : 0 ≡ k = omega arith in z)
  stays k (suc m) l e j q =
      ⊎_elim (λ r. ap (λ (i : ℕ). half_note p h i j) (sym r))
      (λ r. sets_of p.count (half_note p h (suc m)) (half_note p h m) (still_on k m (le_of_suc-le-suc r) e) j q ∙ stays k m (le_of_suc-le-suc r) e j q)
      (eq-or-lt_of_le l)

-- a note of 64-bit numbers stays one
swept_le : (p : Program) (h : Half) (old : ℕ → ℕ) (t j : ℕ) → swept_set p h old t j ≤ old j
unfolding swept_set
swept_le p h old zero j = omega arith
swept_le p h old (suc t) j = go (among j (successors (p.instruction t) t)) (swept_le p h old t j)
  where
    go : (b : Bool) → swept_set p h old t j ≤ old j → narrowed_set b (swept_set p h old t j) (left_of p h t (old t)) ≤ old j
    go true l = omega (arith, and_le_l (swept_set p h old t j) (left_of p h t (old t)))
    go false l = l

half_lt : (p : Program) → Small p.entry → (h : Half) (k j : ℕ) → half_note p h k j < 2 ^ 64
unfolding note first_note
half_lt p s h zero zero = half_small p.entry s h
half_lt p s h zero (suc j) = rw (half_of_both h all_registers) (omega arith)
half_lt p s h (suc k) j = omega (arith, note_next p h k j, swept_le p h (half_note p h k) p.count j, half_lt p s h k j)

pub note_small : (p : Program) → Small p.entry → (k j : ℕ) → Small (note p k j)
note_small p s k j = record { low = half_lt p s lower k j; high = half_lt p s upper k j }

-- nothing changes where nothing changes of either half
unchanged_by_halves : (p : Program) (k : ℕ) → unchanged p k ≡ half_unchanged p lower k && half_unchanged p upper k
unfolding unchanged half_unchanged
unchanged_by_halves p k = same_by_halves p.count (note p (suc k)) (note p k)

module _ (p : Program) (small : Small p.entry) where
  rest_of : (half_unchanged p lower p.count ≡ true) × (half_unchanged p upper p.count ≡ true)
  rest_of =
      both_true (half_unchanged p lower p.count) (half_unchanged p upper p.count) (sym (unchanged_by_halves p p.count) ∙ rests p small)

  -- of n instructions, sweep n + 1 changes nothing of a half
  half_rests : (h : Half) → half_unchanged p h p.count ≡ true
  half_rests lower = rest_of.0
  half_rests upper = rest_of.1

  module _ (h : Half) where
    -- so as long as each sweep changed something there were no more than n
    pub still_moves : (k : ℕ) → ((i : ℕ) → i < k → half_unchanged p h i ≡ false) → k ≤ p.count
    still_moves k e = let up : ¬ (p.count < k) = λ l. clash (sym (half_rests h) ∙ e p.count l) in omega (arith, up)

    -- and the first that changes nothing is the last
    pub counted : (k : ℕ) → ((i : ℕ) → i < k → half_unchanged p h i ≡ false) → half_unchanged p h k ≡ true → suc k ≡ half_sweeps p h
    unfolding half_sweeps
    counted k e t = ap suc (sym (lowest_is (half_unchanged p h) (suc p.count) k (omega (arith, still_moves k e)) t e))

    -- how many sweeps change something of that half
    changing : ℕ
    changing = lowest_from (half_unchanged p h) (suc p.count) 0

    moves : (i : ℕ) → i < changing → half_unchanged p h i ≡ false
    unfolding changing
    moves i l = lowest_below (half_unchanged p h) (suc p.count) 0 i (omega arith) l

    few : changing ≤ p.count
    few = still_moves changing moves

    at_rest : half_unchanged p h changing ≡ true
    unfolding changing
    at_rest = lowest_at (half_unchanged p h) (suc p.count) 0 (rw (zero-add (suc p.count)) (let f : changing < suc p.count = omega (arith, few) in f))

    one_more : half_sweeps p h ≡ suc changing
    unfolding half_sweeps changing
    one_more = refl

  -- the sweeps are as many as those of the half that takes more
  pub number : sweeps p ≡ max (half_sweeps p lower) (half_sweeps p upper)
  unfolding sweeps
  number =
      let a = changing lower in
      let b = changing upper in
      let m = max a b in
      let z : unchanged p m ≡ true =
      unchanged_by_halves p m ∙ ap₂ ◌&&◌ (still_on p lower a m (omega arith) (at_rest lower)) (still_on p upper b m (omega arith) (at_rest upper)) in
      let l : m < suc p.count = omega (arith, few lower, few upper) in
      ap suc (lowest_is (unchanged p) (suc p.count) m l z before) ∙ omega (arith, one_more lower, one_more upper)
    where
      and_false : (x : Bool) → x && false ≡ false
      and_false true = refl
      and_false false = refl

      before : (i : ℕ) → i < max (changing lower) (changing upper) → unchanged p i ≡ false
      before i l =
          unchanged_by_halves p i
          ∙ ⊎_elim (λ q. ap (λ (x : Bool). half_unchanged p lower i && x) (moves upper i (omega arith)) ∙ and_false (half_unchanged p lower i))
          (λ q. ap (λ (x : Bool). x && half_unchanged p upper i) (moves lower i (omega arith))) (eq-zero-or-pos (changing lower - i))

  -- each half has its notes after as many sweeps as it takes by itself
  pub settled : (h : Half) (j : ℕ) → j < p.count → half_note p h (half_sweeps p h) j ≡ half_note p h (sweeps p) j
  settled h j l =
      stays p h (changing h) (half_sweeps p h) (omega (arith, one_more h)) (at_rest h) j l
      ∙ sym (stays p h (changing h) (sweeps p) (more h) (at_rest h) j l)
    where
      more : (h : Half) → changing h ≤ sweeps p
      more lower = omega (arith, number, one_more lower)
      more upper = omega (arith, number, one_more upper)

-- where the entry set and what is filled have the same low and high halves, so have all notes
module _ (p : Program) (filled : (i : ℕ) → half_of lower (fills p.version (p.instruction i)) ≡ half_of upper (fills p.version (p.instruction i)))
    (entered : p.entry.low ≡ p.entry.high) where
  even_swept : (a b : ℕ → ℕ) → ((i : ℕ) → a i ≡ b i) → (t j : ℕ) → swept_set p lower a t j ≡ swept_set p upper b t j
  unfolding swept_set
  even_swept a b e zero j = e j
  even_swept a b e (suc t) j = rw (even_swept a b e t j, e t, filled t)

  even : (k j : ℕ) → half_note p lower k j ≡ half_note p upper k j
  unfolding note first_note
  even zero zero = entered
  even zero (suc j) = refl
  even (suc k) j =
      note_next p lower k j ∙ even_swept (half_note p lower k) (half_note p upper k) (even k) p.count j ∙ sym (note_next p upper k j)

  alike : (k : ℕ) → half_unchanged p lower k ≡ half_unchanged p upper k
  unfolding half_unchanged
  alike k = sets_ext p.count (λ j l. even (suc k) j) (λ j l. even k j)

  -- and those of one half are all sweeps
  even_sweeps : Small p.entry → half_sweeps p lower ≡ sweeps p
  even_sweeps small =
      let e =
      counted p small upper (changing p small lower) (λ i l. sym (alike i) ∙ moves p small lower i l) (sym (alike (changing p small lower)) ∙ at_rest p small lower) in
      omega (arith, e, one_more p small lower, number p small)

-- in version 1 a write fills both halves or none
filled_alike : (p : Program) → p.version ≡ 1 → (i : ℕ) → half_of lower (fills p.version (p.instruction i)) ≡ half_of upper (fills p.version (p.instruction i))
unfolding fills
filled_alike p e i = rw e

-- a program of a version that there is, whose entry set the version can write
module _ (p : Program) (entered : taken p.version p.entry ≡ p.entry) where
  entered_alike : p.version ≡ 1 → p.entry.low ≡ p.entry.high
  entered_alike e = ap (λ (s : Halves). s.high) (sym (taken_low p.entry) ∙ rw e at entered)

  -- so those of one half are all sweeps
  pub version_1_sweeps : p.version ≡ 1 → Small p.entry → half_sweeps p lower ≡ sweeps p
  version_1_sweeps e = even_sweeps p (filled_alike p e) (entered_alike e)

  -- and the version can write every note
  pub note_taken : known p.version ≡ true → (k j : ℕ) → taken p.version (note p k j) ≡ note p k j
  note_taken is_known k j =
      ⊎_elim
      (λ e. subst⁻¹ (λ (v : ℕ). taken v (note p k j) ≡ note p k j) e
      (taken_low (note p k j) ∙ ap (halves (note p k j).low) (even p (filled_alike p e) (entered_alike e) k j)))
      (λ e. subst⁻¹ (λ (v : ℕ). taken v (note p k j) ≡ note p k j) e (taken_whole (note p k j))) (known_one p.version is_known)
