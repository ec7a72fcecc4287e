-- The sweeps over sets of halves are the sweeps of `walks`, so what they find is as `Proposal` says. Assumes nothing.
use mathlib.Core.Path.{◌≡◌, refl, sym, ap, ap₂, ◌∙◌}
use mathlib.Core.Bool.{Bool, true, false, ◌||◌}
use mathlib.Core.List.Memᴰ
use mathlib.Core.List.{List, [], ◌∷◌, Memᴰ}
use mathlib.Core.Logic.{⊎_elim, ◌↔◌}
use Prim.Native.Nat.{ℕ, zero, suc, ◌<◌}
use native.Mathlib.Nat.{zero-add}
use native.Mathlib.Omega.{arith}
use borrow.Author.Tests.{eqb-true, eq-eqb}
use lib.Dec.{eqb}
use lib.IntN.{ℤ, pos, negsuc}
use Rattle.bits.specs.Sets.{Has, lowest_from}
use Rattle.bits.specs.Halves.{Half, lower, upper, half_of, halves, both}
use Rattle.bits.specs.declared.halves.Halves.{Halves}
use Rattle.bits.proofs.Every.{clash}
use Rattle.bits.proofs.SetLaws.{has_dec, has_and, has_all, same_set, lowest_below, lowest_at}
use Rattle.bits.proofs.HalfLaws.{half_of_both}
use Rattle.record.specs.Registers.{kills}
use Rattle.walks.specs.Walks.{Machine, Next}
use Rattle.walks.specs.Sweeps.{First, Note, Still, Reports}
use Rattle.walks.specs.Served.Told.{Told, Sweeping}
use Rattle.walks.specs.Served.Inference.{Proposal}
use Rattle.walks.proofs.PartLaws.{Upto, upto_none, upto_narrow, upto_leave, member_told}
use Rattle.walks.proofs.SweepLaws.{falls, sweeping}
use Rattle.walks.proofs.Bounds.{rests_after}
use Rattle.walks.proofs.Proposed.{proposal}
use Rattle.safety.specs.Program.{Program, register_count, successors, after, Fact, In, machine}
use Rattle.safety.proofs.ProgramLaws.{after_of, after_to, adds_dec, Small, in_below, needs_fact}
use Rattle.sweeps.specs.Sweeps.{all_registers, among, first_note, common, narrowed_if, swept, note, unchanged, sweeps}
use Rattle.sweeps.proofs.SameLaws.{same_of, same_to}

-- whether an index is among some places
among_of : (l : List ℤ) (j : ℕ) → among j l ≡ true → Memᴰ (pos j) l
unfolding among
among_of [] j e = clash (sym e)
among_of (pos i ∷ l) j e = go (eqb i j) refl (among_of l j) e
  where
    go : (b : Bool) → eqb i j ≡ b → (among j l ≡ true → Memᴰ (pos j) l) → b || among j l ≡ true → Memᴰ (pos j) (pos i ∷ l)
    go true q f t = Memᴰ.head (ap pos (sym (eqb-true i j q)))
    go false q f t = Memᴰ.tail (f t)
among_of (negsuc i ∷ l) j e = Memᴰ.tail (among_of l j e)

among_to : (l : List ℤ) (j : ℕ) → Memᴰ (pos j) l → among j l ≡ true
unfolding among
among_to [] j q = absurd (Memᴰ.not-nil q)
among_to (pos i ∷ l) j q =
    ⊎_elim (λ e. rw (eq-eqb i j (index_of (sym e)))) (λ t. or_true (eqb i j) (among_to l j t)) (Memᴰ.cases_cons q)
  where
    index_of : {i j : ℕ} → pos i ≡ pos j → i ≡ j
    index_of e = cc

    or_true : (b : Bool) → among j l ≡ true → b || among j l ≡ true
    or_true true e = refl
    or_true false e = e
among_to (negsuc i ∷ l) j q =
    ⊎_elim (λ e. absurd (let z : ◌≡◌ {A = ℕ} 0 1 = cc in omega arith)) (λ t. among_to l j t) (Memᴰ.cases_cons q)

-- the lowest number that passes a test
pub lowest_is : (t : ℕ → Bool) (n k : ℕ) → k < n → t k ≡ true → ((i : ℕ) → i < k → t i ≡ false) → lowest_from t n 0 ≡ k
lowest_is t n k l e below =
    let up : ¬ (k < lowest_from t n 0) = λ h. clash (sym e ∙ lowest_below t n 0 k (omega arith) h) in
    let down : ¬ (lowest_from t n 0 < k) = λ h. clash (sym (lowest_at t n 0 (omega (arith, h, l))) ∙ below (lowest_from t n 0) h) in
    omega (arith, up, down)

-- a half is in both sets, or in a set of all halves
in_common : (a b : Halves) (g : Fact) → (In (common a b) g ↔ (In a g × In b g))
unfolding In
in_common a b g = go g.half
  where
    go : (h : Half) → (Has (half_of h (common a b)) g.register ↔ (Has (half_of h a) g.register × Has (half_of h b) g.register))
    go lower = has_and a.low b.low g.register
    go upper = has_and a.high b.high g.register

in_full : (g : Fact) → (In (both all_registers) g ↔ (g.register < register_count))
unfolding In
in_full g = rw (half_of_both g.half all_registers) (has_all g.register)

-- the same halves make the same set
same_in : (a b : Halves) → ((g : Fact) → (In a g ↔ In b g)) → a ≡ b
unfolding In
same_in a b e =
    ap₂ halves (same_set a.low b.low (λ r. e (record { half = lower; register = r })))
    (same_set a.high b.high (λ r. e (record { half = upper; register = r })))

module _ (p : Program) where
  abbrev M : Machine Fact
  M = machine p

  after_is : (i : ℕ) (held : Halves) (g : Fact) → (In (after p.version (p.instruction i) held) g ↔ Next M i (In held) g)
  unfolding machine
  after_is i held g = (after_of p.version (p.instruction i) held g, after_to p.version (p.instruction i) held g)

  -- one predecessor after the other
  swept_is : (old : ℕ → Halves) (t j : ℕ) (g : Fact) → (In (swept p old t j) g ↔ Upto M (λ i. In (old i)) t j g)
  unfolding swept machine
  swept_is old zero j g = let u = upto_none M (λ i. In (old i)) j g in (u.1, u.0)
  swept_is old (suc t) j g = go (among j (successors (p.instruction t) t)) refl (swept_is old t j g)
    where
      go : (b : Bool) → among j (successors (p.instruction t) t) ≡ b → (In (swept p old t j) g ↔ Upto M (λ i. In (old i)) t j g)
          → (In (narrowed_if b (swept p old t j) (after p.version (p.instruction t) (old t))) g ↔ Upto M (λ i. In (old i)) (suc t) j g)
      go true e ih =
          let u = upto_narrow M (λ i. In (old i)) t j g (among_of (successors (p.instruction t) t) j e) in
          let a = in_common (swept p old t j) (after p.version (p.instruction t) (old t)) g in
          let n = after_is t (old t) g in
          (λ h. let c = a.0 h in u.1 (ih.0 c.0, n.0 c.1), λ h. let c = u.0 h in a.1 (ih.1 c.0, n.1 c.1))
      go false e ih =
          let u = upto_leave M (λ i. In (old i)) t j g (λ q. clash (sym (among_to (successors (p.instruction t) t) j q) ∙ e)) in
          (λ h. u.1 (ih.0 h), λ h. ih.1 (u.0 h))

  pub is_sweeping : Sweeping M (λ k j. In (note p k j))
  unfolding note first_note machine
  is_sweeping = record { begins = begins; narrows = λ k j l g. swept_is (note p k) p.count j g }
    where
      begins : (j : ℕ) → j < p.count → (g : Fact) → (In (note p 0 j) g ↔ First M j g)
      begins zero l g = (λ h. h, λ h. h)
      begins (suc j) l g = in_full g

  pub note_is : (k j : ℕ) → j < p.count → (g : Fact) → (In (note p k j) g ↔ Note M k j g)
  unfolding machine
  note_is k j l g = sweeping M (λ k j. In (note p k j)) is_sweeping k j l g

  -- a sweep changes nothing exactly if it changes no set
  still_of : (k : ℕ) → unchanged p k ≡ true → Still M k
  unfolding unchanged machine
  still_of k e j l g = (
    λ h. (note_is (suc k) j l g).0 (rw (same_of p.count (note p (suc k)) (note p k) e j l) ((note_is k j l g).1 h)),
    falls M k j g,
  )

  still_to : (k : ℕ) → Still M k → unchanged p k ≡ true
  unfolding unchanged machine
  still_to k s = same_to p.count (note p (suc k)) (note p k) (λ j l. same_in (note p (suc k) j) (note p k j) (λ g. (
    λ h. (note_is k j l g).1 ((s j l g).1 ((note_is (suc k) j l g).0 h)),
    λ h. (note_is (suc k) j l g).1 ((s j l g).0 ((note_is k j l g).0 h)),
  )))

  module _ (small : Small p.entry) where
    pub told : Told M
    unfolding machine In
    told = record {
      follows = λ i j. member_told (pos j) (successors (p.instruction i) i);
      entry = λ g. has_dec (half_of g.half p.entry) g.register;
      adds = adds_dec p;
      drops = λ i g. has_dec (half_of g.half (both (kills (p.instruction i)))) g.register;
      entered = in_below p.entry small;
      needed = needs_fact p;
    }

    -- of n instructions, sweep n + 1 changes nothing
    pub rests : unchanged p p.count ≡ true
    unfolding machine
    rests = still_to p.count (rests_after M told p.count (omega arith))

    changing : ℕ
    changing = lowest_from (unchanged p) (suc p.count) 0

    few : changing < suc p.count
    unfolding changing
    few =
        let up : ¬ (p.count < changing) = λ h. clash (sym rests ∙ lowest_below (unchanged p) (suc p.count) 0 p.count (omega arith) h) in
        omega (arith, up)

    pub reports : Reports M (sweeps p)
    unfolding sweeps changing
    reports = record {
      changing = changing;
      counted = refl;
      rests = still_of changing (lowest_at (unchanged p) (suc p.count) 0 (rw (zero-add (suc p.count)) few));
      moves = λ k l s. clash (sym (still_to k s) ∙ lowest_below (unchanged p) (suc p.count) 0 k (omega arith) l);
    }

    pub proposed : 0 < p.count → Proposal M (sweeps p) (λ j. In (note p (sweeps p) j))
    unfolding machine
    proposed some =
        proposal M some told (sweeps p) (λ j. In (note p (sweeps p) j)) (record { reports = reports; are = note_is (sweeps p) })
