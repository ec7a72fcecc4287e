-- The lists that the code keeps hold what the definition of a sweep of one half says. Assumes nothing.
use mathlib.Core.Path.{◌≡◌, refl, sym, ap, ◌∙◌, subst}
use mathlib.Core.Bool.{Bool, true, false, ◌||◌}
use mathlib.Core.List.{List, [], ◌∷◌}
use Prim.Native.Nat.{ℕ, zero, suc, ◌+◌, ◌<◌, ◌≤◌}
use native.Mathlib.Numerals.{add-one}
use native.Mathlib.Omega.{arith}
use borrow.Author.Count.{below_more}
use borrow.Author.Tests.{eqb-true, eqb-false, ne_eqb, ltb-false}
use lib.Dec.{eqb, ltb}
use lib.IntN.{ℤ, pos, negsuc, ◌+ℤ◌}
use lib.ListN.{length, get_or, set, length-set}
use lib.Seq.{get_or-set_same, get_or-set_other}
use Rattle.bits.proofs.FirstLaws.{first_stop}
use Rattle.bits.specs.Fields.{choose}
use Rattle.bits.specs.Sets.{intersection, minus, union}
use Rattle.bits.specs.Halves.{Half, half_of, both}
use Rattle.bits.specs.declared.halves.Halves.{Halves}
use Rattle.bits.specs.Outcomes.{gives, refuses, passes, first}
use Rattle.bits.proofs.SetLaws.{and_twice}
use Rattle.record.specs.declared.instruction.Instruction.{Instruction}
use Rattle.record.specs.declared.answer.Refusal.{Refusal}
use Rattle.record.specs.Registers.{kills, ends, branches}
use Rattle.reading.specs.Reader.{read}
use Rattle.container.specs.Container.{eight}
use Rattle.safety.specs.Program.{Program, successors, landing, fills, instruction_in, instruction_at, program_in}
use Rattle.safety.specs.Verdict.{Judgement, judge_reading, judge_word, plain}
use Rattle.sweeps.specs.Sweeps.{among}
use Rattle.sweeps.specs.Served.Tracks.{left_of, narrowed_set, swept_set}
use Rattle.sweeps.specs.declared.plan.Step.{Step}
use Rattle.sweeps.specs.Served.Plan.{falls_to, jumps_to, step, Planned, Sized, narrow_at, left_by, swept_list}

pub length_narrow : (l : List ℕ) (j held : ℕ) → length (narrow_at l j held) ≡ length l
unfolding narrow_at
length_narrow l j held = length-set l j (intersection (get_or l j 0) held)

-- a list narrowed at j: at j it is narrowed, elsewhere as it was
narrow_get : (l : List ℕ) (j held k : ℕ) → k < length l → get_or (narrow_at l j held) k 0 ≡ narrowed_set (eqb j k) (get_or l k 0) held
unfolding narrow_at
narrow_get l j held k h = go (eqb j k) refl
  where
    go : (t : Bool) → eqb j k ≡ t → get_or (set l j (intersection (get_or l j 0) held)) k 0 ≡ narrowed_set t (get_or l k 0) held
    go true e =
        let q = eqb-true j k e in
        rw q (get_or-set_same l k (intersection (get_or l k 0) held) 0 h)
    go false e = get_or-set_other l j k (intersection (get_or l j 0) held) 0 (λ q. eqb-false j k e (sym q))

module _ (ks ds fs js old new : List ℕ) where
  abbrev L : ℕ → List ℕ
  L t = swept_list ks ds fs js old new t

  pub length_swept : (t : ℕ) → length (L t) ≡ length new
  unfolding swept_list
  length_swept zero = refl
  length_swept (suc t) =
      length_narrow (narrow_at (L t) (get_or fs t 0) (left_by ks ds old t)) (get_or js t 0) (left_by ks ds old t)
      ∙ length_narrow (L t) (get_or fs t 0) (left_by ks ds old t)
      ∙ length_swept t

  pub swept_none : new ≡ L 0
  unfolding swept_list
  swept_none = refl

  pub swept_more : (t : ℕ) → narrow_at (narrow_at (L t) (get_or fs t 0) (left_by ks ds old t)) (get_or js t 0) (left_by ks ds old t) ≡ L (t + 1)
  unfolding swept_list
  swept_more t = rw (add-one t)

-- two turns, of which each narrows or not
twice : (a b : Bool) (v h : ℕ) → narrowed_set (a || b) v h ≡ narrowed_set b (narrowed_set a v h) h
twice true true v h = sym (and_twice v h)
twice true false v h = refl
twice false true v h = refl
twice false false v h = refl

-- n is no index
past : {n j : ℕ} → j < n → eqb n j ≡ false
past {n} {j} l = ne_eqb n j (λ e. omega arith)

lands : (n j : ℕ) (z : ℤ) → j < n → eqb (landing n z) j ≡ among j (z ∷ [])
unfolding landing among
lands n j (pos k) l = go (ltb k n) refl
  where
    or_false : (b : Bool) → b ≡ b || false
    or_false true = refl
    or_false false = refl

    go : (t : Bool) → ltb k n ≡ t → eqb (choose t k n) j ≡ eqb k j || false
    go true e = or_false (eqb k j)
    go false e = past l ∙ sym (ap (λ (b : Bool). b || false) (ne_eqb k j (λ q. let z = ltb-false k n e in omega arith)))
lands n j (negsuc k) l = past l

-- instruction t narrows note j where one of its two places is j
module _ (x : Instruction) (t n j v h : ℕ) (l : j < n) where
  pub turn : narrowed_set (among j (successors x t)) v h ≡ narrowed_set (eqb (jumps_to x t n) j) (narrowed_set (eqb (falls_to x t n) j) v h) h
  unfolding successors among
  turn = go (ends x) (branches x)
    where
      go : (e b : Bool)
          → narrowed_set (among j (choose e [] (pos (t + 1) ∷ choose b ((pos (t + 1) +ℤ x.offset) ∷ []) []))) v h
          ≡ narrowed_set (eqb (choose e n (choose b (landing n (pos (t + 1) +ℤ x.offset)) n)) j) (narrowed_set (eqb (choose e n (t + 1)) j) v h) h
      go true b = rw (past l)
      go false false = rw (past l) (twice (eqb (t + 1) j) false v h)
      go false true = rw (lands n j (pos (t + 1) +ℤ x.offset) l) (twice (eqb (t + 1) j) (among j ((pos (t + 1) +ℤ x.offset) ∷ [])) v h)

left : (p : Program) (h : Half) (t : ℕ) {k d : ℕ} (old : ℕ) → k ≡ kills (p.instruction t) → d ≡ half_of h (fills p.version (p.instruction t))
    → union (minus old k) d ≡ left_of p h t old
left p h t old e f = rw (e, f)

-- a sweep over a plan of the program
module _ (p : Program) (h : Half) (ks ds fs js old new : List ℕ) (plan : Planned p h ks ds fs js p.count)
    (long : length new ≡ p.count) (same : (j : ℕ) → j < p.count → get_or new j 0 ≡ get_or old j 0) where
  pub swept_is : (t : ℕ) → t ≤ p.count → (j : ℕ) → j < p.count
      → get_or (swept_list ks ds fs js old new t) j 0 ≡ swept_set p h (λ i. get_or old i 0) t j
  unfolding swept_list swept_set
  swept_is zero l j m = same j m
  swept_is (suc t) l j m =
      let f = get_or fs t 0 in
      let held = left_by ks ds old t in
      let before = L ks ds fs js old new t in
      let len : j < length before = rw (length_swept ks ds fs js old new t, long) m in
      let len2 : j < length (narrow_at before f held) = rw (length_narrow before f held) len in
      let q : t < p.count = omega arith in
      let leaves = left p h t (get_or old t 0) (plan.kills t q) (plan.fills t q) in
      narrow_get (narrow_at before f held) (get_or js t 0) held j len2
      ∙ ap (λ (v : ℕ). narrowed_set (eqb (get_or js t 0) j) v held) (narrow_get before f held j len)
      ∙ rw (plan.jumps t q, plan.falls t q, leaves, swept_is t (omega arith) j m)
      (sym (turn (p.instruction t) t p.count j (swept_set p h (λ i. get_or old i 0) t j) (left_of p h t (get_or old t 0)) m))

-- what is kept of an instruction, by where it goes
module _ (v : ℕ) (x : Instruction) (i n : ℕ) {k : ℕ} {d : Halves} (ek : k ≡ kills x) (ed : d ≡ fills v x) where
  pub step_ends : ends x ≡ true → record { kills = k; fills = d; falls = n; jumps = n } ≡ step v x i n
  step_ends e = rw (ek, ed, e)

  pub step_falls : ends x ≡ false → branches x ≡ false → record { kills = k; fills = d; falls = i + 1; jumps = n } ≡ step v x i n
  step_falls e b = rw (ek, ed, e, b)

  pub step_jumps : ends x ≡ false → branches x ≡ true → {j : ℕ} → j ≡ landing n (pos (i + 1) +ℤ x.offset)
      → record { kills = k; fills = d; falls = i + 1; jumps = j } ≡ step v x i n
  step_jumps e b q = rw (ek, ed, e, b, q)

-- a plan of one half, as it is made
module _ (v : ℕ) (words : List ℕ) (n : ℕ) (h : Half) where
  abbrev P : Program
  P = program_in v words [] n (both 0)

  pub planned_none : (ks ds fs js : List ℕ) → Planned P h ks ds fs js 0
  planned_none ks ds fs js = record {
    kills = λ i l. absurd (omega arith);
    fills = λ i l. absurd (omega arith);
    falls = λ i l. absurd (omega arith);
    jumps = λ i l. absurd (omega arith);
  }

  -- one entry more of a list that has its first t
  entry_more : (f : ℕ → ℕ) (l : List ℕ) (t v : ℕ) → t < length l → ((i : ℕ) → i < t → get_or l i 0 ≡ f i) → v ≡ f t
      → (i : ℕ) → i < t + 1 → get_or (set l t v) i 0 ≡ f i
  entry_more f l t v h are e =
      below_more (λ i. get_or (set l t v) i 0 ≡ f i) t
      (λ i q. get_or-set_other l t i v 0 (λ k. omega (arith, q, k)) ∙ are i q) (get_or-set_same l t v 0 h ∙ e)

  pub planned_more : {ks ds fs js : List ℕ} {t : ℕ} {x : Instruction} {s : Step} → t < n → Sized ks ds fs js n → Planned P h ks ds fs js t
      → gives x ≡ read (eight words t) → s ≡ step v x t n
      → Planned P h (set ks t s.kills) (set ds t (half_of h s.fills)) (set fs t s.falls) (set js t s.jumps) (t + 1)
  unfolding instruction_at
  planned_more {ks} {ds} {fs} {js} {t} {x} {s} l z p e q =
      let i : x ≡ instruction_at words t = ap instruction_in e in
      record {
        kills = entry_more (λ i. kills (P.instruction i)) ks t s.kills (omega (arith, z.kills)) p.kills (ap (λ (s : Step). s.kills) q ∙ ap kills i);
        fills = entry_more (λ i. half_of h (fills v (P.instruction i))) ds t (half_of h s.fills) (omega (arith, z.fills)) p.fills
            (ap (λ (s : Step). half_of h s.fills) q ∙ ap (λ (x : Instruction). half_of h (fills v x)) i);
        falls = entry_more (λ i. falls_to (P.instruction i) i n) fs t s.falls (omega (arith, z.falls)) p.falls (ap (λ (s : Step). s.falls) q ∙ ap (λ (x : Instruction). falls_to x t n) i);
        jumps = entry_more (λ i. jumps_to (P.instruction i) i n) js t s.jumps (omega (arith, z.jumps)) p.jumps (ap (λ (s : Step). s.jumps) q ∙ ap (λ (x : Instruction). jumps_to x t n) i);
      }

-- all words were read, or one does not read
module _ (words : List ℕ) {i n : ℕ} (h : first (judge_word words) i ≡ passes) where
  pub all_read : i ≡ n → passes ≡ first (judge_word words) n
  all_read e = sym h ∙ ap (first (judge_word words)) e

  pub one_unread : {f : Refusal} {r : Judgement} → i < n → refuses f ≡ read (eight words i) → r ≡ refuses (plain f.number f.place i)
      → r ≡ first (judge_word words) n
  one_unread l e q = q ∙ sym (first_stop (judge_word words) i n l h (sym (ap (judge_reading i) e)))

pub planned_to : {p : Program} {h : Half} {ks ds fs js : List ℕ} {i n : ℕ} → i ≡ n → Planned p h ks ds fs js i → Planned p h ks ds fs js n
planned_to {p} {h} {ks} {ds} {fs} {js} e q = subst (λ (t : ℕ). Planned p h ks ds fs js t) e q

pub sized_set : {ks ds fs js : List ℕ} {n : ℕ} (t a b c d : ℕ) → Sized ks ds fs js n → Sized (set ks t a) (set ds t b) (set fs t c) (set js t d) n
sized_set {ks} {ds} {fs} {js} t a b c d z = record {
  kills = length-set ks t a ∙ z.kills;
  fills = length-set ds t b ∙ z.fills;
  falls = length-set fs t c ∙ z.falls;
  jumps = length-set js t d ∙ z.jumps;
}

-- the same with another list of fills
pub sized_with : {ks ds es fs js : List ℕ} {n : ℕ} → Sized ks ds fs js n → length es ≡ n → Sized ks es fs js n
sized_with z e = record { kills = z.kills; fills = e; falls = z.falls; jumps = z.jumps }
