-- Laws of programs: what is accepted passes, and what passes is accepted. Assumes nothing.
use mathlib.Core.Path.{◌≡◌, refl, subst, subst⁻¹}
use mathlib.Core.Bool.{Bool, true, false, ◌&&◌}
use mathlib.Core.List.{List, [], ◌∷◌, Memᴰ}
use mathlib.Core.Logic.{◌⊎◌, inl, inr, ⊎_elim}
use Prim.Native.Nat.{ℕ, suc, ◌+◌, ◌*◌, ◌^◌, ◌≤◌, ◌<◌}
use native.Mathlib.Nat.{pow-le-pow_right, lt_of_lt_of_le}
use native.Mathlib.Omega.{arith}
use lib.Dec.{T, ltb, lt→ltb}
use lib.IntN.{ℤ, pos}
use lib.ListN.{drop, get_or, length-take}
use lib.Pow.{are_bytes}
use Rattle.bits.specs.Sets.{Has, minus, union}
use Rattle.bits.specs.Halves.{Half, lower, upper, half_of, both, either, minus_halves}
use Rattle.bits.specs.declared.halves.Halves.{Halves}
use Rattle.bits.specs.Outcomes.{passes, first, each}
use Rattle.bits.proofs.ByteLaws.{little_lt, part_bytes}
use Rattle.bits.proofs.SetLaws.{has_dec, has_or, has_minus, member_below}
use Rattle.bits.proofs.HalfLaws.{half_of_both, covered, covering}
use Rattle.bits.proofs.FirstLaws.{both as both_pass, neither, first_of, first_to, each_of, each_to}
use Rattle.record.specs.declared.instruction.Instruction.{Instruction}
use Rattle.record.specs.Registers.{reads, kills, ends}
use Rattle.record.proofs.RegisterLaws.{reads_lt}
use Rattle.container.specs.Formats.{annotation_length, high_offset}
use Rattle.container.specs.Container.{part, number, halves_at, annotations_start, version_of, count_of, entry_of, annotations_of}
use Rattle.walks.specs.Walks.{Inside, AllSafe}
use Rattle.safety.specs.Program.{Program, register_count, successors, fills, after, Fact, In, machine, annotation_at, machine_of, NeverRunsOff}
use Rattle.safety.specs.Verdict.{none_missing, judge_successor, judge_flow, judge_index, judge_program}
use Rattle.walks.specs.Served.Passing.{Passes}
use Rattle.safety.proofs.VerdictLaws.{missing_of, missing_to, successor_of, successor_to}

-- what is defined after an instruction, half by half
after_half : (v : ℕ) (x : Instruction) (held : Halves) (h : Half) → half_of h (after v x held) ≡ union (minus (half_of h held) (kills x)) (half_of h (fills v x))
unfolding after
after_half v x held lower = refl
after_half v x held upper = refl

module _ (v : ℕ) (x : Instruction) (held : Halves) (g : Fact) where
  abbrev Kept : ℕ
  Kept = minus (half_of g.half held) (kills x)

  abbrev Filled : ℕ
  Filled = half_of g.half (fills v x)

  kill_half : half_of g.half (both (kills x)) ≡ kills x
  kill_half = half_of_both g.half (kills x)

  pub after_of : In (after v x held) g → In (fills v x) g ⊎ (In held g × ¬ In (both (kills x)) g)
  unfolding In
  after_of k =
      ⊎_elim (λ m. let d = (has_minus (half_of g.half held) (kills x) g.register).0 m in
      inr (d.0, λ n. d.1 (subst (λ (s : ℕ). Has s g.register) kill_half n))) inl
      ((has_or Kept Filled g.register).0 (subst (λ (s : ℕ). Has s g.register) (after_half v x held g.half) k))

  pub after_to : In (fills v x) g ⊎ (In held g × ¬ In (both (kills x)) g) → In (after v x held) g
  unfolding In
  after_to k =
      subst⁻¹ (λ (s : ℕ). Has s g.register) (after_half v x held g.half)
      ((has_or Kept Filled g.register).1
      (⊎_elim inr (λ m. inl ((has_minus (half_of g.half held) (kills x) g.register).1
      (m.0, λ n. m.1 (subst⁻¹ (λ (s : ℕ). Has s g.register) kill_half n)))) k))

-- every half in one set is in another
pub all_in : (a b : Halves) → either (minus_halves a b) ≡ 0 → (g : Fact) → In a g → In b g
unfolding In
all_in a b e g = covered a b e g.half g.register

pub in_all : (a b : Halves) → ((g : Fact) → In a g → In b g) → either (minus_halves a b) ≡ 0
unfolding In
in_all a b f = covering a b (λ h r. f (record { half = h; register = r }))

-- one instruction
module _ (v n : ℕ) (annotation : ℕ → Halves) (i : ℕ) (x : Instruction) where
  abbrev Held : Halves
  Held = after v x (annotation i)

  -- all that instruction i goes on to is inside, and its annotation names nothing that is not held
  abbrev Follows : Type 0
  Follows = (z : ℤ) → Memᴰ z (successors x i) → (s : Inside n z) × (either (minus_halves (annotation s.index) Held) ≡ 0)

  parts_of : judge_flow v n annotation i x ≡ passes → (either (minus_halves (both (reads x)) (annotation i)) ≡ 0) × Follows
  unfolding judge_flow
  parts_of e =
      let judged = judge_successor n annotation i Held in
      let b = both_pass {a = none_missing 20 i (both (reads x)) (annotation i)} {b = each judged (successors x i)} e in
      (missing_of 20 i (both (reads x)) (annotation i) b.0, λ z q. successor_of n annotation i Held z (each_of judged (successors x i) b.1 z q))

  instruction_to : either (minus_halves (both (reads x)) (annotation i)) ≡ 0 → Follows → judge_flow v n annotation i x ≡ passes
  unfolding judge_flow
  instruction_to r f =
      neither (missing_to 20 i (both (reads x)) (annotation i) r)
      (each_to (judge_successor n annotation i Held) (successors x i) (λ z q. let s = f z q in successor_to n annotation i Held z s.0 s.1))

-- a whole program
pub passes_of : (p : Program) → judge_program p ≡ passes → Passes (machine p)
unfolding judge_program machine
passes_of p ok =
    let b = both_pass {a = none_missing 23 0 (p.annotation 0) p.entry} {b = first (judge_index p) p.count} ok in
    let at : (i : ℕ) → i < p.count → judge_index p i ≡ passes = λ i l. first_of (judge_index p) p.count b.1 i l in
    let held : ℕ → Halves = λ i. after p.version (p.instruction i) (p.annotation i) in
    record {
      first = all_in (p.annotation 0) p.entry (missing_of 23 0 (p.annotation 0) p.entry b.0);
      reads = λ i l. all_in (both (reads (p.instruction i))) (p.annotation i) (parts_of p.version p.count p.annotation i (p.instruction i) (at i l)).0;
      stays = λ i l z f. ((parts_of p.version p.count p.annotation i (p.instruction i) (at i l)).1 z f).0;
      carries = λ i j l k f g h.
          let s = (parts_of p.version p.count p.annotation i (p.instruction i) (at i l)).1 (pos j) f in
          let same : j ≡ s.0.index = index_of s.0.is in
          let e : either (minus_halves (p.annotation j) (held i)) ≡ 0 = rw same s.1 in
          after_of p.version (p.instruction i) (p.annotation i) g (all_in (p.annotation j) (held i) e g h);
    }
  where
    index_of : {j k : ℕ} → pos j ≡ pos k → j ≡ k
    index_of e = cc

pub passes_to : (p : Program) → Passes (machine p) → judge_program p ≡ passes
unfolding judge_program machine
passes_to p ok =
    neither (missing_to 23 0 (p.annotation 0) p.entry (in_all (p.annotation 0) p.entry ok.first))
    (first_to (judge_index p) p.count (λ i l.
    instruction_to p.version p.count p.annotation i (p.instruction i) (in_all (both (reads (p.instruction i))) (p.annotation i) (ok.reads i l))
    (λ z f.
    let s = ok.stays i l z f in (
      s,
      in_all (p.annotation s.index) (after p.version (p.instruction i) (p.annotation i))
          (λ g h. after_to p.version (p.instruction i) (p.annotation i) g (ok.carries i s.index l s.below (rw s.is at f) g h)),
    ))))

-- whether an instruction makes a half defined can be told
pub adds_dec : (p : Program) (i : ℕ) (g : Fact) → (machine p).adds i g ⊎ (¬ (machine p).adds i g)
unfolding machine In
adds_dec p i g = has_dec (half_of g.half (fills p.version (p.instruction i))) g.register

pub minus_le : (a b : ℕ) → minus a b ≤ a
unfolding minus
minus_le a b = omega arith

-- a half in a set of 64-bit numbers is of one of the 64 registers
pub record Small (s : Halves) : Type 0 where
  pub low : s.low < 2 ^ 64
  pub high : s.high < 2 ^ 64

pub half_small : (s : Halves) → Small s → (h : Half) → half_of h s < 2 ^ 64
half_small s z lower = z.low
half_small s z upper = z.high

pub in_below : (s : Halves) → Small s → (g : Fact) → In s g → g.register < register_count
unfolding In
in_below s z g k = member_below (half_of g.half s) g.register (half_small s z g.half) k

-- what is read is one of the 64 registers
pub reads_small : (x : Instruction) → Small (both (reads x))
reads_small x = record { low = reads_lt x; high = reads_lt x }

pub needs_fact : (p : Program) (i : ℕ) (g : Fact) → (machine p).needs i g → (machine p).fact g
unfolding machine
needs_fact p i g h = in_below (both (reads (p.instruction i))) (reads_small (p.instruction i)) g h

-- eight bytes are a 64-bit number
pub number_lt : (s : List ℕ) (start : ℕ) → T (are_bytes s) → number s start 8 < 2 ^ 64
number_lt s start t =
    lt_of_lt_of_le (little_lt (part s start 8) (part_bytes s start 8 t))
    (pow-le-pow_right {n = 256} (omega arith) {j = 8} (rw (length-take 8 (drop start s)) (omega arith)))

pub halves_small : (v : ℕ) (s : List ℕ) (start : ℕ) → T (are_bytes s) → Small (halves_at v s start)
halves_small v s start t = record { low = number_lt s start t; high = number_lt s (start + high_offset v) t }

pub annotation_small : (v : ℕ) (annotations : List ℕ) → T (are_bytes annotations) → (i : ℕ) → Small (annotation_at v annotations i)
unfolding annotation_at
annotation_small v annotations t i = halves_small v annotations (annotation_length v * i) t

pub annotations_bytes : (s : List ℕ) → T (are_bytes s) → T (are_bytes (annotations_of s))
unfolding annotations_of
annotations_bytes s t =
    part_bytes s (annotations_start (version_of s) (count_of s)) (annotation_length (version_of s) * count_of s) t

pub annotations_small : (s : List ℕ) → T (are_bytes s) → (i : ℕ) → Small (annotation_at (version_of s) (annotations_of s) i)
annotations_small s t = annotation_small (version_of s) (annotations_of s) (annotations_bytes s t)

pub entry_small : (s : List ℕ) → T (are_bytes s) → Small (entry_of s)
unfolding entry_of
entry_small s t = halves_small (version_of s) s 8 t

-- what an annotation names is of the 64 registers
pub claims_fact : (s : List ℕ) → T (are_bytes s) → (i : ℕ) (g : Fact) → (machine_of s).claims i g → (machine_of s).fact g
unfolding machine
claims_fact s t i g h = in_below (annotation_at (version_of s) (annotations_of s) i) (annotations_small s t i) g h

-- bytes that are each below 256
pub bytes_below : (s : List ℕ) → ((k : ℕ) → get_or s k 0 < 256) → T (are_bytes s)
bytes_below [] h = tt
bytes_below (x ∷ s) h = and_both (ltb x 256) (are_bytes s) (lt→ltb x 256 (h 0)) (bytes_below s (λ k. h (suc k)))
  where
    and_both : (a b : Bool) → T a → T b → T (a && b)
    and_both true b p q = q
    and_both false b p q = p

-- an accepted program goes on
pub goes_on : (p : Program) → AllSafe (machine p) → NeverRunsOff p
unfolding machine successors
goes_on p safe i w v = go (ends (p.instruction i)) refl
  where
    go : (t : Bool) → ends (p.instruction i) ≡ t
        → (ends (p.instruction i) ≡ true) ⊎ (((z : ℤ) × (machine p).follows i z) × ((z : ℤ) → (machine p).follows i z → Inside p.count z))
    go true e = inl e
    go false e = inr ((pos (i + 1), rw e (Memᴰ.head refl)), λ z f. (safe (i ∷ w) v).0.stays z f)
