-- Demand 3 of version 1, as it was before there were halves, holds of the verdict. Assumes nothing.
use mathlib.Core.Path.{◌≡◌, refl, sym, ap, ◌∙◌, subst, subst⁻¹}
use mathlib.Core.Bool.{Bool, true, false}
use mathlib.Core.List.Memᴰ
use mathlib.Core.List.{List, ◌∷◌}
use mathlib.Core.Logic.{◌⊎◌, inl, inr, ⊎_elim}
use Prim.Native.Nat.{ℕ, ◌+◌, ◌<◌}
use lib.Dec.{T}
use lib.IntN.{ℤ, pos}
use lib.Pow.{are_bytes}
use Rattle.bits.specs.Sets.{Has}
use Rattle.bits.specs.Halves.{lower, both}
use Rattle.bits.specs.Outcomes.{passes}
use Rattle.bits.proofs.HalfLaws.{half_of_both}
use Rattle.bits.proofs.SetLaws.{has_dec, member_below}
use Rattle.record.specs.Registers.{reads, kills, defines, ends}
use Rattle.record.proofs.RegisterLaws.{reads_lt}
use Rattle.container.specs.Container as now
use Rattle.container.proofs.OpeningLaws.{sized}
use Rattle.walks.specs.Walks.{Inside, AllSafe}
use Rattle.walks.specs.Served.Passing.{Passes}
use Rattle.walks.proofs.WalkLaws.{sound, complete}
use Rattle.safety.specs.Program as program
use Rattle.safety.specs.Program.{Fact, In}
use Rattle.safety.specs.Verdict.{verdict_of, judge_program}
use Rattle.safety.proofs.ProgramLaws.{passes_of, passes_to}
use Rattle.safety.proofs.Demand3.{accepted, accepts}
use Rattle.version1.specs.Program.{Program, machine, program_of, machine_of, WellFormed, NeverRunsOff}
use Rattle.version1.specs.Demand3.{Demand3At, Demand3}
use Rattle.version1.proofs.SameVerdict.{doubled, words_same, same_program, opens_old, opens_new, old_small}

-- a half of a register is in a set that stands for both halves exactly where the register is
in_both : (a : ℕ) (g : Fact) → Has a g.register → In (both a) g
unfolding In
in_both a g k = subst⁻¹ (λ (s : ℕ). Has s g.register) (half_of_both g.half a) k

of_both : (a : ℕ) (g : Fact) → In (both a) g → Has a g.register
unfolding In
of_both a g k = subst (λ (s : ℕ). Has s g.register) (half_of_both g.half a) k

module _ (p : Program) where
  -- a half for a register
  abbrev low : ℕ → Fact
  low r = record { half = lower; register = r }

  pub passes_old : Passes (program.machine (doubled p)) → Passes (machine p)
  unfolding program.machine machine In program.fills
  passes_old ok = record {
    first = λ r h. ok.first (low r) h;
    reads = λ i l r h. ok.reads i l (low r) h;
    stays = ok.stays;
    carries = λ i j l k f r h. ok.carries i j l k f (low r) h;
  }

  pub passes_new : Passes (machine p) → Passes (program.machine (doubled p))
  unfolding program.machine machine program.fills
  passes_new ok = record {
    first = λ g h. in_both p.entry g (ok.first g.register (of_both (p.annotation 0) g h));
    reads = λ i l g h. in_both (p.annotation i) g (ok.reads i l g.register (of_both (reads (p.instruction i)) g h));
    stays = ok.stays;
    carries = λ i j l k f g h.
        ⊎_elim (λ a. inl (in_both (defines (p.instruction i)) g a))
        (λ b. inr (in_both (p.annotation i) g b.0, λ n. b.1 (of_both (kills (p.instruction i)) g n)))
        (ok.carries i j l k f g.register (of_both (p.annotation j) g h));
  }

module _ (s : List ℕ) (t : T (are_bytes s)) (v1 : now.version_of s ≡ 1) where
  well_formed_old : program.WellFormed s → WellFormed s
  well_formed_old f = record { opens = opens_old s v1 f.opens; reads = λ i l. rw (words_same s v1) at (f.reads i l) }

  well_formed_new : WellFormed s → program.WellFormed s
  well_formed_new f = record { opens = opens_new s v1 f.opens; reads = λ i l. rw (words_same s v1) (f.reads i l) }

  some : program.WellFormed s → 0 < now.count_of s
  some f = (sized s f.opens).some

  passed : judge_program (program.program_of s) ≡ passes → Passes (machine_of s)
  passed e = passes_old (program_of s) (passes_of (doubled (program_of s)) (ap judge_program (sym (same_program s v1)) ∙ e))

  passing : Passes (machine_of s) → judge_program (program.program_of s) ≡ passes
  passing ok = ap judge_program (same_program s v1) ∙ passes_to (doubled (program_of s)) (passes_new (program_of s) ok)

  -- what the walks ask
  adds_dec : (i r : ℕ) → (machine_of s).adds i r ⊎ (¬ (machine_of s).adds i r)
  unfolding machine
  adds_dec i r = has_dec (defines ((program_of s).instruction i)) r

  needs_fact : (i r : ℕ) → (machine_of s).needs i r → (machine_of s).fact r
  unfolding machine
  needs_fact i r h = member_below (reads ((program_of s).instruction i)) r (reads_lt ((program_of s).instruction i)) h

  claims_fact : (i r : ℕ) → (machine_of s).claims i r → (machine_of s).fact r
  unfolding machine
  claims_fact i r h = member_below ((program_of s).annotation i) r (old_small s v1 t i) h

  safe : verdict_of s ≡ passes → WellFormed s × AllSafe (machine_of s)
  unfolding machine
  safe e =
      let a = accepted s e in
      (well_formed_old a.0, λ w v. sound (machine_of s) (some a.0) (passed a.1) v)

  goes_on : verdict_of s ≡ passes → NeverRunsOff (program_of s)
  unfolding machine program.successors
  goes_on e i w v = go (ends ((program_of s).instruction i)) refl
    where
      go : (b : Bool) → ends ((program_of s).instruction i) ≡ b
          → (ends ((program_of s).instruction i) ≡ true)
          ⊎ (((z : ℤ) × (machine_of s).follows i z) × ((z : ℤ) → (machine_of s).follows i z → Inside (now.count_of s) z))
      go true q = inl q
      go false q = inr ((pos (i + 1), rw q (Memᴰ.head refl)), λ z f. ((safe e).1 (i ∷ w) v).0.stays z f)

  pub demand3_at : Demand3At s (verdict_of s ≡ passes)
  unfolding machine
  demand3_at = record {
    sound = safe;
    complete = λ f all reached exact.
        accepts s (well_formed_new f)
        (passing (complete (machine_of s) (some (well_formed_new f)) adds_dec needs_fact claims_fact all reached exact));
    goes_on = goes_on;
  }

pub demand3 : Demand3 verdict_of
demand3 s t v1 = demand3_at s t v1
