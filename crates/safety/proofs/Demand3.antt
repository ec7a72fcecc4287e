-- Demand 3 holds of the verdict. Assumes nothing.
use mathlib.Core.Path.{◌≡◌, refl, sym, ap, subst}
use mathlib.Core.List.{List}
use Prim.Native.Nat.{ℕ, ◌<◌}
use lib.Dec.{T}
use lib.Pow.{are_bytes}
use Rattle.bits.specs.Outcomes.{Outcome, gives, refuses, passes, ◌then◌, first}
use Rattle.bits.proofs.OutcomeLaws.{never}
use Rattle.bits.proofs.FirstLaws.{both, neither, first_of, first_to}
use Rattle.record.specs.declared.instruction.Instruction.{Instruction}
use Rattle.record.specs.declared.answer.Refusal.{Refusal}
use Rattle.reading.specs.Reader.{read}
use Rattle.container.specs.declared.header.Header.{Header}
use Rattle.container.specs.Container.{count_of, words_of, eight}
use Rattle.container.specs.Opening.{Rejection, open_outcome, Opens}
use Rattle.container.proofs.OpeningLaws.{sized, opened}
use Rattle.walks.specs.Walks.{AllSafe}
use Rattle.safety.specs.Program.{machine, program_of, machine_of, WellFormed}
use Rattle.safety.specs.Verdict.{Judgement, judge_opening, judge_reading, judge_word, judge_program, verdict_of}
use Rattle.safety.specs.Demand3.{Demand3At, Demand3}
use Rattle.walks.proofs.WalkLaws.{sound, complete}
use Rattle.safety.proofs.ProgramLaws.{passes_of, passes_to, adds_dec, needs_fact, claims_fact, goes_on}

-- what passes opens, and its words read
pub opening_of : (s : List ℕ) → judge_opening (open_outcome s) ≡ passes → Opens s
opening_of s e = go (open_outcome s) refl e
  where
    go : (o : Outcome Rejection Header) → open_outcome s ≡ o → judge_opening o ≡ passes → Opens s
    go (gives h) p q = opened s p
    go (refuses n) p q = never q

pub word_of : (words : List ℕ) (i : ℕ) → judge_word words i ≡ passes → (x : Instruction) × (read (eight words i) ≡ gives x)
word_of words i e = go (read (eight words i)) refl e
  where
    go : (r : Outcome Refusal Instruction) → read (eight words i) ≡ r → judge_reading i r ≡ passes → (x : Instruction) × (read (eight words i) ≡ gives x)
    go (gives x) p q = (x, p)
    go (refuses f) p q = never q

-- what is accepted, part by part
pub accepted : (s : List ℕ) → verdict_of s ≡ passes → WellFormed s × (judge_program (program_of s) ≡ passes)
unfolding verdict_of
accepted s e =
    let words = first (judge_word (words_of s)) (count_of s) in
    let a = both {a = judge_opening (open_outcome s)} {b = words then judge_program (program_of s)} e in
    let b = both {a = words} {b = judge_program (program_of s)} a.1 in (
      record {
        opens = opening_of s a.0;
        reads = λ i l. word_of (words_of s) i (first_of (judge_word (words_of s)) (count_of s) b.0 i l);
      },
      b.1,
    )

pub accepts : (s : List ℕ) → WellFormed s → judge_program (program_of s) ≡ passes → verdict_of s ≡ passes
unfolding verdict_of
accepts s f e =
    neither (ap judge_opening f.opens)
    (neither (first_to (judge_word (words_of s)) (count_of s) (λ i l. ap (judge_reading i) (f.reads i l).1)) e)

pub some : (s : List ℕ) → WellFormed s → 0 < (machine_of s).count
unfolding machine
some s f = (sized s f.opens).some

safe : (s : List ℕ) → verdict_of s ≡ passes → WellFormed s × AllSafe (machine_of s)
safe s e =
    let a = accepted s e in
    (a.0, λ w v. sound (machine_of s) (some s a.0) (passes_of (program_of s) a.1) v)

-- so of all bytes, whatever their version
pub demand3_at : (s : List ℕ) → T (are_bytes s) → Demand3At s (verdict_of s ≡ passes)
demand3_at s t = record {
  sound = safe s;
  complete = λ f all reached exact.
      accepts s f (passes_to (program_of s)
      (complete (machine_of s) (some s f) (adds_dec (program_of s)) (needs_fact (program_of s)) (claims_fact s t) all reached exact));
  goes_on = λ e. goes_on (program_of s) (safe s e).1;
}

pub demand3 : (v : ℕ) → Demand3 v verdict_of
demand3 v s t e = demand3_at s t

-- a judgement that agrees with the verdict meets the demand too
pub agreed : (s : List ℕ) (v : Judgement) → T (are_bytes s) → v ≡ verdict_of s → Demand3At s (v ≡ passes)
agreed s v t e = subst (λ (x : Judgement). Demand3At s (x ≡ passes)) (sym e) (demand3_at s t)
