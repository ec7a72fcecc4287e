-- The numbers that refusals of a check have: those of opening, of reading and of the check's own rules. Assumes nothing.
use mathlib.Core.Path.{◌≡◌, refl}
use mathlib.Core.List.{List}
use mathlib.Core.Logic.{◌⊎◌, inl, inr}
use Prim.Native.Nat.{ℕ, ◌*◌, ◌<◌}
use native.Mathlib.Omega.{arith}
use lib.Dec.{eqb, ltb, lit≤}
use lib.IntN.{ℤ, pos, negsuc}
use lib.ListN.{length, length-take, length-drop}
use Rattle.bits.proofs.FirstLaws.{first_refused, first_refusals, each_refusals}
use Rattle.container.specs.Formats.{word_length}
use Rattle.bits.specs.Sets.{lowest}
use Rattle.bits.specs.Halves.{both, either, minus_halves}
use Rattle.bits.specs.declared.halves.Halves.{Halves}
use Rattle.bits.specs.Outcomes.{Outcome, gives, refuses, ◌then◌, first, each}
use Rattle.bits.proofs.OutcomeLaws.{Refusals, of_gives, of_refuses, of_require, of_then, on, weaker, Between}
use Rattle.record.specs.declared.instruction.Instruction.{Instruction}
use Rattle.record.specs.declared.answer.Refusal.{Refusal}
use Rattle.record.specs.Registers.{reads}
use Rattle.record.proofs.NumberedLaws.{Numbered}
use Rattle.reading.specs.Reader.{read}
use Rattle.reading.proofs.NumberedLaws.{read_numbers, eight_numbers}
use Rattle.container.specs.declared.header.Header.{Header}
use Rattle.container.specs.Container.{count_of, words_of, eight}
use Rattle.container.specs.Opening.{Rejection, open_outcome}
use Rattle.container.proofs.OpeningLaws.{opened, length_words}
use Rattle.container.proofs.NumberedLaws.{Unopened, open_numbers}
use Rattle.safety.specs.declared.verdict.Finding.{Finding}
use Rattle.safety.specs.Program.{Program, successors, after, program_of}
use Rattle.safety.specs.Verdict.{finding, plain, reported, lowest_half, judge_opening, judge_reading, judge_word, none_missing, judge_successor, judge_flow, judge_index, judge_program, verdict_of}

-- the finding's number is one of those from a to b
abbrev pub ToldBetween : ℕ → ℕ → Finding → Type 0
ToldBetween a b f = Between a b f.number

-- opening and reading: their own numbers

opening_numbers : (o : Outcome Rejection Header) → Refusals Unopened o → Refusals (ToldBetween 10 13) (judge_opening o)
opening_numbers (gives h) p = of_gives (ToldBetween 10 13) tt
opening_numbers (refuses r) p = of_refuses (ToldBetween 10 13) (plain r.number r.place 0) (p r refl).0

pub opened_numbers : (s : List ℕ) → Refusals (ToldBetween 10 13) (judge_opening (open_outcome s))
opened_numbers s = opening_numbers (open_outcome s) (open_numbers s)

reading_numbers : (a b i : ℕ) (o : Outcome Refusal Instruction) → Refusals (Numbered a b) o → Refusals (ToldBetween a b) (judge_reading i o)
reading_numbers a b i (gives x) p = of_gives (ToldBetween a b) tt
reading_numbers a b i (refuses f) p = of_refuses (ToldBetween a b) (plain f.number f.place i) (p f refl)

pub words_numbers : (words : List ℕ) (n : ℕ) → Refusals (ToldBetween 1 7) (first (judge_word words) n)
words_numbers words = first_refusals (ToldBetween 1 7) (judge_word words) (λ i. reading_numbers 1 7 i (read (eight words i)) (read_numbers (eight words i)))

-- the program

missing_numbers : (n i : ℕ) (named held : Halves) → Between 20 23 n → Refusals (ToldBetween 20 23) (none_missing n i named held)
unfolding none_missing
missing_numbers n i named held b =
    let m = minus_halves named held in
    of_require (ToldBetween 20 23) (eqb (either m) 0) (finding n 0 i (lowest (either m)) (reported (lowest_half m))) b

successor_numbers : (n : ℕ) (annotation : ℕ → Halves) (i : ℕ) (held : Halves) (z : ℤ)
    → Refusals (ToldBetween 20 23) (judge_successor n annotation i held z)
unfolding judge_successor
successor_numbers n annotation i held (pos j) =
    on (ToldBetween 20 23) (ltb j n) (plain 21 0 i) (lit≤ tt, lit≤ tt)
    (missing_numbers 22 i (annotation j) held (lit≤ tt, lit≤ tt))
successor_numbers n annotation i held (negsuc _) = of_refuses (ToldBetween 20 23) (plain 21 0 i) (lit≤ tt, lit≤ tt)

index_numbers : (p : Program) (i : ℕ) → Refusals (ToldBetween 20 23) (judge_index p i)
unfolding judge_flow
index_numbers p i =
    let x = p.instruction i in
    let held = after p.version x (p.annotation i) in
    let judged = judge_successor p.count p.annotation i held in
    of_then (ToldBetween 20 23) (none_missing 20 i (both (reads x)) (p.annotation i)) (each judged (successors x i))
    (missing_numbers 20 i (both (reads x)) (p.annotation i) (lit≤ tt, lit≤ tt))
    (each_refusals (ToldBetween 20 23) judged (successor_numbers p.count p.annotation i held) (successors x i))

pub program_numbers : (p : Program) → Refusals (ToldBetween 20 23) (judge_program p)
unfolding judge_program
program_numbers p =
    of_then (ToldBetween 20 23) (none_missing 23 0 (p.annotation 0) p.entry) (first (judge_index p) p.count)
    (missing_numbers 23 0 (p.annotation 0) p.entry (lit≤ tt, lit≤ tt))
    (first_refusals (ToldBetween 20 23) (judge_index p) (index_numbers p) p.count)

-- whole words have eight bytes, so 1 is not among their refusals

length_eight : (words : List ℕ) (n : ℕ) → length words ≡ word_length * n → (i : ℕ) → i < n → length (eight words i) ≡ 8
length_eight words n h i l = simp (length-take, length-drop) (omega (arith, h, l))

pub whole_words_numbers : (words : List ℕ) (n : ℕ) → length words ≡ word_length * n → Refusals (ToldBetween 2 7) (first (judge_word words) n)
whole_words_numbers words n h f e =
    let w = first_refused (judge_word words) n e in
    let bs = eight words w.0 in
    reading_numbers 2 7 w.0 (read bs) (eight_numbers bs (length_eight words n h w.0 w.1)) f w.2

-- the whole check

abbrev pub FromTheRules : ℕ → Type 0
FromTheRules n = Between 2 7 n ⊎ (Between 10 13 n ⊎ Between 20 23 n)

abbrev ByTheRules : Finding → Type 0
ByTheRules f = FromTheRules f.number

pub verdict_numbers : (s : List ℕ) → Refusals (λ (f : Finding). FromTheRules f.number) (verdict_of s)
unfolding verdict_of ◌then◌
verdict_numbers s = go (open_outcome s) refl (open_numbers s)
  where
    go : (o : Outcome Rejection Header) → open_outcome s ≡ o → Refusals Unopened o
        → Refusals ByTheRules (judge_opening o then first (judge_word (words_of s)) (count_of s) then judge_program (program_of s))
    go (gives h) q n =
        of_then ByTheRules (first (judge_word (words_of s)) (count_of s)) (judge_program (program_of s))
        (weaker (λ (f : Finding) (n : ToldBetween 2 7 f). inl n) (whole_words_numbers (words_of s) (count_of s) (length_words s (opened s q))))
        (weaker (λ (f : Finding) (n : ToldBetween 20 23 f). inr (inr n)) (program_numbers (program_of s)))
    go (refuses r) q n = of_refuses ByTheRules (plain r.number r.place 0) (inr (inl (n r refl).0))
