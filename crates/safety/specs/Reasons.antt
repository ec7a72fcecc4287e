-- What a refusal tells is so (01, Numbers given back; 02, Item 7): each number with what is wrong, where, and with which half of which
-- register.
use Rattle.std.specs.Prelude.{◌≡◌, ℕ, ◌<◌, ℤ, pos}
use mathlib.Core.List.{List, Memᴰ}
use Rattle.bits.specs.Sets.{Has}
use Rattle.bits.specs.Halves.{Half, lower, upper, half_of, both}
use Rattle.bits.specs.declared.halves.Halves.{Halves}
use Rattle.bits.specs.Outcomes.{gives, refuses}
use Rattle.record.specs.declared.answer.Refusal.{Refusal}
use Rattle.reading.specs.Reader.{read}
use Rattle.record.specs.Registers.{reads}
use Rattle.container.specs.Container.{count_of, words_of, eight}
use Rattle.container.specs.Opening.{Rejection, open_outcome}
use Rattle.safety.specs.declared.verdict.Finding.{Finding}
use Rattle.walks.specs.Walks.{Inside}
use Rattle.safety.specs.Program.{Program, register_count, successors, after, program_of}
use Rattle.safety.specs.Verdict.{Judgement, finding, plain, reported}

-- the half h of register r is named and not held
abbrev pub AtFault : Halves → Halves → Half → ℕ → Type 0
AtFault named held h r = Has (half_of h named) r × (¬ Has (half_of h held) r)

-- r is the lowest register of which a half is at fault, and h the half that is told: the low one if that is at fault, else the high one
pub record LowestMissing (named held : Halves) (r : ℕ) (h : Half) : Type 0 where
  pub is : r < register_count
  pub fault : AtFault named held h r
  pub lowest : (q : ℕ) → q < r → (k : Half) → ¬ AtFault named held k q
  pub low_first : h ≡ upper → ¬ AtFault named held lower r

-- what is wrong with a program
pub data Wrong (p : Program) : Finding → Type 0 where
  -- 23: annotation 0 names a half that is not in the entry set
  entry_lacks : (r : ℕ) (h : Half) → LowestMissing (p.annotation 0) p.entry r h → Wrong p (finding 23 0 0 r (reported h))
  -- 20: an instruction reads a register of which its annotation does not name both halves
  annotation_lacks : (i r : ℕ) (h : Half) → i < p.count → LowestMissing (both (reads (p.instruction i))) (p.annotation i) r h
      → Wrong p (finding 20 0 i r (reported h))
  -- 21: an instruction has a successor outside
  runs_off : (i : ℕ) (z : ℤ) → i < p.count → Memᴰ z (successors (p.instruction i) i) → (¬ Inside p.count z)
      → Wrong p (plain 21 0 i)
  -- 22: the annotation of a successor names a half that is not defined after the instruction
  successor_lacks : (i j r : ℕ) (h : Half) → i < p.count → Memᴰ (pos j) (successors (p.instruction i) i) → j < p.count
      → LowestMissing (p.annotation j) (after p.version (p.instruction i) (p.annotation i)) r h
      → Wrong p (finding 22 0 i r (reported h))

-- why a container is refused. This says that what is reported is true; which refusal comes first is said by the verdict.
pub data Reason (s : List ℕ) : Finding → Type 0 where
  unopened : (r : Rejection) → open_outcome s ≡ refuses r → Reason s (plain r.number r.place 0)
  unreadable : (i : ℕ) (f : Refusal) → i < count_of s → read (eight (words_of s) i) ≡ refuses f
      → Reason s (plain f.number f.place i)
  wrong : (f : Finding) → Wrong (program_of s) f → Reason s f

-- of the judgement v on the bytes s: where it refuses, what it tells is so
abbrev pub Grounded : List ℕ → Judgement → Type 0
Grounded s (gives _) = Unit {0}
Grounded s (refuses f) = Reason s f
