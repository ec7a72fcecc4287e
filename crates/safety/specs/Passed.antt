-- A refusal of reading, passed on unchanged (02, Item 5): by the check, and by whoever else reads the words of a program.
use Rattle.std.specs.Prelude.{◌≡◌, List, ℕ, ◌<◌, ◌≤◌}
use Rattle.bits.specs.Bytes.{little}
use Rattle.bits.specs.Outcomes.{gives, refuses}
use Rattle.record.specs.Answers.{refusal}
use Rattle.record.specs.declared.instruction.Instruction.{Instruction}
use Rattle.record.specs.declared.answer.Refusal.{Refusal}
use Rattle.reading.specs.Reader.{read}
use Rattle.reading.specs.Stray.{StrayAt}
use Rattle.container.specs.Container.{count_of, words_of, eight}
use Rattle.container.specs.Opening.{Opens}
use Rattle.safety.specs.declared.verdict.Reported.TheVariants.{Neither}
use Rattle.safety.specs.declared.verdict.Finding.{Finding}
use Rattle.safety.specs.Program.{WellFormed}
use Rattle.safety.specs.Verdict.{Judgement, no_register, plain}

-- the words before index i read
abbrev pub ReadBefore : List ℕ → ℕ → Type 0
ReadBefore words i = (k : ℕ) → k < i → (x : Instruction) × (read (eight words k) ≡ gives x)

-- a refusal of a word that does not read: 2 to 7
abbrev pub Unreadable : Finding → Type 0
Unreadable f = (2 ≤ f.number) × (f.number ≤ 7)

-- the finding f tells what the reader says of the lowest of n words that does not read
pub record PassedOn (words : List ℕ) (n : ℕ) (f : Finding) : Type 0 where
  pub is : f.index < n
  pub before : ReadBefore words f.index
  -- with the reader's own number and place, and no register
  pub refused : read (eight words f.index) ≡ refuses (refusal f.number f.place)
  pub register : f.register ≡ no_register
  pub half : f.half ≡ Neither
  -- so the place of 3 is the lowest stray bit of that word
  pub stray : f.number ≡ 3 → StrayAt (little (eight words f.index)) f.place

-- of a check, for all bytes
pub record PassesOn (check : List ℕ → Judgement) : Type 0 where
  -- the lowest word that does not read is told, with its number and place,
  pub unreadable : (s : List ℕ) → Opens s → (i : ℕ) → i < count_of s → ReadBefore (words_of s) i
      → (f : Refusal) → read (eight (words_of s) i) ≡ refuses f → check s ≡ refuses (plain f.number f.place i)
  -- a container that opens and has such a word is refused with 2 to 7,
  pub numbered : (s : List ℕ) → Opens s → (¬ WellFormed s) → (f : Finding) → check s ≡ refuses f → Unreadable f
  -- and these numbers tell of such a word only
  pub passed : (s : List ℕ) (f : Finding) → check s ≡ refuses f → Unreadable f → PassedOn (words_of s) (count_of s) f
