-- The program of a container of version 1: its instructions as words are read, what each leaves defined (the paper's held), and its walks
-- (01, How registers are held). Where an instruction goes is the same in any version.
use Rattle.std.specs.Prelude.{true, ◌≡◌, ◌⊎◌, ℕ, ◌<◌, ℤ}
use mathlib.Core.List.{List, ◌∷◌, Memᴰ}
use Rattle.bits.specs.Bytes.{little}
use Rattle.bits.specs.Sets.{Has, minus, union}
use Rattle.bits.specs.Outcomes.{gives}
use Rattle.record.specs.declared.instruction.Instruction.{Instruction}
use Rattle.reading.specs.Reader.{read}
use Rattle.record.specs.Registers.{reads, kills, defines, ends}
use Rattle.container.specs.Container.{count_of, eight}
use Rattle.walks.specs.Walks.{Machine, Inside, Walk}
use Rattle.safety.specs.Program.{register_count, successors, instruction_at}
use Rattle.version1.specs.Container.{entry_of, words_of, annotations_of}
use Rattle.version1.specs.Opening.{Opens}

-- n, the instruction and the annotation at each index, and the entry set
pub record Program : Type 0 where
  pub count : ℕ
  pub instruction : ℕ → Instruction
  pub annotation : ℕ → ℕ
  pub entry : ℕ

-- what is defined after an instruction: what was before it, without what it releases, and with what it fully writes; half a write adds
-- nothing
unfoldable pub after : Instruction → ℕ → ℕ
after x held = union (minus held (kills x)) (defines x)

-- what walks see of a program: a fact is that a register is defined. An instruction makes hold what it fully writes, ends what it
-- releases, and needs what it reads.
unfoldable pub machine : Program → Machine ℕ
machine p = record {
  count = p.count;
  follows = λ i z. Memᴰ z (successors (p.instruction i) i);
  fact = λ r. r < register_count;
  entry = Has p.entry;
  adds = λ i. Has (defines (p.instruction i));
  drops = λ i. Has (kills (p.instruction i));
  needs = λ i. Has (reads (p.instruction i));
  claims = λ i. Has (p.annotation i);
}

-- the annotation at index i
unfoldable pub annotation_at : List ℕ → ℕ → ℕ
annotation_at annotations i = little (eight annotations i)

-- the program of n words and n annotations
abbrev pub program_in : List ℕ → List ℕ → ℕ → ℕ → Program
program_in words annotations n entry = record {
  count = n;
  instruction = instruction_at words;
  annotation = annotation_at annotations;
  entry = entry;
}

-- the program of a container's bytes
abbrev pub program_of : List ℕ → Program
program_of s = program_in (words_of s) (annotations_of s) (count_of s) (entry_of s)

abbrev pub machine_of : List ℕ → Machine ℕ
machine_of s = machine (program_of s)

-- a well-formed container (01, The parcel): it opens, and each of its words reads
pub record WellFormed (s : List ℕ) : Type 0 where
  pub opens : Opens s
  pub reads : (i : ℕ) → i < count_of s → (x : Instruction) × (read (eight (words_of s) i) ≡ gives x)

-- wherever a walk arrives, the program goes on inside, or it has come to `end`
abbrev pub NeverRunsOff : Program → Type 0
NeverRunsOff p =
    (i : ℕ) (w : List ℕ) → Walk (machine p) (i ∷ w)
    → (ends (p.instruction i) ≡ true)
    ⊎ (((z : ℤ) × (machine p).follows i z) × ((z : ℤ) → (machine p).follows i z → Inside p.count z))
