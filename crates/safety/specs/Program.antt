-- A container's program: its instructions as words are read, where each goes, which halves of registers it leaves defined
-- (the paper's held), and its walks (01, How registers are held; 02, Item 7).
use Rattle.std.specs.Prelude.{true, ◌≡◌, ◌⊎◌, ℕ, ◌+◌, ◌*◌, ◌<◌, ◌≤◌, ltb, eqb, ℤ, pos, negsuc, ◌+ℤ◌, length}
use mathlib.Core.List.{List, [], ◌∷◌, Memᴰ}
use Rattle.bits.specs.Fields.{choose}
use Rattle.bits.specs.Sets.{Has, minus, union}
use Rattle.bits.specs.Halves.{Half, half_of, halves, both}
use Rattle.bits.specs.declared.halves.Halves.{Halves}
use Rattle.bits.specs.Outcomes.{Outcome, gives, refuses}
use Rattle.record.specs.declared.instruction.Instruction.{Instruction}
use Rattle.record.specs.declared.answer.Refusal.{Refusal}
use Rattle.record.specs.Defaults.{default_instruction}
use Rattle.reading.specs.Reader.{read}
use Rattle.record.specs.Registers.{reads, kills, defines, writes, ends, branches}
use Rattle.container.specs.Formats.{most_instructions, word_length, annotation_length}
use Rattle.container.specs.Container.{halves_at, version_of, count_of, entry_of, words_of, annotations_of, eight}
use Rattle.container.specs.Opening.{Opens}
use Rattle.walks.specs.Walks.{Machine, Inside, Walk}

-- how many registers there are; bit r of a set stands for register r
abbrev pub register_count : ℕ
register_count = 64

-- the version, n, the instruction and the annotation at each index, and the entry set
pub record Program : Type 0 where
  pub version : ℕ
  pub count : ℕ
  pub instruction : ℕ → Instruction
  pub annotation : ℕ → Halves
  pub entry : Halves

-- where instruction i can go: nowhere with flow `end`, whatever its row is; else to the next, and BRANCHZ also to the one that its offset
-- names, counted from the next. Both count, whatever the source is.
unfoldable pub successors : Instruction → ℕ → List ℤ
successors x i = choose (ends x) [] (pos (i + 1) ∷ choose (branches x) ((pos (i + 1) +ℤ x.offset) ∷ []) [])

-- the index that z is, or n where z is none of 0 to n - 1
unfoldable pub landing : ℕ → ℤ → ℕ
landing n (pos j) = choose (ltb j n) j n
landing n (negsuc _) = n

-- what an instruction makes defined, by the version of its container: the halves of its destination that are in its mask; in version 1,
-- where a set stands for both halves, both of them where the mask has both, so that half a write adds nothing
unfoldable pub fills : ℕ → Instruction → Halves
fills v x = choose (eqb v 1) (both (defines x)) (writes x)

-- what is defined after an instruction: what was before it, without both halves of what it releases, and with what it fills
unfoldable pub after : ℕ → Instruction → Halves → Halves
after v x held = halves (union (minus held.low (kills x)) (fills v x).low) (union (minus held.high (kills x)) (fills v x).high)

-- a fact that walks see: that a half of a register is defined
pub record Fact : Type 0 where
  pub half : Half
  pub register : ℕ

-- the half is in a set
unfoldable pub In : Halves → Fact → Type 0
In s g = Has (half_of g.half s) g.register

-- what walks see of a program. An instruction makes hold what it fills, ends both halves of what it releases, and needs both halves of
-- what it reads.
unfoldable pub machine : Program → Machine Fact
machine p = record {
  count = p.count;
  follows = λ i z. Memᴰ z (successors (p.instruction i) i);
  fact = λ g. g.register < register_count;
  entry = In p.entry;
  adds = λ i. In (fills p.version (p.instruction i));
  drops = λ i. In (both (kills (p.instruction i)));
  needs = λ i. In (both (reads (p.instruction i)));
  claims = λ i. In (p.annotation i);
}

-- the instruction that a word says; NOP for a word that does not read, which no well-formed container has
abbrev pub instruction_in : Outcome Refusal Instruction → Instruction
instruction_in (gives x) = x
instruction_in (refuses _) = default_instruction 0

-- the instruction at index i of some words, and the annotation at index i of those of a version
unfoldable pub instruction_at : List ℕ → ℕ → Instruction
instruction_at words i = instruction_in (read (eight words i))

unfoldable pub annotation_at : ℕ → List ℕ → ℕ → Halves
annotation_at v annotations i = halves_at v annotations (annotation_length v * i)

-- the program of n words and n annotations of a version
abbrev pub program_in : ℕ → List ℕ → List ℕ → ℕ → Halves → Program
program_in v words annotations n entry = record {
  version = v;
  count = n;
  instruction = instruction_at words;
  annotation = annotation_at v annotations;
  entry = entry;
}

-- some bytes are n words, or n annotations of a version, as many as a container can have
pub record Worded (words : List ℕ) (n : ℕ) : Type 0 where
  pub few : n ≤ most_instructions
  pub long : length words ≡ word_length * n

pub record Annotated (v : ℕ) (annotations : List ℕ) (n : ℕ) : Type 0 where
  pub few : n ≤ most_instructions
  pub long : length annotations ≡ annotation_length v * n

-- the program of a container's bytes
abbrev pub program_of : List ℕ → Program
program_of s = program_in (version_of s) (words_of s) (annotations_of s) (count_of s) (entry_of s)

abbrev pub machine_of : List ℕ → Machine Fact
machine_of s = machine (program_of s)

-- a well-formed container (01, The parcel): it opens, and each of its words reads
pub record WellFormed (s : List ℕ) : Type 0 where
  pub opens : Opens s
  pub reads : (i : ℕ) → i < count_of s → (x : Instruction) × (read (eight (words_of s) i) ≡ gives x)

-- wherever a walk arrives, the program goes on inside, or it has come to `end`
abbrev pub NeverRunsOff : Program → Type 0
NeverRunsOff p =
    (i : ℕ) (w : List ℕ) → Walk (machine p) (i ∷ w)
    → (ends (p.instruction i) ≡ true)
    ⊎ (((z : ℤ) × (machine p).follows i z) × ((z : ℤ) → (machine p).follows i z → Inside p.count z))
