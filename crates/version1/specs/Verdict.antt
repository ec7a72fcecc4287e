-- The verdict on containers of version 1 as it was before there were halves (01, Numbers given back): opening, the lowest word that does not
-- read, 23, and then for each instruction 20, and 21 and 22 for the fall-through and after it for the branch target.
use Rattle.std.specs.Prelude.{List, ℕ, eqb, ltb, ℤ, pos, negsuc}
use Rattle.bits.specs.Sets.{minus, lowest}
use Rattle.bits.specs.Outcomes.{Outcome, gives, refuses, passes, require, ◌then◌, first, each}
use Rattle.record.specs.declared.instruction.Instruction.{Instruction}
use Rattle.record.specs.declared.answer.Refusal.{Refusal}
use Rattle.reading.specs.Reader.{read}
use Rattle.record.specs.Registers.{reads}
use Rattle.container.specs.Container.{count_of, eight}
use Rattle.container.specs.Opening.{Rejection}
use Rattle.safety.specs.Program.{successors}
use Rattle.version1.specs.Container.{words_of}
use Rattle.version1.specs.Opening.{Header, open_outcome}
use Rattle.version1.specs.Program.{Program, after, program_of}

-- a finding: the number of the refusal, its place, the index of an instruction, and the lowest register at fault, or 64
pub record Finding : Type 0 where
  pub number : ℕ
  pub place : ℕ
  pub index : ℕ
  pub register : ℕ

-- what a verdict ends with: nothing to tell, or a finding
abbrev pub Judgement : Type 0
Judgement = Outcome Finding (Unit {0})

abbrev pub finding : ℕ → ℕ → ℕ → ℕ → Finding
finding n p i r = record { number = n; place = p; index = i; register = r }

abbrev pub no_register : ℕ
no_register = 64

-- a container that does not open: index 0
abbrev pub judge_opening : Outcome Rejection Header → Judgement
judge_opening (gives _) = passes
judge_opening (refuses r) = refuses (finding r.number r.place 0 no_register)

-- a word at index i that does not read, with the number and place of its own refusal
abbrev pub judge_reading : ℕ → Outcome Refusal Instruction → Judgement
judge_reading i (gives _) = passes
judge_reading i (refuses f) = refuses (finding f.number f.place i no_register)

abbrev pub judge_word : List ℕ → ℕ → Judgement
judge_word words i = judge_reading i (read (eight words i))

-- refusal n at instruction i where a register of `named` is missing from `held`: the lowest one
unfoldable pub none_missing : ℕ → ℕ → ℕ → ℕ → Judgement
none_missing n i named held = require (eqb (minus named held) 0) (finding n 0 i (lowest (minus named held)))

-- a successor of instruction i, after which `held` is defined, among n: 21 where it is outside; 22 where its annotation names a register that
-- is not defined then
unfoldable pub judge_successor : ℕ → (ℕ → ℕ) → ℕ → ℕ → ℤ → Judgement
judge_successor n annotation i held (pos j) = require (ltb j n) (finding 21 0 i no_register) then none_missing 22 i (annotation j) held
judge_successor n annotation i held (negsuc _) = refuses (finding 21 0 i no_register)

-- instruction i, which is x; its annotation is taken as what is defined before it: 20 where it reads another register; then its successors
unfoldable pub judge_flow : ℕ → (ℕ → ℕ) → ℕ → Instruction → Judgement
judge_flow n annotation i x =
    none_missing 20 i (reads x) (annotation i)
    then each (judge_successor n annotation i (after x (annotation i))) (successors x i)

abbrev pub judge_index : Program → ℕ → Judgement
judge_index p i = judge_flow p.count p.annotation i (p.instruction i)

-- 23 where annotation 0 names a register that is not in the entry set; then instruction by instruction
unfoldable pub judge_program : Program → Judgement
judge_program p = none_missing 23 0 (p.annotation 0) p.entry then first (judge_index p) p.count

-- the verdict on a container's bytes
unfoldable pub verdict_of : List ℕ → Judgement
verdict_of s =
    judge_opening (open_outcome s)
    then first (judge_word (words_of s)) (count_of s)
    then judge_program (program_of s)
