-- The verdict (the paper's check), with the refusals in the order of 01, Numbers given back: opening, the lowest word that does not read,
-- 23, and then for each instruction 20, and 21 and 22 for the fall-through and after it for the branch target. Of registers it goes by
-- halves (02, Item 7).
use Rattle.std.specs.Prelude.{List, ℕ, eqb, ltb, ℤ, pos, negsuc, Result}
use Rattle.bits.specs.Fields.{choose}
use Rattle.bits.specs.Sets.{has, lowest}
use Rattle.bits.specs.Halves.{Half, lower, upper, both, either, minus_halves}
use Rattle.bits.specs.declared.halves.Halves.{Halves}
use Rattle.bits.specs.Outcomes.{Outcome, outcome, gives, refuses, passes, require, ◌then◌, first, each}
use Rattle.record.specs.declared.instruction.Instruction.{Instruction}
use Rattle.record.specs.declared.answer.Refusal.{Refusal}
use Rattle.reading.specs.Reader.{read}
use Rattle.record.specs.Registers.{reads}
use Rattle.container.specs.declared.header.Header.{Header}
use Rattle.container.specs.Container.{count_of, words_of, eight}
use Rattle.container.specs.Opening.{Rejection, open_outcome}
use Rattle.safety.specs.declared.verdict.Reported.{Reported}
use Rattle.safety.specs.declared.verdict.Reported.TheVariants.{Neither, Low, High}
use Rattle.safety.specs.declared.verdict.Finding.{Finding}
use Rattle.safety.specs.Program.{Program, successors, after, program_of}

-- what a verdict ends with: nothing to tell, or a finding: the number of the refusal, its place, the index of an instruction, the lowest
-- register at fault, or 64, and which half of it, or neither
abbrev pub Judgement : Type 0
Judgement = Outcome Finding (Unit {0})

abbrev pub finding : ℕ → ℕ → ℕ → ℕ → Reported → Finding
finding n p i r h = record { number = n; place = p; index = i; register = r; half = h }

-- where no register is at fault
abbrev pub no_register : ℕ
no_register = 64

abbrev pub plain : ℕ → ℕ → ℕ → Finding
plain n p i = finding n p i no_register Neither

-- the judgement that each verdict stands for
abbrev pub verdict_outcome : Result (Unit {0}) Finding → Judgement
verdict_outcome v = outcome v

-- a container that does not open: index 0
abbrev pub judge_opening : Outcome Rejection Header → Judgement
judge_opening (gives _) = passes
judge_opening (refuses r) = refuses (plain r.number r.place 0)

-- a word at index i that does not read, with the number and place of its own refusal
abbrev pub judge_reading : ℕ → Outcome Refusal Instruction → Judgement
judge_reading i (gives _) = passes
judge_reading i (refuses f) = refuses (plain f.number f.place i)

abbrev pub judge_word : List ℕ → ℕ → Judgement
judge_word words i = judge_reading i (read (eight words i))

-- the half that is told
abbrev pub reported : Half → Reported
reported lower = Low
reported upper = High

-- of some halves those of the lowest register: the low one if it is there, else the high one
abbrev pub lowest_half : Halves → Half
lowest_half s = choose (has s.low (lowest (either s))) lower upper

-- refusal n at instruction i for some halves, if there are any: the lowest register of which one is there, and the half
abbrev pub none_of : ℕ → ℕ → Halves → Judgement
none_of n i s = require (eqb (either s) 0) (finding n 0 i (lowest (either s)) (reported (lowest_half s)))

-- refusal n at instruction i where a half in `named` is missing from `held`
unfoldable pub none_missing : ℕ → ℕ → Halves → Halves → Judgement
none_missing n i named held = none_of n i (minus_halves named held)

-- a successor of instruction i, after which `held` is defined, among n: 21 where it is outside; 22 where its annotation names a half that
-- is not defined then
unfoldable pub judge_successor : ℕ → (ℕ → Halves) → ℕ → Halves → ℤ → Judgement
judge_successor n annotation i held (pos j) = require (ltb j n) (plain 21 0 i) then none_missing 22 i (annotation j) held
judge_successor n annotation i held (negsuc _) = refuses (plain 21 0 i)

-- instruction i of a container of version v, which is x; its annotation is taken as what is defined before it: 20 where it reads a register
-- of which it lacks a half; then its successors
unfoldable pub judge_flow : ℕ → ℕ → (ℕ → Halves) → ℕ → Instruction → Judgement
judge_flow v n annotation i x =
    none_missing 20 i (both (reads x)) (annotation i)
    then each (judge_successor n annotation i (after v x (annotation i))) (successors x i)

abbrev pub judge_index : Program → ℕ → Judgement
judge_index p i = judge_flow p.version p.count p.annotation i (p.instruction i)

-- 23 where annotation 0 names a half that is not in the entry set; then instruction by instruction
unfoldable pub judge_program : Program → Judgement
judge_program p = none_missing 23 0 (p.annotation 0) p.entry then first (judge_index p) p.count

-- the verdict on a container's bytes
unfoldable pub verdict_of : List ℕ → Judgement
verdict_of s =
    judge_opening (open_outcome s)
    then first (judge_word (words_of s)) (count_of s)
    then judge_program (program_of s)

-- opening and reading alone: passes for a well-formed container, else the refusal that the verdict has too
unfoldable pub all_read : List ℕ → Judgement
all_read s = judge_opening (open_outcome s) then first (judge_word (words_of s)) (count_of s)
