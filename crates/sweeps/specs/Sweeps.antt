-- The sweeps by which annotations are found from a program and its entry set (02, Items 1 and 7), over sets of halves of registers: bit r of
-- a set is register r. A note is the set at an index while the sweeps go on, and an annotation its bytes; held is the paper's word for
-- defined. A sweep treats low and high halves together. The annotations that the program has play no part.
use Rattle.std.specs.Prelude.{Bool, true, false, ◌&&◌, ◌||◌, List, [], ◌∷◌, ◌++◌, ℕ, zero, suc, ◌-◌, ◌^◌, eqb, ℤ, pos, negsuc}
use Rattle.bits.specs.Sets.{intersection, lowest_from}
use Rattle.bits.specs.Halves.{halves, both}
use Rattle.bits.specs.declared.halves.Halves.{Halves}
use Rattle.packing.specs.Packing.{halves_bytes}
use Rattle.safety.specs.Program.{Program, register_count, successors, after}

-- all 64 registers
abbrev pub all_registers : ℕ
all_registers = 2 ^ register_count - 1

-- whether index j is one of these places
unfoldable pub among : ℕ → List ℤ → Bool
among j [] = false
among j (pos i ∷ l) = eqb i j || among j l
among j (negsuc i ∷ l) = among j l

-- before the first sweep note 0 is the entry set, and every other note has both halves of all registers
unfoldable pub first_note : Program → ℕ → Halves
first_note p zero = p.entry
first_note p (suc j) = both all_registers

-- the halves that are in both sets
abbrev pub common : Halves → Halves → Halves
common a b = halves (intersection a.low b.low) (intersection a.high b.high)

-- a note, narrowed where the test says so to what is held
abbrev pub narrowed_if : Bool → Halves → Halves → Halves
narrowed_if true note held = common note held
narrowed_if false note held = note

-- note j in a sweep, after the first t instructions had their turn: each of which j is a successor narrows it to what that instruction
-- leaves held. `old` are the notes of the sweep before, so the order of the instructions has no part in it.
unfoldable pub swept : Program → (ℕ → Halves) → ℕ → ℕ → Halves
swept p old zero j = old j
swept p old (suc t) j =
    narrowed_if (among j (successors (p.instruction t) t)) (swept p old t j) (after p.version (p.instruction t) (old t))

-- note j after k sweeps
unfoldable pub note : Program → ℕ → ℕ → Halves
note p zero j = first_note p j
note p (suc k) j = swept p (note p k) p.count j

-- the same low halves and the same high halves
abbrev pub same_halves : Halves → Halves → Bool
same_halves a b = eqb a.low b.low && eqb a.high b.high

-- the same sets at each index below n
unfoldable pub same_below : ℕ → (ℕ → Halves) → (ℕ → Halves) → Bool
same_below zero a b = true
same_below (suc n) a b = same_below n a b && same_halves (a n) (b n)

-- sweep k + 1 changes nothing
unfoldable pub unchanged : Program → ℕ → Bool
unchanged p k = same_below p.count (note p (suc k)) (note p k)

-- how many sweeps there are: up to the first that changes nothing, and that one. It is among the first n + 1
-- (`sweeps/proofs/SweepLaws.rests`).
unfoldable pub sweeps : Program → ℕ
sweeps p = suc (lowest_from (unchanged p) (suc p.count) 0)

-- n notes as the annotations of a version
unfoldable pub note_bytes : ℕ → (ℕ → Halves) → ℕ → List ℕ
note_bytes v f zero = []
note_bytes v f (suc n) = note_bytes v f n ++ halves_bytes v (f n)

-- the annotations that are proposed
unfoldable pub proposal : Program → List ℕ
proposal p = note_bytes p.version (note p (sweeps p)) p.count
