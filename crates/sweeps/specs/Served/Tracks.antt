-- The sweeps of one half of the registers by itself. Nothing of the low halves enters the high ones, nor the other way round, so what the
-- sweeps do to one half is told without the other; the code sweeps them one after the other.
use Rattle.std.specs.Prelude.{Bool, true, false, ◌&&◌, ℕ, zero, suc, eqb}
use Rattle.bits.specs.Sets.{intersection, union, minus, lowest_from}
use Rattle.bits.specs.Halves.{Half, half_of}
use Rattle.record.specs.Registers.{kills}
use Rattle.safety.specs.Program.{Program, successors, fills}
use Rattle.sweeps.specs.Sweeps.{among, note}

-- what instruction t leaves held of a half, of which `held` is before it
abbrev pub left_of : Program → Half → ℕ → ℕ → ℕ
left_of p h t held = union (minus held (kills (p.instruction t))) (half_of h (fills p.version (p.instruction t)))

abbrev pub narrowed_set : Bool → ℕ → ℕ → ℕ
narrowed_set true note held = intersection note held
narrowed_set false note held = note

unfoldable pub swept_set : Program → Half → (ℕ → ℕ) → ℕ → ℕ → ℕ
swept_set p h old zero j = old j
swept_set p h old (suc t) j =
    narrowed_set (among j (successors (p.instruction t) t)) (swept_set p h old t j) (left_of p h t (old t))

-- what note j has of a half after k sweeps
abbrev pub half_note : Program → Half → ℕ → ℕ → ℕ
half_note p h k j = half_of h (note p k j)

unfoldable pub same_sets : ℕ → (ℕ → ℕ) → (ℕ → ℕ) → Bool
same_sets zero a b = true
same_sets (suc n) a b = same_sets n a b && eqb (a n) (b n)

-- sweep k + 1 changes nothing of that half
unfoldable pub half_unchanged : Program → Half → ℕ → Bool
half_unchanged p h k = same_sets p.count (half_note p h (suc k)) (half_note p h k)

-- the sweeps up to the first that changes nothing of that half, and that one
unfoldable pub half_sweeps : Program → Half → ℕ
half_sweeps p h = suc (lowest_from (half_unchanged p h) (suc p.count) 0)
