-- The sets that are compared, of the entry sets and of the annotations, the paper's notes (02, Items 4 and 7).
use Rattle.std.specs.Prelude.{◌&&◌, List, [], ◌∷◌, ℕ, eqb}
use Rattle.bits.specs.Fields.{choose}
use Rattle.bits.specs.declared.halves.Halves.{Halves}
use Rattle.container.specs.Container.{version_of, annotations_of}
use Rattle.safety.specs.Program.{annotation_at}

-- a set has a number: 0 the one set of version 1, 1 that of the low halves, 2 that of the high halves
abbrev pub the_one : List ℕ
the_one = 0 ∷ []

abbrev pub low_and_high : List ℕ
low_and_high = 1 ∷ 2 ∷ []

-- the sets of two versions that are compared, in file order: where both are version 1 the one set, as before there were halves
unfoldable pub sets_of : ℕ → ℕ → List ℕ
sets_of v w = choose (eqb v 1 && eqb w 1) the_one low_and_high

-- those of two containers
abbrev pub compared : List ℕ → List ℕ → List ℕ
compared a b = sets_of (version_of a) (version_of b)

-- the annotation at index i of a container
abbrev pub note_of : List ℕ → ℕ → Halves
note_of s i = annotation_at (version_of s) (annotations_of s) i

-- set k of a set of halves: in version 1 low and high halves are the one set, so that it counts as both
abbrev pub set_in : ℕ → Halves → ℕ
set_in k s = choose (eqb k 2) s.high s.low
