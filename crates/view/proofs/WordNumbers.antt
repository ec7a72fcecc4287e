-- The number that refusals of asking for a word have. Assumes nothing.
use mathlib.Core.Path.{◌≡◌, refl}
use mathlib.Core.List.{List}
use Prim.Native.Nat.{ℕ, ◌+◌}
use lib.Dec.{leb, ltb}
use lib.ListN.{length}
use Rattle.bits.proofs.OutcomeLaws.{Refusals, of_gives, on}
use Rattle.container.specs.Formats.{word_length}
use Rattle.container.specs.Container.{number, version_of, word_start}
use Rattle.container.specs.Opening.{Rejection, unplaced}
use Rattle.view.specs.Words.{word_outcome}

-- asking for a word refuses with 14 alone, at place 0
pub word_numbers : (s : List ℕ) (n i : ℕ) → Refusals (λ (r : Rejection). r ≡ unplaced 14) (word_outcome s n i)
unfolding word_outcome
word_numbers s n i =
    on (λ (r : Rejection). r ≡ unplaced 14) (ltb i n) (unplaced 14) refl
    (on (λ (r : Rejection). r ≡ unplaced 14) (leb (word_start (version_of s) i + word_length) (length s)) (unplaced 14) refl
    (of_gives (λ (r : Rejection). r ≡ unplaced 14) (number s (word_start (version_of s) i) word_length)))
