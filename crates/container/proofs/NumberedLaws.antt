-- The numbers that refusals of opening have. Assumes nothing.
use mathlib.Core.Path.{◌≡◌, refl}
use mathlib.Core.Bool.{◌&&◌}
use mathlib.Core.List.{List}
use Prim.Native.Nat.{ℕ}
use lib.Dec.{leb, eqb, lit≤}
use lib.ListN.{length}
use Rattle.bits.proofs.OutcomeLaws.{Refusals, of_gives, on, Between}
use Rattle.container.specs.Formats.{known, most_of, shortest_header, container_length}
use Rattle.container.specs.Container.{marked, version_of, zero_of, count_of}
use Rattle.container.specs.Opening.{Rejection, unplaced, header_of, open_outcome}

-- a refusal with place 0 and one of the numbers of opening
abbrev pub Unopened : Rejection → Type 0
Unopened r = Between 10 13 r.number × (r.place ≡ 0)

unopened : {n : ℕ} → Between 10 13 n → Unopened (unplaced n)
unopened b = (b, refl)

pub open_numbers : (s : List ℕ) → Refusals Unopened (open_outcome s)
unfolding open_outcome
open_numbers s =
    on Unopened (leb shortest_header (length s)) (unplaced 12) (unopened (lit≤ tt, lit≤ tt))
    (on Unopened (marked s) (unplaced 10) (unopened (lit≤ tt, lit≤ tt))
    (on Unopened (known (version_of s)) (unplaced 11) (unopened (lit≤ tt, lit≤ tt))
    (on Unopened (eqb (zero_of s) 0) (unplaced 13) (unopened (lit≤ tt, lit≤ tt))
    (on Unopened (leb 1 (count_of s) && leb (count_of s) (most_of (version_of s))) (unplaced 12) (unopened (lit≤ tt, lit≤ tt))
    (on Unopened (eqb (length s) (container_length (version_of s) (count_of s))) (unplaced 12) (unopened (lit≤ tt, lit≤ tt)) (of_gives Unopened (header_of s)))))))
