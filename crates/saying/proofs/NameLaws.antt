-- A name stands at the front of what it is filled to. Assumes nothing.
use mathlib.Core.Path.{◌≡◌, refl}
use mathlib.Core.List.{List}
use Prim.Native.Nat.{ℕ, ◌-◌, ◌≤◌}
use mathlib.Core.Logic.{⊎_elim}
use native.Mathlib.Omega.{arith}
use lib.ListN.{length, take, replicate, length-append, length-replicate}
use lib.Seq.{take_at}
use Rattle.std.proofs.lemmas.Bool.{cases_lt}
use Rattle.rows.specs.Rows.{row_count}
use Rattle.rows.specs.Names.{ascii, name_of, name_width, filled}
use Rattle.rows.proofs.NameLaws.{name_long, no_name}

pub fits : (k : ℕ) → length (name_of k) ≤ name_width
unfolding ascii
fits k =
    ⊎_elim
    (λ h. omega (arith, simp (length-append, length-replicate) at (name_long k h)))
    (λ h. rw (no_name k h) (omega arith))
    (cases_lt k row_count)

pub unfilled : (n : List ℕ) → take (length n) (filled n) ≡ n
unfilled n = take_at n (replicate (name_width - length n) 32) (length n) refl
