-- The three numbers of a line tell the line. Assumes nothing.
use mathlib.Core.Path.{◌≡◌, refl, sym, ap, ◌∙◌}
use mathlib.Core.List.{List}
use Prim.Native.Nat.{ℕ, ◌+◌, ◌*◌, ◌/◌, ◌%◌, ◌<◌}
use native.Mathlib.Omega.{arith}
use lib.Dec.{eqb}
use lib.ListN.{get_or}
use Rattle.bits.specs.Fields.{choose}
use Rattle.differences.specs.declared.line.What.{What}
use Rattle.differences.specs.declared.line.What.TheVariants.{Row, Page, Flow, Destination, Source, Modifier, Added, Removed, Entry, Annotation, Version}
use Rattle.differences.specs.declared.line.Line.{Line}
use Rattle.differences.specs.Numbers.{what_number, Bytewise, TellLines}

-- what a number and the byte above it stand for
what_of : ℕ → ℕ → What
what_of n k =
    choose (eqb n 0) Row (choose (eqb n 1) Page (choose (eqb n 2) Flow (choose (eqb n 3) Destination (choose (eqb n 4) (Source k)
    (choose (eqb n 5) (Modifier k) (choose (eqb n 6) Added (choose (eqb n 7) Removed (choose (eqb n 8) (Entry k) (choose (eqb n 9) (Annotation k) Version)))))))))

low : (n k : ℕ) → n < 256 → (n + 256 * k) % 256 ≡ n
low n k h = omega arith

high : (n k : ℕ) → n < 256 → (n + 256 * k) / 256 ≡ k
high n k h = omega arith

back : (w : What) → what_of (what_number w % 256) (what_number w / 256) ≡ w
unfolding what_of
back Row = refl
back Page = refl
back Flow = refl
back Destination = refl
back (Source k) = rw (low 4 k (omega arith), high 4 k (omega arith))
back (Modifier p) = rw (low 5 p (omega arith), high 5 p (omega arith))
back Added = refl
back Removed = refl
back (Entry k) = rw (low 8 k (omega arith), high 8 k (omega arith))
back (Annotation k) = rw (low 9 k (omega arith), high 9 k (omega arith))
back Version = refl

small : (w : What) → Bytewise w → what_number w < 65536
small Row h = omega arith
small Page h = omega arith
small Flow h = omega arith
small Destination h = omega arith
small (Source k) h = let q : k < 256 = h in omega (arith, q)
small (Modifier p) h = let q : p < 256 = h in omega (arith, q)
small Added h = omega arith
small Removed h = omega arith
small (Entry k) h = let q : k < 256 = h in omega (arith, q)
small (Annotation k) h = let q : k < 256 = h in omega (arith, q)
small Version h = omega arith

same_line : {l m : Line} → l.what ≡ m.what → l.index ≡ m.index → l.first ≡ m.first → l.second ≡ m.second → l ≡ m
same_line p q r s = λ j. record { what = p j; index = q j; first = r j; second = s j }

pub tell_lines : TellLines
tell_lines l m g h e =
    let a = small l.what g in
    let b = small m.what h in
    let f = ap (λ (x : List ℕ). get_or x 0 0) e in
    let w : what_number l.what ≡ what_number m.what = omega (arith, a, b, f) in
    let i : l.index ≡ m.index = omega (arith, a, b, f) in
    same_line (sym (back l.what) ∙ ap (λ (n : ℕ). what_of (n % 256) (n / 256)) w ∙ back m.what) i
    (ap (λ (x : List ℕ). get_or x 1 0) e) (ap (λ (x : List ℕ). get_or x 2 0) e)
