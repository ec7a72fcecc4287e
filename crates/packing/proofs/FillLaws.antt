-- Lists put one after another into a buffer. Assumes nothing.
use mathlib.Core.Path.{◌≡◌, refl, sym, ap, ◌∙◌}
use mathlib.Core.List.{List, [], ◌++◌, append_assoc, append-nil}
use Prim.Native.Nat.{ℕ, ◌+◌, ◌-◌}
use native.Mathlib.Omega.{arith}
use lib.ListN.{length, take, drop, length-append, length-drop, drop_of_length-le}
use lib.Seq.{take_at, drop_at, take_all, take-length, drop-drop}

-- p is the buffer `out` after x was put at its front
abbrev pub Begins : List ℕ → List ℕ → List ℕ → Type 0
Begins x p out = p ≡ x ++ drop (length x) out

-- a whole list is copied to the front
pub first : (x p out : List ℕ) → p ≡ take (length x) x ++ drop (length x) out → Begins x p out
first x p out e = rw (take-length x) at e

-- y is put where x ends
module _ (x p out : List ℕ) (b : Begins x p out) (at : ℕ) (e : length x ≡ at) (y : List ℕ) where
  front : take at p ≡ x
  front = ap (take at) b ∙ take_at x (drop (length x) out) at e

  rest : drop at p ≡ drop (length x) out
  rest = ap (drop at) b ∙ drop_at x (drop (length x) out) at e

  -- into a part as long as y
  pub stored : (k : ℕ) → length y ≡ k → Begins (x ++ y) (take at p ++ (y ++ drop k (drop at p))) out
  stored k l =
      rw (front, rest, ← l, drop-drop (length y) (length x) out, length-append x y) (sym (append_assoc x y (drop (length x + length y) out)))

  -- to the front of all that is left
  pub copied : (w : List ℕ) → w ≡ take (length y) y ++ drop (length y) (take (length p - at) (drop at p))
      → Begins (x ++ y) (take at p ++ (w ++ drop (length p - at) (drop at p))) out
  copied w f =
      let n : length (drop at p) ≡ length p - at = length-drop at p in
      let r : take (length p - at) (drop at p) ≡ drop at p = take_all (length p - at) (drop at p) (omega arith) in
      let z : drop (length p - at) (drop at p) ≡ [] = drop_of_length-le (drop at p) {i = length p - at} (omega arith) in
      rw (z, f, r, take-length y, append-nil (y ++ drop (length y) (drop at p))) (stored (length y) refl)

-- a buffer of the same length holds the list alone
pub filled : (x p out : List ℕ) → Begins x p out → length out ≡ length x → p ≡ x
filled x p out b l = b ∙ rw (drop_of_length-le out {i = length x} (omega arith)) (append-nil x)
