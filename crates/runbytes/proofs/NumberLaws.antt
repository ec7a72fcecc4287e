-- Numbers of four bytes, one and several. Assumes nothing.
use mathlib.Core.Path.{◌≡◌, refl, sym, ap, ◌∙◌}
use mathlib.Core.List.{List, ◌++◌}
use Prim.Native.Nat.{ℕ, zero, suc, ◌+◌, ◌*◌, ◌<◌, ◌≤◌}
use native.Mathlib.Omega.{arith}
use lib.ListN.{length, get_or, take, drop, set, replicate, length-append, length-take, length-drop, length-replicate}
use lib.Seq.{get_or-take, get_or-drop, drop-cons, append_snoc, set_at}
use Rattle.bits.specs.Bytes.{little}
use Rattle.bits.proofs.ByteLaws.{drop_elements}
use Rattle.runbytes.specs.RunBytes.{number_at, numbers}

-- the first k of n equal numbers are k
pub lent_length : (v n k : ℕ) → k ≤ n → k ≡ length (take k (replicate n v))
lent_length v n k h = sym (length-take k (replicate n v) ∙ omega (arith, length-replicate n v))

-- four bytes, written out
pub four : (s : List ℕ) (start : ℕ) → start + 4 ≤ length s
    → number_at s start ≡ get_or s start 0 + 256 * (get_or s (start + 1) 0 + 256 * (get_or s (start + 2) 0 + 256 * get_or s (start + 3) 0))
unfolding little
four s start h =
    let b = take 4 (drop start s) in
    let l : length b ≡ 0 + 4 = simp (length-take, length-drop) (omega arith) in
    let at : (i : ℕ) → i < 4 → get_or b i 0 ≡ get_or s (start + i) 0 = λ i d. get_or-take 4 (drop start s) i 0 d ∙ get_or-drop start s i 0 in
    let e : little b ≡ get_or b 0 0 + 256 * (get_or b 1 0 + 256 * (get_or b 2 0 + 256 * (get_or b 3 0 + 256 * 0))) = ap little (drop_elements 4 0 b l) in
    let z : get_or s (start + 0) 0 ≡ get_or s start 0 = ap (λ (n : ℕ). get_or s n 0) (omega arith) in
    omega (arith, e, z, at 0 (omega arith), at 1 (omega arith), at 2 (omega arith), at 3 (omega arith))

pub length_numbers : (s : List ℕ) (start n : ℕ) → length (numbers s start n) ≡ n
unfolding numbers
length_numbers s start zero = refl
length_numbers s start (suc n) = simp length-append (omega (arith, length_numbers s start n))

-- one number more after those that are there
pub one_number : (s : List ℕ) (start i : ℕ) (before : List ℕ) {out : List ℕ} {v : ℕ} → i < length before → out ≡ numbers s start i ++ drop i before
    → v ≡ number_at s (start + 4 * i) → set out i v ≡ numbers s start (suc i) ++ drop (suc i) before
unfolding numbers
one_number s start i before h e w =
    rw (e, w, drop-cons before i 0 h)
    (set_at (numbers s start i) (get_or before i 0) (drop (suc i) before) (number_at s (start + 4 * i)) i (length_numbers s start i)
    ∙ sym (append_snoc (numbers s start i) (number_at s (start + 4 * i)) (drop (suc i) before)))
