-- Laws of little-endian numbers. Assumes nothing.
use mathlib.Core.Path.{◌≡◌, refl, ap, ◌∙◌}
use mathlib.Core.List.{List, [], ◌∷◌, ◌++◌}
use Prim.Native.Nat.{ℕ, zero, suc, ◌+◌, ◌*◌, ◌/◌, ◌%◌, ◌^◌, ◌<◌}
use native.Mathlib.Nat.{add-zero, div-div-eq-div-mul, le_of_eq, pow-suc, mul_comm}
use native.Mathlib.Numerals.{add-one}
use native.Mathlib.Omega.{arith}
use lib.Dec.{T, ltb, ltb→lt, lt→ltb}
use lib.ListN.{length, get_or, take, drop, drop_of_length-le}
use lib.Pow.{are_bytes}
use lib.Seq.{drop-cons, drop-length, get_or-drop, drop-drop}
use Rattle.std.specs.Int.{w64, from_le_bytes, to_le_bytes}
use Rattle.bits.specs.Bytes.{little, little_bytes}
use Rattle.bits.proofs.Every.{and_both, and_l, and_r}

little_step : (b : List ℕ) → little b ≡ get_or b 0 0 + 256 * little (drop 1 b)
unfolding little
little_step [] = refl
little_step (x ∷ b) = refl

little_at : (b : List ℕ) (k : ℕ) → little (drop k b) ≡ get_or b k 0 + 256 * little (drop (suc k) b)
little_at b k = little_step (drop k b) ∙ simp (get_or-drop, drop-drop, add-zero, add-one)

-- eight bytes, written out
pub little_eight : (b : List ℕ) → length b ≡ 8 → little b ≡ get_or b 0 0 + 256 * (get_or b 1 0 + 256 * (get_or b 2 0 + 256 * (get_or b 3 0
    + 256 * (get_or b 4 0 + 256 * (get_or b 5 0 + 256 * (get_or b 6 0 + 256 * get_or b 7 0))))))
unfolding little
little_eight b h =
    let e : little (drop 8 b) ≡ 0 = rw (drop_of_length-le b {i = 8} (le_of_eq h)) in
    omega (arith, little_at b 0, little_at b 1, little_at b 2, little_at b 3, little_at b 4, little_at b 5, little_at b 6, little_at b 7)

-- n bytes give a number below 256 ^ n
pub little_lt : (bs : List ℕ) → T (are_bytes bs) → little bs < 256 ^ length bs
unfolding little
little_lt [] t = omega arith
little_lt (b ∷ bs) t =
    let h = ltb→lt b 256 (and_l (ltb b 256) (are_bytes bs) t) in
    let l = little_lt bs (and_r (ltb b 256) (are_bytes bs) t) in
    omega (arith, h, l, pow-suc 256 (length bs), mul_comm (256 ^ length bs) 256)

-- the bytes of the number that bytes give
pub bytes_of_little : (bs : List ℕ) → T (are_bytes bs) → little_bytes (length bs) (little bs) ≡ bs
unfolding little little_bytes
bytes_of_little [] t = refl
bytes_of_little (b ∷ bs) t =
    let h = ltb→lt b 256 (and_l (ltb b 256) (are_bytes bs) t) in
    let low : (b + 256 * little bs) % 256 ≡ b = omega arith in
    let high : (b + 256 * little bs) / 256 ≡ little bs = omega arith in
    rw (low, high, bytes_of_little bs (and_r (ltb b 256) (are_bytes bs) t))

-- the number that the bytes of a number give
pub little_of_bytes : (n w : ℕ) → w < 256 ^ n → little (little_bytes n w) ≡ w
unfolding little little_bytes
little_of_bytes zero w h = omega arith
little_of_bytes (suc n) w h =
    let l : w / 256 < 256 ^ n = omega (arith, pow-suc 256 n, mul_comm (256 ^ n) 256) in
    rw (little_of_bytes n (w / 256) l) (omega arith)

pub length_bytes : (n w : ℕ) → length (little_bytes n w) ≡ n
unfolding little_bytes
length_bytes zero w = refl
length_bytes (suc n) w = ap suc (length_bytes n (w / 256))

-- bytes that are taken from bytes, joined, or a number's
take_bytes : (k : ℕ) (s : List ℕ) → T (are_bytes s) → T (are_bytes (take k s))
take_bytes zero s t = tt
take_bytes (suc k) [] t = tt
take_bytes (suc k) (x ∷ s) t =
    and_both (ltb x 256) (are_bytes (take k s)) (and_l (ltb x 256) (are_bytes s) t) (take_bytes k s (and_r (ltb x 256) (are_bytes s) t))

drop_bytes : (k : ℕ) (s : List ℕ) → T (are_bytes s) → T (are_bytes (drop k s))
drop_bytes zero s t = t
drop_bytes (suc k) [] t = tt
drop_bytes (suc k) (x ∷ s) t = drop_bytes k s (and_r (ltb x 256) (are_bytes s) t)

pub part_bytes : (s : List ℕ) (start k : ℕ) → T (are_bytes s) → T (are_bytes (take k (drop start s)))
part_bytes s start k t = take_bytes k (drop start s) (drop_bytes start s t)

pub append_bytes : (s u : List ℕ) → T (are_bytes s) → T (are_bytes u) → T (are_bytes (s ++ u))
append_bytes [] u t v = v
append_bytes (x ∷ s) u t v =
    and_both (ltb x 256) (are_bytes (s ++ u)) (and_l (ltb x 256) (are_bytes s) t) (append_bytes s u (and_r (ltb x 256) (are_bytes s) t) v)

pub number_bytes : (n w : ℕ) → T (are_bytes (little_bytes n w))
unfolding little_bytes
number_bytes zero w = tt
number_bytes (suc n) w =
    and_both (ltb (w % 256) 256) (are_bytes (little_bytes n (w / 256))) (lt→ltb (w % 256) 256 (omega arith)) (number_bytes n (w / 256))

-- n elements of a list, from i on
abbrev pub elements : ℕ → ℕ → List ℕ → List ℕ
elements zero i xs = []
elements (suc n) i xs = get_or xs i 0 ∷ elements n (suc i) xs

pub drop_elements : (n i : ℕ) (xs : List ℕ) → length xs ≡ i + n → drop i xs ≡ elements n i xs
drop_elements zero i xs e = rw (← add-zero i, ← e) (drop-length xs)
drop_elements (suc n) i xs e =
    drop-cons xs i 0 (omega arith) ∙ ap (λ (l : List ℕ). get_or xs i 0 ∷ l) (drop_elements n (suc i) xs (omega arith))

bytes_eight : (w : ℕ) → w % 256 ∷ w / 256 % 256 ∷ w / 65536 % 256 ∷ w / 16777216 % 256 ∷ w / 4294967296 % 256 ∷ w / 1099511627776 % 256
    ∷ w / 281474976710656 % 256 ∷ w / 72057594037927936 % 256 ∷ [] ≡ little_bytes 8 w
unfolding little_bytes
bytes_eight w = simp div-div-eq-div-mul

-- eight bytes as the library reads and writes them
pub load_eight : (b : List ℕ) {n : ℕ} → length b ≡ 8 → n ≡ from_le_bytes w64 b → n ≡ little b
load_eight b h e = omega (arith, little_eight b h, e)

pub store_eight : (w : ℕ) → to_le_bytes w64 w ≡ little_bytes 8 w
store_eight w = bytes_eight w
