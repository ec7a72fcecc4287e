-- Bits are reversed by exchanging the halves of each run of bits, from runs of 32 down to runs of 2. Assumes nothing.
use mathlib.Core.Path.{◌≡◌, refl, sym, ap, ap₂, ◌∙◌}
use Prim.Native.Nat.{ℕ, zero, suc, ◌+◌, ◌-◌, ◌*◌, ◌/◌, ◌%◌, ◌^◌, ◌<◌}
use native.Mathlib.Nat.{suc-mul, pow-succ', lt_of_lt_of_le, le-add_right, zero-mul, zero-add, add-suc, suc-add, add-mul, mul_assoc, mul_right_comm, mod-lt, mod-one, div-one, mod-eq_of_lt, mul-le-mul_right, lt_of_le_of_lt, add_comm}
use native.Mathlib.Numerals.{one-add, add-one}
use native.Mathlib.Omega.{arith}
use lib.Arith.{digits_lt}
use lib.Pow.{pow-add, mod-pow-add, pow_pos, pow_mono, shr-shr, mod-mod-pow, split, high, shl_lt, ones_lt}
use lib.Bits.{bit_and, bit_or, and_zero_r, and_block, and_mask, and_le_r, or_block, or_shifted_r, block_half, block_odd}
use Rattle.ops.specs.Rows.{reversed}

-- ---- reversing the bits of a run of j + k bits

-- what stands above k bits doesn't count
above : (k a r : ℕ) → reversed k (a * 2 ^ k + r) ≡ reversed k r
unfolding reversed
above zero a r = refl
above (suc k) a r = ap₂ (λ (x y : ℕ). x * 2 ^ k + reversed k y) (block_odd a k r) (block_half a k r) ∙ ap (λ (x : ℕ). r % 2 * 2 ^ k + x) (above k a (r / 2))

within : (k x : ℕ) → reversed k (x % 2 ^ k) ≡ reversed k x
within k x = sym (above k (x / 2 ^ k) (x % 2 ^ k)) ∙ ap (reversed k) (split x k)

pub reversed_lt : (k x : ℕ) → reversed k x < 2 ^ k
unfolding reversed
reversed_lt zero x = omega arith
reversed_lt (suc k) x = rw (pow-succ' 2 k) (digits_lt {q = x % 2} {m = 2} (omega arith) (reversed_lt k (x / 2)))

pub half : (x j : ℕ) → x / 2 / 2 ^ j ≡ x / 2 ^ suc j
half x j = shr-shr x 1 j ∙ ap (λ (i : ℕ). x / 2 ^ i) (one-add j)

-- the lower j bits, reversed, stand above the k others
parts : (j k x : ℕ) → reversed (j + k) x ≡ reversed j x * 2 ^ k + reversed k (x / 2 ^ j)
unfolding reversed
parts zero k x = ap (λ (i : ℕ). reversed i x) (zero-add k) ∙ sym (ap₂ (λ (a b : ℕ). a + reversed k b) (zero-mul (2 ^ k)) (div-one x) ∙ zero-add (reversed k x))
parts (suc j) k x =
    let b = x % 2 in
    let r = reversed j (x / 2) in
    ap (λ (i : ℕ). reversed i x) (suc-add j k)
    ∙ ap₂ (λ (p q : ℕ). b * p + q) (pow-add 2 j k) (parts j k (x / 2) ∙ ap (λ (q : ℕ). r * 2 ^ k + reversed k q) (half x j))
    ∙ omega (arith, mul_assoc b (2 ^ j) (2 ^ k), add-mul (b * 2 ^ j) r (2 ^ k))

-- ---- n runs of k bits, each reversed, and n runs of 2 s bits, each with its halves exchanged
turned : ℕ → ℕ → ℕ → ℕ
turned k zero x = 0
turned k (suc n) x = turned k n (x / 2 ^ k) * 2 ^ k + reversed k x

swapped : ℕ → ℕ → ℕ → ℕ
swapped s zero x = 0
swapped s (suc n) x = swapped s n (x / 2 ^ (s + s)) * 2 ^ (s + s) + (x % 2 ^ s * 2 ^ s + x / 2 ^ s % 2 ^ s)

-- with its halves exchanged, a run of 2 k bits is reversed where each half is
turn : (k n x : ℕ) → turned (k + k) n x ≡ turned k (n + n) (swapped k n x)
unfolding turned swapped
turn k zero x = refl
turn k (suc n) x =
    let a = x % 2 ^ k in
    let b = x / 2 ^ k % 2 ^ k in
    let z = swapped k n (x / 2 ^ (k + k)) in
    let t = turned k (n + n) z in
    let y = z * 2 ^ (k + k) + (a * 2 ^ k + b) in
    let A : a < 2 ^ k = mod-lt x (pow_pos k) in
    let B : b < 2 ^ k = mod-lt (x / 2 ^ k) (pow_pos k) in
    let w : z * 2 ^ (k + k) ≡ z * 2 ^ k * 2 ^ k = ap (λ (p : ℕ). z * p) (pow-add 2 k k) ∙ sym (mul_assoc z (2 ^ k) (2 ^ k)) in
    let is : y ≡ (z * 2 ^ k + a) * 2 ^ k + b = omega (arith, w, add-mul (z * 2 ^ k) a (2 ^ k)) in
    let up : y / 2 ^ k ≡ z * 2 ^ k + a = ap (λ (p : ℕ). p / 2 ^ k) is ∙ high (z * 2 ^ k + a) k B in
    let low_run : reversed k y ≡ reversed k (x / 2 ^ k) = ap (reversed k) is ∙ above k (z * 2 ^ k + a) b ∙ within k (x / 2 ^ k) in
    let high_run : reversed k (y / 2 ^ k) ≡ reversed k x = ap (reversed k) up ∙ above k z a ∙ within k x in
    let rest : y / 2 ^ k / 2 ^ k ≡ z = ap (λ (p : ℕ). p / 2 ^ k) up ∙ high z k A in
    let left : turned (k + k) n (x / 2 ^ (k + k)) * 2 ^ (k + k) + reversed (k + k) x ≡ t * (2 ^ k * 2 ^ k) + (reversed k x * 2 ^ k + reversed k (x / 2 ^ k)) =
    ap₂ (λ (p q : ℕ). p + q) (ap₂ (λ (p q : ℕ). p * q) (turn k n (x / 2 ^ (k + k))) (pow-add 2 k k)) (parts k k x) in
    let right : turned k (suc n + suc n) y ≡ (t * 2 ^ k + reversed k x) * 2 ^ k + reversed k (x / 2 ^ k) =
    ap (λ (i : ℕ). turned k i y) (suc-add n (suc n) ∙ ap suc (add-suc n n))
    ∙ ap₂ (λ (p q : ℕ). p * 2 ^ k + q) (ap₂ (λ (p q : ℕ). turned k (n + n) p * 2 ^ k + q) rest high_run) low_run in
    left ∙ omega (arith, mul_assoc t (2 ^ k) (2 ^ k), add-mul (t * 2 ^ k) (reversed k x) (2 ^ k)) ∙ sym right

-- ---- the exchange by masks: n runs of 2 s bits, in each of which the lower s are 1
mask : ℕ → ℕ → ℕ
mask s zero = 0
mask s (suc n) = mask s n * 2 ^ (s + s) + (2 ^ s - 1)

masked : (s n x : ℕ) → bit_and x (mask s (suc n)) ≡ bit_and (x / 2 ^ (s + s)) (mask s n) * 2 ^ (s + s) + x % 2 ^ s
unfolding mask
masked s n x =
    let k = s + s in
    ap (λ (y : ℕ). bit_and y (mask s n * 2 ^ k + (2 ^ s - 1))) (sym (split x k))
    ∙ and_block k (x / 2 ^ k) (mask s n) (x % 2 ^ k) (2 ^ s - 1) (mod-lt x (pow_pos k)) (lt_of_lt_of_le (ones_lt s) (pow_mono (le-add_right s s)))
    ∙ ap (λ (y : ℕ). bit_and (x / 2 ^ k) (mask s n) * 2 ^ k + y) (and_mask (x % 2 ^ k) s ∙ mod-mod-pow x s s)

exchange : (s n x : ℕ) → bit_or (bit_and (x / 2 ^ s) (mask s n)) (bit_and x (mask s n) * 2 ^ s) ≡ swapped s n x
unfolding swapped mask
exchange s zero x = ap₂ (λ (p q : ℕ). bit_or p (q * 2 ^ s)) (and_zero_r (x / 2 ^ s)) (and_zero_r x) ∙ zero-mul (2 ^ s)
exchange s (suc n) x =
    let k = s + s in
    let y = x / 2 ^ k in
    let a = x % 2 ^ s in
    let b = x / 2 ^ s % 2 ^ s in
    let q = bit_and y (mask s n) in
    let A : a < 2 ^ s = mod-lt x (pow_pos s) in
    let B : b < 2 ^ s = mod-lt (x / 2 ^ s) (pow_pos s) in
    let e : x / 2 ^ s / 2 ^ k ≡ y / 2 ^ s = shr-shr x s k ∙ ap (λ (i : ℕ). x / 2 ^ i) (add_comm s k) ∙ sym (shr-shr x k s) in
    ap₂ (λ (p r : ℕ). bit_or p (r * 2 ^ s)) (masked s n (x / 2 ^ s) ∙ ap (λ (p : ℕ). bit_and p (mask s n) * 2 ^ k + b) e) (masked s n x)
    ∙ ap (bit_or (bit_and (y / 2 ^ s) (mask s n) * 2 ^ k + b)) (add-mul (q * 2 ^ k) a (2 ^ s) ∙ ap (λ (p : ℕ). p + a * 2 ^ s) (mul_right_comm q (2 ^ k) (2 ^ s)))
    ∙ or_block k (bit_and (y / 2 ^ s) (mask s n)) (q * 2 ^ s) b (a * 2 ^ s) (lt_of_lt_of_le B (pow_mono (le-add_right s s))) (shl_lt s s A)
    ∙ ap₂ (λ (p r : ℕ). p * 2 ^ k + r) (exchange s n y) (or_shifted_r a s b B)

-- as the code has it: nothing is shifted out
abbrev pub exchanged : ℕ → ℕ → ℕ → ℕ
exchanged s m x = bit_or (bit_and (x / 2 ^ s) m) (bit_and x m * 2 ^ s % 2 ^ 32)

exchanges : (s n x : ℕ) → mask s n * 2 ^ s < 2 ^ 32 → exchanged s (mask s n) x ≡ swapped s n x
exchanges s n x h =
    ap (bit_or (bit_and (x / 2 ^ s) (mask s n))) (mod-eq_of_lt (lt_of_le_of_lt (mul-le-mul_right (2 ^ s) (and_le_r x (mask s n))) h)) ∙ exchange s n x

-- ---- all five exchanges
single : (n y : ℕ) → turned 1 n y ≡ y % 2 ^ n
unfolding turned reversed
single zero y = sym (mod-one y)
single (suc n) y =
    ap (λ (p : ℕ). p * 2 + (y % 2 * 1 + 0)) (single n (y / 2))
    ∙ omega (arith, mod-pow-add y n 1)
    ∙ ap (λ (i : ℕ). y % 2 ^ i) (add-one n)

swapped_lt : (s n x : ℕ) → swapped s n x < 2 ^ (n * (s + s))
unfolding swapped
swapped_lt s zero x = rw (zero-mul (s + s)) (omega arith)
swapped_lt s (suc n) x =
    let low_run : x % 2 ^ s * 2 ^ s + x / 2 ^ s % 2 ^ s < 2 ^ (s + s) = rw (pow-add 2 s s) (digits_lt (mod-lt x (pow_pos s)) (mod-lt (x / 2 ^ s) (pow_pos s))) in
    rw (suc-mul n (s + s), pow-add 2 (n * (s + s)) (s + s)) (digits_lt (swapped_lt s n (x / 2 ^ (s + s))) low_run)

one_run : (x : ℕ) → reversed 32 x ≡ turned 32 1 x
unfolding turned
one_run x = omega arith

reverses : (x : ℕ) → swapped 1 16 (swapped 2 8 (swapped 4 4 (swapped 8 2 (swapped 16 1 x)))) ≡ reversed 32 x
reverses x =
    let a = swapped 16 1 x in
    let b = swapped 8 2 a in
    let c = swapped 4 4 b in
    let d = swapped 2 8 c in
    sym (one_run x ∙ turn 16 1 x ∙ turn 8 2 a ∙ turn 4 4 b ∙ turn 2 8 c ∙ turn 1 16 d ∙ single 32 (swapped 1 16 d) ∙ mod-eq_of_lt (swapped_lt 1 16 d))

-- with the masks written out
pub five : (x a b c d e : ℕ) → a ≡ exchanged 16 0x0000FFFF x → b ≡ exchanged 8 0x00FF00FF a → c ≡ exchanged 4 0x0F0F0F0F b → d ≡ exchanged 2 0x33333333 c → e ≡ exchanged 1 0x55555555 d
    → e ≡ reversed 32 x
unfolding mask
five x a b c d e p q r s t =
    let p' : a ≡ swapped 16 1 x = p ∙ exchanges 16 1 x (omega arith) in
    let q' : b ≡ swapped 8 2 a = q ∙ exchanges 8 2 a (omega arith) in
    let r' : c ≡ swapped 4 4 b = r ∙ exchanges 4 4 b (omega arith) in
    let s' : d ≡ swapped 2 8 c = s ∙ exchanges 2 8 c (omega arith) in
    let t' : e ≡ swapped 1 16 d = t ∙ exchanges 1 16 d (omega arith) in
    let whole = reverses x in
    cc
