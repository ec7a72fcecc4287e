-- The tests on what a source byte means are tests on the byte. Assumes nothing.
use mathlib.Core.Path.{◌≡◌, refl, sym}
use mathlib.Core.Bool.{Bool, true, false}
use Prim.Native.Nat.{ℕ, ◌+◌, ◌-◌, ◌*◌, ◌/◌, ◌<◌, ◌≤◌}
use native.Mathlib.Omega.{arith}
use lib.Dec.{ltb}
use lib.ListN.{get_or}
use borrow.Author.Tests.{lt-ltb, le-ltb, ltb-true, ltb-false}
use Rattle.bits.specs.Fields.{choose}
use Rattle.rows.specs.Sources.{Meaning, register_read, register_released, uniform, immediate, special, refused, immediates, is_reserved, special_at, part_of, meaning}
use Rattle.operations.specs.Replayable.{ordinary, supplied}

-- a meaning by the tests that lead to it
abbrev pub by_tests : ℕ → ℕ → Bool → Bool → Bool → Bool → Bool → Meaning
by_tests page b s t k e z =
    choose s (register_read b)
    (choose t (register_released (b - 64))
    (choose k (uniform (b - 128 + 64 * page))
    (choose e (immediate (get_or immediates (b - 192) 0))
    (choose z refused (special (special_at page ((b - 192 - 32) / 2)) (part_of (b - 192 - 32)))))))

ordinary_by : (page b : ℕ) (s t k e z : Bool) → ltb b 64 ≡ s → ltb b 128 ≡ t → ltb b 192 ≡ k → ltb (b - 192) 32 ≡ e → ordinary (by_tests page b s t k e z) ≡ ltb b 224
ordinary_by page b true t k e z p _ _ _ = sym (lt-ltb b 224 (omega (arith, ltb-true b 64 p)))
ordinary_by page b false true k e z _ p _ _ = sym (lt-ltb b 224 (omega (arith, ltb-true b 128 p)))
ordinary_by page b false false true e z _ _ p _ = sym (lt-ltb b 224 (omega (arith, ltb-true b 192 p)))
ordinary_by page b false false false true z _ _ q p = sym (lt-ltb b 224 (omega (arith, ltb-false b 192 q, ltb-true (b - 192) 32 p)))
ordinary_by page b false false false false true _ _ q p = sym (le-ltb b 224 (omega (arith, ltb-false b 192 q, ltb-false (b - 192) 32 p)))
ordinary_by page b false false false false false _ _ q p = sym (le-ltb b 224 (omega (arith, ltb-false b 192 q, ltb-false (b - 192) 32 p)))

pub ordinary_byte : (page b : ℕ) → ordinary (meaning page b) ≡ ltb b 224
unfolding meaning
ordinary_byte page b = ordinary_by page b (ltb b 64) (ltb b 128) (ltb b 192) (ltb (b - 192) 32) (is_reserved (special_at page ((b - 192 - 32) / 2))) refl refl refl refl

-- whether the uniform that a byte names, if it names one, is among n
abbrev named : ℕ → ℕ → ℕ → Bool
named n page b = choose (ltb b 128) true (choose (ltb b 192) (ltb (b - 128 + 64 * page) n) true)

supplied_by : (n page b : ℕ) (s t k e z : Bool) → ltb b 64 ≡ s → ltb b 128 ≡ t → supplied n (by_tests page b s t k e z) ≡ choose t true (choose k (ltb (b - 128 + 64 * page) n) true)
supplied_by n page b true true k e z _ _ = refl
supplied_by n page b true false k e z p q = absurd (omega (arith, ltb-true b 64 p, ltb-false b 128 q))
supplied_by n page b false true k e z _ _ = refl
supplied_by n page b false false true e z _ _ = refl
supplied_by n page b false false false true z _ _ = refl
supplied_by n page b false false false false true _ _ = refl
supplied_by n page b false false false false false _ _ = refl

supplied_byte : (n page b : ℕ) → supplied n (meaning page b) ≡ named n page b
unfolding meaning
supplied_byte n page b = supplied_by n page b (ltb b 64) (ltb b 128) (ltb b 192) (ltb (b - 192) 32) (is_reserved (special_at page ((b - 192 - 32) / 2))) refl refl

-- the byte of a register, of a uniform, of a constant
pub supplied_below : (n page b : ℕ) → b < 128 → supplied n (meaning page b) ≡ true
supplied_below n page b h = rw (supplied_byte n page b, lt-ltb b 128 h)

pub supplied_above : (n page b : ℕ) → 192 ≤ b → supplied n (meaning page b) ≡ true
supplied_above n page b h =
    let l : 128 ≤ b = omega arith in
    rw (supplied_byte n page b, le-ltb b 128 l, le-ltb b 192 h)

pub supplied_between : (n page b : ℕ) → 128 ≤ b → b < 192 → supplied n (meaning page b) ≡ ltb (b - 128 + 64 * page) n
supplied_between n page b l h = rw (supplied_byte n page b, le-ltb b 128 l, lt-ltb b 192 h)
