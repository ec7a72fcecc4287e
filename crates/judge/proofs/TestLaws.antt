-- What a test found, said of what it stands for. Assumes nothing.
use Rattle.std.specs.Prelude.{Ok}
use mathlib.Core.Path.{◌≡◌, ap, ap₂, sym, ◌∙◌}
use mathlib.Core.Bool.{Bool, true, false}
use Prim.Native.Nat.{ℕ, zero, suc, ◌*◌, ◌^◌, ◌<◌, ◌≤◌}
use native.Mathlib.Nat.{div-one, mod-le}
use native.Mathlib.Omega.{arith}
use lib.Dec.{eqb}
use borrow.Author.Tests.{eq-eqb, ne_eqb}
use Rattle.bits.specs.Fields.{bits}
use Rattle.bits.specs.Sets.{has}
use Rattle.rows.specs.Sources.{source_legal}
use Rattle.judge.specs.Served.Judge.{refused, judged_sources}
use Rattle.judge.specs.declared.Fit.{Fit}

-- membership, asked of a number by another name
pub asked : (s : ℕ) {u v : ℕ} {x t : Bool} → x ≡ has s v → v ≡ u → x ≡ t → has s u ≡ t
asked s e q h = sym (e ∙ ap (has s) q) ∙ h

-- one bit, asked
pub hit : {x y : ℕ} → x ≡ y → x ≡ 1 → eqb y 1 ≡ true
hit {x} {y} e h = eq-eqb y 1 (sym e ∙ h)

pub miss : {x y : ℕ} → x ≡ y → (x ≡ 1 → ⊥) → eqb y 1 ≡ false
miss {x} {y} e h = ne_eqb y 1 (λ q. h (e ∙ q))

-- the lowest bits of a number are no more than it
pub low_part : (n : ℕ) {x y : ℕ} → y ≡ bits x 0 n → y ≤ x
low_part n {x} {y} e = rw (e, div-one x) (mod-le x (2 ^ n))

-- a product with 0 or 1
pub times_bit : (x y n : ℕ) → x < n → y < 2 → x * y < n
times_bit x zero n h l = omega arith
times_bit x (suc zero) n h l = omega arith
times_bit x (suc (suc y)) n h l = absurd (omega arith)

pub legal_byte : {page b x y : ℕ} {r t : Bool} → r ≡ source_legal x y → x ≡ page → y ≡ b → r ≡ t → source_legal page b ≡ t
legal_byte e p q h = sym (ap₂ (λ (x y : ℕ). source_legal x y) p q) ∙ sym e ∙ h

module _ (f : Fit) (w : ℕ) where
  abbrev s : ℕ → Bool
  s j = source_legal (bits w 57 2) (bits f.sources (8 * j) 8)

  -- the sources before the j-th are legal
  abbrev pub LegalBelow : ℕ → Type 0
  LegalBelow j = (i : ℕ) → i < j → s i ≡ true

  pub first_illegal : (j : ℕ) → j < 4 → LegalBelow j → s j ≡ false → refused 7 j ≡ judged_sources f w
  unfolding judged_sources
  first_illegal zero h a b = rw b
  first_illegal (suc zero) h a b = rw (a 0 (omega arith), b)
  first_illegal (suc (suc zero)) h a b = rw (a 0 (omega arith), a 1 (omega arith), b)
  first_illegal (suc (suc (suc zero))) h a b = rw (a 0 (omega arith), a 1 (omega arith), a 2 (omega arith), b)
  first_illegal (suc (suc (suc (suc j)))) h a b = absurd (omega arith)

  pub all_legal : LegalBelow 4 → Ok f ≡ judged_sources f w
  unfolding judged_sources
  all_legal a = rw (a 0 (omega arith), a 1 (omega arith), a 2 (omega arith), a 3 (omega arith))
