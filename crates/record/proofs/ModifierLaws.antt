-- The modifiers of a word by the widths of its row's. Assumes nothing.
use mathlib.Core.Path.{◌≡◌, refl, ap, ap₂, sym, ◌∙◌}
use mathlib.Core.List.{List, [], ◌∷◌}
use Prim.Native.Nat.{ℕ, suc, ◌*◌, ◌/◌, ◌%◌, ◌^◌}
use native.Mathlib.Nat.{div-eq_of_lt, mod-one, zero-mod}
use lib.ListN.{length, replicate}
use lib.Pow.{pow_pos}
use Rattle.bits.specs.Fields.{bits}
use Rattle.rows.specs.Layout.{modifier_lows}
use Rattle.record.specs.Served.Modifiers.{modifiers_from, modifiers_in}

-- ---- no widths, no modifiers

no_bits : (n p : ℕ) → bits n p 0 ≡ 0
no_bits n p = mod-one (n / 2 ^ p)

of_zero : (p n : ℕ) → bits 0 p n ≡ 0
of_zero p n = ap (λ (x : ℕ). x % 2 ^ n) (div-eq_of_lt (pow_pos p)) ∙ zero-mod (2 ^ n)

none_from : (w : ℕ) (ps : List ℕ) (j : ℕ) → replicate (length ps) 0 ≡ modifiers_from 0 w ps j
none_from w [] j = refl
none_from w (p ∷ ps) j = ap₂ (λ (x : ℕ) (xs : List ℕ). x ∷ xs) (sym (ap (bits w p) (of_zero (4 * j) 3) ∙ no_bits w p)) (none_from w ps (suc j))

pub none_there : (w : ℕ) {n : ℕ} → n ≡ 0 → replicate 14 0 ≡ modifiers_in n w
unfolding modifiers_in
none_there w e = none_from w modifier_lows 0 ∙ ap (λ (n : ℕ). modifiers_from n w modifier_lows 0) (sym e)
