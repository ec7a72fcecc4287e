-- Laws of sets of halves. Assumes nothing.
use mathlib.Core.Path.{◌≡◌, refl, subst}
use mathlib.Core.Logic.{inl, inr, ⊎_elim, ◌↔◌}
use Prim.Native.Nat.{ℕ}
use Rattle.bits.specs.Sets.{Has}
use Rattle.bits.specs.Halves.{Half, lower, upper, half_of, both, either, minus_halves}
use Rattle.bits.specs.declared.halves.Halves.{Halves}
use Rattle.bits.proofs.SetLaws.{has_dec, has_or, has_minus, has_none, empty}

pub half_of_both : (h : Half) (s : ℕ) → half_of h (both s) ≡ s
half_of_both lower s = refl
half_of_both upper s = refl

-- a half that is in the set is one of a register of which a half is
pub in_either : (s : Halves) (h : Half) (r : ℕ) → Has (half_of h s) r → Has (either s) r
in_either s lower r k = (has_or s.low s.high r).1 (inl k)
in_either s upper r k = (has_or s.low s.high r).1 (inr k)

-- and the other way round
pub of_either : (s : Halves) (r : ℕ) → Has (either s) r → (h : Half) × Has (half_of h s) r
of_either s r k = ⊎_elim (λ a. (lower, a)) (λ b. (upper, b)) ((has_or s.low s.high r).0 k)

pub has_missing : (a b : Halves) (h : Half) (r : ℕ) → Has (half_of h (minus_halves a b)) r ↔ (Has (half_of h a) r × ¬ Has (half_of h b) r)
has_missing a b lower r = has_minus a.low b.low r
has_missing a b upper r = has_minus a.high b.high r

-- no half of a is missing from b exactly where b has each half that a has
module _ (a b : Halves) where
  pub covered : either (minus_halves a b) ≡ 0 → (h : Half) (r : ℕ) → Has (half_of h a) r → Has (half_of h b) r
  covered e h r k =
      ⊎_elim (λ y. y)
      (λ n. absurd (has_none r (subst (λ (s : ℕ). Has s r) e (in_either (minus_halves a b) h r ((has_missing a b h r).1 (k, n))))))
      (has_dec (half_of h b) r)

  pub covering : ((h : Half) (r : ℕ) → Has (half_of h a) r → Has (half_of h b) r) → either (minus_halves a b) ≡ 0
  covering f =
      empty (either (minus_halves a b)) (λ r k.
      let m = of_either (minus_halves a b) r k in
      let n = (has_missing a b m.0 r).0 m.1 in n.1 (f m.0 r n.0))
