use mathlib.Core.Path.{◌≡◌, refl, sym, ap, ◌∙◌}
use mathlib.Core.List.{List, [], ◌∷◌, ◌++◌, append-nil, map}
use Prim.Native.Nat.{ℕ, zero, suc, ◌-◌, ◌<◌, ◌≤◌}
use native.Mathlib.Nat.{not-suc-le-zero, le_of_suc-le-suc}
use native.Mathlib.Omega.{arith}
use lib.ListN.{length, get_or}
use Rattle.rows.specs.Layout.{modifier_lows}
use Rattle.differences.specs.Records.{fields}
use Rattle.differences.specs.declared.line.What.{What}
use Rattle.differences.specs.declared.line.What.TheVariants.{Row, Source, Modifier}
use Rattle.differences.proofs.line.field.Goals as goal

mapped : (g : ℕ → What) (l : List ℕ) (more : List What) (j : ℕ) → j < length l → get_or (map g l ++ more) j Row ≡ g (get_or l j 0)
mapped g [] more j h = absurd (not-suc-le-zero h)
mapped g (x ∷ l) more zero h = refl
mapped g (x ∷ l) more (suc j) h = mapped g l more j (le_of_suc-le-suc h)

-- field 8 + j is modifier j
a_modifier : (j : ℕ) → j < 14 → get_or fields (suc (suc (suc (suc (suc (suc (suc (suc j)))))))) Row ≡ Modifier (get_or modifier_lows j 0)
unfolding fields
a_modifier j h = ap (λ (l : List What). get_or l j Row) (sym (append-nil (map Modifier modifier_lows))) ∙ mapped Modifier modifier_lows [] j h

pub upper : (f : ℕ) → 8 ≤ f → f < 22 → Modifier (get_or modifier_lows (f - 8) 0) ≡ get_or fields f Row
upper f l h =
    let e : suc (suc (suc (suc (suc (suc (suc (suc (f - 8)))))))) ≡ f = omega arith in
    sym (a_modifier (f - 8) (omega arith)) ∙ ap (λ (n : ℕ). get_or fields n Row) e

-- field 4 + k is source k
a_source : (k : ℕ) → k < 4 → get_or fields (suc (suc (suc (suc k)))) Row ≡ Source k
unfolding fields
a_source k h = mapped Source (0 ∷ 1 ∷ 2 ∷ 3 ∷ []) (map Modifier modifier_lows) k h ∙ ap Source (counted k h)
  where
    counted : (k : ℕ) → k < 4 → get_or (0 ∷ 1 ∷ 2 ∷ 3 ∷ []) k 0 ≡ k
    counted zero h = refl
    counted (suc zero) h = refl
    counted (suc (suc zero)) h = refl
    counted (suc (suc (suc zero))) h = refl
    counted (suc (suc (suc (suc k)))) h = absurd (omega (arith, h))

pub middle : (f : ℕ) → 4 ≤ f → f < 8 → Source (f - 4) ≡ get_or fields f Row
middle f l h =
    let e : suc (suc (suc (suc (f - 4)))) ≡ f = omega arith in
    sym (a_source (f - 4) (omega arith)) ∙ ap (λ (n : ℕ). get_or fields n Row) e

is : (f n : ℕ) {x : What} → f ≡ n → x ≡ get_or fields n Row → x ≡ get_or fields f Row
is f n e q = q ∙ ap (λ (k : ℕ). get_or fields k Row) (sym e)

pub returns-in-0 : goal.returns-in-0
unfolding fields
returns-in-0 c = is c.args.f 0 (omega arith) refl

pub returns-in-1 : goal.returns-in-1
unfolding fields
returns-in-1 c = is c.args.f 1 (omega arith) refl

pub returns-in-2 : goal.returns-in-2
unfolding fields
returns-in-2 c = is c.args.f 2 (omega arith) refl

pub returns-in-3 : goal.returns-in-3
unfolding fields
returns-in-3 c = is c.args.f 3 (omega arith) refl

pub returns-in-4-to-7 : goal.returns-in-4-to-7
returns-in-4-to-7 c = middle c.args.f (omega arith) (omega arith)

pub returns-in_default : goal.returns-in_default
returns-in_default c = upper c.args.f (omega arith) c.requires
