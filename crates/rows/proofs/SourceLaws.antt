-- Which source bytes are legal, and where the two words of a special value stand. Assumes nothing.
use mathlib.Core.Path.{◌≡◌, refl, ap, sym, ◌∙◌}
use mathlib.Core.Bool.{Bool, true, false, not, true≢false, false≢true}
use mathlib.Core.List.{List, []}
use mathlib.Core.Logic.{◌⊎◌, inl, inr, ⊎_elim}
use Prim.Native.Nat.{ℕ, zero, suc, ◌+◌, ◌-◌, ◌*◌, ◌/◌, ◌%◌, ◌<◌, ◌≤◌}
use native.Mathlib.Omega.{arith}
use lib.Dec.{ltb, eqb}
use lib.ListN.{get_or}
use borrow.Author.Tests.{lt-ltb, le-ltb, eq-eqb, ne_eqb, eqb-true, eqb-false}
use Rattle.bits.specs.Fields.{choose}
use Rattle.bits.specs.Sets.{has}
use Rattle.rows.specs.Sources.{Special, reserved, warp_id, framebuffer_size, atest_datum, sample, blend_descriptor, thread_local_pointer, workgroup_local_pointer, resource_table_pointer, lane_id, core_id, program_counter, Part, low_word, high_word, Meaning, register_read, register_released, uniform, immediate, special, refused, immediates, pages, special_at, is_reserved, is_refused, special_meaning, part_of, pair_meaning, constant_meaning, meaning, source_legal, Paired}
use Rattle.rows.specs.Served.Table.{set_of, page_word}
use Rattle.rows.proofs.SetOfLaws.{has_set_of}

-- the values that are not reserved, as a set
pub page_has : (p i : ℕ) → i < 16 → has (page_word p) i ≡ not (is_reserved (special_at p i))
page_has p i h = has_set_of (λ (j : ℕ). not (is_reserved (special_at p j))) 16 i h

-- pages besides 0, 1 and 3 have no special value
empty_page : (p : ℕ) → (p ≡ 0 → ⊥) → (p ≡ 1 → ⊥) → (p ≡ 3 → ⊥) → [] ≡ get_or pages p []
empty_page zero n₀ n₁ n₃ = absurd (n₀ refl)
empty_page (suc zero) n₀ n₁ n₃ = absurd (n₁ refl)
empty_page (suc (suc zero)) n₀ n₁ n₃ = refl
empty_page (suc (suc (suc zero))) n₀ n₁ n₃ = absurd (n₃ refl)
empty_page (suc (suc (suc (suc p)))) n₀ n₁ n₃ = refl

pub no_specials : (p : ℕ) → (p ≡ 0 → ⊥) → (p ≡ 1 → ⊥) → (p ≡ 3 → ⊥) → 0 ≡ page_word p
no_specials p n₀ n₁ n₃ =
    ap (λ (l : List Special). set_of (λ (i : ℕ). not (is_reserved (get_or l i reserved))) 16) (empty_page p n₀ n₁ n₃)

-- ---- entry by entry and byte by byte
pub at_immediate : (p e : ℕ) → e < 32 → immediate (get_or immediates e 0) ≡ constant_meaning p e
at_immediate p e h = rw (lt-ltb e 32 h)

pub at_pair : (p e : ℕ) → 32 ≤ e → pair_meaning p (e - 32) ≡ constant_meaning p e
at_pair p e h = rw (le-ltb e 32 h)

pub at_read : (p b : ℕ) → b < 64 → register_read b ≡ meaning p b
unfolding meaning
at_read p b h = rw (lt-ltb b 64 h)

pub at_released : (p b : ℕ) → 64 ≤ b → b < 128 → register_released (b - 64) ≡ meaning p b
unfolding meaning
at_released p b l h = rw (le-ltb b 64 l, lt-ltb b 128 h)

pub at_uniform : (p b : ℕ) → 128 ≤ b → b < 192 → uniform (b - 128 + 64 * p) ≡ meaning p b
unfolding meaning
at_uniform p b l h = rw (le-ltb b 64 (omega arith), le-ltb b 128 l, lt-ltb b 192 h)

pub at_constant : (p b : ℕ) → 192 ≤ b → constant_meaning p (b - 192) ≡ meaning p b
unfolding meaning
at_constant p b l = rw (le-ltb b 64 (omega arith), le-ltb b 128 (omega arith), le-ltb b 192 l)

-- ---- which bytes are legal

-- a word of a value is refused exactly where the value is reserved
refused_is : (s : Special) (q : Part) → is_refused (special_meaning s q) ≡ is_reserved s
refused_is s q = go (is_reserved s)
  where
    go : (t : Bool) → is_refused (choose t refused (special s q)) ≡ t
    go true = refl
    go false = refl

-- the bytes from 224 up are the words of the special values
pair_byte : (p b : ℕ) → 224 ≤ b → pair_meaning p (b - 224) ≡ meaning p b
pair_byte p b h =
    let e : b - 224 ≡ b - 192 - 32 = omega arith in
    ap (pair_meaning p) e ∙ at_pair p (b - 192) (omega arith) ∙ at_constant p b (omega arith)

pub source_high : (p b : ℕ) → 224 ≤ b → not (is_reserved (special_at p ((b - 224) / 2))) ≡ source_legal p b
source_high p b h =
    sym (ap not (refused_is (special_at p ((b - 224) / 2)) (part_of (b - 224)))) ∙ ap (λ (m : Meaning). not (is_refused m)) (pair_byte p b h)

-- those below are none: what holds of neither registers, uniforms nor immediates doesn't hold of them
module _ (t : Meaning → Bool) (reads : (r : ℕ) → t (register_read r) ≡ false) (releases : (r : ℕ) → t (register_released r) ≡ false)
    (uniforms : (u : ℕ) → t (uniform u) ≡ false) (immediate_values : (v : ℕ) → t (immediate v) ≡ false) where
  low_byte : (p b : ℕ) → b < 224 → t (meaning p b) ≡ false
  unfolding meaning
  low_byte p b h = go (ltb b 64) (ltb b 128) (ltb b 192)
    where
      go : (x y z : Bool)
          → t
          (choose x (register_read b)
          (choose y (register_released (b - 64))
          (choose z (uniform (b - 128 + 64 * p)) (constant_meaning p (b - 192)))))
          ≡ false
      go true y z = reads b
      go false true z = releases (b - 64)
      go false false true = uniforms (b - 128 + 64 * p)
      go false false false = sym (ap t (at_immediate p (b - 192) (omega arith))) ∙ immediate_values (get_or immediates (b - 192) 0)

pub source_low : (p b : ℕ) → b < 224 → true ≡ source_legal p b
source_low p b h = sym (ap not (low_byte is_refused (λ r. refl) (λ r. refl) (λ u. refl) (λ v. refl) p b h))

-- ---- what the answers of the code stand for

-- a value that is not reserved, and one that is
pub special_there : (p i : ℕ) (q : Part) → not (is_reserved (special_at p i)) ≡ true → special (special_at p i) q ≡ special_meaning (special_at p i) q
special_there p i q = go (is_reserved (special_at p i))
  where
    go : (t : Bool) → not t ≡ true → special (special_at p i) q ≡ choose t refused (special (special_at p i) q)
    go true e = absurd (false≢true e)
    go false e = refl

pub special_not : (p i : ℕ) (q : Part) → not (is_reserved (special_at p i)) ≡ false → refused ≡ special_meaning (special_at p i) q
special_not p i q = go (is_reserved (special_at p i))
  where
    go : (t : Bool) → not t ≡ false → refused ≡ choose t refused (special (special_at p i) q)
    go true e = refl
    go false e = absurd (true≢false e)

pub part_low : (d : ℕ) → d % 2 ≡ 0 → low_word ≡ part_of d
part_low d e = rw (eq-eqb (d % 2) 0 e)

pub part_high : (d : ℕ) → (d % 2 ≡ 0 → ⊥) → high_word ≡ part_of d
part_high d n = rw (ne_eqb (d % 2) 0 n)

-- ---- Item 2 of 02
value_reserved : (s : Special) → is_reserved s ≡ true → s ≡ reserved
value_reserved reserved e = refl
value_reserved warp_id e = absurd (false≢true e)
value_reserved framebuffer_size e = absurd (false≢true e)
value_reserved atest_datum e = absurd (false≢true e)
value_reserved sample e = absurd (false≢true e)
value_reserved (blend_descriptor n) e = absurd (false≢true e)
value_reserved thread_local_pointer e = absurd (false≢true e)
value_reserved workgroup_local_pointer e = absurd (false≢true e)
value_reserved resource_table_pointer e = absurd (false≢true e)
value_reserved lane_id e = absurd (false≢true e)
value_reserved core_id e = absurd (false≢true e)
value_reserved program_counter e = absurd (false≢true e)

no_value : (i : ℕ) → special_at 2 i ≡ reserved
no_value zero = refl
no_value (suc i) = refl

is_special : Meaning → Bool
is_special (register_read r) = false
is_special (register_released r) = false
is_special (uniform u) = false
is_special (immediate v) = false
is_special (special s q) = true
is_special refused = false

special_high : (p b : ℕ) (s : Special) (q : Part) → meaning p b ≡ special s q → 224 ≤ b
unfolding is_special
special_high p b s q e =
    let n : b < 224 → ⊥ = λ h. true≢false (sym (ap is_special e) ∙ low_byte is_special (λ r. refl) (λ r. refl) (λ u. refl) (λ v. refl) p b h) in
    omega (arith, n)

parity : (d : ℕ) → (d % 2 ≡ 0) ⊎ (d % 2 ≡ 1)
parity d = go (eqb (d % 2) 0) refl
  where
    go : (t : Bool) → eqb (d % 2) 0 ≡ t → (d % 2 ≡ 0) ⊎ (d % 2 ≡ 1)
    go true e = inl (eqb-true (d % 2) 0 e)
    go false e = inr (omega (arith, eqb-false (d % 2) 0 e))

module _ (p b : ℕ) (small : b < 256) (e : meaning p b ≡ refused) where
  not_low : b < 224 → ⊥
  not_low h = true≢false (source_low p b h ∙ ap (λ (m : Meaning). not (is_refused m)) e)

  which : (i : ℕ) × (i < 16) × ((b ≡ 192 + (32 + 2 * i)) ⊎ (b ≡ 192 + (33 + 2 * i))) × (special_at p i ≡ reserved)
  which =
      let h : 224 ≤ b = omega (arith, not_low) in
      let i : ℕ = (b - 224) / 2 in
      let q : is_reserved (special_at p i) ≡ true = sym (refused_is (special_at p i) (part_of (b - 224))) ∙ ap is_refused (pair_byte p b h ∙ e) in
      (i, omega arith, ⊎_elim (λ z. inl (omega (arith, z))) (λ z. inr (omega (arith, z))) (parity (b - 224)), value_reserved (special_at p i) q)

pub paired : Paired meaning
paired =
    record {
      low = λ p i hp h. sym (pair_byte p (192 + (32 + 2 * i)) (omega arith)) ∙ there p (192 + (32 + 2 * i) - 224) i (omega arith) ∙ ap (special_meaning (special_at p i)) (sym (part_low (192 + (32 + 2 * i) - 224) (omega arith)));
      high = λ p i hp h. sym (pair_byte p (192 + (33 + 2 * i)) (omega arith)) ∙ there p (192 + (33 + 2 * i) - 224) i (omega arith) ∙ ap (special_meaning (special_at p i)) (sym (part_high (192 + (33 + 2 * i) - 224) (λ z. omega (arith, z))));
      no_other = λ p b s q hp small e. special_high p b s q e;
      refused_only = λ p b hp small e. which p b small e;
      page_2 = λ b h small. sym (pair_byte 2 b h) ∙ ap (λ (s : Special). special_meaning s (part_of (b - 224))) (no_value ((b - 224) / 2));
    }
  where
    there : (p d i : ℕ) → d / 2 ≡ i → pair_meaning p d ≡ special_meaning (special_at p i) (part_of d)
    there p d i e = ap (λ (j : ℕ). special_meaning (special_at p j) (part_of d)) e
