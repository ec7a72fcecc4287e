-- The form of an instruction, written out; and back. Assumes nothing.
use mathlib.Core.Path.{◌≡◌, refl, sym, ap, ◌∙◌}
use mathlib.Core.Bool.{Bool, true, false, ◌&&◌}
use mathlib.Core.List.{List, [], ◌∷◌, ◌++◌}
use Prim.Native.Nat.{ℕ, zero, suc, ◌+◌, ◌*◌, ◌/◌, ◌%◌, ◌<◌, ◌≤◌}
use native.Mathlib.Nat.{div-div-eq-div-mul, mod-eq_of_lt}
use native.Mathlib.Omega.{arith}
use lib.Dec.{eqb}
use lib.IntN.{ℤ, pos, negsuc}
use lib.ListN.{length, get_or, take, drop}
use lib.Seq.{drop-cons}
use mir.Syntax.{w32}
use mir.Val.{SFits}
use borrow.Author.Tests.{lt-ltb, ne_eqb}
use Rattle.bits.specs.Bytes.{little_bytes}
use Rattle.bits.specs.Signed.{unsigned, signed}
use Rattle.bits.proofs.SignedLaws.{back_again}
use Rattle.writing.specs.Writer.{heads}
use Rattle.record.specs.Lists.{source_list, modifier_list}
use Rattle.record.specs.declared.instruction.Instruction.{Instruction}
use Rattle.form.specs.Form.{half, form_of, pick, instruction_of_form}
use Rattle.form.proofs.OffsetLaws.{few}

pub bytes_four : (n : ℕ) → little_bytes 4 n ≡ n % 256 ∷ n / 256 % 256 ∷ n / 65536 % 256 ∷ n / 16777216 % 256 ∷ []
unfolding little_bytes
bytes_four n = simp div-div-eq-div-mul

pub form_bytes : (i : Instruction) (n : ℕ) → n ≡ unsigned half i.offset
    → heads i ++ source_list i.sources ++ modifier_list i.modifiers ++ (0 ∷ n % 256 ∷ n / 256 % 256 ∷ n / 65536 % 256 ∷ n / 16777216 % 256 ∷ 0 ∷ 0 ∷ 0 ∷ 0 ∷ []) ≡ form_of i
unfolding form_of
form_bytes i n e = rw (e, bytes_four (unsigned half i.offset))

-- bytes of a form

pub picked : (n k : ℕ) (f : List ℕ) → k + n ≤ length f → take n (drop k f) ≡ pick n k f
picked zero k f l = refl
picked (suc n) k f l = rw (drop-cons f k 0 (omega (arith, l))) (ap (λ (x : List ℕ). get_or f k 0 ∷ x) (picked n (suc k) f (omega (arith, l))))

-- padding

both_zero : (a b : ℕ) → (eqb a 0 && eqb b 0) ≡ eqb (a + b) 0
both_zero zero b = ap (λ (n : ℕ). eqb n 0) (omega arith)
both_zero (suc a) b = rw (ne_eqb (suc a) 0 (λ q. omega (arith, q)), ne_eqb (suc a + b) 0 (λ q. omega (arith, q))) refl

and_true : (t : Bool) → (t && true) ≡ t
and_true true = refl
and_true false = refl

pub all_zero : (a b c d e : ℕ) → (eqb a 0 && (eqb b 0 && (eqb c 0 && (eqb d 0 && (eqb e 0 && true))))) ≡ eqb (a + b + c + d + e) 0
all_zero a b c d e =
    let sum : a + (b + (c + (d + e))) ≡ a + b + c + d + e = omega arith in
    rw (and_true (eqb e 0), both_zero d e, both_zero c (d + e), both_zero b (c + (d + e)), both_zero a (b + (c + (d + e)))) (ap (λ (n : ℕ). eqb n 0) sum)

-- there and back

in_32 : (z : ℤ) → SFits w32 z → unsigned half z < half + half
unfolding unsigned
in_32 (pos n) s = let q : n < half = omega (arith, s.sfits) in rw (lt-ltb n half q) (omega arith)
in_32 (negsuc n) s = let q : n < half = omega (arith, s.sfits) in rw (lt-ltb n half q) (omega arith)

four : (n : ℕ) → n < half + half → n % 256 + 256 * (n / 256 % 256 + 256 * (n / 65536 % 256 + 256 * (n / 16777216 % 256))) ≡ n
four n l =
    let a : n / 256 / 256 ≡ n / 65536 = div-div-eq-div-mul n 256 256 in
    let b : n / 65536 / 256 ≡ n / 16777216 = div-div-eq-div-mul n 65536 256 in
    let top : n / 16777216 < 256 = omega arith in
    let three : n / 16777216 % 256 ≡ n / 16777216 = mod-eq_of_lt top in
    let two : n / 65536 % 256 + 256 * (n / 16777216) ≡ n / 65536 = omega (arith, b) in
    let one : n / 256 % 256 + 256 * (n / 65536) ≡ n / 256 = omega (arith, a) in
    rw (three, two, one) (omega arith)

-- the instruction of an instruction's form is that instruction
pub form_back : (i : Instruction) → SFits w32 i.offset → instruction_of_form (form_of i) ≡ i
form_back i s =
    let n = unsigned half i.offset in
    let e : signed half (n % 256 + 256 * (n / 256 % 256 + 256 * (n / 65536 % 256 + 256 * (n / 16777216 % 256)))) ≡ i.offset =
    ap (signed half) (four n (in_32 i.offset s)) ∙ back_again half few i.offset (in_32 i.offset s) in
    ap instruction_of_form (sym (form_bytes i n refl)) ∙ (λ j. record {
      row = i.row;
      page = i.page;
      flow = i.flow;
      register = i.register;
      half_mask = i.half_mask;
      sources = i.sources;
      modifiers = i.modifiers;
      offset = e j;
    })
