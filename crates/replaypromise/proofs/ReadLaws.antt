-- A step reads the registers of its instruction's sources and no other. Assumes nothing.
use mathlib.Core.Path.{◌≡◌, refl, ap, ap₂}
use mathlib.Core.Bool.{Bool, true, false}
use mathlib.Core.Logic.{◌⊎◌, inl, inr}
use mathlib.Core.List.{List}
use Prim.Native.Nat.{ℕ, ◌+◌, ◌-◌, ◌/◌, ◌%◌, ◌<◌}
use native.Mathlib.Omega.{arith}
use lib.Dec.{eqb, ltb}
use lib.IntN.{pos, ◌+ℤ◌}
use lib.ListN.{get_or}
use borrow.Author.Tests.{lt-ltb, ltb-true, ltb-false, eqb-true}
use Rattle.bits.specs.Fields.{choose}
use Rattle.bits.specs.Sets.{Has, union}
use Rattle.bits.proofs.SetLaws.{has_or, has_single}
use Rattle.rows.specs.Rows.{row_of, rows}
use Rattle.rows.specs.Sources.{is_reserved, special_at, meaning}
use Rattle.record.specs.declared.instruction.Instruction.{Instruction}
use Rattle.record.specs.declared.instruction.Modifiers.{Modifiers}
use Rattle.record.specs.Lists.{source_list}
use Rattle.record.specs.Registers.{reads_register, source_set, reads}
use Rattle.fadd.specs.Single.{fadd}
use Rattle.ops.specs.Rows.{clz, popcount, bitrev, complement, jumps}
use Rattle.operations.specs.Replayable.{branchz_row, mov_row, clz_row, popcount_row, bitrev_row, not_row, fadd_row, mux_row, source_0, source_1, source_2}
use Rattle.operations.specs.Values.{worth}
use Rattle.operations.proofs.ByteLaws.{by_tests}
use Rattle.safety.specs.Program.{landing}
use Rattle.machine.specs.Steps.{is_set, row_result, takes_branch, index_after}
use Rattle.replaypromise.specs.Promises.{ReadsOnly}

-- two contents of the registers in which a source's register, if it is one, is the same
worth_by : (before other uniforms : List ℕ) (page b : ℕ) (s t k e z : Bool) → ltb b 64 ≡ s → ltb b 128 ≡ t → (b < 128 → get_or before (b % 64) 0 ≡ get_or other (b % 64) 0)
    → worth before uniforms (by_tests page b s t k e z) ≡ worth other uniforms (by_tests page b s t k e z)
worth_by before other uniforms page b true t k e z p _ h =
    let l = ltb-true b 64 p in
    let q : b % 64 ≡ b = omega arith in
    rw q at (h (omega arith))
worth_by before other uniforms page b false true k e z p q h =
    let l = ltb-true b 128 q in
    let g = ltb-false b 64 p in
    let r : b % 64 ≡ b - 64 = omega arith in
    rw r at (h l)
worth_by before other uniforms page b false false true e z _ _ h = refl
worth_by before other uniforms page b false false false true z _ _ h = refl
worth_by before other uniforms page b false false false false true _ _ h = refl
worth_by before other uniforms page b false false false false false _ _ h = refl

same_worth : (before other uniforms : List ℕ) (page b : ℕ) → (b < 128 → get_or before (b % 64) 0 ≡ get_or other (b % 64) 0)
    → worth before uniforms (meaning page b) ≡ worth other uniforms (meaning page b)
unfolding meaning
same_worth before other uniforms page b h =
    worth_by before other uniforms page b (ltb b 64) (ltb b 128) (ltb b 192) (ltb (b - 192) 32) (is_reserved (special_at page ((b - 192 - 32) / 2))) refl refl h

-- a source that the row has is among what the instruction reads
module _ (x : Instruction) where
  byte : ℕ → ℕ
  byte j = get_or (source_list x.sources) j 0

  in_source : (j : ℕ) → j < (row_of x.row).sources → byte j < 128 → Has (source_set reads_register x j) (byte j % 64)
  unfolding byte
  in_source j l h = rw (lt-ltb j (row_of x.row).sources l, lt-ltb (byte j) 128 h) ((has_single (byte j % 64) (byte j % 64)).1 refl)

  S : ℕ → ℕ
  S j = source_set reads_register x j

  among : (r : ℕ) → (Has (source_set reads_register x 0) r ⊎ (Has (source_set reads_register x 1) r ⊎ Has (source_set reads_register x 2) r)) → Has (reads x) r
  unfolding reads S
  among r h = (has_or (union (union (S 0) (S 1)) (S 2)) (S 3) r).1 (inl ((has_or (union (S 0) (S 1)) (S 2) r).1 (three h)))
    where
      three : (Has (source_set reads_register x 0) r ⊎ (Has (source_set reads_register x 1) r ⊎ Has (source_set reads_register x 2) r)) → Has (union (S 0) (S 1)) r ⊎ Has (S 2) r
      three (inl h) = inl ((has_or (S 0) (S 1) r).1 (inl h))
      three (inr (inl h)) = inl ((has_or (S 0) (S 1) r).1 (inr h))
      three (inr (inr h)) = inr h

  module _ (uniforms before other : List ℕ) (same : (r : ℕ) → Has (reads x) r → get_or before r 0 ≡ get_or other r 0) where
    same_0 : 0 < (row_of x.row).sources → worth before uniforms (source_0 x) ≡ worth other uniforms (source_0 x)
    unfolding byte
    same_0 l = same_worth before other uniforms x.page x.sources.s0 (λ h. same _ (among _ (inl (in_source 0 l h))))

    same_1 : 1 < (row_of x.row).sources → worth before uniforms (source_1 x) ≡ worth other uniforms (source_1 x)
    unfolding byte
    same_1 l = same_worth before other uniforms x.page x.sources.s1 (λ h. same _ (among _ (inr (inl (in_source 1 l h)))))

    same_2 : 2 < (row_of x.row).sources → worth before uniforms (source_2 x) ≡ worth other uniforms (source_2 x)
    unfolding byte
    same_2 l = same_worth before other uniforms x.page x.sources.s2 (λ h. same _ (among _ (inr (inr (in_source 2 l h)))))

-- one row after the other: what it writes is the same where its own sources are
arm : {A : Type 0} (k row : ℕ) {f g f' g' : A} → (row ≡ k → f ≡ f') → g ≡ g' → choose (eqb row k) f g ≡ choose (eqb row k) f' g'
arm k row {f} {g} {f'} {g'} h q = go (eqb row k) refl
  where
    go : (t : Bool) → eqb row k ≡ t → choose t f g ≡ choose t f' g'
    go true e = h (eqb-true row k e)
    go false e = q

module _ (row : ℕ) (m : Modifiers) {a b c a' b' c' : ℕ} (p : 0 < (row_of row).sources → a ≡ a') (q : 1 < (row_of row).sources → b ≡ b') (r : 2 < (row_of row).sources → c ≡ c') where
  first : (k : ℕ) → 0 < (row_of k).sources → row ≡ k → a ≡ a'
  first k l e = p (rw e l)

  second : (k : ℕ) → 1 < (row_of k).sources → row ≡ k → b ≡ b'
  second k l e = q (rw e l)

  third : (k : ℕ) → 2 < (row_of k).sources → row ≡ k → c ≡ c'
  third k l e = r (rw e l)

  same_result : row_result row m a b c ≡ row_result row m a' b' c'
  unfolding row_result rows
  same_result =
      arm mov_row row (λ e. first mov_row (omega arith) e)
      (arm clz_row row (λ e. ap clz (first clz_row (omega arith) e))
      (arm popcount_row row (λ e. ap popcount (first popcount_row (omega arith) e))
      (arm bitrev_row row (λ e. ap bitrev (first bitrev_row (omega arith) e))
      (arm not_row row (λ e. ap complement (first not_row (omega arith) e))
      (arm fadd_row row (λ e. ap₂ (fadd (is_set m.m38) (is_set m.m39) (is_set m.m36) (is_set m.m37) m.m32) (first fadd_row (omega arith) e) (second fadd_row (omega arith) e))
      (arm mux_row row (λ e. rw (first mux_row (omega arith) e, second mux_row (omega arith) e, third mux_row (omega arith) e)) refl))))))

  same_jump : takes_branch row m a ≡ takes_branch row m a'
  unfolding takes_branch rows
  same_jump = arm branchz_row row (λ e. ap (jumps (is_set m.m36)) (first branchz_row (omega arith) e)) refl

pub reads_only : (uniforms : List ℕ) (n i : ℕ) (x : Instruction) → ReadsOnly uniforms n i x
unfolding index_after
reads_only uniforms n i x before other same =
    let p = same_0 x uniforms before other same in
    let q = same_1 x uniforms before other same in
    let r = same_2 x uniforms before other same in
    (same_result x.row x.modifiers p q r, ap (λ (t : Bool). choose t (landing n (pos (i + 1) +ℤ x.offset)) (i + 1)) (same_jump x.row x.modifiers p q r))
