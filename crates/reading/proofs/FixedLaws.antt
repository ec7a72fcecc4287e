-- A word agrees with the bits that its row fixes exactly if it has no stray bit. Assumes nothing.
use mathlib.Core.Path.{◌≡◌, refl, sym, ap, ap₂, ◌∙◌, subst}
use mathlib.Core.Bool.{Bool, true, false, ◌&&◌, ◌||◌, not}
use Prim.Native.Nat.{ℕ, ◌+◌, ◌-◌, ◌/◌, ◌%◌, ◌^◌, ◌<◌}
use native.Mathlib.Nat.{mod-lt, le_antisymm}
use native.Mathlib.Omega.{arith}
use lib.Bits.{bit_and, and_lt}
use lib.Dec.{T, eqb, ltb, leb}
use lib.Pow.{pow_pos, shr-shr, field, mod-mod-pow}
use borrow.Author.Tests.{ltb-true, leb-true}
use Rattle.bits.specs.Fields.{Slot, slot, bits, choose, inside, assigned}
use Rattle.bits.specs.Sets.{has, minus, lowest}
use Rattle.bits.proofs.Every.{iff, iff_eq, every, at, and_l, and_r, both, T_true, not_T, clash}
use Rattle.bits.proofs.SetLaws.{has_both, has_true, true_has, member_below, subset_le, lowest_ext, has_minus_test}
use Rattle.rows.specs.Rows.{Row, rows, row_of, no_row, row_count}
use Rattle.rows.specs.Layout.{places, slots, modifier_at, fits}
use Rattle.rows.specs.Served.Table.{set_of, upto, fixed_bit, fixed}
use Rattle.rows.proofs.TableLaws.{in_table}
use Rattle.rows.proofs.RowLaws.{opcode_there, second_there}
use Rattle.rows.proofs.SetOfLaws.{has_set_of, upto_at, set_lt}
use Rattle.reading.specs.Reader.{stray, lowest_stray}
use Rattle.reading.proofs.StrayLaws.{stray_clean, clean_stray}

-- ---- bits of numbers

-- two numbers below 2 ^ 64 with the same bits are equal
same_bits : (x y : ℕ) → x < 2 ^ 64 → y < 2 ^ 64 → ((b : ℕ) → b < 64 → has x b ≡ has y b) → x ≡ y
same_bits x y hx hy e =
    le_antisymm (subset_le x y (λ r z. true_has y r (sym (e r (member_below x r hx z)) ∙ has_true x r z)))
    (subset_le y x (λ r z. true_has x r (e r (member_below y r hy z) ∙ has_true y r z)))

-- bit j of a run of bits
run_bit : (w p n j : ℕ) → j < n → has (bits w p n) j ≡ has w (p + j)
run_bit w p n j h =
    let i : ℕ = n - (j + 1) in
    let e : i + 1 + j ≡ n = omega arith in
    let f : w / 2 ^ p % 2 ^ n / 2 ^ j ≡ w / 2 ^ p / 2 ^ j % 2 ^ (i + 1) = rw e at (field (w / 2 ^ p) (i + 1) j) in
    ap (λ (x : ℕ). eqb (x % 2) 1) f
    ∙ ap (λ (x : ℕ). eqb x 1) (mod-mod-pow (w / 2 ^ p / 2 ^ j) i 1)
    ∙ ap (λ (x : ℕ). eqb (x % 2) 1) (shr-shr w p j)

-- bit b of a word, as one of a slot that it lies in
slot_bit : (s : Slot) (w b : ℕ) → inside s b ≡ true → has w b ≡ has (bits w s.low s.width) (b - s.low)
slot_bit s w b e =
    let t = both (leb s.low b) (ltb b (s.low + s.width)) e in
    let l = leb-true s.low b t.0 in
    let u = ltb-true b (s.low + s.width) t.1 in
    let q : s.low + (b - s.low) ≡ b = omega arith in
    sym (run_bit w s.low s.width (b - s.low) (omega arith) ∙ ap (has w) q)

-- ---- the bits of what a row fixes, by one test over the rows

abbrev second_slot : Row → Slot
second_slot r = slot r.second_low r.second_width

-- a bit of the opcode, of the secondary opcode, or 0
expected : Row → ℕ → Bool
expected r b =
    choose (inside (slot 48 9) b) (has r.opcode (b - 48)) (choose (inside (second_slot r) b) (has r.second (b - r.second_low)) false)

bit_test : Row → ℕ → Bool
bit_test r b = iff (has (fixed r) b) (expected r b) && (assigned (slots r) b || not (expected r b))

row_test : ℕ → Row → Bool
row_test k r = upto 64 (bit_test r) && ltb (fixed r) (2 ^ 64)

rows_right : T (every row_test 0 rows)
unfolding row_test bit_test expected rows places slots modifier_at assigned
rows_right = tt

module _ (k : ℕ) (h : k < row_count) where
  abbrev r : Row
  r = row_of k

  tested : T (row_test k r)
  tested = at row_test rows no_row rows_right k (in_table k h)

  fixed_lt : fixed r < 2 ^ 64
  unfolding row_test
  fixed_lt = ltb-true (fixed r) (2 ^ 64) (T_true (ltb (fixed r) (2 ^ 64)) (and_r (upto 64 (bit_test r)) (ltb (fixed r) (2 ^ 64)) tested))

  at_bit : (b : ℕ) → b < 64 → T (bit_test r b)
  unfolding row_test
  at_bit b l = upto_at 64 (bit_test r) (and_l (upto 64 (bit_test r)) (ltb (fixed r) (2 ^ 64)) tested) b l

  has_fixed : (b : ℕ) → b < 64 → has (fixed r) b ≡ expected r b
  unfolding bit_test
  has_fixed b l = iff_eq _ _ (and_l (iff (has (fixed r) b) (expected r b)) (assigned (slots r) b || not (expected r b)) (at_bit b l))

  unassigned_0 : (b : ℕ) → b < 64 → assigned (slots r) b ≡ false → expected r b ≡ false
  unfolding bit_test
  unassigned_0 b l q =
      let t = and_r (iff (has (fixed r) b) (expected r b)) (assigned (slots r) b || not (expected r b)) (at_bit b l) in
      not_T (expected r b) (subst (λ (x : Bool). T (x || not (expected r b))) q t)

  module _ (w : ℕ) (hw : w < 2 ^ 64) where
    abbrev M : ℕ
    M = set_of (fixed_bit r) 64

    masked : (b : ℕ) → b < 64 → has (bit_and w M) b ≡ has w b && fixed_bit r b
    masked b l = has_both w M b ∙ ap (λ (x : Bool). has w b && x) (has_set_of (fixed_bit r) 64 b l)

    -- a bit of an opcode is in each word of the row what is expected; any other bit is expected to be 0
    bit_fixed : fits r w ≡ true → (b : ℕ) → b < 64 → (inside (slot 48 9) b || inside (second_slot r) b) ≡ true → has w b ≡ expected r b
    unfolding expected
    bit_fixed f b l = go (inside (slot 48 9) b) refl (inside (second_slot (row_of k)) b) refl
      where
        go : (x : Bool) → inside (slot 48 9) b ≡ x → (y : Bool) → inside (second_slot (row_of k)) b ≡ y → x || y ≡ true
            → has w b ≡ choose x (has (row_of k).opcode (b - 48)) (choose y (has (row_of k).second (b - (row_of k).second_low)) false)
        go true p y q e = slot_bit (slot 48 9) w b p ∙ ap (λ (o : ℕ). has o (b - 48)) (opcode_there (row_of k) w f)
        go false p true q e = slot_bit (second_slot (row_of k)) w b q ∙ ap (λ (o : ℕ). has o (b - (row_of k).second_low)) (second_there (row_of k) w f)
        go false p false q e = clash (sym e)

    unfixed : (b : ℕ) → (inside (slot 48 9) b || inside (second_slot r) b) ≡ false → expected r b ≡ false
    unfolding expected
    unfixed b e = go (inside (slot 48 9) b) (inside (second_slot (row_of k)) b) e
      where
        go : (x y : Bool) → x || y ≡ false → choose x (has (row_of k).opcode (b - 48)) (choose y (has (row_of k).second (b - (row_of k).second_low)) false) ≡ false
        go true y e = clash e
        go false true e = clash e
        go false false e = refl

    -- the bits of such a word that the row fixes and that are not 1 by the row are the stray ones
    left_over : fits r w ≡ true → (b : ℕ) → b < 64 → has (minus (bit_and w M) (fixed r)) b ≡ stray k w b
    left_over f b l =
        has_minus_test (bit_and w M) (fixed r) b
        ∙ ap₂ (λ (x y : Bool). x && not y) (masked b l) (has_fixed b l)
        ∙ go (has w b) refl (inside (slot 48 9) b || inside (second_slot (row_of k)) b) refl (assigned (slots (row_of k)) b) refl
      where
        owned : expected (row_of k) b ≡ true → assigned (slots (row_of k)) b ≡ false → ⊥
        owned e q = clash (sym e ∙ unassigned_0 b l q)

        go : (x : Bool) → has w b ≡ x → (y : Bool) → (inside (slot 48 9) b || inside (second_slot (row_of k)) b) ≡ y → (z : Bool) → assigned (slots (row_of k)) b ≡ z
            → ((has w b && (not (assigned (slots (row_of k)) b) || (inside (slot 48 9) b || inside (second_slot (row_of k)) b))) && not (expected (row_of k) b))
            ≡ (has w b && not (assigned (slots (row_of k)) b))
        go false p y q z s = rw p
        go true p true q true s = rw (p, q, s, sym (bit_fixed f b l q) ∙ p)
        go true p true q false s = absurd (owned (sym (bit_fixed f b l q) ∙ p) s)
        go true p false q true s = rw (p, q, s)
        go true p false q false s = rw (p, q, s, unfixed b q)

    pub stray_among : fits r w ≡ true → lowest (minus (bit_and w M) (fixed r)) ≡ lowest_stray k w
    unfolding lowest_stray
    stray_among f = lowest_ext (has (minus (bit_and w M) (fixed (row_of k)))) (stray k w) 64 0 (λ b l. left_over f b l)

    -- a word of the row that has no stray bit agrees
    pub agrees : fits r w ≡ true → lowest_stray k w ≡ 64 → bit_and w M ≡ fixed r
    agrees f e =
        same_bits (bit_and w M) (fixed r) (and_lt 64 w M hw (set_lt (fixed_bit r) 64)) fixed_lt
        (λ b l. masked b l ∙ bit b l (inside (slot 48 9) b || inside (second_slot r) b) refl (assigned (slots r) b) refl ∙ sym (has_fixed b l))
      where
        and_true : (t : Bool) → t && true ≡ t
        and_true true = refl
        and_true false = refl

        and_false : (t : Bool) → t && false ≡ false
        and_false true = refl
        and_false false = refl

        or_true : (t : Bool) → t || true ≡ true
        or_true true = refl
        or_true false = refl

        bit : (b : ℕ) → b < 64 → (y : Bool) → (inside (slot 48 9) b || inside (second_slot (row_of k)) b) ≡ y → (z : Bool) → assigned (slots (row_of k)) b ≡ z
            → has w b && (not (assigned (slots (row_of k)) b) || (inside (slot 48 9) b || inside (second_slot (row_of k)) b)) ≡ expected (row_of k) b
        bit b l true q z s = rw (q, or_true (not (assigned (slots (row_of k)) b)), and_true (has w b)) (bit_fixed f b l q)
        bit b l false q true s = rw (q, s) (and_false (has w b) ∙ sym (unfixed b q))
        bit b l false q false s = rw (q, s) (and_true (has w b) ∙ ap (λ (x : ℕ). eqb x 1) (stray_clean k w e b l s) ∙ sym (unfixed b q))

    -- a word that agrees has no stray bit
    pub unstray : bit_and w M ≡ fixed r → lowest_stray k w ≡ 64
    unstray e = clean_stray k w (λ b l q. zero_bit b l q (has w b) refl)
      where
        zero_bit : (b : ℕ) → b < 64 → assigned (slots (row_of k)) b ≡ false → (t : Bool) → has w b ≡ t → bits w b 1 ≡ 0
        zero_bit b l q true p =
            let one : has (bit_and w M) b ≡ true = masked b l ∙ rw (p, q) in
            clash (sym one ∙ ap (λ (x : ℕ). has x b) e ∙ has_fixed b l ∙ unassigned_0 b l q)
        zero_bit b l q false p =
            let s : bits w b 1 < 2 = mod-lt (w / 2 ^ b) (pow_pos 1) in
            omega (arith, borrow.Author.Tests.eqb-false (w / 2 ^ b % 2) 1 p)
