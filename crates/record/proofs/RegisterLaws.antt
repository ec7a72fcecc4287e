-- Laws of what an instruction does to registers: the rows by ranges, and sets of registers made by arithmetic. Assumes nothing.
use mathlib.Core.Path.{◌≡◌, refl, sym, ap, ◌∙◌}
use mathlib.Core.Bool.{Bool, true, false, ◌&&◌}
use mathlib.Core.List.{[], ◌∷◌, map}
use Prim.Native.Nat.{ℕ, ◌+◌, ◌-◌, ◌*◌, ◌/◌, ◌%◌, ◌^◌, ◌<◌, ◌≤◌}
use native.Mathlib.Nat.{mod-lt, zero-mul, one-mul, mod-eq_of_lt, div-eq_of_lt}
use native.Mathlib.Omega.{arith}
use borrow.Author.Tests.{le-ltb, eq-eqb, ne_eqb, ltb-true, ltb-false, leb-true, leb-false}
use lib.Bits.{bit_or, or_lt, or_zero_r}
use lib.Dec.{T, eqb, ltb, leb, eqb→eq}
use lib.ListN.{get_or, get_or-eq_default}
use lib.Pow.{pow_pos, pow-lt}
use Rattle.bits.specs.Fields.{bits, choose}
use Rattle.bits.specs.Sets.{single}
use Rattle.bits.specs.Halves.{lower, upper, halves}
use Rattle.bits.proofs.Every.{iff, iff_eq, every, at, and_l, and_r}
use Rattle.rows.proofs.SetOfLaws.{upto_at}
use Rattle.rows.specs.Rows.{Row, rows, row_of, row_count, no_row}
use Rattle.rows.specs.Served.Table.{upto}
use Rattle.rows.proofs.RowLaws.{four_sources}
use Rattle.rows.proofs.TableLaws.{count_rows}
use Rattle.record.specs.Served.Counts.{counts_of, counts_at}
use Rattle.record.specs.Lists.{source_list}
use Rattle.record.specs.Registers.{reads_register, kills_register, source_set, sources_set, reads, defines, masked, writes}
use Rattle.record.specs.declared.instruction.Instruction.{Instruction}

-- rows by ranges

-- whether it has a destination
abbrev pub destination_by : ℕ → Bool
destination_by k = leb 3 k && ltb k 77

right : ℕ → Row → Bool
right k r = iff r.destination (destination_by k) && iff r.offset (eqb k 1)

all_right : T (every right 0 rows)
unfolding rows right
all_right = tt

pub past : (k : ℕ) → row_count ≤ k → row_of k ≡ no_row
past k h = get_or-eq_default rows no_row (omega (arith, count_rows))

pub record Ranged (k : ℕ) : Type 0 where
  pub destination : (row_of k).destination ≡ destination_by k
  pub offset : (row_of k).offset ≡ eqb k 1

pub ranged : (k : ℕ) → Ranged k
unfolding right
ranged k = go (ltb k row_count) refl
  where
    go : (t : Bool) → ltb k row_count ≡ t → Ranged k
    go true e =
        let b = iff (row_of k).destination (destination_by k) in
        let d = iff (row_of k).offset (eqb k 1) in
        let t : T (b && d) = at right rows no_row all_right k (omega (arith, count_rows, ltb-true k row_count e)) in
        record {
          destination = iff_eq _ _ (and_l b d t);
          offset = iff_eq _ _ (and_r b d t);
        }
    go false e =
        let h = ltb-false k row_count e in
        let p = past k h in
        record {
          destination = ap (λ (r : Row). r.destination) p ∙ rw (le-ltb k 77 h) (sym (none (leb 3 k)));
          offset = ap (λ (r : Row). r.offset) p ∙ sym (ne_eqb k 1 (λ q. omega arith));
        }
      where
        none : (t : Bool) → (t && false) ≡ false
        none true = refl
        none false = refl

pub no_sources : (k : ℕ) → row_count ≤ k → 0 ≡ (row_of k).sources
no_sources k h = sym (ap (λ (r : Row). r.sources) (past k h))

-- how many sources a row has, from the packed counts: one test over all rows

pub counts_past : (g : ℕ) → 5 ≤ g → 0 ≡ counts_at g
unfolding counts_at
counts_past g h = sym (get_or-eq_default (map counts_of (0 ∷ 1 ∷ 2 ∷ 3 ∷ 4 ∷ [])) 0 h)

count_test : ℕ → Bool
count_test k = eqb (bits (counts_at (k / 16)) (k % 16 * 4) 4) (row_of k).sources

counts_right : T (upto 80 count_test)
unfolding count_test counts_at rows
counts_right = tt

pub count_law : (k : ℕ) → bits (counts_at (k / 16)) (k % 16 * 4) 4 ≡ (row_of k).sources
unfolding count_test
count_law k = go (ltb k 80) refl
  where
    go : (t : Bool) → ltb k 80 ≡ t → bits (counts_at (k / 16)) (k % 16 * 4) 4 ≡ (row_of k).sources
    go true e = eqb→eq _ _ (upto_at 80 count_test counts_right k (ltb-true k 80 e))
    go false e =
        let h = ltb-false k 80 e in
        ap (λ (n : ℕ). bits n (k % 16 * 4) 4) (sym (counts_past (k / 16) (omega arith)))
        ∙ nothing (k % 16 * 4)
        ∙ no_sources k (omega arith)
      where
        nothing : (n : ℕ) → bits 0 n 4 ≡ 0
        nothing n = ap (λ (x : ℕ). x % 16) (div-eq_of_lt (pow_pos n))

pub count_le : (k : ℕ) → (row_of k).sources ≤ 4
count_le k = go (ltb k row_count) refl
  where
    go : (t : Bool) → ltb k row_count ≡ t → (row_of k).sources ≤ 4
    go true e = four_sources k (ltb-true k row_count e)
    go false e = omega (arith, no_sources k (ltb-false k row_count e))

-- sets of one register, by arithmetic

-- 1 where a row with so many sources has source j
has_flag : (n j : ℕ) → n ≤ 4 → j < 4 → (n + 3 - j) / 4 ≡ choose (ltb j n) 1 0
has_flag n j hn hj = go (ltb j n) refl
  where
    go : (t : Bool) → ltb j n ≡ t → (n + 3 - j) / 4 ≡ choose t 1 0
    go true e = omega (arith, ltb-true j n e)
    go false e = omega (arith, ltb-false j n e)

-- 1 where a byte reads a register
read_flag : (s : ℕ) → s < 256 → 1 - s / 128 ≡ choose (reads_register s) 1 0
read_flag s h = go (ltb s 128) refl
  where
    go : (t : Bool) → ltb s 128 ≡ t → 1 - s / 128 ≡ choose t 1 0
    go true e = omega (arith, ltb-true s 128 e)
    go false e = omega (arith, ltb-false s 128 e)

both_flags : (t u : Bool) {x y : ℕ} → x ≡ choose t 1 0 → y ≡ choose u 1 0 → x * y ≡ choose (t && u) 1 0
both_flags true true p q = rw (p, q)
both_flags true false p q = rw (p, q)
both_flags false u {x} {y} p q = rw p (zero-mul y)

small : (t : Bool) {x : ℕ} → x ≡ choose t 1 0 → x < 2
small true e = omega arith
small false e = omega arith

shifted : (x n : ℕ) (t : Bool) → x ≡ choose t 1 0 → n < 64 → x * 2 ^ n % 2 ^ 64 ≡ choose t (2 ^ n) 0
shifted x n true e h = rw (e, one-mul (2 ^ n)) (mod-eq_of_lt (pow-lt h))
shifted x n false e h = rw (e, zero-mul (2 ^ n))

module _ (n j s : ℕ) (hn : n ≤ 4) (hj : j < 4) (hs : s < 256) where
  abbrev flag : ℕ
  flag = (n + 3 - j) / 4 * (1 - s / 128)

  flags : flag ≡ choose (ltb j n && reads_register s) 1 0
  flags = both_flags (ltb j n) (reads_register s) (has_flag n j hn hj) (read_flag s hs)

  pub read_small : flag < 2
  read_small = small (ltb j n && reads_register s) flags

  pub read_law : flag * 2 ^ (s % 64) % 2 ^ 64 ≡ choose (ltb j n && reads_register s) (2 ^ (s % 64)) 0
  read_law = shifted flag (s % 64) (ltb j n && reads_register s) flags (mod-lt s (pow_pos 6))

-- of the bytes that read a register, those whose bit 6 is 1 release it
pub kill_law : (t : Bool) (s x : ℕ) {p w : ℕ} → s < 256 → p ≡ choose (t && reads_register s) x 0 → w ≡ s
    → p * (w / 64 % 2) ≡ choose (t && kills_register s) x 0
kill_law t s x h e q = rw (e, q) (go t (ltb s 128) refl (leb 64 s) refl)
  where
    go : (t u : Bool) → ltb s 128 ≡ u → (v : Bool) → leb 64 s ≡ v → choose (t && u) x 0 * (s / 64 % 2) ≡ choose (t && (v && u)) x 0
    go false u a v b = zero-mul (s / 64 % 2)
    go true true a true b =
        let e : s / 64 % 2 ≡ 1 = omega (arith, ltb-true s 128 a, leb-true 64 s b) in
        rw e (omega arith)
    go true true a false b =
        let e : s / 64 % 2 ≡ 0 = omega (arith, leb-false 64 s b) in
        rw e (omega arith)
    go true false a true b = zero-mul (s / 64 % 2)
    go true false a false b = zero-mul (s / 64 % 2)

-- a set of registers is a 64-bit word

one_lt : (t : Bool) (n : ℕ) → n < 64 → choose t (2 ^ n) 0 < 2 ^ 64
one_lt true n h = pow-lt h
one_lt false n h = pow_pos 64

pub set_lt : (t : Bool) (s : ℕ) → choose t (2 ^ (s % 64)) 0 < 2 ^ 64
set_lt t s = one_lt t (s % 64) (mod-lt s (pow_pos 6))

source_lt : (test : ℕ → Bool) (i : Instruction) (j : ℕ) → source_set test i j < 2 ^ 64
source_lt test i j = set_lt (ltb j (row_of i.row).sources && test (get_or (source_list i.sources) j 0)) (get_or (source_list i.sources) j 0)

pub sources_lt : (test : ℕ → Bool) (i : Instruction) → sources_set test i < 2 ^ 64
sources_lt test i =
    let s = source_lt test i in
    or_lt 64 _ _ (or_lt 64 _ _ (or_lt 64 _ _ (s 0) (s 1)) (s 2)) (s 3)

pub reads_lt : (i : Instruction) → reads i < 2 ^ 64
unfolding reads
reads_lt i = sources_lt reads_register i

-- a source's set, with the row's count as another gives it
pub counted : (test : ℕ → Bool) (i : Instruction) (j : ℕ) {n : ℕ} → n ≡ (row_of i.row).sources
    → choose (ltb j n && test (get_or (source_list i.sources) j 0)) (2 ^ (get_or (source_list i.sources) j 0 % 64)) 0 ≡ source_set test i j
counted test i j e = ap (λ (n : ℕ). choose (ltb j n && test (get_or (source_list i.sources) j 0)) (2 ^ (get_or (source_list i.sources) j 0 % 64)) 0) e

-- a row of fewer than four sources has no fourth
pub no_fourth : (test : ℕ → Bool) (i : Instruction) → (row_of i.row).sources < 4 → source_set test i 3 ≡ 0
no_fourth test i h = rw (le-ltb 3 (row_of i.row).sources (omega arith))

-- what source j reads and what it releases, from the row's count and the byte
module _ (i : Instruction) (j n : ℕ) (b : get_or (source_list i.sources) j 0 < 256) (e : n ≡ (row_of i.row).sources) where
  abbrev byte : ℕ
  byte = get_or (source_list i.sources) j 0

  pub read_source : {x : ℕ} → x ≡ choose (ltb j n && reads_register byte) (2 ^ (byte % 64)) 0 → x ≡ source_set reads_register i j
  read_source q = q ∙ counted reads_register i j e

  pub kill_source : {x y : ℕ} → x ≡ choose (ltb j n && reads_register byte) (2 ^ (byte % 64)) 0 → y ≡ x * (byte / 64 % 2) → y ≡ source_set kills_register i j
  kill_source q r = r ∙ kill_law (ltb j n) byte (2 ^ (byte % 64)) b q refl ∙ counted kills_register i j e

-- three sources, of a row that has no fourth, and four
pub three_of : (test : ℕ → Bool) (i : Instruction) {x y z : ℕ} → (row_of i.row).sources < 4 → x ≡ source_set test i 0 → y ≡ source_set test i 1
    → z ≡ source_set test i 2 → bit_or (bit_or x y) z ≡ sources_set test i
three_of test i h p q r =
    (λ l. bit_or (bit_or (p l) (q l)) (r l))
    ∙ sym (ap (bit_or (bit_or (bit_or (source_set test i 0) (source_set test i 1)) (source_set test i 2))) (no_fourth test i h) ∙ or_zero_r _)

pub four_of : (test : ℕ → Bool) (i : Instruction) {x y z u : ℕ} → x ≡ source_set test i 0 → y ≡ source_set test i 1
    → z ≡ source_set test i 2 → u ≡ source_set test i 3 → bit_or (bit_or (bit_or x y) z) u ≡ sources_set test i
four_of test i p q r s = λ l. bit_or (bit_or (bit_or (p l) (q l)) (r l)) (s l)

-- the register that is fully written
module _ (i : Instruction) where
  pub no_destination : (row_of i.row).destination ≡ false → 0 ≡ defines i
  unfolding defines
  no_destination e = rw e

  module _ (d : (row_of i.row).destination ≡ true) where
    pub half_write : ¬ (i.half_mask ≡ 3) → 0 ≡ defines i
    unfolding defines
    half_write h = rw (d, ne_eqb i.half_mask 3 h)

    pub full_write : i.half_mask ≡ 3 → single i.register ≡ defines i
    unfolding defines
    full_write h = rw (d, eq-eqb i.half_mask 3 h)

-- the halves that are written: of the destination, if there is one, those in the mask
within : (d m : Bool) (s : ℕ) → choose m (choose d s 0) 0 ≡ choose (d && m) s 0
within true m s = refl
within false true s = refl
within false false s = refl

pub halves_written : (i : Instruction) {s low high : ℕ} → s ≡ choose (row_of i.row).destination (single i.register) 0
    → low ≡ choose (masked lower i.half_mask) s 0 → high ≡ choose (masked upper i.half_mask) s 0 → halves low high ≡ writes i
unfolding writes
halves_written i e p q =
    rw (p, q, e, within (row_of i.row).destination (masked lower i.half_mask) (single i.register), within (row_of i.row).destination (masked upper i.half_mask) (single i.register))
