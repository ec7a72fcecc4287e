-- The index leads to the row that a word fits, among the rows of its opcode. Assumes nothing.
use Rattle.std.specs.Prelude.{Option, None, Some, option_map}
use mathlib.Core.Path.{◌≡◌, refl, sym, ap, ap₂, ◌∙◌}
use mathlib.Core.Bool.{Bool, true, false, ◌&&◌}
use Prim.Native.Nat.{ℕ, suc, ◌+◌, ◌-◌, ◌/◌, ◌%◌, ◌^◌, ◌<◌, ◌≤◌}
use native.Mathlib.Nat.{mod-lt, mod-eq_of_lt}
use native.Mathlib.Omega.{arith}
use lib.Bits.{bit_and, and_mask, and_le_r}
use lib.Dec.{T, eqb, ltb, leb, eqb→eq, ltb→lt, leb→le}
use lib.Pow.{pow_pos}
use borrow.Author.Tests.{eq-eqb, eqb-true, lt-ltb, ltb-true}
use Rattle.bits.specs.Fields.{bits, choose}
use Rattle.bits.specs.Sets.{has}
use Rattle.bits.proofs.Every.{iff, iff_eq, every, at, and_l, and_r}
use Rattle.rows.specs.Rows.{Row, rows, row_of, no_row, row_count}
use Rattle.rows.specs.Layout.{find}
use Rattle.rows.specs.Served.Table.{upto}
use Rattle.rows.proofs.TableLaws.{in_table}
use Rattle.rows.proofs.RowLaws.{opcode_there, second_there}
use Rattle.rows.proofs.FindLaws.{find_fits, find_row}
use Rattle.rows.proofs.SetOfLaws.{upto_at}
use Rattle.opcoderows.specs.Opcodes.{row_for}
use Rattle.opcoderows.specs.Served.Keyed.{lookup}
use Rattle.opcoderows.specs.Served.Slots.{block_at, slot_of}
use Rattle.lookup.specs.Served.Index.{group, empty, groups, group_at, row_under, second_of}
use Rattle.lookup.specs.Served.Lines.{line_of}
use Rattle.lookup.specs.declared.Group.{Group}
use Rattle.lookup.specs.declared.Line.{Line}
use Rattle.opcoderows.proofs.KeyedLaws.{tested, lookup_passes}
use Rattle.opcoderows.proofs.OpcodeLaws.{numbered, found_among}

-- the group of an opcode, and what stands in the cell that a word's group and secondary opcode lead to
abbrev pub group_of : ℕ → Group
group_of opcode = group_at (slot_of opcode)

abbrev pub landed : Group → ℕ → ℕ
landed g w = row_under (g.cell + second_of g w)

-- ---- one test of all rows: the group of the row's opcode has the place of the secondary opcode, and there, of all secondary opcodes, the
-- row's own and no other leads to the row

leads : ℕ → ℕ → ℕ → ℕ → Bool
leads k cell second x = iff (eqb (row_under (cell + x)) k) (eqb x second)

row_test : ℕ → Row → Bool
row_test k r =
    eqb (group_of r.opcode).low r.second_low
    && ltb r.second_low 64
    && eqb (group_of r.opcode).mask (2 ^ r.second_width - 1)
    && upto (2 ^ r.second_width) (leads k (group_of r.opcode).cell r.second)

rows_right : T (every row_test 0 rows)
unfolding row_test leads group_at row_under slot_of block_at rows
rows_right = tt

-- so a word with row k's opcode leads to row k exactly if it has its secondary opcode
its_cell : (w k : ℕ) → k < row_count → bits w 48 9 ≡ (row_of k).opcode
    → eqb (landed (group_of (bits w 48 9)) w) k ≡ eqb (bits w (row_of k).second_low (row_of k).second_width) (row_of k).second
unfolding row_test leads
its_cell w k h e =
    let r = row_of k in
    let g = group_of r.opcode in
    let n = r.second_width in
    let a = eqb g.low r.second_low in
    let b = ltb r.second_low 64 in
    let c = eqb g.mask (2 ^ n - 1) in
    let d = upto (2 ^ n) (leads k g.cell r.second) in
    let t : T (a && b && c && d) = at row_test rows no_row rows_right k (in_table k h) in
    let t3 = and_l (a && b && c) d t in
    let t2 = and_l (a && b) c t3 in
    let low : g.low % 64 ≡ r.second_low = ap (λ (x : ℕ). x % 64) (eqb→eq _ _ (and_l a b t2)) ∙ mod-eq_of_lt (ltb→lt _ _ (and_r a b t2)) in
    let mask : g.mask ≡ 2 ^ n - 1 = eqb→eq _ _ (and_r (a && b) c t3) in
    let x : second_of g w ≡ bits w r.second_low n =
    ap₂ (λ (l m : ℕ). bit_and (w / 2 ^ l) m) low mask ∙ and_mask (w / 2 ^ r.second_low) n in
    let y = upto_at (2 ^ n) (leads k g.cell r.second) (and_r (a && b && c) d t) (bits w r.second_low n) (mod-lt _ (pow_pos n)) in
    ap (λ (q : ℕ). eqb (landed (group_of q) w) k) e ∙ ap (λ (z : ℕ). eqb (row_under (g.cell + z)) k) x ∙ iff_eq _ _ y

-- ---- one test of all opcodes that a word can have: the cells of the secondary opcodes in the group's set have rows of the opcode, the others
-- have none

filled : Group → ℕ → ℕ → Bool
filled g o x =
    choose (has g.seconds x)
    (ltb (row_under (g.cell + x)) row_count && eqb (row_of (row_under (g.cell + x))).opcode o)
    (leb row_count (row_under (g.cell + x)))

opcode_test : ℕ → Bool
opcode_test o = upto (suc (group_of o).mask) (filled (group_of o) o)

opcodes_right : T (upto 512 opcode_test)
unfolding opcode_test filled group_at row_under slot_of block_at rows
opcodes_right = tt

module _ (w : ℕ) where
  abbrev o : ℕ
  o = bits w 48 9

  abbrev g : Group
  g = group_of (bits w 48 9)

  cell_filled : T (filled g o (second_of g w))
  unfolding opcode_test
  cell_filled =
      upto_at (suc g.mask) (filled g o) (upto_at 512 opcode_test opcodes_right o (mod-lt (w / 2 ^ 48) (pow_pos 9))) (second_of g w)
      (omega (arith, and_le_r (w / 2 ^ (g.low % 64)) g.mask))

  row_in_cell : has g.seconds (second_of g w) ≡ true → (landed g w < row_count) × ((row_of (landed g w)).opcode ≡ o)
  unfolding filled
  row_in_cell e =
      let x = ltb (landed g w) row_count in
      let y = eqb (row_of (landed g w)).opcode o in
      let t : T (x && y) = rw e at cell_filled in
      (ltb→lt _ _ (and_l x y t), eqb→eq _ _ (and_r x y t))

  cell_empty : has g.seconds (second_of g w) ≡ false → row_count ≤ landed g w
  unfolding filled
  cell_empty e = let t : T (leb row_count (landed g w)) = rw e at cell_filled in leb→le _ _ t

-- ---- a word leads to the row that it fits, or to none

abbrev pub candidate : Group → ℕ → Option ℕ
candidate g w = choose (has g.seconds (second_of g w)) (Some (landed g w)) None

candidate_found : (w : ℕ) → candidate (group_of (bits w 48 9)) w ≡ numbered (find rows 0 w)
candidate_found w = go (has (group_of (bits w 48 9)).seconds (second_of (group_of (bits w 48 9)) w)) refl
  where
    go : (b : Bool) → has (group_of (bits w 48 9)).seconds (second_of (group_of (bits w 48 9)) w) ≡ b
        → choose b (Some (landed (group_of (bits w 48 9)) w)) None ≡ numbered (find rows 0 w)
    go true q =
        let c = landed (group_of (bits w 48 9)) w in
        let (h, e) = row_in_cell w q in
        let s : eqb (bits w (row_of c).second_low (row_of c).second_width) (row_of c).second ≡ true = sym (its_cell w c h (sym e)) ∙ eq-eqb c c refl in
        let z : find rows 0 w ≡ c = find_row w c h (rw (eq-eqb (bits w 48 9) (row_of c).opcode (sym e), s)) in
        rw (z, lt-ltb c row_count h)
    go false q = unfit (ltb (find rows 0 w) row_count) refl
      where
        unfit : (b : Bool) → ltb (find rows 0 w) row_count ≡ b → None ≡ choose b (Some (find rows 0 w)) None
        unfit true p =
            let k = find rows 0 w in
            let h = ltb-true k row_count p in
            let f = find_fits w h in
            let e : landed (group_of (bits w 48 9)) w ≡ k = eqb-true _ _ (its_cell w k h (opcode_there (row_of k) w f) ∙ eq-eqb _ _ (second_there (row_of k) w f)) in
            absurd (omega (arith, e, cell_empty w q))
        unfit false p = refl

-- ---- its line

module _ (w : ℕ) {s : ℕ} {g : Group} (es : s ≡ slot_of (bits w 48 9)) (eg : g ≡ group_at s) where
  reached : candidate g w ≡ row_for w
  reached =
      ap (λ (x : Group). candidate x w) (eg ∙ ap group_at es)
      ∙ candidate_found w
      ∙ sym (found_among w)

  module _ {x : ℕ} (ex : x ≡ bits g.seconds (second_of g w) 1) where
    by : ℕ → Option ℕ
    by n = choose (eqb n 1) (Some (landed g w)) None

    pub led_none : x ≡ 0 → None ≡ option_map line_of (row_for w)
    unfolding by
    led_none z = ap (option_map line_of) (ap by (sym (sym ex ∙ z)) ∙ reached)

    pub led_line : {l : Line} → x ≡ 1 → l ≡ line_of (landed g w) → Some l ≡ option_map line_of (row_for w)
    unfolding by
    led_line z el = ap Some el ∙ ap (option_map line_of) (ap by (sym (sym ex ∙ z)) ∙ reached)

-- ---- the groups are small

small_test : ℕ → Group → Bool
small_test h g = ltb g.mask 32 && ltb g.cell 256

groups_small : T (tested small_test groups)
unfolding small_test
groups_small = tt

pub group_small : (h : ℕ) → ((group_at h).mask < 32) × ((group_at h).cell < 256)
unfolding group_at small_test
group_small h =
    let g = lookup (group 0 0 0 empty) groups h in
    let a = ltb g.mask 32 in
    let b = ltb g.cell 256 in
    let t : T (a && b) = lookup_passes small_test (group 0 0 0 empty) groups h groups_small tt in
    (ltb→lt _ _ (and_l a b t), ltb→lt _ _ (and_r a b t))
