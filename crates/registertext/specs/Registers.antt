-- A set of halves of registers as text: its registers in order, those with the same halves in runs, as in `r0-r3,r5`, with L or H where only
-- the low or the high half is there, as in `r6L-r8L,r9H`; or `none`.
use Rattle.std.specs.Prelude.{Bool, false, List, [], ◌++◌, ℕ, zero, suc, ◌+◌, ◌*◌, ◌/◌, ◌%◌, ◌^◌, eqb, ltb}
use Rattle.bits.specs.Fields.{choose}
use Rattle.bits.specs.Sets.{lowest}
use Rattle.bits.specs.Halves.{either}
use Rattle.bits.specs.declared.halves.Halves.{Halves}
use Rattle.rows.specs.Names.{ascii}
use Rattle.text.specs.Text.{number_text}

-- which halves of register r are in the set, as a half mask has them: 0 none, 1 low, 2 high, 3 both
unfoldable pub mask_at : Halves → ℕ → ℕ
mask_at s r = s.low / 2 ^ r % 2 + 2 * (s.high / 2 ^ r % 2)

-- the letter where there is only one half
unfoldable pub mask_letter : ℕ → List ℕ
mask_letter m = choose (eqb m 1) (ascii "L") (choose (eqb m 2) (ascii "H") [])

abbrev pub register_text : ℕ → ℕ → List ℕ
register_text m r = ascii "r" ++ number_text 10 2 r ++ mask_letter m

-- whether the register before r has the same halves, which r0 has not, and whether the one after it has, which r63 has not
abbrev pub same_before : Halves → ℕ → Bool
same_before s zero = false
same_before s (suc r) = eqb (mask_at s r) (mask_at s (suc r))

abbrev pub same_after : Halves → ℕ → Bool
same_after s r = choose (ltb r 63) (eqb (mask_at s (suc r)) (mask_at s r)) false

-- what register r of the set adds: its name where a run begins, after a comma if it is not the first run; its name after a dash where a run
-- ends that has more than one register; nothing inside a run
abbrev pub begins_text : Halves → ℕ → List ℕ
begins_text s r = choose (eqb r (lowest (either s))) [] (ascii ",") ++ register_text (mask_at s r) r

abbrev pub goes_on_text : Halves → ℕ → List ℕ
goes_on_text s r = choose (same_after s r) [] (ascii "-" ++ register_text (mask_at s r) r)

unfoldable pub member_text : Halves → ℕ → List ℕ
member_text s r = choose (eqb (mask_at s r) 0) [] (choose (same_before s r) (goes_on_text s r) (begins_text s r))

-- the registers below one
unfoldable pub members_text : Halves → ℕ → List ℕ
members_text s zero = []
members_text s (suc r) = members_text s r ++ member_text s r

unfoldable pub registers_text : Halves → List ℕ
registers_text s = choose (eqb (either s) 0) (ascii "none") (members_text s 64)

-- no set has more bytes: there are at most five for each register
abbrev pub longest_registers : ℕ
longest_registers = 5 * 64
