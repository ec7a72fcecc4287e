-- The registers of a set one after another. Assumes nothing.
use mathlib.Core.Path.{◌≡◌, refl}
use mathlib.Core.List.{List, ◌++◌}
use Prim.Native.Nat.{ℕ, ◌+◌}
use native.Mathlib.Numerals.{add-one}
use borrow.Author.Tests.{eq-eqb, ne_eqb}
use Rattle.bits.specs.Halves.{either}
use Rattle.bits.specs.declared.halves.Halves.{Halves}
use Rattle.rows.specs.Names.{ascii}
use Rattle.text.specs.Text.{Put}
use Rattle.text.proofs.TextLaws.{put_nothing}
use Rattle.registertext.specs.Registers.{member_text, members_text, registers_text}

pub no_members : (s : Halves) (before : List ℕ) → Put (members_text s 0) before before 0
unfolding members_text
no_members s = put_nothing refl

pub one_member : (s : Halves) (r : ℕ) → members_text s r ++ member_text s r ≡ members_text s (r + 1)
unfolding members_text
one_member s r = rw (add-one r)

pub no_register : (s : Halves) → either s ≡ 0 → ascii "none" ≡ registers_text s
unfolding registers_text
no_register s e = rw (eq-eqb (either s) 0 e)

pub some_registers : (s : Halves) → (either s ≡ 0 → ⊥) → members_text s 64 ≡ registers_text s
unfolding registers_text
some_registers s e = rw (ne_eqb (either s) 0 e)
