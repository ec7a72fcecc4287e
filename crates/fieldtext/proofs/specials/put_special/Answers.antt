use mathlib.Core.Path.{◌≡◌, sym}
use Rattle.rows.specs.Sources.{special_at}
use Rattle.fieldtext.specs.Enumerations.{special_text}
use mathlib.Core.Logic.{inl, inr}
use native.Mathlib.Omega.{arith}
use Rattle.rows.specs.Names.{ascii}
use Rattle.text.proofs.TextLaws.{same_text}
use Rattle.fieldtext.proofs.CodedLaws.{no_page, no_special, special_read}
use Rattle.fieldtext.proofs.specials.put_special.Goals as goal

pub returns-then-p-ge-PAGES : goal.returns-then-p-ge-PAGES
unfolding ascii
returns-then-p-ge-PAGES c =
    let a = c.args in
    let p = c.put_text.ensures in
    let e : special_text (special_at a.page a.i) ≡ ascii "?" = elim c.then-p-ge-PAGES.either [
      | inl h ↦ no_page a.page a.i h
      | inr h ↦ no_special a.page a.i (omega arith) h.1
    ] in
    (same_text (sym e) p, omega (arith, p.counts))

pub returns : goal.returns
returns c =
    let a = c.args in
    let r = special_read a.page a.i c.if-p-ge-PAGES.false c.if-k-ge-SPECIALS.false c.all-names.ensures in
    let p = c.put_padded.ensures in
    (same_text r.again p.0, omega (arith, r.long, p.1))
