use mathlib.Core.Path.{sym, ap, ◌∙◌}
use Rattle.view.specs.Words.{fetched_outcome}
use Rattle.listing.specs.Listing.{line}
use Rattle.text.proofs.TextLaws.{same_text}
use Rattle.listing.proofs.LineLaws.{fetched, never_missing}
use Rattle.listing.proofs.line.put_word.Goals as goal

pub returns-in-Ok : goal.returns-in-Ok
returns-in-Ok c =
    let e = fetched c.args.bytes.now c.requires.0 c.requires.1 (sym (ap fetched_outcome c.in-Ok.is) ∙ c.word_of.ensures) in
    (same_text (ap (line c.args.i) e) c.put_line.ensures.0, c.put_line.ensures.1)

pub returns-in-Err : goal.returns-in-Err
returns-in-Err c =
    never_missing c.args.bytes.now c.requires.0 c.requires.1 (sym (ap fetched_outcome c.in-Err.is) ∙ c.word_of.ensures)
