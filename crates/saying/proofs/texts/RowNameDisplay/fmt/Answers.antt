use Rattle.std.proofs.Common.{◌≡◌}
use Rattle.rows.specs.Names.{name_of, name}
use Rattle.saying.proofs.NameLaws.{fits, unfilled}
use Rattle.saying.proofs.texts.RowNameDisplay.fmt.Goals as goal

-- src/texts.rt:72:13
pub shared_ref_as_front-letters : goal.shared_ref_as_front-letters
unfolding name
shared_ref_as_front-letters g c = rw (c.from.ensures, c.of_row-name.ensures) (fits c.args.self.now.0)

-- src/texts.rt:70:5
pub returns-in-Ok-clause-writes : goal.returns-in-Ok-clause-writes
unfolding name
returns-in-Ok-clause-writes g c plain ok =
    let name : c.in-Ok.text.now ≡ name_of c.args.self.now.0 = rw (c.in-Ok.ensures.cases.0, c.from.ensures, c.of_row-name.ensures) (unfilled (name_of c.args.self.now.0)) in
    rw (← name) (c.write_str.ensures.writes plain ok)
