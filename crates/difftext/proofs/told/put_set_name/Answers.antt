use native.Mathlib.Omega.{arith}
use Rattle.rows.specs.Names.{ascii}
use Rattle.text.proofs.TextLaws.{same_text}
use Rattle.difftext.proofs.told.put_set_name.Goals as goal
use Rattle.std.proofs.lemmas.Grind.{common_steps}

pub returns-in-1 : goal.returns-in-1
unfolding ascii
returns-in-1 c = grind (arith, common_steps, same_text)

pub returns-in-2 : goal.returns-in-2
unfolding ascii
returns-in-2 c = grind (arith, common_steps, same_text)
