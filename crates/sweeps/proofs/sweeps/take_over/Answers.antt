use mathlib.Core.Bool.{not}
use mathlib.Core.Path.{ap, ◌∙◌}
use Rattle.sweeps.proofs.SameLaws.{lists_same}
use Rattle.sweeps.proofs.sweeps.take_over.Goals as goal

pub returns-clause-changed : goal.returns-clause-changed
returns-clause-changed c = let a = c.args in c.ne-changed.ensures ∙ ap not (lists_same a.notes.now a.new.now c.requires)
