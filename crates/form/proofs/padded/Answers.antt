use mathlib.Core.Path.{ap, ◌∙◌}
use mathlib.Core.Bool.{not}
use lib.ListN.{get_or}
use Rattle.form.specs.Form.{padded}
use Rattle.form.proofs.FormLaws.{all_zero}
use Rattle.form.proofs.padded.Goals as goal

pub returns : goal.returns
unfolding padded
returns c = let f = c.args.f in c.ne.ensures ∙ ap not (all_zero (get_or f 23 0) (get_or f 28 0) (get_or f 29 0) (get_or f 30 0) (get_or f 31 0))
