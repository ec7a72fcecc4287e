use mathlib.Core.Path.{sym, ap}
use Rattle.view.specs.Words.{open_count, count_in}
use Rattle.container.proofs.OpeningLaws.{opened_by, refused_by}
use Rattle.view.proofs.open_count.Goals as goal

pub returns-in-Ok : goal.returns-in-Ok
unfolding open_count
returns-in-Ok c = ap count_in (sym (opened_by c.open.ensures c.in-Ok.is))

pub returns-in-Err : goal.returns-in-Err
unfolding open_count
returns-in-Err c = ap count_in (sym (refused_by c.open.ensures c.in-Err.is))
