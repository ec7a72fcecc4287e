use borrow.Author.Tests.{eqb-true}
use Rattle.reading.proofs.SourceBytes.{low_bytes}
use Rattle.judge.proofs.all_low.Goals as goal

pub returns : goal.returns
returns c = λ e j h. low_bytes c.args.v (eqb-true _ _ e) j h
