use native.Mathlib.Omega.{arith}
use Rattle.rows.specs.Names.{ascii}
use Rattle.text.proofs.TextLaws.{put_next, same_text}
use Rattle.verdicttext.proofs.WordLaws.{refused_words}
use Rattle.verdicttext.proofs.words.put_refused.Goals as goal

pub returns : goal.returns
unfolding ascii
returns c = (same_text (refused_words c.args.f) (put_next (put_next c.put_enclosed-at.ensures.0 c.put_refusal-at.ensures.0) c.put_text-at.ensures), omega (arith, c.put_enclosed-at.ensures.1, c.put_refusal-at.ensures.1, c.put_text-at.ensures.counts))
