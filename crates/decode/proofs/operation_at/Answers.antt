use mathlib.Core.Path.{sym, ap, ◌∙◌}
use Rattle.reader.specs.Answers.{reading}
use Rattle.decode.proofs.DecodeLaws.{of_read, never}
use Rattle.decode.proofs.operation_at.Goals as goal

pub returns-in-Ok : goal.returns-in-Ok
returns-in-Ok c = let a = c.args in of_read a.words.now a.uniforms.now a.n a.i (ap reading (sym c.in-Ok.is) ∙ c.reading_at-r.ensures) c.operation_of.ensures

pub returns-in-Err : goal.returns-in-Err
returns-in-Err c = let a = c.args in absurd (never a.words.now a.uniforms.now a.n c.requires.2 a.i c.requires.1 (ap reading (sym c.in-Err.is) ∙ c.reading_at-r.ensures))
