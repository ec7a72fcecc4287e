-- What the writer's answers mean: the word is written, or the refusal.
use Rattle.std.specs.Prelude.{Result}
use Rattle.bits.specs.Outcomes.{Outcome, outcome}
use Rattle.record.specs.declared.answer.Refusal.{Refusal}

abbrev pub writing : Result (Unit {0}) Refusal → Outcome Refusal (Unit {0})
writing r = outcome r
