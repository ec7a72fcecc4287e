-- The worked examples A to L, by computation. Assumes nothing.
use mathlib.Core.Path.{refl}
use Rattle.bits.specs.Fields.{join, fit, assigned}
use Rattle.bits.specs.Bytes.{little, little_bytes}
use Rattle.bits.specs.Sets.{lowest_from}
use Rattle.bits.specs.Signed.{unsigned, signed}
use Rattle.bits.specs.Outcomes.{◌then◌}
use Rattle.rows.specs.Rows.{rows}
use Rattle.rows.specs.Layout.{places, modifier_at, slots, find}
use Rattle.rows.specs.Sources.{meaning}
use Rattle.record.specs.Instructions.{numbers}
use Rattle.record.specs.Legality.{judge_modifiers, judge_sources, judge, roomy, judge_instruction}
use Rattle.reading.specs.Reader.{lowest_stray, read_row, read}
use Rattle.writing.specs.Writer.{same_list, same, write, stored}
use Rattle.codec.specs.Examples.{examples, Hold}

pub examples_hold : Hold examples
unfolding examples read read_row find lowest_stray lowest_from judge judge_modifiers judge_sources numbers unsigned signed rows places slots modifier_at meaning join fit assigned little little_bytes ◌then◌ stored write judge_instruction roomy same same_list
examples_hold = record { reads = refl; means = refl; writes = refl }
