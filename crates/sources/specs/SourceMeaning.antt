-- What the code's answers on a source byte stand for.
use Rattle.std.specs.Prelude.{ℕ}
use Rattle.sources.specs.declared.Source.{Source}
use Rattle.sources.specs.declared.Source.TheVariants.{Read, Released, Uniform, Immediate, SpecialLow, SpecialHigh, Refused}
use Rattle.rows.specs.Sources.{low_word, high_word, Meaning, register_read, register_released, uniform, immediate, special, refused, special_at}

-- what each answer on a byte stands for; a special constant is told by its number in the page's enumeration
abbrev pub source_meaning : ℕ → Source → Meaning
source_meaning page (Read r) = register_read r
source_meaning page (Released r) = register_released r
source_meaning page (Uniform u) = uniform u
source_meaning page (Immediate v) = immediate v
source_meaning page (SpecialLow i) = special (special_at page i) low_word
source_meaning page (SpecialHigh i) = special (special_at page i) high_word
source_meaning page Refused = refused
