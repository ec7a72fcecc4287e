use mathlib.Core.Path.{refl}
use mathlib.Core.List.{flatten}
use Rattle.rows.specs.Names.{ascii}
use Rattle.text.specs.Text.{number_text, digits, digit_count}
use Rattle.fieldtext.specs.Served.Coded.{special_list, special_table}
use Rattle.fieldtext.proofs.specials.all.Goals as goal

pub returns : goal.returns
unfolding special_table special_list flatten ascii number_text digits digit_count
returns c = refl
