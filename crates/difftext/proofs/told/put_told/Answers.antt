use mathlib.Core.Path.{◌≡◌, sym, ap}
use mathlib.Core.List.{List}
use Prim.Native.Nat.{ℕ, ◌≤◌}
use Rattle.rows.specs.Names.{ascii}
use Rattle.differences.specs.declared.line.What.{What}
use Rattle.text.specs.Text.{Put}
use Rattle.text.proofs.TextLaws.{same_text}
use Rattle.linetext.specs.Lines.{told, longest_told}
use Rattle.difftext.proofs.told.put_told.Goals as goal
use Rattle.std.proofs.Common.{arith}
use Rattle.std.proofs.lemmas.Grind.{common_steps}

-- the text by what it is
as_told : (i x y : ℕ) {w v : What} {before after : List ℕ} {r : ℕ} → w ≡ v → Put (told v i x y) before after r × (r ≤ longest_told)
    → Put (told w i x y) before after r × (r ≤ longest_told)
as_told i x y e p = (same_text (ap (λ (u : What). told u i x y) (sym e)) p.0, p.1)

pub returns-in-Page : goal.returns-in-Page
unfolding ascii
returns-in-Page c = as_told _ _ _ c.in-Page.is c.put_field.ensures

pub returns-in-Flow : goal.returns-in-Flow
unfolding ascii
returns-in-Flow c = as_told _ _ _ c.in-Flow.is c.put_field-in-Flow.ensures

pub returns-in-Destination : goal.returns-in-Destination
unfolding ascii
returns-in-Destination c = as_told _ _ _ c.in-Destination.is c.put_field-in-Destination.ensures

pub returns-in-Source : goal.returns-in-Source
unfolding ascii
returns-in-Source c = as_told _ _ _ c.in-Source.is c.put_numbered.ensures

pub returns-in-Modifier : goal.returns-in-Modifier
unfolding ascii
returns-in-Modifier c = grind (arith, common_steps, same_text, as_told)

pub returns-in-Added : goal.returns-in-Added
unfolding ascii
returns-in-Added c = as_told _ _ _ c.in-Added.is c.put_extra.ensures

pub returns-in-Removed : goal.returns-in-Removed
unfolding ascii
returns-in-Removed c = as_told _ _ _ c.in-Removed.is c.put_extra-in-Removed.ensures
