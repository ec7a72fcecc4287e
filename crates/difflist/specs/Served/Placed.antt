-- Lines in a buffer, three numbers for each, put after k others.
use Rattle.std.specs.Prelude.{◌≡◌, ℕ, ◌+◌, ◌*◌, ◌<◌, length, take, drop}
use mathlib.Core.List.{List, ◌++◌, Memᴰ}
use Rattle.container.specs.Formats.{most_instructions}
use Rattle.differences.specs.declared.line.Line.{Line}
use Rattle.differences.specs.Numbers.{lines_numbers}

-- the buffer afterwards: what stands before them and after them stays
unfoldable pub placed : ℕ → List Line → List ℕ → List ℕ
placed k ls out = take (3 * k) out ++ (lines_numbers ls ++ drop (3 * (k + length ls)) out)

-- the lines were put after k others, and r is how many there are then
pub record Placed (ls : List Line) (k : ℕ) (before after : List ℕ) (r : ℕ) : Type 0 where
  pub counts : r ≡ k + length ls
  pub fills : after ≡ placed k ls before

-- each of the lines has the index of an instruction
abbrev pub Indexed : List Line → Type 0
Indexed ls = (l : Line) → Memᴰ l ls → l.index < most_instructions
