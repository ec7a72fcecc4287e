-- That the digits of a line say its numbers whole (02, Items 4 and 7).
use Rattle.std.specs.Prelude.{◌≡◌, Bool, true, List, ℕ, ◌^◌, ◌<◌, T, ltb, Some}
use Rattle.std.proofs.Math.Pow.{are_bytes}
use Rattle.bits.specs.Lists.{kth}
use Rattle.safety.specs.Program.{WellFormed}
use Rattle.differences.specs.declared.line.What.{What}
use Rattle.differences.specs.declared.line.What.TheVariants.{Row, Page, Flow, Destination, Source, Modifier, Added, Removed, Entry, Annotation, Version}
use Rattle.differences.specs.declared.line.Line.{Line}
use Rattle.differences.specs.Differences.{differences}
use Rattle.linetext.specs.Lines.{content_digits}

-- the base of a content's digits
abbrev pub base : What → ℕ
base Row = 10
base Page = 16
base Flow = 16
base Destination = 16
base (Source _) = 16
base (Modifier _) = 16
base Added = 16
base Removed = 16
base (Entry _) = 16
base (Annotation _) = 16
base Version = 16

-- how many contents the digits of a content can say
abbrev pub sayable : What → ℕ
sayable w = base w ^ content_digits w

-- a source's index has one digit, a modifier's lowest bit has two, and of sets there are three
abbrev pub numbered : What → Bool
numbered Row = true
numbered Page = true
numbered Flow = true
numbered Destination = true
numbered (Source k) = ltb k (10 ^ 1)
numbered (Modifier p) = ltb p (10 ^ 2)
numbered Added = true
numbered Removed = true
numbered (Entry k) = ltb k 3
numbered (Annotation k) = ltb k 3
numbered Version = true

pub record Shown (l : Line) : Type 0 where
  pub index : l.index < 10 ^ 4
  pub what : T (numbered l.what)
  pub first : l.first < sayable l.what
  pub second : l.second < sayable l.what

-- so of each line of two well-formed containers
abbrev pub ShownWhole : List ℕ → List ℕ → Type 0
ShownWhole a b =
    T (are_bytes a) → T (are_bytes b) → WellFormed a → WellFormed b → (k : ℕ) (l : Line) → kth (differences a b) k ≡ Some l → Shown l
