-- The marks that the code makes for the indexes that a branch leads to.
use Rattle.std.specs.Prelude.{Bool, true, false, List, ℕ, zero, suc, ltb, set, replicate}
use Rattle.container.specs.Formats.{most_instructions}
use Rattle.bits.specs.Fields.{choose}
use Rattle.showlines.specs.Lines.{leads_to}

abbrev pub marked_at : List Bool → ℕ → ℕ → List Bool
marked_at marks n j = choose (ltb j n) (set marks j true) marks

-- after the first k instructions of n
unfoldable pub marks_of : List ℕ → ℕ → ℕ → List Bool
marks_of words n zero = replicate most_instructions false
marks_of words n (suc k) = marked_at (marks_of words n k) n (leads_to words n k)
