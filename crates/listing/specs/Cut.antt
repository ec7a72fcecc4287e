-- What the lister reads of an input that is longer than any container: one byte more than the longest, and that is enough.
use Rattle.std.specs.Prelude.{◌≡◌, List, ℕ, ◌+◌, take}
use Rattle.container.specs.Formats.{longest_container}

abbrev pub read_length : ℕ
read_length = longest_container + 1

-- the answer on what is read is the answer on the whole input
abbrev pub FromTheFront : {A : Type 0} → (List ℕ → A) → Type 0
FromTheFront answer = (s : List ℕ) → answer (take read_length s) ≡ answer s
