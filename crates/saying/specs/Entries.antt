-- The entries of an input: a label of k bytes, a length of four bytes, the lowest first, and as many bytes.
use Rattle.std.specs.Prelude.{ℕ, List, ◌≡◌, ◌+◌, ◌<◌, Option, length, take, drop, MatchOption}
use Rattle.std.specs.Int.{w32, from_le_bytes}
use Rattle.saying.specs.declared.entries.Entry.{Entry}
use Rattle.saying.specs.declared.entries.Entries.{Entries}

-- how many bytes the first entry says that it has, and how many it has with what stands before them
abbrev pub byte_count : ℕ → List ℕ → ℕ
byte_count k s = from_le_bytes w32 (take 4 (drop k s))

abbrev pub entry_length : ℕ → List ℕ → ℕ
entry_length k s = k + 4 + byte_count k s

-- what is given and left: the first entry and those after it; none, and the same as before, where the bytes end before it does
abbrev pub GivesEntry : Entries → Option Entry → Entries → Type 0
GivesEntry old given new =
    MatchOption
    given
    ((length old.rest.now < entry_length old.label old.rest.now) × (new ≡ old))
    (λ e.
    (e.label.now ≡ take old.label old.rest.now)
    × (e.bytes.now ≡ take (byte_count old.label old.rest.now) (drop (old.label + 4) old.rest.now))
    × (new.label ≡ old.label)
    × (new.rest.now ≡ drop (entry_length old.label old.rest.now) old.rest.now))
