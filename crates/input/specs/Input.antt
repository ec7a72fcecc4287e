-- What reading standard input gives.
use Rattle.std.specs.Prelude.{ℕ, ◌≤◌, Result, Ok, Err}
use Rattle.input.specs.declared.ReadFailed.{ReadFailed}

-- how many bytes were read, or that a read failed
abbrev pub Input : Type 0
Input = Result ℕ ReadFailed

-- what a read gave, by its answer: an error is a failure, and not the end of the input
abbrev pub taken : {E : Type 0} → Result ℕ E → Input
taken (Ok n) = Ok n
taken (Err _) = Err (record {})

-- no more than m bytes were read
abbrev pub Within : Input → ℕ → Type 0
Within (Ok n) m = n ≤ m
Within (Err _) m = Unit {0}
