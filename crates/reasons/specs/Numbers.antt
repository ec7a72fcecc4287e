-- The numbers of refusals. A number is given for one reason only; 14 and 15 stand for what a caller who looks first never meets.
use Rattle.std.specs.Prelude.{ℕ}
use Rattle.reasons.specs.declared.Reason.{Reason}
use Rattle.reasons.specs.declared.Reason.TheVariants.{WordLength, NoRow, StrayBit, ReservedFlow, NoHalf, IllegalModifier, IllegalSource, RoomLength, NoRoom, WrongMark, WrongVersion, WrongLength, NotZero, NoWord, NotTheSame, ReadMissing, SuccessorOutside, SuccessorMissing, EntryMissing, NoneAcceptable, NotReplayable, UniformMissing, TraceLength}

-- the number that the rules give a reason
abbrev pub number_of : Reason → ℕ
number_of WordLength = 1
number_of NoRow = 2
number_of StrayBit = 3
number_of ReservedFlow = 4
number_of NoHalf = 5
number_of IllegalModifier = 6
number_of IllegalSource = 7
number_of RoomLength = 8
number_of NoRoom = 9
number_of WrongMark = 10
number_of WrongVersion = 11
number_of WrongLength = 12
number_of NotZero = 13
number_of NoWord = 14
number_of NotTheSame = 15
number_of ReadMissing = 20
number_of SuccessorOutside = 21
number_of SuccessorMissing = 22
number_of EntryMissing = 23
number_of NoneAcceptable = 24
number_of NotReplayable = 30
number_of UniformMissing = 31
number_of TraceLength = 32
