-- Demand 1: a call gives what it is for, be it the record of a word, the word of a record, an opened or a written parcel, a verdict, the
-- notes that the maker proposes and the number of its sweeps (02, Item 1), of what differs between two parcels a line of the list, that the
-- list has fewer, or the whole list (02, Item 4), or what stopped a replay, and after how many steps (02, Item 8); or it refuses, and then
-- with a single number: the one whose turn comes first (01, Numbers given back), of which a comparison says whose it is. The call for the
-- rows of an opcode refuses nothing: it gives a row or says that there is none (02, Item 3).
use Rattle.std.specs.Prelude.{Bool, true, false, List, [], ◌∷◌, ℕ, zero, suc, Result, Ok, Err}

-- what a call ends with: a value, or a refusal. R says what a refusal tells: its number, and with it a place, or more.
pub data Outcome (R A : Type 0) : Type 0 where
  gives : A → Outcome R A
  refuses : R → Outcome R A

-- what a `Result` of the code stands for
abbrev pub outcome : {R A : Type 0} → Result A R → Outcome R A
outcome (Ok a) = gives a
outcome (Err r) = refuses r

-- a test that passes has nothing to give
abbrev pub passes : {R : Type 0} → Outcome R (Unit {0})
passes = gives tt

-- what must hold, or else this refusal
abbrev pub require : {R : Type 0} → Bool → R → Outcome R (Unit {0})
require true r = passes
require false r = refuses r

-- the first refusal of two, and what the second gives where neither refuses
infixr 3 ◌then◌
unfoldable pub ◌then◌ : {R A : Type 0} → Outcome R (Unit {0}) → Outcome R A → Outcome R A
gives _ then b = b
refuses r then b = refuses r

-- what a buffer that held `old` holds after a call: the new bytes where the call gave something, and on a refusal the old ones
abbrev pub kept_or : {R A : Type 0} → Outcome R A → List ℕ → List ℕ → List ℕ
kept_or (gives _) new old = new
kept_or (refuses _) new old = old

-- the first refusal among f 0 to f (n - 1)
unfoldable pub first : {R : Type 0} → (ℕ → Outcome R (Unit {0})) → ℕ → Outcome R (Unit {0})
first f zero = passes
first f (suc n) = first f n then f n

-- the first refusal along a list
unfoldable pub each : {R A : Type 0} → (A → Outcome R (Unit {0})) → List A → Outcome R (Unit {0})
each f [] = passes
each f (x ∷ xs) = f x then each f xs
