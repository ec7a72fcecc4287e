-- The rows of an opcode (02, Item 3): a word is compared with the rows of its opcode and with no others, and a call gives those of any
-- opcode one by one.
use Rattle.std.specs.Prelude.{◌≡◌, true, List, [], ◌∷◌, ℕ, suc, ◌<◌, ◌≤◌, eqb, None, Option, Some}
use Rattle.bits.specs.Fields.{bits, choose}
use Rattle.bits.specs.Lists.{kth}
use Rattle.rows.specs.Rows.{Row, rows, row_of, row_count}
use Rattle.rows.specs.Layout.{fits}

-- the numbers of those of some rows that have the opcode, in their order; the first of the rows is number i
unfoldable pub having : ℕ → List Row → ℕ → List ℕ
having opcode [] i = []
having opcode (r ∷ rs) i = choose (eqb r.opcode opcode) (i ∷ having opcode rs (suc i)) (having opcode rs (suc i))

-- the rows of an opcode, in row order
abbrev pub rows_with : ℕ → List ℕ
rows_with opcode = having opcode rows 0

-- what the call gives: the k-th row that has the opcode, from 0 in row order, or none
abbrev pub row_with : ℕ → ℕ → Option ℕ
row_with opcode k = kth (rows_with opcode) k

-- What the request asks of a call that gives `row o k` for opcode o and k.
pub record Indexes (row : ℕ → ℕ → Option ℕ) : Type 0 where
  -- a row that is given has that opcode
  pub has_it : (o k i : ℕ) → row o k ≡ Some i → (i < row_count) × ((row_of i).opcode ≡ o)
  -- each row is given under its opcode, at one k and no other
  pub at_one : (i : ℕ) → i < row_count
      → (k : ℕ) × ((row (row_of i).opcode k ≡ Some i) × ((j : ℕ) → row (row_of i).opcode j ≡ Some i → j ≡ k))
  -- k counts in row order
  pub in_order : (o j k a b : ℕ) → row o j ≡ Some a → row o k ≡ Some b → j < k → a < b
  -- and from 0: past a k that has none there is none
  pub from_0 : (o j k : ℕ) → row o j ≡ None → j ≤ k → row o k ≡ None
  -- no opcode has over 25
  pub at_most_25 : (o k : ℕ) → 25 ≤ k → row o k ≡ None

-- the first of some rows, given by their numbers, that a word fits, or none
unfoldable pub first_fit : List ℕ → ℕ → Option ℕ
first_fit [] w = None
first_fit (k ∷ ks) w = choose (fits (row_of k) w) (Some k) (first_fit ks w)

-- the row of a word: it is looked for among the rows of the word's opcode
abbrev pub row_for : ℕ → Option ℕ
row_for w = first_fit (rows_with (bits w 48 9)) w

-- What the request asks of looking for a word's row.
pub record OwnRows (row : ℕ → Option ℕ) : Type 0 where
  -- a row that is found has the word's opcode
  pub own : (w k : ℕ) → row w ≡ Some k → (k < row_count) × ((row_of k).opcode ≡ bits w 48 9)
  -- and the row that fits is found, if one does
  pub fitting : (w k : ℕ) → k < row_count → fits (row_of k) w ≡ true → row w ≡ Some k
