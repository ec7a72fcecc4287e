-- What paper 02, Items 4 and 7, asks of a comparison, said of any that answers for two containers and k.
use Rattle.std.specs.Prelude.{◌≡◌, ◌↔◌, ◌≢◌, ℕ, ◌+◌, ◌<◌, ◌≤◌, T, get_or, Option, None, Some}
use mathlib.Core.List.{List, Memᴰ}
use Rattle.std.proofs.Math.Pow.{are_bytes}
use Rattle.bits.specs.Outcomes.{Outcome, gives, refuses, passes}
use Rattle.container.specs.Container.{version_of, count_of, entry_of, words_of}
use Rattle.safety.specs.declared.verdict.Finding.{Finding}
use Rattle.safety.specs.Program.{WellFormed}
use Rattle.safety.specs.Verdict.{all_read}
use Rattle.safety.specs.Passed.{Unreadable, PassedOn}
use Rattle.differences.specs.declared.answer.Side.TheVariants.{First, Second}
use Rattle.differences.specs.declared.answer.Unread.{Unread}
use Rattle.differences.specs.declared.line.What.{What}
use Rattle.differences.specs.declared.line.What.TheVariants.{Row, Page, Flow, Destination, Source, Modifier, Added, Removed, Entry, Annotation, Version}
use Rattle.differences.specs.declared.line.Line.{Line}
use Rattle.differences.specs.Records.{fields, field_count, contents}
use Rattle.differences.specs.Sets.{compared, note_of, set_in}
use Rattle.differences.specs.Answers.{side_of}
use Rattle.differences.specs.Differences.{line, instruction_of, word_of, shared}

-- what field j holds in the instruction at index i
abbrev pub content : List ℕ → ℕ → ℕ → ℕ
content s i j = get_or (contents (instruction_of s i)) j 0

-- what differs between two containers, and the line that says so
pub data Differs (a b : List ℕ) : Line → Type 0 where
  -- the versions
  at_version : version_of a ≢ version_of b → Differs a b (line Version 0 (version_of a) (version_of b))
  -- both have an instruction at index i, and a field of it holds another number
  at_field : (i j : ℕ) → i < shared a b → j < field_count → content a i j ≢ content b i j
      → Differs a b (line (get_or fields j Row) i (content a i j) (content b i j))
  -- only the first has an instruction at index i,
  at_removed : (i : ℕ) → count_of b ≤ i → i < count_of a → Differs a b (line Removed i (word_of a i) 0)
  -- or only the second
  at_added : (i : ℕ) → count_of a ≤ i → i < count_of b → Differs a b (line Added i 0 (word_of b i))
  -- a set of the entry sets
  at_entry : (k : ℕ) → Memᴰ k (compared a b) → set_in k (entry_of a) ≢ set_in k (entry_of b)
      → Differs a b (line (Entry k) 0 (set_in k (entry_of a)) (set_in k (entry_of b)))
  -- a set of the annotations (the paper's notes) of an index that both have
  at_note : (i k : ℕ) → i < shared a b → Memᴰ k (compared a b) → set_in k (note_of a i) ≢ set_in k (note_of b i)
      → Differs a b (line (Annotation k) i (set_in k (note_of a i)) (set_in k (note_of b i)))

-- the parts of the list: the versions, instructions that both have, extra instructions, the entry sets, annotations
abbrev pub stage : What → ℕ
stage Version = 0
stage Row = 1
stage Page = 1
stage Flow = 1
stage Destination = 1
stage (Source _) = 1
stage (Modifier _) = 1
stage Added = 2
stage Removed = 2
stage (Entry _) = 3
stage (Annotation _) = 4

-- the order of the fields, the modifiers by their lowest bits, and the order of the sets, by their numbers. The other parts of the list
-- have one line at an index at most, so that their rank is not asked.
abbrev pub rank : What → ℕ
rank Row = 0
rank Page = 1
rank Flow = 2
rank Destination = 3
rank (Source k) = 4 + k
rank (Modifier p) = 8 + p
rank Added = 0
rank Removed = 0
rank (Entry k) = k
rank (Annotation k) = k
rank Version = 0

-- one line stands before another: in an earlier part, or at a lower index of the same part, or with an earlier field or set of the same
-- index
pub data Before (l m : Line) : Type 0 where
  by_stage : stage l.what < stage m.what → Before l m
  by_index : stage l.what ≡ stage m.what → l.index < m.index → Before l m
  by_field : stage l.what ≡ stage m.what → l.index ≡ m.index → rank l.what < rank m.what → Before l m

-- what is asked of the answers for the containers a and b, at each k
pub record AsAsked (a b : List ℕ) (answer : ℕ → Outcome Unread (Option Line)) : Type 0 where
  -- where the first does not open or read, that is the answer, and else where the second does not; the same for every k
  pub first_unread : (f : Finding) → all_read a ≡ refuses f → (k : ℕ) → answer k ≡ refuses (record { side = First; finding = f })
  pub second_unread : all_read a ≡ passes → (f : Finding) → all_read b ≡ refuses f
      → (k : ℕ) → answer k ≡ refuses (record { side = Second; finding = f })
  -- a refusal of a word is the reader's own, passed on unchanged (02, Item 5)
  pub passed : (k : ℕ) (u : Unread) → answer k ≡ refuses u → Unreadable u.finding
      → PassedOn (words_of (side_of a b u.side)) (count_of (side_of a b u.side)) u.finding
  -- where both do, a line is told, or that there are fewer,
  pub told : WellFormed a → WellFormed b → (k : ℕ) → (o : Option Line) × (answer k ≡ gives o)
  -- each line tells what differs,
  pub true_lines : WellFormed a → WellFormed b → (k : ℕ) (l : Line) → answer k ≡ gives (Some l) → Differs a b l
  -- whatever differs has its line,
  pub all_lines : WellFormed a → WellFormed b → (l : Line) → Differs a b l → (k : ℕ) × (answer k ≡ gives (Some l))
  -- the versions come first where they differ (02, Item 7),
  pub versions_first : WellFormed a → WellFormed b → version_of a ≢ version_of b
      → answer 0 ≡ gives (Some (line Version 0 (version_of a) (version_of b)))
  -- the lines stand in order, so that none stands there twice,
  pub in_order : WellFormed a → WellFormed b → (j k : ℕ) (l m : Line) → j < k → answer j ≡ gives (Some l) → answer k ≡ gives (Some m)
      → Before l m
  -- they are numbered from 0 without a gap,
  pub no_gap : WellFormed a → WellFormed b → (j k : ℕ) → j ≤ k → answer j ≡ gives None → answer k ≡ gives None
  -- and nothing is listed exactly when the bytes are equal
  pub equal : WellFormed a → WellFormed b → (answer 0 ≡ gives None) ↔ (a ≡ b)

-- a comparison: what it answers for two containers and k
abbrev pub Comparison : Type 0
Comparison = List ℕ → List ℕ → ℕ → Outcome Unread (Option Line)

-- of a comparison: so for all bytes
abbrev pub Compares : Comparison → Type 0
Compares c = (a b : List ℕ) → T (are_bytes a) → T (are_bytes b) → AsAsked a b (c a b)
