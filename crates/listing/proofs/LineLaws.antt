-- The line of a word. Assumes nothing.
use mathlib.Core.Path.{◌≡◌, ◌∙◌}
use mathlib.Core.List.{List, [], ◌∷◌, ◌++◌}
use Prim.Native.Nat.{ℕ, ◌<◌}
use Rattle.bits.specs.Outcomes.{Outcome, gives, refuses}
use Rattle.bits.proofs.OutcomeLaws.{never}
use Rattle.record.specs.declared.instruction.Instruction.{Instruction}
use Rattle.record.specs.declared.answer.Refusal.{Refusal}
use Rattle.reading.specs.Reader.{read_number}
use Rattle.container.specs.Container.{count_of, words_of}
use Rattle.container.specs.Opening.{Rejection, Opens}
use Rattle.view.specs.Words.{word_outcome, open_count}
use Rattle.view.proofs.WordLaws.{opened_word}
use Rattle.text.specs.Text.{space, line_feed, decimal, hex, Put}
use Rattle.text.specs.Name.{name_in}
use Rattle.listing.specs.Listing.{line, word_in}

-- piece by piece
pub line_put : (i w : ℕ) {n : ℕ} {r : Outcome Refusal Instruction} {before after : List ℕ} → r ≡ read_number w
    → Put (decimal 4 i ++ (space ∷ hex 16 w) ++ (space ∷ name_in r) ++ (line_feed ∷ [])) before after n → Put (line i w) before after n
unfolding line
line_put i w f p = rw (← f) p

-- the word that was fetched
pub fetched : (s : List ℕ) {i w : ℕ} → Opens s → i < count_of s → gives w ≡ word_outcome s (open_count s) i → w ≡ word_in (words_of s) i
fetched s {i} o l e = cc (e ∙ opened_word s o i l)

pub never_missing : (s : List ℕ) {i : ℕ} {r : Rejection} {X : Type 0} → Opens s → i < count_of s → refuses r ≡ word_outcome s (open_count s) i → X
never_missing s {i} o l e = never (e ∙ opened_word s o i l)
