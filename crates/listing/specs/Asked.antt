-- What 01, The lister, asks of a listing, in terms of well-formed containers; and that no digit of a verdict is lost.
use Rattle.std.specs.Prelude.{◌≡◌, List, [], ◌∷◌, ◌++◌, ◌↔◌, ℕ, ◌<◌, ◌≤◌}
use Rattle.container.specs.Formats.{most_instructions}
use Rattle.bits.specs.Outcomes.{refuses}
use Rattle.container.specs.Container.{count_of, words_of}
use Rattle.container.specs.Opening.{Opens}
use Rattle.safety.specs.declared.verdict.Reported.TheVariants.{Neither}
use Rattle.safety.specs.declared.verdict.Finding.{Finding}
use Rattle.safety.specs.Program.{WellFormed}
use Rattle.safety.specs.Verdict.{no_register, verdict_of}
use Rattle.safety.specs.Passed.{Unreadable, PassedOn}
use Rattle.text.specs.Text.{space, line_feed, decimal}
use Rattle.verdictline.specs.VerdictLine.{refusal_fields, verdict_line}
use Rattle.listing.specs.Listing.{lines}

-- the digits of a refusal say its numbers whole: two for the number, four for the index, two for the register, two for the place; and there
-- is a letter for the half (02, Item 7) but where the register is 64
pub record Shown (f : Finding) : Type 0 where
  pub number : f.number < 100
  pub index : f.index < 10000
  pub register : f.register < 100
  pub place : f.place < 100
  pub letter : (f.half ≡ Neither) ↔ (f.register ≡ no_register)

-- of the bytes s and the text that is listed for them
pub record ListedAsAsked (s text : List ℕ) : Type 0 where
  -- of a well-formed container a line for each word, and after them the verdict
  pub well_formed : WellFormed s → text ≡ lines (words_of s) (count_of s) ++ verdict_line (verdict_of s)
  -- the four digits of an index say it whole
  pub few : WellFormed s → count_of s ≤ most_instructions
  -- of any other bytes the verdict alone
  pub otherwise : (¬ WellFormed s) → text ≡ verdict_line (verdict_of s)
  -- where a word does not read (02, Item 5), the number is one of 2 to 7, and with these numbers the reader's own number and place are told, the
  -- place as a fourth field; no other refusal has that
  pub unreadable : Opens s → (¬ WellFormed s) → (f : Finding) → verdict_of s ≡ refuses f → Unreadable f
  pub passed : (f : Finding) → verdict_of s ≡ refuses f → Unreadable f
      → PassedOn (words_of s) (count_of s) f × (text ≡ refusal_fields f ++ ((space ∷ decimal 2 f.place) ++ (line_feed ∷ [])))
  pub unplaced : (f : Finding) → verdict_of s ≡ refuses f → (¬ Unreadable f) → verdict_line (verdict_of s) ≡ refusal_fields f ++ (line_feed ∷ [])
  pub shown : (f : Finding) → verdict_of s ≡ refuses f → Shown f
