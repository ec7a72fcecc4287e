-- A verdict in words, by its number. Assumes nothing.
use mathlib.Core.Path.{◌≡◌, sym}
use mathlib.Core.List.{[], ◌∷◌, ◌++◌, append_assoc}
use Prim.Native.Nat.{ℕ}
use Rattle.bits.specs.Outcomes.{refuses}
use Rattle.rows.specs.Names.{ascii}
use Rattle.safety.specs.declared.verdict.Finding.{Finding}
use Rattle.text.specs.Text.{line_feed, number_text}
use Rattle.verdicttext.specs.Words.{refusal_text, verdict_text}

module _ (f : Finding) where
  abbrev n : ℕ
  n = f.number

  pub refused_words : ascii "REFUSED with " ++ number_text 10 3 n ++ ascii ": " ++ refusal_text f ++ ascii ".\n" ≡ verdict_text (refuses f)
  unfolding verdict_text ascii
  refused_words = sym (append_assoc (ascii "REFUSED with " ++ number_text 10 3 n ++ ascii ": " ++ refusal_text f) (ascii ".") (line_feed ∷ []))
