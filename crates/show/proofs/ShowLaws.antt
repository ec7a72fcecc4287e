-- A parcel and its program as they are put together. Assumes nothing.
use mathlib.Core.Path.{◌≡◌, sym, ap₂}
use mathlib.Core.List.{List, [], ◌∷◌, ◌++◌, append_assoc}
use Prim.Native.Nat.{ℕ}
use Rattle.bits.specs.Outcomes.{Outcome, gives, refuses}
use Rattle.bits.specs.declared.halves.Halves.{Halves}
use Rattle.rows.specs.Names.{ascii}
use Rattle.container.specs.declared.header.Header.{Header}
use Rattle.container.specs.Container.{words_of, annotations_of}
use Rattle.container.specs.Opening.{Rejection, open_outcome}
use Rattle.safety.specs.Verdict.{Judgement, verdict_of}
use Rattle.text.specs.Text.{line_feed, number_text}
use Rattle.registertext.specs.Registers.{registers_text}
use Rattle.showlines.specs.Lines.{widest, title, lines}
use Rattle.verdicttext.specs.Words.{fault_line, fault_index, verdict_text}
use Rattle.show.specs.Show.{head, program_text, told_of, shown_of, shown}

-- the pieces of the head, as they are put
regroup : (x a p i n c r : List ℕ)
    → a ++ p ++ (x ++ i) ++ ([] ++ n ++ (x ++ c)) ++ r ++ (x ++ x) ≡ a ++ p ++ x ++ i ++ n ++ x ++ c ++ r ++ x ++ x
regroup x a p i n c r = simp append_assoc

pub headed : (v n : ℕ) (entry : Halves)
    → ascii "parcel version: "
    ++ number_text 10 5 v
    ++ ascii "\ninstructions: "
    ++ ([] ++ number_text 10 4 n ++ ascii "\nfilled before the start, by the parcel's own claim: ")
    ++ registers_text entry
    ++ ascii "\n\n"
    ≡ head v n entry
unfolding head ascii
headed v n entry =
    regroup (line_feed ∷ []) (ascii "parcel version: ") (number_text 10 5 v) (ascii "instructions: ") (number_text 10 4 n)
    (ascii "filled before the start, by the parcel's own claim: ") (registers_text entry)

pub programmed : (v : ℕ) (words notes : List ℕ) (n : ℕ) (judged : Judgement) {width at : ℕ} {fault : List ℕ} → width ≡ widest words n n → at ≡ fault_index judged → fault ≡ fault_line judged
    → title width ++ lines v words notes n width at fault n ++ (line_feed ∷ []) ≡ program_text v words notes n judged
unfolding program_text
programmed v words notes n judged p q r = rw (p, q, r)

module _ (s : List ℕ) where
  pub opened_parts : (h : Header) (judged : Judgement) {told : Judgement} {words notes : List ℕ} → told ≡ told_of h.version judged → words ≡ words_of s
      → notes ≡ annotations_of s
      → head h.version h.count h.entry ++ program_text h.version words notes h.count told ++ verdict_text told ≡ shown_of s judged (gives h)
  opened_parts h judged e p q = rw (e, p, q)

  pub shown_opened : {h : Header} {v : Judgement} → open_outcome s ≡ gives h → v ≡ verdict_of s → shown_of s v (gives h) ≡ shown s
  unfolding shown
  shown_opened {h} o e = ap₂ (λ (j : Judgement) (x : Outcome Rejection Header). shown_of s j x) e (sym o)

  pub shown_refused : {r : Rejection} {v : Judgement} → open_outcome s ≡ refuses r → v ≡ verdict_of s → verdict_text v ≡ shown s
  unfolding shown
  shown_refused o e = ap₂ (λ (j : Judgement) (x : Outcome Rejection Header). shown_of s j x) e (sym o)
