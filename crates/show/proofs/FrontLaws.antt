-- Input that is longer than any container is shown as its front is. Assumes nothing.
use mathlib.Core.Path.{◌≡◌, refl, sym, ap, ◌∙◌}
use mathlib.Core.List.{List}
use Prim.Native.Nat.{ℕ, ◌<◌, ◌≤◌}
use native.Mathlib.Omega.{arith}
use lib.ListN.{length, take}
use lib.Seq.{length-take-le}
use Rattle.container.specs.Formats.{longest_container}
use Rattle.bits.specs.Outcomes.{Outcome, gives, refuses}
use Rattle.container.specs.declared.header.Header.{Header}
use Rattle.container.specs.Opening.{Rejection, open_outcome}
use Rattle.container.specs.Container.{version_of, count_of}
use Rattle.container.proofs.FormatLaws.{no_longer}
use Rattle.container.proofs.OpeningLaws.{sized}
use Rattle.listing.specs.Cut.{read_length, FromTheFront}
use Rattle.listing.proofs.CutLaws.{either_way, verdict_from_the_front}
use Rattle.verdicttext.specs.Words.{verdict_text}
use Rattle.show.specs.Show.{shown}
use Rattle.show.proofs.ShowLaws.{shown_refused}

-- what is too long does not open
too_long : (s : List ℕ) → longest_container < length s → (r : Rejection) × (open_outcome s ≡ refuses r)
too_long s big = go (open_outcome s) refl
  where
    go : (o : Outcome Rejection Header) → open_outcome s ≡ o → (r : Rejection) × (open_outcome s ≡ refuses r)
    go (gives h) e = absurd (let z = sized s e in omega (arith, z.long, no_longer (version_of s) (count_of s) z.fits))
    go (refuses r) e = (r, e)

long_shown : (s : List ℕ) → read_length ≤ length s → shown (take read_length s) ≡ shown s
long_shown s big =
    let l = length-take-le read_length s big in
    sym (shown_refused (take read_length s) (too_long (take read_length s) (omega arith)).1 refl)
    ∙ ap verdict_text (verdict_from_the_front s)
    ∙ shown_refused s (too_long s (omega arith)).1 refl

pub shown_from_the_front : FromTheFront shown
shown_from_the_front = either_way shown long_shown
