-- Input that is longer than any container gets the listing and the verdict of its front. Assumes nothing.
use mathlib.Core.Path.{◌≡◌, refl, sym, ap, ◌∙◌}
use mathlib.Core.Bool.{Bool, true, false, ◌&&◌}
use mathlib.Core.List.{List}
use Prim.Native.Nat.{ℕ, ◌<◌, ◌≤◌}
use native.Mathlib.Omega.{arith}
use borrow.Author.Tests.{le-leb, leb-true, ltb-true, ltb-false, ne_eqb}
use lib.Dec.{leb, ltb, eqb, lit<}
use lib.ListN.{length, take, get_or}
use lib.Seq.{take_all, get_or-take, length-take-le}
use Rattle.bits.specs.Outcomes.{Outcome, gives, refuses, require, ◌then◌, first}
use Rattle.bits.proofs.OutcomeLaws.{then_refused}
use Rattle.container.specs.declared.header.Header.{Header}
use Rattle.container.specs.Formats.{known, most_of, shortest_header, container_length, longest_container}
use Rattle.container.specs.Container.{marked, version_of, zero_of, count_of, words_of}
use Rattle.container.specs.Opening.{Rejection, unplaced, header_of, open_outcome}
use Rattle.container.proofs.FormatLaws.{no_longer}
use Rattle.container.proofs.OpeningLaws.{sized, version_two}
use Rattle.safety.specs.Program.{program_of, WellFormed}
use Rattle.safety.specs.Verdict.{judge_opening, judge_word, judge_program, verdict_of, all_read, plain}
use Rattle.verdictline.specs.VerdictLine.{verdict_line}
use Rattle.listing.specs.Listing.{listing}
use Rattle.listing.specs.Cut.{read_length, FromTheFront}
use Rattle.listing.proofs.ListingLaws.{listing_unread}

-- the tests of the count and of the length, as opening has them
abbrev counted : Bool → Bool → Header → Outcome Rejection Header
counted count long h = require count (unplaced 12) then require long (unplaced 12) then gives h

-- no count goes with a length over the longest
no_count : (l v n : ℕ) (h : Header) → longest_container < l
    → counted (leb 1 n && leb n (most_of v)) (eqb l (container_length v n)) h ≡ refuses (unplaced 12)
unfolding ◌then◌
no_count l v n h big = go (leb 1 n) (leb n (most_of v)) refl
  where
    go : (a b : Bool) → leb n (most_of v) ≡ b → counted (a && b) (eqb l (container_length v n)) h ≡ refuses (unplaced 12)
    go false b e = refl
    go true false e = refl
    go true true e = rw (ne_eqb l (container_length v n) (λ q. omega (arith, q, no_longer v n (leb-true n (most_of v) e))))

-- what is too long is refused by its first eight bytes
abbrev front : Bool → Bool → Bool → Outcome Rejection Header
front mark read nought = require mark (unplaced 10) then require read (unplaced 11) then require nought (unplaced 13) then refuses (unplaced 12)

front_refuses : (a b c : Bool) → (n : ℕ) × (front a b c ≡ refuses (unplaced n))
unfolding ◌then◌
front_refuses false b c = (10, refl)
front_refuses true false c = (11, refl)
front_refuses true true false = (13, refl)
front_refuses true true true = (12, refl)

module _ (s : List ℕ) (big : longest_container < length s) where
  by_front : open_outcome s ≡ front (marked s) (known (version_of s)) (eqb (zero_of s) 0)
  unfolding open_outcome ◌then◌
  by_front = rw (le-leb shortest_header (length s) (omega arith), no_count (length s) (version_of s) (count_of s) (header_of s) big)

module _ (s : List ℕ) {n : ℕ} (o : open_outcome s ≡ refuses (unplaced n)) where
  unopened_verdict : verdict_of s ≡ refuses (plain n 0 0)
  unfolding verdict_of
  unopened_verdict = then_refused (first (judge_word (words_of s)) (count_of s) then judge_program (program_of s)) (ap judge_opening o)

  unopened_read : all_read s ≡ refuses (plain n 0 0)
  unfolding all_read
  unopened_read = then_refused (first (judge_word (words_of s)) (count_of s)) (ap judge_opening o)

  unopened_listing : listing s ≡ verdict_line (refuses (plain n 0 0))
  unopened_listing = listing_unread s unopened_read ∙ ap verdict_line unopened_verdict

-- inputs that are too long and have the same first bytes
module _ (s t : List ℕ) (same : (i : ℕ) → i < 8 → get_or t i 0 ≡ get_or s i 0) where
  same_mark : marked t ≡ marked s
  same_mark = rw (same 0 (lit< tt), same 1 (lit< tt), same 2 (lit< tt))

  same_version : version_of t ≡ version_of s
  same_version = version_two t ∙ rw (same 3 (lit< tt), same 4 (lit< tt)) (sym (version_two s))

  same_opening : longest_container < length s → longest_container < length t → open_outcome t ≡ open_outcome s
  same_opening big_s big_t = by_front t big_t ∙ rw (same_mark, same_version, same 5 (lit< tt)) (sym (by_front s big_s))

module _ (s : List ℕ) (big : read_length ≤ length s) where
  abbrev Front : List ℕ
  Front = take read_length s

  same_front : open_outcome Front ≡ open_outcome s
  same_front =
      let l = length-take-le read_length s big in
      same_opening s Front (λ i h. get_or-take read_length s i 0 (omega arith)) (omega arith) (omega arith)

  refused : (n : ℕ) × (open_outcome s ≡ refuses (unplaced n))
  refused = let r = front_refuses (marked s) (known (version_of s)) (eqb (zero_of s) 0) in (r.0, by_front s (omega arith) ∙ r.1)

  long_verdict : verdict_of Front ≡ verdict_of s
  long_verdict = unopened_verdict Front (same_front ∙ refused.1) ∙ sym (unopened_verdict s refused.1)

  long_read : all_read Front ≡ all_read s
  long_read = unopened_read Front (same_front ∙ refused.1) ∙ sym (unopened_read s refused.1)

  long_listing : listing Front ≡ listing s
  long_listing = unopened_listing Front (same_front ∙ refused.1) ∙ sym (unopened_listing s refused.1)

pub either_way : {A : Type 0} (answer : List ℕ → A) → ((s : List ℕ) → read_length ≤ length s → answer (take read_length s) ≡ answer s) → FromTheFront answer
either_way answer long s = go (ltb (length s) read_length) refl
  where
    go : (t : Bool) → ltb (length s) read_length ≡ t → answer (take read_length s) ≡ answer s
    go true e = ap answer (take_all read_length s (let h = ltb-true (length s) read_length e in omega arith))
    go false e = long s (ltb-false (length s) read_length e)

pub listing_from_the_front : FromTheFront listing
listing_from_the_front = either_way listing long_listing

pub verdict_from_the_front : FromTheFront verdict_of
verdict_from_the_front = either_way verdict_of long_verdict

pub read_from_the_front : FromTheFront all_read
read_from_the_front = either_way all_read long_read

-- what opens and reads is all read
pub all_of_it : (s : List ℕ) → WellFormed s → take read_length s ≡ s
all_of_it s f = take_all read_length s (let z = sized s f.opens in omega (arith, z.long, no_longer (version_of s) (count_of s) z.fits))
