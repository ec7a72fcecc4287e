-- What a listing has, by its verdict, and how it is put into a buffer. Assumes nothing.
use mathlib.Core.Path.{◌≡◌, refl, sym, ap, ◌∙◌}
use mathlib.Core.Bool.{Bool, true, false}
use mathlib.Core.List.{List, ◌++◌}
use Prim.Native.Nat.{ℕ}
use native.Mathlib.Omega.{arith}
use borrow.Author.Tests.{leb-true, leb-false}
use lib.Dec.{T}
use lib.Pow.{are_bytes}
use Rattle.bits.specs.Outcomes.{gives, refuses, passes}
use Rattle.bits.proofs.OutcomeLaws.{then_refused}
use Rattle.container.specs.Container.{count_of, words_of}
use Rattle.container.specs.Opening.{Opens}
use Rattle.safety.specs.declared.verdict.Finding.{Finding}
use Rattle.safety.specs.Program.{program_of}
use Rattle.safety.specs.Verdict.{Judgement, judge_program, verdict_of, all_read}
use Rattle.verdictline.specs.VerdictLine.{verdict_line, lists}
use Rattle.listing.specs.Listing.{lines, listing}
use Rattle.safety.proofs.Demand3.{opening_of}
use Rattle.safety.proofs.ReadLaws.{goes_on}
use Rattle.listing.proofs.NumberLaws.{early, late, opens}

module _ (s : List ℕ) where
  -- a verdict that comes after reading, and one that does not
  module _ (t : T (are_bytes s)) where
    pub read_by : lists (verdict_of s) ≡ true → all_read s ≡ passes
    unfolding lists
    read_by e = go (all_read s) refl
      where
        go : (a : Judgement) → all_read s ≡ a → all_read s ≡ passes
        go (gives tt) q = q
        go (refuses f) q =
            let v : verdict_of s ≡ refuses f = goes_on s ∙ then_refused (judge_program (program_of s)) q in
            absurd (omega (arith, early s f q, leb-true 20 f.number (sym (ap lists v) ∙ e)))

    pub unread_by : lists (verdict_of s) ≡ false → (f : Finding) × (all_read s ≡ refuses f)
    unfolding lists
    unread_by e = go (all_read s) refl
      where
        differ : ◌≡◌ {A = Bool} true false → ⊥
        differ e = let z : ◌≡◌ {A = ℕ} 0 1 = cc in omega arith

        passed : all_read s ≡ passes → (v : Judgement) → verdict_of s ≡ v → ⊥
        passed q (gives tt) w = differ (sym (ap lists w) ∙ e)
        passed q (refuses f) w = omega (arith, late s q t w, leb-false 20 f.number (sym (ap lists w) ∙ e))

        go : (a : Judgement) → all_read s ≡ a → (f : Finding) × (all_read s ≡ refuses f)
        go (gives tt) q = absurd (passed q (verdict_of s) refl)
        go (refuses f) q = (f, q)

  -- the listing where all words are read, and where not
  pub listing_read : all_read s ≡ passes → listing s ≡ lines (words_of s) (count_of s) ++ verdict_line (verdict_of s)
  unfolding listing
  listing_read e = rw e

  pub listing_unread : {f : Finding} → all_read s ≡ refuses f → listing s ≡ verdict_line (verdict_of s)
  unfolding listing
  listing_unread e = rw e

-- a container whose words all read opens
pub opening : (s : List ℕ) → all_read s ≡ passes → Opens s
opening s all = opening_of s (opens s all)
