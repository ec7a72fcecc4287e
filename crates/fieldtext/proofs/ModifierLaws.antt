-- Modifiers one after another, and what is written for them by the numbers of their kinds. Assumes nothing.
use mathlib.Core.Path.{◌≡◌, refl, sym, ap, ◌∙◌}
use mathlib.Core.Bool.{Bool, true, false, ◌&&◌}
use mathlib.Core.List.{List, [], ◌∷◌, ◌++◌, append-nil, append_assoc}
use Prim.Native.Nat.{ℕ, zero, suc, ◌<◌, ◌≤◌}
use native.Mathlib.Nat.{le_of_suc-le-suc, not-suc-le-zero}
use lib.Dec.{leb}
use lib.ListN.{length, get_or, take, get_or-eq_default}
use lib.Seq.{take-length}
use borrow.Author.Tests.{le-leb, lt-leb}
use Rattle.bits.specs.Fields.{choose}
use Rattle.text.specs.Text.{Put}
use Rattle.text.proofs.TextLaws.{put_nothing}
use Rattle.fieldtext.specs.Served.Coded.{coded_value, coded_text, coded_texts}

module _ (first last : ℕ) (ks vs : List ℕ) (j : ℕ) where
  unless : leb first (get_or ks j 0) ≡ false → coded_text first last ks vs j ≡ []
  unfolding coded_text
  unless e = rw e

  pub too_low : (before : List ℕ) → get_or ks j 0 < first → Put (coded_text first last ks vs j) before before 0
  too_low before h = rw (unless (lt-leb first (get_or ks j 0) h)) (put_nothing refl before)

  pub no_place : (before : List ℕ) → 0 < first → length ks ≤ j → Put (coded_text first last ks vs j) before before 0
  no_place before f h = too_low before (rw (get_or-eq_default ks 0 h) f)

  pub too_high : (before : List ℕ) → last < get_or ks j 0 → Put (coded_text first last ks vs j) before before 0
  unfolding coded_text
  too_high before h = go (leb first (get_or ks j 0))
    where
      go : (t : Bool) → Put (choose (t && leb (get_or ks j 0) last) (coded_value (get_or ks j 0) (get_or vs j 0)) []) before before 0
      go true = rw (lt-leb (get_or ks j 0) last h) (put_nothing refl before)
      go false = put_nothing refl before

  pub of_these : first ≤ get_or ks j 0 → get_or ks j 0 ≤ last → coded_value (get_or ks j 0) (get_or vs j 0) ≡ coded_text first last ks vs j
  unfolding coded_text
  of_these f l = rw (le-leb first (get_or ks j 0) f, le-leb (get_or ks j 0) last l)

-- one more of them
pub one_more : (first last : ℕ) (ks vs js : List ℕ) (i : ℕ) → i < length js
    → coded_texts first last ks vs (take i js) ++ coded_text first last ks vs (get_or js i 0) ≡ coded_texts first last ks vs (take (suc i) js)
unfolding coded_texts
one_more first last ks vs [] i h = absurd (not-suc-le-zero h)
one_more first last ks vs (j ∷ js) zero h = sym (append-nil (coded_text first last ks vs j))
one_more first last ks vs (j ∷ js) (suc i) h =
    append_assoc (coded_text first last ks vs j) (coded_texts first last ks vs (take i js)) (coded_text first last ks vs (get_or js i 0))
    ∙ ap (λ (t : List ℕ). coded_text first last ks vs j ++ t) (one_more first last ks vs js i (le_of_suc-le-suc h))

pub all_of_them : (first last : ℕ) (ks vs js : List ℕ) (i : ℕ) → i ≡ length js → coded_texts first last ks vs (take i js) ≡ coded_texts first last ks vs js
all_of_them first last ks vs js i e = ap (coded_texts first last ks vs) (ap (λ (n : ℕ). take n js) e ∙ take-length js)

pub none_of_them : (first last : ℕ) (ks vs js before : List ℕ) → Put (coded_texts first last ks vs (take 0 js)) before before 0
unfolding coded_texts
none_of_them first last ks vs js before = put_nothing refl before
