-- Laws of the word at an index: the order of the tests, and what it is in an opened container. Assumes nothing.
use mathlib.Core.Path.{◌≡◌, refl, sym, ap, ◌∙◌}
use mathlib.Core.List.{List, [], ◌∷◌}
use Prim.Native.Nat.{ℕ, zero, suc, ◌+◌, ◌*◌, ◌<◌, ◌≤◌}
use native.Mathlib.Omega.{arith}
use borrow.Author.Tests.{lt-ltb, le-ltb, le-leb, lt-leb}
use lib.ListN.{length, take, drop}
use lib.Seq.{take-take, drop-drop}
use Rattle.bits.specs.Bytes.{little}
use Rattle.bits.specs.Outcomes.{gives, refuses, ◌then◌}
use Rattle.container.specs.declared.header.Header.{Header}
use Rattle.container.specs.Formats.{header_length, word_length}
use Rattle.container.specs.Container.{part, number, version_of, word_start, count_of, words_of, eight}
use Rattle.container.specs.Opening.{unplaced, open_outcome}
use Rattle.view.specs.Words.{word_outcome, open_count, count_in}
use Rattle.container.proofs.OpeningLaws.{sized, ends_there}

-- the order of the tests
module _ (s : List ℕ) (n i : ℕ) where
  pub past_count : n ≤ i → refuses (unplaced 14) ≡ word_outcome s n i
  unfolding word_outcome ◌then◌
  past_count h = rw (le-ltb i n h)

  module _ (below : i < n) where
    pub past_bytes : length s < word_start (version_of s) i + word_length → refuses (unplaced 14) ≡ word_outcome s n i
    unfolding word_outcome ◌then◌
    past_bytes h = rw (lt-ltb i n below, lt-leb (word_start (version_of s) i + word_length) (length s) h)

    pub inside : word_start (version_of s) i + word_length ≤ length s → gives (number s (word_start (version_of s) i) word_length) ≡ word_outcome s n i
    unfolding word_outcome ◌then◌
    inside h = rw (lt-ltb i n below, le-leb (word_start (version_of s) i + word_length) (length s) h)

-- a part of a part is a part of the whole
part_part : (m n k : ℕ) (l : List ℕ) → m + n ≤ k → part (take k l) m n ≡ part l m n
part_part zero n k l h = take-take n k l (omega arith)
part_part (suc m) n zero l h = absurd (omega arith)
part_part (suc m) n (suc k) [] h = refl
part_part (suc m) n (suc k) (x ∷ l) h = part_part m n k l (omega arith)

pub eight_part : (s : List ℕ) (start k i : ℕ) → 8 * i + 8 ≤ k → eight (part s start k) i ≡ part s (start + 8 * i) 8
eight_part s start k i h = part_part (8 * i) 8 k (drop start s) h ∙ ap (take 8) (drop-drop (8 * i) start s)

-- an opened container: n, and its word at each index below n, which always lies inside the bytes
module _ (s : List ℕ) {h : Header} (o : open_outcome s ≡ gives h) where
  pub opened_count : open_count s ≡ count_of s
  unfolding open_count
  opened_count = ap count_in o ∙ (sized s o).counts

  pub opened_word : (i : ℕ) → i < count_of s → word_outcome s (open_count s) i ≡ gives (little (eight (words_of s) i))
  unfolding words_of
  opened_word i l =
      let e = ends_there s o in
      rw (opened_count, eight_part s (header_length (version_of s)) (word_length * count_of s) i (omega arith)) (sym (inside s (count_of s) i l (omega arith)))
