-- Where the numbers stand that are compared. Assumes nothing.
use mathlib.Core.Path.{◌≡◌, refl, sym, ap, ap₂, ◌∙◌}
use mathlib.Core.List.{List, [], ◌∷◌}
use Prim.Native.Nat.{ℕ, zero, suc, ◌+◌, ◌*◌, ◌<◌, ◌≤◌}
use native.Mathlib.Omega.{arith}
use lib.ListN.{length, take, drop}
use lib.Seq.{take-take, drop-drop}
use Rattle.bits.specs.Bytes.{little}
use Rattle.bits.specs.Halves.{halves}
use Rattle.container.specs.declared.format.Format.{Format}
use Rattle.container.specs.Formats.{format_of, header_length, word_length, annotation_length, high_offset, longest_container}
use Rattle.container.specs.Container.{part, number, version_of, count_of, entry_of, words_of, annotations_of, annotations_start}
use Rattle.container.specs.Opening.{Opens}
use Rattle.container.proofs.FormatLaws.{bounded, inside, at_most}
use Rattle.container.proofs.OpeningLaws.{sized, ends_there}
use Rattle.view.proofs.WordLaws.{eight_part}
use Rattle.safety.specs.Program.{annotation_at}
use Rattle.differences.specs.Sets.{note_of}
use Rattle.differences.specs.Differences.{word_of}

-- eight bytes of a part
part_part : (m k : ℕ) (l : List ℕ) → m + 8 ≤ k → part (take k l) m 8 ≡ part l m 8
part_part zero k l h = take-take 8 k l (omega arith)
part_part (suc m) zero l h = absurd (omega arith)
part_part (suc m) (suc k) [] h = refl
part_part (suc m) (suc k) (x ∷ l) h = part_part m k l (omega arith)

number_part : (s : List ℕ) (start k m : ℕ) → m + 8 ≤ k → number (part s start k) m 8 ≡ number s (start + m) 8
number_part s start k m h = ap little (part_part m k (drop start s) h ∙ ap (take 8) (drop-drop m start s))

module _ (s : List ℕ) (o : Opens s) where
  abbrev v : ℕ
  v = version_of s

  abbrev n : ℕ
  n = count_of s

  -- no container is longer
  long : length s ≤ longest_container
  long =
      let b = bounded (version_of s) in
      let z = sized s o in
      omega (arith, ends_there s o, b.header_most, at_most 16 2048 b.annotation_most z.few, z.few)

  -- by the format of the version
  module _ {f : Format} (e : f ≡ format_of (version_of s)) where
    pub word_ends : (i : ℕ) → i < count_of s → (f.header + 8 * i + 8 ≤ length s) × (length s ≤ longest_container)
    word_ends i h = rw e (omega (arith, ends_there s o), long)

    pub word_here : (i k : ℕ) → i < count_of s → k ≡ 8 → little (take k (drop (f.header + 8 * i) s)) ≡ word_of s i
    unfolding words_of
    word_here i k h q = rw (q, e) (ap little (sym (eight_part s (header_length v) (word_length * n) i (omega arith))))

    pub note_ends : (m i : ℕ) → m ≡ count_of s → i < m
        → (f.header + 8 * m + f.annotation * i + f.high + 8 ≤ length s) × (length s ≤ longest_container)
    note_ends m i q h =
        let l : i < n = omega arith in
        rw (e, q) (omega (arith, ends_there s o, (bounded (version_of s)).high_in_annotation, inside (annotation_length v) i n l), long)

    pub note_here : (m i : ℕ) → m ≡ count_of s → i < m
        → halves (number s (f.header + 8 * m + f.annotation * i) 8) (number s (f.header + 8 * m + f.annotation * i + f.high) 8) ≡ note_of s i
    unfolding annotations_of annotation_at
    note_here m i q h =
        let l : i < n = omega arith in
        let a = annotation_length v * i in
        let start = annotations_start v n in
        let b = (bounded (version_of s)).high_in_annotation in
        let c = inside (annotation_length v) i n l in
        let low = number_part s start (annotation_length v * n) a (omega (arith, b, c)) in
        let high = number_part s start (annotation_length v * n) (a + high_offset v) (omega (arith, b, c)) in
        let place : start + (a + high_offset v) ≡ start + a + high_offset v = omega arith in
        rw (e, q) (sym (ap₂ halves low (high ∙ ap (λ (k : ℕ). number s k 8) place)))

    pub entry_ends : 8 + f.high + 8 ≤ length s
    entry_ends = rw e (omega (arith, ends_there s o, (bounded (version_of s)).high_in_header))

    pub entry_here : halves (number s 8 8) (number s (8 + f.high) 8) ≡ entry_of s
    unfolding entry_of
    entry_here = rw e
