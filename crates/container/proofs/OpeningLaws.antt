-- Laws of opening: what an opened container has, its parts, and the order of the tests. Assumes nothing.
use Rattle.std.specs.Prelude.{Err, Ok, Result}
use mathlib.Core.Path.{◌≡◌, refl, sym, ap, ap₂, ◌∙◌, subst}
use mathlib.Core.Bool.{Bool, true, false, ◌&&◌}
use mathlib.Core.List.{List, [], ◌∷◌}
use Prim.Native.Nat.{ℕ, ◌+◌, ◌*◌, ◌<◌, ◌≤◌}
use native.Mathlib.Nat.{add-zero, add-mul}
use native.Mathlib.Omega.{arith}
use borrow.Author.Tests.{leb-true, eqb-true, le-leb, lt-leb, eq-eqb, ne_eqb}
use lib.Dec.{leb, eqb}
use lib.ListN.{length, take, drop, get_or, length-take, length-drop}
use lib.Seq.{get_or-drop}
use denote.Ref.{Bor}
use Rattle.bits.specs.Bytes.{little}
use Rattle.bits.specs.Outcomes.{Outcome, gives, refuses, require, ◌then◌}
use Rattle.bits.proofs.OutcomeLaws.{then_gives, required}
use Rattle.reasons.specs.declared.Reason.{Reason}
use Rattle.reasons.specs.Numbers.{number_of}
use Rattle.container.specs.declared.format.Format.{Format}
use Rattle.container.specs.declared.header.Header.{Header}
use Rattle.container.specs.Formats.{known, format_of, header_length, word_length, annotation_length, most_of, shortest_header, most_instructions, container_length}
use Rattle.container.specs.Container.{part, number, marked, version_of, zero_of, count_of, entry_of, words_of, annotations_of, annotations_start}
use Rattle.container.specs.Opening.{Rejection, unplaced, header_of, opening_outcome, open_outcome, Opens, InPlace, WordsIn, AnnotationsIn, Words, Annotations}
use Rattle.container.proofs.FormatLaws.{bounded}

both : (a b : Bool) → (a && b) ≡ true → (a ≡ true) × (b ≡ true)
both true b e = (refl, e)
both false b e = absurd (let z : ◌≡◌ {A = ℕ} 0 1 = cc in omega arith)

pub length_part : (s : List ℕ) (start k : ℕ) → start + k ≤ length s → length (part s start k) ≡ k
length_part s start k h = simp (length-take, length-drop) (omega arith)

little_two : (b : List ℕ) → little (take 2 b) ≡ get_or b 0 0 + get_or b 1 0 * 256
unfolding little
little_two [] = refl
little_two (x ∷ []) = refl
little_two (x ∷ (y ∷ b)) = omega arith

-- a 16-bit number, byte by byte
number_two : (s : List ℕ) (start : ℕ) → number s start 2 ≡ get_or s start 0 + get_or s (start + 1) 0 * 256
number_two s start = little_two (drop start s) ∙ simp (get_or-drop, add-zero)

pub version_two : (s : List ℕ) → version_of s ≡ get_or s 3 0 + get_or s 4 0 * 256
unfolding version_of
version_two s = number_two s 3

pub count_two : (s : List ℕ) → count_of s ≡ get_or s 6 0 + get_or s 7 0 * 256
unfolding count_of
count_two s = number_two s 6

-- what a container has whose header is h
pub record Sized (s : List ℕ) (h : Header) : Type 0 where
  pub header : h ≡ header_of s
  pub versions : h.version ≡ version_of s
  pub counts : h.count ≡ count_of s
  pub enters : h.entry ≡ entry_of s
  pub is_known : known (version_of s) ≡ true
  pub some : 0 < count_of s
  pub fits : count_of s ≤ most_of (version_of s)
  pub few : count_of s ≤ most_instructions
  pub long : length s ≡ container_length (version_of s) (count_of s)

module _ (s : List ℕ) {h : Header} (o : open_outcome s ≡ gives h) where
  pub sized : Sized s h
  unfolding open_outcome
  sized =
      let n = count_of s in
      let v = version_of s in
      let k = then_gives _ _ h (then_gives _ _ h (then_gives _ _ h o).1).1 in
      let a = then_gives _ _ h k.1 in
      let b = then_gives _ _ h a.1 in
      let c = then_gives _ _ h b.1 in
      let t = both (leb 1 n) (leb n (most_of v)) (required _ (unplaced 12) b.0) in
      let e : h ≡ header_of s = cc c.1 in
      let fits = leb-true n (most_of v) t.1 in
      record {
        header = e;
        versions = ap (λ (x : Header). x.version) e;
        counts = ap (λ (x : Header). x.count) e;
        enters = ap (λ (x : Header). x.entry) e;
        is_known = required _ (unplaced 11) k.0;
        some = leb-true 1 n t.0;
        fits = fits;
        few = omega (arith, (bounded v).few, fits);
        long = eqb-true (length s) (container_length v n) (required _ (unplaced 12) c.0);
      }

  pub opened : Opens s
  opened = o ∙ ap gives sized.header

  abbrev v : ℕ
  v = version_of s

  abbrev n : ℕ
  n = count_of s

  -- a product over a sum
  split : (8 + annotation_length v) * n ≡ 8 * n + annotation_length v * n
  split = add-mul 8 (annotation_length v) n

  pub length_words : length (words_of s) ≡ word_length * count_of s
  unfolding words_of
  length_words = length_part s (header_length v) (word_length * n) (omega (arith, sized.long, split))

  pub length_annotations : length (annotations_of s) ≡ annotation_length (version_of s) * count_of s
  unfolding annotations_of
  length_annotations = length_part s (annotations_start v n) (annotation_length v * n) (omega (arith, sized.long, split))

  -- where the annotations end, the container does
  pub ends_there : annotations_start (version_of s) (count_of s) + annotation_length (version_of s) * count_of s ≡ length s
  ends_there = omega (arith, sized.long, split)

-- where the parts of a container end whose header is h and whose format is f
pub record Placed (s : List ℕ) (h : Header) (f : Format) : Type 0 where
  pub few : h.count ≤ most_instructions
  pub words_end : f.header + 8 * h.count ≤ length s
  pub annotations_end : f.header + 8 * h.count + f.annotation * h.count ≡ length s

pub placed : (s : List ℕ) {h : Header} {f : Format} → open_outcome s ≡ gives h → f ≡ format_of h.version → Placed s h f
placed s {h} {f} o e =
    let z = sized s o in
    let g : f ≡ format_of (version_of s) = e ∙ ap format_of z.versions in
    rw (z.counts, g)
    record { few = z.few; words_end = omega (arith, ends_there s o); annotations_end = ends_there s o }

-- the words that are handed back, and the annotations
module _ (s r : Bor (List ℕ)) (a : Words s r) where
  pub words_contents : {h : Header} → open_outcome s.now ≡ gives h → r.now ≡ words_of s.now
  unfolding words_of
  words_contents {h} o =
      let p : InPlace s r (header_length h.version) (word_length * h.count) = subst (λ (x : Outcome Rejection Header). WordsIn x s r) o a in
      p.contents ∙ ap₂ (λ (v n : ℕ). part s.now (header_length v) (word_length * n)) (sized s.now o).versions (sized s.now o).counts

module _ (s r : Bor (List ℕ)) (a : Annotations s r) where
  pub annotations_contents : {h : Header} → open_outcome s.now ≡ gives h → r.now ≡ annotations_of s.now
  unfolding annotations_of
  annotations_contents {h} o =
      let p : InPlace s r (annotations_start h.version h.count) (annotation_length h.version * h.count) =
      subst (λ (x : Outcome Rejection Header). AnnotationsIn x s r) o a in
      p.contents
      ∙ ap₂ (λ (v n : ℕ). part s.now (annotations_start v n) (annotation_length v * n)) (sized s.now o).versions (sized s.now o).counts

  pub annotations_none : {n : Rejection} → open_outcome s.now ≡ refuses n → r.now ≡ []
  annotations_none o =
      let p : InPlace s r 0 0 = subst (λ (x : Outcome Rejection Header). AnnotationsIn x s r) o a in p.contents

-- what opening found, from its answer
module _ {a : (Result Header Reason)} {x : Outcome Rejection Header} (e : opening_outcome a ≡ x) where
  pub opened_by : {h : Header} → a ≡ Ok h → x ≡ gives h
  opened_by q = sym e ∙ ap opening_outcome q

  pub refused_by : {r : Reason} → a ≡ Err r → x ≡ refuses (unplaced (number_of r))
  refused_by q = sym e ∙ ap opening_outcome q

-- the order of the tests
module _ (s : List ℕ) where
  pub too_short : length s < shortest_header → refuses (unplaced 12) ≡ open_outcome s
  unfolding open_outcome ◌then◌
  too_short h = rw (lt-leb shortest_header (length s) h)

  module _ (long : shortest_header ≤ length s) where
    pub wrong_mark : marked s ≡ false → refuses (unplaced 10) ≡ open_outcome s
    unfolding open_outcome ◌then◌
    wrong_mark e = rw (le-leb shortest_header (length s) long, e)

    module _ (mark : marked s ≡ true) where
      pub wrong_version : known (version_of s) ≡ false → refuses (unplaced 11) ≡ open_outcome s
      unfolding open_outcome ◌then◌
      wrong_version e = rw (le-leb shortest_header (length s) long, mark, e)

      module _ (read : known (version_of s) ≡ true) where
        pub wrong_zero : ¬ (zero_of s ≡ 0) → refuses (unplaced 13) ≡ open_outcome s
        unfolding open_outcome ◌then◌
        wrong_zero e = rw (le-leb shortest_header (length s) long, mark, read, ne_eqb (zero_of s) 0 e)

-- what passed before the count is looked at
pub record Framed (s : List ℕ) : Type 0 where
  pub long : shortest_header ≤ length s
  pub mark : marked s ≡ true
  pub read : known (version_of s) ≡ true
  pub nought : zero_of s ≡ 0

-- the tests that the code makes before it
pub framed_by : {s : List ℕ} {m k : Bool} {v : ℕ} → shortest_header ≤ length s → m ≡ marked s → m ≡ true → v ≡ version_of s → k ≡ known v → k ≡ true → zero_of s ≡ 0 → Framed s
framed_by long em m ev ek k z = record { long = long; mark = sym em ∙ m; read = ap known (sym ev) ∙ sym ek ∙ k; nought = z }

-- what opens has passed that
pub framed : (s : List ℕ) {h : Header} → open_outcome s ≡ gives h → Framed s
unfolding open_outcome
framed s {h} o =
    let a = then_gives _ _ h o in
    let b = then_gives _ _ h a.1 in
    let c = then_gives _ _ h b.1 in
    let d = then_gives _ _ h c.1 in
    record {
      long = leb-true shortest_header (length s) (required _ (unplaced 12) a.0);
      mark = required _ (unplaced 10) b.0;
      read = required _ (unplaced 11) c.0;
      nought = eqb-true (zero_of s) 0 (required _ (unplaced 13) d.0);
    }

module _ (s : List ℕ) (f : Framed s) where
  counted : (require (leb 1 (count_of s) && leb (count_of s) (most_of (version_of s))) (unplaced 12)
      then require (eqb (length s) (container_length (version_of s) (count_of s))) (unplaced 12)
      then gives (header_of s)) ≡ open_outcome s
  unfolding open_outcome ◌then◌
  counted = rw (le-leb shortest_header (length s) f.long, f.mark, f.read, eq-eqb (zero_of s) 0 f.nought)

  pub no_instruction : count_of s < 1 → refuses (unplaced 12) ≡ open_outcome s
  unfolding ◌then◌
  no_instruction h = rw (lt-leb 1 (count_of s) h) at counted

  pub too_many : most_of (version_of s) < count_of s → refuses (unplaced 12) ≡ open_outcome s
  unfolding ◌then◌
  too_many h = rw (le-leb 1 (count_of s) (omega arith), lt-leb (count_of s) (most_of (version_of s)) h) at counted

  module _ (some : 0 < count_of s) (few : count_of s ≤ most_of (version_of s)) where
    pub wrong_length : ¬ (length s ≡ container_length (version_of s) (count_of s)) → refuses (unplaced 12) ≡ open_outcome s
    unfolding ◌then◌
    wrong_length e =
        rw (le-leb 1 (count_of s) some, le-leb (count_of s) (most_of (version_of s)) few, ne_eqb (length s) (container_length (version_of s) (count_of s)) e) at counted

    pub opens : length s ≡ container_length (version_of s) (count_of s) → gives (header_of s) ≡ open_outcome s
    unfolding ◌then◌
    opens e =
        rw (le-leb 1 (count_of s) some, le-leb (count_of s) (most_of (version_of s)) few, eq-eqb (length s) (container_length (version_of s) (count_of s)) e) at counted
