-- Laws of packing: what fits, the order of the tests, and that opening and packing undo each other. Assumes nothing.
use mathlib.Core.Path.{◌≡◌, refl, sym, ap, ap₂, ◌∙◌, subst}
use mathlib.Core.Bool.{Bool, true, false}
use mathlib.Core.List.{List, [], ◌∷◌, ◌++◌, append_assoc, append-nil}
use mathlib.Core.Logic.{⊎_elim}
use Prim.Native.Nat.{ℕ, ◌+◌, ◌*◌, ◌^◌, ◌<◌, ◌≤◌}
use native.Mathlib.Nat.{add-mul}
use native.Mathlib.Omega.{arith}
use borrow.Author.Tests.{leb-true, eqb-true, le-leb, eq-eqb, ne_eqb}
use lib.Dec.{T, leb, eqb}
use lib.ListN.{length, take, drop, get_or, length-append}
use lib.Pow.{are_bytes}
use lib.Seq.{take_at, drop_at, take_all, take-add, take-length, drop-drop, get_or-take, get_or-drop}
use Rattle.bits.specs.Bytes.{little_bytes}
use Rattle.bits.specs.Fields.{choose}
use Rattle.bits.specs.Halves.{halves, both as both_halves}
use Rattle.bits.specs.declared.halves.Halves.{Halves}
use Rattle.bits.specs.Outcomes.{Outcome, gives, refuses, passes, ◌then◌}
use Rattle.bits.proofs.Every.{both, clash}
use Rattle.bits.proofs.OutcomeLaws.{then_gives, required}
use Rattle.bits.proofs.ByteLaws.{bytes_of_little, little_of_bytes, part_bytes, append_bytes, number_bytes, drop_elements}
use Rattle.container.specs.declared.format.Format.{Format}
use Rattle.container.specs.declared.header.Header.{Header}
use Rattle.container.specs.Formats.{known, version_1, version_2, format_of, header_length, annotation_length, high_offset, most_of, word_length, most_instructions, container_length}
use Rattle.container.specs.Container.{part, number, version_of, count_of, halves_at, entry_of, words_of, annotations_of, annotations_start}
use Rattle.container.specs.Opening.{Rejection, unplaced, open_outcome, Opens}
use Rattle.packing.specs.Packing.{word_count, fitting, Fitting, mark, front_bytes, halves_bytes, taken, container_bytes, pack_outcome, pack_buffer}
use Rattle.container.proofs.FormatLaws.{bounded, known_one}
use Rattle.container.proofs.OpeningLaws.{Framed, framed, sized, opens, ends_there, length_part, length_words}

-- what fits
module _ (v w a : ℕ) where
  pub fitting_of : fitting v w a ≡ true → Fitting v w a
  unfolding fitting
  fitting_of e =
      let n = word_count w in
      let t = both (leb 1 n) _ e in
      let u = both (leb n (most_of v)) _ t.1 in
      let x = both (eqb w (word_length * n)) _ u.1 in
      record {
        some = leb-true 1 n t.0;
        few = leb-true n (most_of v) u.0;
        whole = eqb-true w (word_length * n) x.0;
        noted = eqb-true a (annotation_length v * n) x.1;
      }

  pub fitting_to : Fitting v w a → fitting v w a ≡ true
  unfolding fitting
  fitting_to f =
      let n = word_count w in
      rw (le-leb 1 n f.some, le-leb n (most_of v) f.few, eq-eqb w (word_length * n) f.whole, eq-eqb a (annotation_length v * n) f.noted)

  pub unfitting : fitting v w a ≡ false → ¬ Fitting v w a
  unfitting e f = clash (sym (fitting_to f) ∙ e)

  -- no version has more instructions
  pub few_words : Fitting v w a → word_count w ≤ most_instructions
  few_words f = omega (arith, f.few, (bounded v).few)

-- the order of the tests
module _ (v : ℕ) (entry : Halves) (words annotations out : List ℕ) where
  pub no_version : known v ≡ false → (refuses (unplaced 11) ≡ pack_outcome v entry words annotations out) × (out ≡ pack_buffer v entry words annotations out)
  unfolding pack_outcome pack_buffer ◌then◌
  no_version e = (rw e, rw e)

  module _ (is_known : known v ≡ true) where
    pub no_fit : fitting v (length words) (length annotations) ≡ false
        → (refuses (unplaced 12) ≡ pack_outcome v entry words annotations out) × (out ≡ pack_buffer v entry words annotations out)
    unfolding pack_outcome pack_buffer ◌then◌
    no_fit e = (rw (is_known, e), rw (is_known, e))

    module _ (fits : fitting v (length words) (length annotations) ≡ true) where
      pub no_room : ¬ (length out ≡ container_length v (word_count (length words)))
          → (refuses (unplaced 12) ≡ pack_outcome v entry words annotations out) × (out ≡ pack_buffer v entry words annotations out)
      unfolding pack_outcome pack_buffer ◌then◌
      no_room e =
          let f = ne_eqb (length out) (container_length v (word_count (length words))) e in
          (rw (is_known, fits, f), rw (is_known, fits, f))

      pub packs : length out ≡ container_length v (word_count (length words))
          → (passes ≡ pack_outcome v entry words annotations out) × (container_bytes v entry words annotations ≡ pack_buffer v entry words annotations out)
      unfolding pack_outcome pack_buffer ◌then◌
      packs e =
          let f = eq-eqb (length out) (container_length v (word_count (length words))) e in
          (rw (is_known, fits, f), rw (is_known, fits, f))

  -- what passes has a version that there is and fits, and the buffer has its length
  pub passed : pack_outcome v entry words annotations out ≡ passes
      → (known v ≡ true) × Fitting v (length words) (length annotations) × (length out ≡ container_length v (word_count (length words)))
  unfolding pack_outcome
  passed e =
      let k = then_gives _ _ tt e in
      let a = then_gives _ _ tt k.1 in (
        required _ (unplaced 11) k.0,
        fitting_of v (length words) (length annotations) (required _ (unplaced 12) a.0),
        eqb-true (length out) (container_length v (word_count (length words))) (required _ (unplaced 12) a.1),
      )

-- what holds of each format holds of the format of a version
pub by_format : (P : Format → Type 0) → P version_1 → P version_2 → (v : ℕ) → P (format_of v)
unfolding format_of
by_format P a b v = go (eqb v 2)
  where
    go : (t : Bool) → P (choose t version_2 version_1)
    go true = b
    go false = a

-- a version that there is has 16 bits
known_small : (v : ℕ) → known v ≡ true → v < 65536
known_small v k = ⊎_elim (λ e. omega arith) (λ e. omega arith) (known_one v k)

-- the bytes before the entry set, and the entry set up to the end of the header
pub front_length : (v n : ℕ) → length (front_bytes v n) ≡ 8
unfolding front_bytes little_bytes
front_length v n = refl

pub halves_length : (v : ℕ) (e : Halves) → 8 + length (halves_bytes v e) ≡ header_length v
unfolding halves_bytes little_bytes
halves_length v e =
    by_format (λ (f : Format). 8 + length (little_bytes 8 e.low ++ choose (eqb f.high 0) [] (little_bytes 8 e.high)) ≡ f.header) refl refl v

-- a set of halves without, and with, a place of its own for the high ones
module _ (v : ℕ) (e : Halves) where
  pub low_alone : high_offset v ≡ 0 → little_bytes 8 e.low ≡ halves_bytes v e
  unfolding halves_bytes
  low_alone h = rw (eq-eqb (high_offset v) 0 h) (sym (append-nil (little_bytes 8 e.low)))

  pub high_after : ¬ (high_offset v ≡ 0) → little_bytes 8 e.low ++ little_bytes 8 e.high ≡ halves_bytes v e
  unfolding halves_bytes
  high_after h = rw (ne_eqb (high_offset v) 0 h)

  -- the room for it in a header
  pub halves_room : {n : ℕ} → 8 + n ≡ header_length v → n ≡ length (halves_bytes v e)
  halves_room h = omega (arith, halves_length v e)

-- version 1 takes the low halves for both, and version 2 a set of halves as it is
pub taken_low : (e : Halves) → taken 1 e ≡ both_halves e.low
unfolding taken format_of
taken_low e = refl

pub taken_whole : (e : Halves) → taken 2 e ≡ e
unfolding taken format_of
taken_whole e = refl

-- a container, with its length and what its parts are
module _ (v : ℕ) (entry : Halves) (words annotations : List ℕ) where
  pub packed_length : length (container_bytes v entry words annotations) ≡ header_length v + length words + length annotations
  unfolding container_bytes
  packed_length =
      simp length-append (omega (arith, front_length v (word_count (length words)), halves_length v entry))

  high_bytes : T (are_bytes (choose (eqb (high_offset v) 0) [] (little_bytes 8 entry.high)))
  high_bytes = by_format (λ (f : Format). T (are_bytes (choose (eqb f.high 0) [] (little_bytes 8 entry.high)))) tt (number_bytes 8 entry.high) v

  pub packed_bytes : T (are_bytes words) → T (are_bytes annotations) → T (are_bytes (container_bytes v entry words annotations))
  unfolding container_bytes front_bytes halves_bytes
  packed_bytes t u =
      let n = word_count (length words) in
      let x = little_bytes 2 v in
      let z = append_bytes (mark ++ x) (0 ∷ []) (append_bytes mark x tt (number_bytes 2 v)) tt in
      let f = append_bytes (mark ++ x ++ (0 ∷ [])) (little_bytes 2 n) z (number_bytes 2 n) in
      let e = append_bytes (little_bytes 8 entry.low) _ (number_bytes 8 entry.low) high_bytes in
      let h = append_bytes (front_bytes v n) (halves_bytes v entry) f e in
      append_bytes (front_bytes v n ++ halves_bytes v entry ++ words) annotations (append_bytes (front_bytes v n ++ halves_bytes v entry) words h t) u

  -- the count, where it has room
  pub count_packed : word_count (length words) ≤ most_instructions → count_of (container_bytes v entry words annotations) ≡ word_count (length words)
  unfolding container_bytes front_bytes little_bytes count_of
  count_packed few = little_of_bytes 2 (word_count (length words)) (omega arith)

  -- what follows the header
  body : drop (header_length v) (container_bytes v entry words annotations) ≡ words ++ annotations
  unfolding container_bytes front_bytes halves_bytes little_bytes
  body =
      by_format (λ (f : Format). drop f.header (front_bytes v (word_count (length words))
      ++ (little_bytes 8 entry.low ++ choose (eqb f.high 0) [] (little_bytes 8 entry.high)) ++ words ++ annotations) ≡ words ++ annotations) refl refl v

  -- the entry set as it is read where the version says
  set_packed : entry.low < 2 ^ 64 → entry.high < 2 ^ 64 → halves_at v (container_bytes v entry words annotations) 8 ≡ taken v entry
  unfolding container_bytes front_bytes halves_bytes little_bytes taken
  set_packed low high =
      let l = little_of_bytes 8 entry.low low in
      let h = little_of_bytes 8 entry.high high in
      by_format (λ (f : Format). let c = front_bytes v (word_count (length words))
      ++ (little_bytes 8 entry.low ++ choose (eqb f.high 0) [] (little_bytes 8 entry.high)) ++ words ++ annotations in
      halves (number c 8 8) (number c (8 + f.high) 8) ≡ halves entry.low (choose (eqb f.high 0) entry.low entry.high))
      (ap₂ halves l l) (ap₂ halves l h) v

  -- a container of a version that there is
  module _ (is_known : known v ≡ true) where
    pub version_packed : version_of (container_bytes v entry words annotations) ≡ v
    unfolding container_bytes front_bytes little_bytes version_of
    version_packed = little_of_bytes 2 v (omega (arith, known_small v is_known))

    front_packed : Framed (container_bytes v entry words annotations)
    unfolding container_bytes front_bytes halves_bytes little_bytes
    front_packed = record { long = omega (arith, packed_length, (bounded v).header_least); mark = refl; read = rw version_packed is_known; nought = refl }

    -- one that opens has as many annotations as words
    pub packed_fits : length words ≡ word_length * word_count (length words) → word_count (length words) ≤ most_of v
        → Opens (container_bytes v entry words annotations) → length annotations ≡ annotation_length v * word_count (length words)
    packed_fits whole few o =
        let n = word_count (length words) in
        let l : length (container_bytes v entry words annotations) ≡ container_length v n =
        (sized (container_bytes v entry words annotations) o).long ∙ ap₂ container_length version_packed (count_packed (omega (arith, few, (bounded v).few))) in
        omega (arith, l, packed_length, add-mul 8 (annotation_length v) n)

-- packed and opened again
module _ (v : ℕ) (entry : Halves) (words annotations : List ℕ) (is_known : known v ≡ true) (fits : Fitting v (length words) (length annotations))
    (low : entry.low < 2 ^ 64) (high : entry.high < 2 ^ 64) where
  pub packed_version : version_of (container_bytes v entry words annotations) ≡ v
  packed_version = version_packed v entry words annotations is_known

  pub packed_count : count_of (container_bytes v entry words annotations) ≡ word_count (length words)
  packed_count = count_packed v entry words annotations (few_words v (length words) (length annotations) fits)

  pub packed_entry : entry_of (container_bytes v entry words annotations) ≡ taken v entry
  unfolding entry_of
  packed_entry =
      ap (λ (k : ℕ). halves_at k (container_bytes v entry words annotations) 8) packed_version ∙ set_packed v entry words annotations low high

  -- the same header, part by part
  same : {a b n m : ℕ} {e f : Halves} → a ≡ b → n ≡ m → e ≡ f
      → ◌≡◌ {A = Outcome Rejection Header} (gives (record { version = a; count = n; entry = e })) (gives (record { version = b; count = m; entry = f }))
  same p q r = cc

  pub packed_opens : open_outcome (container_bytes v entry words annotations)
      ≡ gives (record { version = v; count = word_count (length words); entry = taken v entry })
  packed_opens =
      let c = container_bytes v entry words annotations in
      let n = word_count (length words) in
      let e = packed_count in
      let m = ap most_of packed_version in
      let l : length c ≡ container_length v n =
      packed_length v entry words annotations ∙ omega (arith, fits.whole, fits.noted, add-mul 8 (annotation_length v) n) in
      sym (opens c (front_packed v entry words annotations is_known) (omega (arith, fits.some)) (omega (arith, fits.few))
      (l ∙ ap₂ container_length (sym packed_version) (sym packed_count)))
      ∙ same packed_version packed_count packed_entry

  -- how many bytes the words have
  abbrev m : ℕ
  m = word_length * word_count (length words)

  pub packed_words : words_of (container_bytes v entry words annotations) ≡ words
  unfolding words_of
  packed_words = rw (packed_version, packed_count, body v entry words annotations) (take_at words annotations m fits.whole)

  pub packed_annotations : annotations_of (container_bytes v entry words annotations) ≡ annotations
  unfolding annotations_of
  packed_annotations =
      let c = container_bytes v entry words annotations in
      let d : drop (header_length v + m) c ≡ annotations =
      sym (drop-drop m (header_length v) c) ∙ rw (body v entry words annotations) (drop_at words annotations m fits.whole) in
      rw (packed_version, packed_count, d, ← fits.noted) (take-length annotations)

-- opened and packed again: each part of the container is the part of s where it stands
module _ (s : List ℕ) (t : T (are_bytes s)) (o : Opens s) where
  joined : {x y : List ℕ} (a k : ℕ) → x ≡ take a s → y ≡ part s a k → x ++ y ≡ take (a + k) s
  joined a k e f = ap₂ (λ (l m : List ℕ). l ++ m) e f ∙ sym (take-add a k s)

  number_part : (a k : ℕ) → a + k ≤ length s → little_bytes k (number s a k) ≡ part s a k
  number_part a k h =
      let l : length (part s a k) ≡ k = length_part s a k h in
      subst (λ (m : ℕ). little_bytes m (number s a k) ≡ part s a k) l (bytes_of_little (part s a k) (part_bytes s a k t))

  element_part : (a k i : ℕ) → i < k → get_or (part s a k) i 0 ≡ get_or s (a + i) 0
  element_part a k i h = get_or-take k (drop a s) i 0 h ∙ get_or-drop a s i 0

  mark_part : mark ≡ part s 0 3
  mark_part =
      let f = framed s o in
      let t = both (eqb (get_or s 0 0) 86) _ f.mark in
      let u = both (eqb (get_or s 1 0) 83) (eqb (get_or s 2 0) 80) t.1 in
      let v = element_part 0 3 0 (omega arith) ∙ eqb-true (get_or s 0 0) 86 t.0 in
      let p = element_part 0 3 1 (omega arith) ∙ eqb-true (get_or s 1 0) 83 u.0 in
      let q = element_part 0 3 2 (omega arith) ∙ eqb-true (get_or s 2 0) 80 u.1 in
      sym (drop_elements 3 0 (part s 0 3) (length_part s 0 3 (omega (arith, f.long))) ∙ rw (v, p, q))

  zero_part : 0 ∷ [] ≡ part s 5 1
  zero_part =
      let f = framed s o in
      let e = drop_elements 1 0 (part s 5 1) (length_part s 5 1 (omega (arith, f.long))) in
      sym (e ∙ ap (λ (b : ℕ). b ∷ []) (element_part 5 1 0 (omega arith) ∙ f.nought))

  front_part : front_bytes (version_of s) (count_of s) ≡ take 8 s
  unfolding front_bytes version_of count_of
  front_part =
      let f = framed s o in
      let v = number_part 3 2 (omega (arith, f.long)) in
      joined 6 2 (joined 5 1 (joined 3 2 mark_part v) zero_part) (number_part 6 2 (omega (arith, f.long)))

  header_part : header_length (version_of s) ≤ length s → front_bytes (version_of s) (count_of s) ++ halves_bytes (version_of s) (entry_of s) ≡ take (header_length (version_of s)) s
  unfolding halves_bytes entry_of
  header_part =
      let front = front_bytes (version_of s) (count_of s) in
      let low = little_bytes 8 (number s 8 8) in
      by_format (λ (f : Format). f.header ≤ length s
      → front ++ (low ++ choose (eqb f.high 0) [] (little_bytes 8 (number s (8 + f.high) 8))) ≡ take f.header s)
      (λ h. ap (λ (l : List ℕ). front ++ l) (append-nil low) ∙ joined 8 8 front_part (number_part 8 8 h))
      (λ h. sym (append_assoc front low (little_bytes 8 (number s 16 8)))
      ∙ joined 16 8 (joined 8 8 front_part (number_part 8 8 (omega arith))) (number_part 16 8 h))
      (version_of s)

  pub unpacked : container_bytes (version_of s) (entry_of s) (words_of s) (annotations_of s) ≡ s
  unfolding container_bytes words_of annotations_of
  unpacked =
      let v = version_of s in
      let n = count_of s in
      let e = ends_there s o in
      let k : word_count (length (words_of s)) ≡ n = rw (length_words s o) (omega arith) in
      let h : front_bytes v (word_count (length (words_of s))) ++ halves_bytes v (entry_of s) ≡ take (header_length v) s =
      ap (λ (i : ℕ). front_bytes v i ++ halves_bytes v (entry_of s)) k ∙ header_part (omega arith) in
      joined (annotations_start v n) (annotation_length v * n) (joined (header_length v) (word_length * n) h refl) refl
      ∙ take_all (annotations_start v n + annotation_length v * n) s (omega arith)
