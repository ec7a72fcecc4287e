-- Nothing differs between two well-formed containers exactly when their bytes are equal. Assumes nothing.
use mathlib.Core.Path.{◌≡◌, refl, sym, ap, ap₂, ◌∙◌, subst}
use mathlib.Core.Bool.{Bool, true, false, ◌&&◌}
use mathlib.Core.List.{List, Memᴰ}
use mathlib.Core.Logic.{◌≢◌, ⊎_elim}
use Prim.Native.Nat.{ℕ, ◌+◌, ◌*◌, ◌/◌, ◌%◌, ◌<◌}
use native.Mathlib.Nat.{le_refl}
use native.Mathlib.Omega.{arith}
use borrow.Author.Tests.{eqb-true, eqb-false}
use lib.Dec.{T, eqb}
use lib.ListN.{length, get_or, drop}
use lib.Pow.{are_bytes}
use lib.Seq.{ext_get_or, get_or-take, get_or-drop}
use Rattle.bits.specs.Bytes.{little, little_bytes}
use Rattle.bits.specs.Fields.{choose}
use Rattle.bits.specs.declared.halves.Halves.{Halves}
use Rattle.bits.proofs.ByteLaws.{bytes_of_little, part_bytes}
use Rattle.container.specs.Formats.{format_of, header_length, word_length, annotation_length}
use Rattle.container.specs.Container.{number, annotations_start, version_of, count_of, entry_of, words_of, annotations_of, eight}
use Rattle.container.specs.Opening.{Opens}
use Rattle.container.proofs.FormatLaws.{known_one}
use Rattle.container.proofs.OpeningLaws.{sized, length_part, length_words, length_annotations}
use Rattle.packing.proofs.PackLaws.{unpacked}
use Rattle.safety.specs.Program.{instruction_in, instruction_at, annotation_at, WellFormed}
use Rattle.differences.specs.declared.line.Line.{Line}
use Rattle.differences.specs.Records.{contents}
use Rattle.differences.specs.Sets.{the_one, low_and_high, sets_of, compared, note_of, set_in}
use Rattle.differences.specs.Differences.{instruction_of}
use Rattle.differences.specs.Asked.{Differs, at_version, at_field, at_removed, at_added, at_entry, at_note}
use Rattle.differences.proofs.DiffersLaws.{contents_length}
use Rattle.differences.proofs.RecordLaws.{same_eight}
use Rattle.differences.proofs.VersionLaws.{as_both}

-- nothing differs from itself
pub no_self : (s : List ℕ) {l : Line} → ¬ Differs s s l
no_self s (at_version n) = n refl
no_self s (at_field i j h k n) = n refl
no_self s (at_removed i h k) = omega arith
no_self s (at_added i h k) = omega arith
no_self s (at_entry k m n) = n refl
no_self s (at_note i k h m n) = n refl

-- numbers that do not differ are equal
alike : (x y : ℕ) → ¬ (x ≢ y) → x ≡ y
alike x y h = go (eqb x y) refl
  where
    go : (t : Bool) → eqb x y ≡ t → x ≡ y
    go true e = eqb-true x y e
    go false e = absurd (h (eqb-false x y e))

-- bytes that are equal eight by eight, or as numbers
byte : (s : List ℕ) (k : ℕ) → get_or (eight s (k / 8)) (k % 8) 0 ≡ get_or s k 0
byte s k =
    get_or-take 8 (drop (8 * (k / 8)) s) (k % 8) 0 (omega arith) ∙ get_or-drop (8 * (k / 8)) s (k % 8) 0 ∙ ap (λ (n : ℕ). get_or s n 0) (omega arith)

by_eights : (xs ys : List ℕ) (n : ℕ) → length xs ≡ 8 * n → length ys ≡ 8 * n → ((i : ℕ) → i < n → eight xs i ≡ eight ys i) → xs ≡ ys
by_eights xs ys n l m h =
    ext_get_or 0 xs ys (l ∙ sym m) (λ k q. sym (byte xs k) ∙ ap (λ (s : List ℕ). get_or s (k % 8) 0) (h (k / 8) (omega arith)) ∙ byte ys k)

by_little : (xs ys : List ℕ) → T (are_bytes xs) → T (are_bytes ys) → length xs ≡ length ys → little xs ≡ little ys → xs ≡ ys
by_little xs ys t u l e = sym (bytes_of_little xs t) ∙ ap₂ little_bytes l e ∙ bytes_of_little ys u

-- bytes that are equal eight by eight as numbers
by_numbers : (xs ys : List ℕ) (n : ℕ) → T (are_bytes xs) → T (are_bytes ys) → length xs ≡ 8 * n → length ys ≡ 8 * n
    → ((i : ℕ) → i < n → little (eight xs i) ≡ little (eight ys i)) → xs ≡ ys
by_numbers xs ys n t u l m h =
    by_eights xs ys n l m
    (λ i q.
    let x = length_part xs (8 * i) 8 (omega arith) in
    let y = length_part ys (8 * i) 8 (omega arith) in
    by_little (eight xs i) (eight ys i) (part_bytes xs (8 * i) 8 t) (part_bytes ys (8 * i) 8 u) (x ∙ sym y) (h i q))

-- the bytes of the words and of the annotations
module _ (s : List ℕ) (t : T (are_bytes s)) where
  word_bytes : (i : ℕ) → T (are_bytes (eight (words_of s) i))
  unfolding words_of
  word_bytes i = part_bytes (words_of s) (8 * i) 8 (part_bytes s (header_length (version_of s)) (word_length * count_of s) t)

  notes_bytes : T (are_bytes (annotations_of s))
  unfolding annotations_of
  notes_bytes = part_bytes s (annotations_start (version_of s) (count_of s)) (annotation_length (version_of s) * count_of s) t

module _ (s : List ℕ) (f : WellFormed s) (i : ℕ) (h : i < count_of s) where
  instruction_is : instruction_of s i ≡ (f.reads i h).0
  unfolding instruction_at
  instruction_is = ap instruction_in (f.reads i h).1

-- the numbers of the annotations: in version 2 that of the low halves and that of the high ones after each other
module _ (s : List ℕ) (e : version_of s ≡ 2) (i : ℕ) where
  low_note : (note_of s i).low ≡ little (eight (annotations_of s) (2 * i))
  unfolding annotation_at format_of
  low_note =
      let n : 16 * i ≡ 8 * (2 * i) = omega arith in
      rw e (ap (λ (k : ℕ). number (annotations_of s) k 8) n)

  high_note : (note_of s i).high ≡ little (eight (annotations_of s) (2 * i + 1))
  unfolding annotation_at format_of
  high_note =
      let n : 16 * i + 8 ≡ 8 * (2 * i + 1) = omega arith in
      rw e (ap (λ (k : ℕ). number (annotations_of s) k 8) n)

module _ (s : List ℕ) (o : Opens s) where
  long_1 : version_of s ≡ 1 → length (annotations_of s) ≡ 8 * count_of s
  unfolding format_of
  long_1 e = length_annotations s o ∙ ap (λ (v : ℕ). annotation_length v * count_of s) e

  long_2 : version_of s ≡ 2 → length (annotations_of s) ≡ 8 * (2 * count_of s)
  unfolding format_of
  long_2 e = length_annotations s o ∙ ap (λ (v : ℕ). annotation_length v * count_of s) e ∙ omega arith

-- sets of halves are equal where their sets are that are compared; low and high halves are the same in version 1
same_halves : (v : ℕ) (x y : Halves) → (v ≡ 1 → (x.high ≡ x.low) × (y.high ≡ y.low))
    → ((k : ℕ) → Memᴰ k (sets_of v v) → set_in k x ≡ set_in k y) → x ≡ y
unfolding sets_of
same_halves v x y one h = go (eqb v 1) refl h
  where
    whole : x.low ≡ y.low → x.high ≡ y.high → x ≡ y
    whole p q = λ j. record { low = p j; high = q j }

    go : (t : Bool) → eqb v 1 ≡ t → ((k : ℕ) → Memᴰ k (choose (t && t) the_one low_and_high) → set_in k x ≡ set_in k y) → x ≡ y
    go true e g =
        let p = one (eqb-true v 1 e) in
        let l = g 0 (Memᴰ.head refl) in
        whole l (p.0 ∙ l ∙ sym p.1)
    go false e g = whole (g 1 (Memᴰ.head refl)) (g 2 (Memᴰ.tail (Memᴰ.head refl)))

-- where nothing differs
module _ (a b : List ℕ) (t : T (are_bytes a)) (u : T (are_bytes b)) (f : WellFormed a) (g : WellFormed b) (same : (l : Line) → ¬ Differs a b l) where
  same_version : version_of a ≡ version_of b
  same_version = alike _ _ (λ n. same _ (at_version n))

  same_count : count_of a ≡ count_of b
  same_count =
      let p : ¬ (count_of b < count_of a) = λ h. same _ (at_removed (count_of b) (le_refl (count_of b)) h) in
      let q : ¬ (count_of a < count_of b) = λ h. same _ (at_added (count_of a) (le_refl (count_of a)) h) in
      omega arith

  -- the sets that are compared
  sets_here : {k : ℕ} → Memᴰ k (sets_of (version_of a) (version_of a)) → Memᴰ k (compared a b)
  sets_here {k} m = subst (λ (v : ℕ). Memᴰ k (sets_of (version_of a) v)) same_version m

  same_entry : entry_of a ≡ entry_of b
  same_entry =
      same_halves (version_of a) (entry_of a) (entry_of b)
      (λ e. let p = as_both a e in let q = as_both b (sym same_version ∙ e) in (p.entry 2 ∙ sym (p.entry 1), q.entry 2 ∙ sym (q.entry 1)))
      (λ k m. alike _ _ (λ n. same _ (at_entry k (sets_here m) n)))

  same_note : (i : ℕ) → i < count_of a → note_of a i ≡ note_of b i
  same_note i h =
      same_halves (version_of a) (note_of a i) (note_of b i)
      (λ e. let p = as_both a e in let q = as_both b (sym same_version ∙ e) in (p.note i 2 ∙ sym (p.note i 1), q.note i 2 ∙ sym (q.note i 1)))
      (λ k m. alike _ _ (λ n. same _ (at_note i k (omega (arith, same_count)) (sets_here m) n)))

  same_contents : (i : ℕ) → i < count_of a → contents (instruction_of a i) ≡ contents (instruction_of b i)
  same_contents i h =
      let x = instruction_of a i in
      let y = instruction_of b i in
      ext_get_or 0 (contents x) (contents y) (contents_length x ∙ sym (contents_length y))
      (λ j k. alike _ _ (λ n. same _ (at_field i j (omega (arith, same_count)) (omega (arith, contents_length x)) n)))

  same_words : words_of a ≡ words_of b
  same_words =
      by_eights (words_of a) (words_of b) (count_of a) (length_words a f.opens) (omega (arith, length_words b g.opens, same_count))
      (λ i h.
      let k : i < count_of b = omega (arith, same_count) in
      let x = f.reads i h in
      let y = g.reads i k in
      same_eight (eight (words_of a) i) (eight (words_of b) i) (word_bytes a t i) (word_bytes b u i) x.0 y.0 x.1 y.1
      (rw (← instruction_is a f i h, ← instruction_is b g i k) (same_contents i h)))

  -- version 1: a number for each annotation; version 2: two
  same_notes_1 : version_of a ≡ 1 → annotations_of a ≡ annotations_of b
  same_notes_1 e =
      let d = sym same_version ∙ e in
      by_numbers (annotations_of a) (annotations_of b) (count_of a) (notes_bytes a t) (notes_bytes b u) (long_1 a f.opens e)
      (omega (arith, long_1 b g.opens d, same_count))
      (λ i h. sym ((as_both a e).note i 1) ∙ ap (set_in 1) (same_note i h) ∙ (as_both b d).note i 1)

  same_notes_2 : version_of a ≡ 2 → annotations_of a ≡ annotations_of b
  same_notes_2 e =
      let d = sym same_version ∙ e in
      by_numbers (annotations_of a) (annotations_of b) (2 * count_of a) (notes_bytes a t) (notes_bytes b u) (long_2 a f.opens e)
      (omega (arith, long_2 b g.opens d, same_count))
      (λ i h. go d i h (eqb (i % 2) 0) refl)
    where
      go : version_of b ≡ 2 → (i : ℕ) → i < 2 * count_of a → (r : Bool) → eqb (i % 2) 0 ≡ r → little (eight (annotations_of a) i) ≡ little (eight (annotations_of b) i)
      go d i h true q =
          let j : i ≡ 2 * (i / 2) = omega (arith, eqb-true (i % 2) 0 q) in
          rw j (sym (low_note a e (i / 2)) ∙ ap (λ (x : Halves). x.low) (same_note (i / 2) (omega arith)) ∙ low_note b d (i / 2))
      go d i h false q =
          let j : i ≡ 2 * (i / 2) + 1 = omega (arith, eqb-false (i % 2) 0 q) in
          rw j (sym (high_note a e (i / 2)) ∙ ap (λ (x : Halves). x.high) (same_note (i / 2) (omega arith)) ∙ high_note b d (i / 2))

  same_annotations : annotations_of a ≡ annotations_of b
  same_annotations = ⊎_elim same_notes_1 same_notes_2 (known_one (version_of a) (sized a f.opens).is_known)

  pub same_bytes : a ≡ b
  same_bytes =
      sym (unpacked a t f.opens) ∙ rw (same_version, same_entry, same_words, same_annotations) (unpacked b u g.opens)
