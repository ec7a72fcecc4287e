-- Notes as bytes: their length, that they are bytes, and each note back from its own. Assumes nothing.
use mathlib.Core.Path.{◌≡◌, refl, sym, ap, ap₂, ◌∙◌, subst}
use mathlib.Core.List.{List, [], ◌++◌, append_assoc, append-nil}
use mathlib.Core.Logic.{⊎_elim}
use Prim.Native.Nat.{ℕ, zero, suc, ◌+◌, ◌*◌, ◌<◌, ◌≤◌}
use native.Mathlib.Nat.{eq-or-lt_of_le, le_of_suc-le-suc, mul-suc}
use native.Mathlib.Numerals.{add-one}
use native.Mathlib.Omega.{arith}
use lib.Dec.{T, eqb}
use lib.ListN.{length, take, drop, length-append}
use lib.Pow.{are_bytes}
use lib.Seq.{drop_at, drop-append-le, drop-drop}
use Rattle.bits.specs.Bytes.{little, little_bytes}
use Rattle.bits.specs.Fields.{choose}
use Rattle.bits.specs.Halves.{halves}
use Rattle.bits.specs.declared.halves.Halves.{Halves}
use Rattle.bits.proofs.ByteLaws.{length_bytes, little_of_bytes, append_bytes, number_bytes}
use Rattle.container.specs.declared.format.Format.{Format}
use Rattle.container.specs.Formats.{format_of, annotation_length, high_offset}
use Rattle.container.proofs.FormatLaws.{inside}
use Rattle.packing.specs.Packing.{halves_bytes, taken}
use Rattle.packing.proofs.FillLaws.{Begins, stored}
use Rattle.packing.proofs.PackLaws.{by_format, halves_length, low_alone, high_after}
use Rattle.safety.specs.Program.{annotation_at}
use Rattle.safety.proofs.ProgramLaws.{Small}
use Rattle.sweeps.specs.Sweeps.{note_bytes}

-- one set of halves has the bytes of an annotation
set_length : (v : ℕ) (e : Halves) → length (halves_bytes v e) ≡ annotation_length v
set_length v e = omega (arith, halves_length v e, by_format (λ (f : Format). 8 + f.annotation ≡ f.header) refl refl v)

set_bytes : (v : ℕ) (e : Halves) → T (are_bytes (halves_bytes v e))
unfolding halves_bytes
set_bytes v e =
    append_bytes (little_bytes 8 e.low) _ (number_bytes 8 e.low)
    (by_format (λ (f : Format). T (are_bytes (choose (eqb f.high 0) [] (little_bytes 8 e.high)))) tt (number_bytes 8 e.high) v)

-- the sets at the front of some bytes
at_front : (v : ℕ) (e : Halves) → Small e → (rest : List ℕ)
    → halves (little (take 8 (halves_bytes v e ++ rest))) (little (take 8 (drop (high_offset v) (halves_bytes v e ++ rest)))) ≡ taken v e
unfolding halves_bytes little_bytes taken
at_front v e small rest =
    let l = little_of_bytes 8 e.low small.low in
    let h = little_of_bytes 8 e.high small.high in
    by_format (λ (g : Format). let c = (little_bytes 8 e.low ++ choose (eqb g.high 0) [] (little_bytes 8 e.high)) ++ rest in
    halves (little (take 8 c)) (little (take 8 (drop g.high c))) ≡ halves e.low (choose (eqb g.high 0) e.low e.high))
    (ap₂ halves l l) (ap₂ halves l h) v

-- where the version has a place for the high halves, each of n annotations has room for two sets
pub room_for_two : (v : ℕ) {f : Format} {long n i : ℕ} → f ≡ format_of v → (¬ (f.high ≡ 0)) → long ≡ annotation_length v * n → i < n
    → f.annotation * i + 16 ≤ long
room_for_two v {f} {long} {n} {i} e h l q =
    let g : long ≡ f.annotation * n = rw e l in
    let k : f.annotation ≡ 16 = two (λ z. h (ap (λ (f : Format). f.high) e ∙ z)) in
    omega (arith, inside f.annotation i n q, g, k)
  where
    two : (¬ (high_offset v ≡ 0)) → f.annotation ≡ 16
    two = rw e (by_format (λ (f : Format). (¬ (f.high ≡ 0)) → f.annotation ≡ 16) (λ n. absurd (n refl)) (λ n. refl) v)

module _ (v : ℕ) (f : ℕ → Halves) where
  pub notes_length : (n : ℕ) → length (note_bytes v f n) ≡ annotation_length v * n
  unfolding note_bytes
  notes_length zero = omega arith
  notes_length (suc n) =
      length-append (note_bytes v f n) (halves_bytes v (f n)) ∙ omega (arith, notes_length n, set_length v (f n), mul-suc (annotation_length v) n)

  notes_more : (n : ℕ) → note_bytes v f n ++ halves_bytes v (f n) ≡ note_bytes v f (n + 1)
  unfolding note_bytes
  notes_more n = rw (add-one n)

  pub are_bytes_lem : (n : ℕ) → T (are_bytes (note_bytes v f n))
  unfolding note_bytes
  are_bytes_lem zero = tt
  are_bytes_lem (suc n) = append_bytes (note_bytes v f n) (halves_bytes v (f n)) (are_bytes_lem n) (set_bytes v (f n))

  low_length : (i : ℕ) {y : List ℕ} → y ≡ little_bytes 8 (f i).low → length y ≡ 8
  low_length i e = ap length e ∙ length_bytes 8 (f i).low

  -- the low set of one note more in a buffer
  module _ (i : ℕ) (p out : List ℕ) {y : List ℕ} (e : y ≡ little_bytes 8 (f i).low) where
    pub low_stored : Begins (note_bytes v f i) p out → {at k : ℕ} → at ≡ annotation_length v * i → k ≡ 8
        → Begins (note_bytes v f i ++ y) (take at p ++ (y ++ drop k (drop at p))) out
    low_stored b {at} {k} q r = stored (note_bytes v f i) p out b at (notes_length i ∙ sym q) y k (low_length i e ∙ sym r)

    -- that is the whole note,
    pub alone : high_offset v ≡ 0 → Begins (note_bytes v f i ++ y) p out → Begins (note_bytes v f (i + 1)) p out
    alone h b = subst (λ (x : List ℕ). Begins x p out) (ap (λ (x : List ℕ). note_bytes v f i ++ x) (e ∙ low_alone v (f i) h) ∙ notes_more i) b

    -- or its high set follows
    pub high_stored : (¬ (high_offset v ≡ 0)) → Begins (note_bytes v f i ++ y) p out → {z : List ℕ} → z ≡ little_bytes 8 (f i).high
        → {at k : ℕ} → at ≡ annotation_length v * i + 8 → k ≡ 8 → Begins (note_bytes v f (i + 1)) (take at p ++ (z ++ drop k (drop at p))) out
    high_stored h b {z} g {at} {k} q r =
        subst (λ (x : List ℕ). Begins x (take at p ++ (z ++ drop k (drop at p))) out)
        (append_assoc (note_bytes v f i) y z ∙ ap (λ (x : List ℕ). note_bytes v f i ++ x) (ap₂ (λ (x y : List ℕ). x ++ y) e g ∙ high_after v (f i) h) ∙ notes_more i)
        (stored (note_bytes v f i ++ y) p out b at (length-append (note_bytes v f i) y ∙ omega (arith, notes_length i, low_length i e, q)) z k
        (ap length g ∙ length_bytes 8 (f i).high ∙ sym r))

  pub room : {i n k : ℕ} → i ≡ n → k ≡ annotation_length v * n → k ≡ length (note_bytes v f i)
  room {i} e h = h ∙ ap (λ (m : ℕ). annotation_length v * m) (sym e) ∙ sym (notes_length i)

  -- what stands from note i on
  from : (n i : ℕ) → i < n → (rest : List ℕ) × (drop (annotation_length v * i) (note_bytes v f n) ≡ halves_bytes v (f i) ++ rest)
  unfolding note_bytes
  from zero i l = absurd (omega arith)
  from (suc n) i l =
      let s = note_bytes v f n in
      let b = halves_bytes v (f n) in
      ⊎_elim
      (λ e. ([], rw e (drop_at s b (annotation_length v * n) (notes_length n) ∙ sym (append-nil b))))
      (λ (q : i < n).
      let m = from n i q in
      let h : annotation_length v * i ≤ length s = omega (arith, notes_length n, inside (annotation_length v) i n q) in
      (m.0 ++ b, drop-append-le (annotation_length v * i) s b h ∙ ap (λ (x : List ℕ). x ++ b) m.1 ∙ append_assoc (halves_bytes v (f i)) m.0 b))
      (eq-or-lt_of_le (le_of_suc-le-suc l))

  pub note_back : (n i : ℕ) → i < n → Small (f i) → annotation_at v (note_bytes v f n) i ≡ taken v (f i)
  unfolding annotation_at
  note_back n i l small =
      let s = note_bytes v f n in
      let m = from n i l in
      ap₂ halves (ap (λ (x : List ℕ). little (take 8 x)) m.1)
      (ap (λ (x : List ℕ). little (take 8 x)) (sym (drop-drop (high_offset v) (annotation_length v * i) s) ∙ ap (drop (high_offset v)) m.1))
      ∙ at_front v (f i) small m.0

-- the same notes as far as the version writes them, the same bytes
module _ (v : ℕ) where
  as_written : (e : Halves) → halves_bytes v e ≡ halves_bytes v (taken v e)
  unfolding halves_bytes taken
  as_written e =
      by_format (λ (g : Format). little_bytes 8 e.low ++ choose (eqb g.high 0) [] (little_bytes 8 e.high)
      ≡ little_bytes 8 e.low ++ choose (eqb g.high 0) [] (little_bytes 8 (choose (eqb g.high 0) e.low e.high))) refl refl v

  pub notes_ext : (f g : ℕ → Halves) (n : ℕ) → ((j : ℕ) → j < n → taken v (f j) ≡ g j) → note_bytes v f n ≡ note_bytes v g n
  unfolding note_bytes
  notes_ext f g zero h = refl
  notes_ext f g (suc n) h =
      ap₂ (λ (x y : List ℕ). x ++ y) (notes_ext f g n (λ j l. h j (omega arith))) (as_written (f n) ∙ ap (halves_bytes v) (h n (omega arith)))
