-- What is asked of a maker is met by no lazy one, in either version: not by one that always answers 24, nor one that names nothing, nor one
-- that leaves the last sweep out of its count, nor one that stops after the first, nor one that goes by whole registers in version 2. Each
-- fails at words that are written out here, and by what is asked without a word of how the annotations are found. Assumes nothing.
use mathlib.Core.Path.{◌≡◌, refl, sym, ap, ◌∙◌, subst, subst⁻¹}
use mathlib.Core.Bool.{true}
use mathlib.Core.List.{List, [], ◌∷◌, ◌++◌, Memᴰ}
use mathlib.Core.Logic.{⊎_elim}
use Prim.Native.Nat.{ℕ, suc, ◌*◌, ◌^◌, ◌<◌, ◌≤◌}
use native.Mathlib.Omega.{arith}
use lib.Dec.{T, lit≤}
use lib.IntN.{pos}
use lib.ListN.{length}
use lib.Pow.{are_bytes}
use Rattle.bits.specs.Bytes.{little, little_bytes}
use Rattle.bits.specs.Fields.{assigned}
use Rattle.bits.specs.Sets.{Has, minus, lowest_from}
use Rattle.bits.specs.Halves.{Half, lower, upper, halves, both}
use Rattle.bits.specs.declared.halves.Halves.{Halves}
use Rattle.bits.specs.Outcomes.{Outcome, gives, refuses, ◌then◌, first, each}
use Rattle.bits.specs.Signed.{unsigned, signed}
use Rattle.bits.proofs.OutcomeLaws.{never}
use Rattle.rows.specs.Rows.{rows}
use Rattle.rows.specs.Layout.{modifier_at, places, slots, find}
use Rattle.rows.specs.Sources.{meaning}
use Rattle.record.specs.Legality.{judge_modifiers, judge_sources, judge}
use Rattle.record.specs.Registers.{reads, kills, defines, writes}
use Rattle.reading.specs.Reader.{lowest_stray, read_row, read}
use Rattle.container.specs.Formats.{known, format_of, annotation_length}
use Rattle.container.specs.declared.format.Format.{Format}
use Rattle.container.specs.Container.{version_of, count_of, entry_of, words_of, annotations_of}
use Rattle.container.specs.Opening.{open_outcome}
use Rattle.container.proofs.FormatLaws.{known_one}
use Rattle.packing.specs.Packing.{word_count, Fitting, front_bytes, halves_bytes, taken, container_bytes}
use Rattle.packing.proofs.PackLaws.{by_format}
use Rattle.walks.proofs.Bounds.{reports_one}
use Rattle.safety.specs.declared.verdict.Finding.{Finding}
use Rattle.safety.specs.declared.verdict.Reported.TheVariants.{Low}
use Rattle.safety.specs.Program.{successors, fills, after, Fact, In, instruction_at, annotation_at, program_in, machine}
use Rattle.safety.specs.Verdict.{finding, none_missing, judge_successor, judge_flow, judge_program, verdict_of}
use Rattle.safety.proofs.ProgramLaws.{passes_of}
use Rattle.sweeps.specs.Sweeps.{among, first_note, swept, note, note_bytes}
use Rattle.sweeps.proofs.ByteLaws.{notes_length, are_bytes_lem}
use Rattle.infer.specs.Inference.{unannotated, none_acceptable}
use Rattle.infer.specs.Asked.{Acceptable, AsAsked, Maker, AskedIn}
use Rattle.infer.specs.Lazy.{AlwaysNone, NamesNothing, LeavesOutTheLast, StopsEarly, WholeRegisters}
use Rattle.infer.proofs.AskedLaws.{accept_of}

-- what is so in versions 1 and 2 is so in each version that there is
by_version : (P : ℕ → Type 0) → P 1 → P 2 → (v : ℕ) → known v ≡ true → P v
by_version P a b v k = ⊎_elim (λ e. subst⁻¹ P e a) (λ e. subst⁻¹ P e b) (known_one v k)

-- MOV r1, r2 with end: with r2 at entry, its annotation may name r2
mov_end : List ℕ
mov_end = 0x02 ∷ 0x00 ∷ 0x00 ∷ 0x00 ∷ 0x00 ∷ 0xC1 ∷ 0x91 ∷ 0x78 ∷ []

nop : List ℕ
nop = 0x00 ∷ 0x00 ∷ 0x00 ∷ 0x00 ∷ 0x00 ∷ 0x00 ∷ 0x00 ∷ 0x00 ∷ []

nop_end : List ℕ
nop_end = 0x00 ∷ 0x00 ∷ 0x00 ∷ 0x00 ∷ 0x00 ∷ 0x00 ∷ 0x00 ∷ 0x78 ∷ []

-- three NOPs, the last with end: with nothing at entry, the first sweep leaves all registers in the last note
nops : List ℕ
nops = nop ++ nop ++ nop_end

-- MOV of a constant into the low half of r1, and a NOP with end: in version 2 the second annotation may name that half
half_mov : List ℕ
half_mov = (0xC0 ∷ 0x00 ∷ 0x00 ∷ 0x00 ∷ 0x00 ∷ 0x41 ∷ 0x91 ∷ 0x00 ∷ []) ++ nop_end

-- n annotations of both halves of some registers; with no registers, a buffer
alike : ℕ → ℕ → ℕ → List ℕ
alike v s n = note_bytes v (λ j. both s) n

-- words of n instructions, an entry set, and annotations that the check accepts
record Shown (v : ℕ) (words : List ℕ) (n : ℕ) (entry : Halves) (others : List ℕ) : Type 0 where
  is_known : known v ≡ true
  bytes : T (are_bytes words)
  low : entry.low < 2 ^ 64
  high : entry.high < 2 ^ 64
  fits : Fitting v (length words) (length (alike v 0 n))
  other_bytes : T (are_bytes others)
  accepted : Acceptable v words entry others

fit : (v : ℕ) (words : List ℕ) (n : ℕ) → length words ≡ 8 * n → 0 < n → n ≤ 3 → Fitting v (length words) (length (alike v 0 n))
unfolding alike
fit v words n e some few =
    let w : word_count (length words) ≡ n = omega (arith, e) in
    record {
      some = omega (arith, w);
      few = omega (arith, w, by_format (λ (f : Format). 3 ≤ f.most) (lit≤ tt) (lit≤ tt) v);
      whole = omega (arith, e, w);
      noted = notes_length v (λ j. both 0) n ∙ ap (λ (m : ℕ). annotation_length v * m) (sym w);
    }

-- a maker that is asked for annotations of such words
module _ (m : Maker) (v : ℕ) (asked : AskedIn v m) {words : List ℕ} {n : ℕ} {entry : Halves} {others : List ℕ} (s : Shown v words n entry others) where
  abbrev answer : Outcome Finding ℕ
  answer = m.answer v words entry (alike v 0 n)

  promised : AsAsked v words entry (alike v 0 n) answer (m.after v words entry (alike v 0 n))
  unfolding alike
  promised = (asked words entry (alike v 0 n) s.bytes (are_bytes_lem v (λ j. both 0) n) s.low s.high).asked

  -- since some are acceptable, it proposes some
  proposes : (k : ℕ) × (answer ≡ gives k)
  proposes = go answer refl
    where
      go : (o : Outcome Finding ℕ) → answer ≡ o → (k : ℕ) × (answer ≡ gives k)
      go (gives k) e = (k, e)
      go (refuses f) e =
          let r = (accept_of v words entry s.low s.high s.is_known others (length (alike v 0 n)) s.fits s.accepted).1 in
          let z : answer ≡ refuses none_acceptable = e ∙ ap refuses (promised.refused s.is_known s.fits r f e) in
          absurd ((promised.none s.is_known s.fits r).0 z others s.other_bytes s.accepted)

mov_accepted : (v : ℕ) → known v ≡ true → Acceptable v mov_end (both 4) (alike v 4 1)
unfolding mov_end alike note_bytes container_bytes front_bytes halves_bytes little_bytes verdict_of first each judge_program judge_flow judge_successor none_missing after fills minus open_outcome known format_of version_of count_of entry_of words_of annotations_of little instruction_at annotation_at successors read read_row find rows places slots modifier_at lowest_stray lowest_from assigned judge judge_modifiers judge_sources unsigned signed meaning reads kills defines writes ◌then◌
mov_accepted = by_version (λ v. Acceptable v mov_end (both 4) (alike v 4 1)) refl refl

mov_shown : (v : ℕ) → known v ≡ true → Shown v mov_end 1 (both 4) (alike v 4 1)
unfolding mov_end alike
mov_shown v k = record {
  is_known = k;
  bytes = tt;
  low = omega arith;
  high = omega arith;
  fits = fit v mov_end 1 refl (omega arith) (omega arith);
  other_bytes = are_bytes_lem v (λ j. both 4) 1;
  accepted = mov_accepted v k;
}

-- the low half of r2
r2_low : Fact
r2_low = record { half = lower; register = 2 }

mov_names : (v : ℕ) → known v ≡ true → In (annotation_at v (alike v 4 1) 0) r2_low
unfolding alike note_bytes halves_bytes little_bytes format_of annotation_at little In Has r2_low
mov_names = by_version (λ v. In (annotation_at v (alike v 4 1) 0) r2_low) refl refl

module _ (v : ℕ) (is_known : known v ≡ true) (m : Maker) where
  pub always_none : AlwaysNone v m → ¬ AskedIn v m
  always_none lazy asked = never (sym (lazy mov_end (both 4) (alike v 0 1)) ∙ (proposes m v asked (mov_shown v is_known)).1)

  pub names_nothing : NamesNothing v m → ¬ AskedIn v m
  unfolding mov_end
  names_nothing lazy asked =
      let s = mov_shown v is_known in
      let p = proposes m v asked s in
      lazy mov_end (both 4) (alike v 0 1) p.0 p.1 0 r2_low
      ((promised m v asked s).largest p.0 p.1 (alike v 4 1) s.other_bytes s.accepted 0 (omega arith) r2_low (mov_names v is_known))

  pub leaves_out_the_last : LeavesOutTheLast v m → ¬ AskedIn v m
  leaves_out_the_last lazy asked =
      let s = mov_shown v is_known in
      let p = proposes m v asked s in
      let e =
      reports_one (machine (unannotated v mov_end (both 4))) p.0 (suc p.0) ((promised m v asked s).counted p.0 p.1)
      (lazy mov_end (both 4) (alike v 0 1) p.0 p.1) in
      omega (arith, e)

nops_accepted : (v : ℕ) → known v ≡ true → Acceptable v nops (both 0) (alike v 0 3)
unfolding nops nop nop_end alike note_bytes container_bytes front_bytes halves_bytes little_bytes verdict_of first each judge_program judge_flow judge_successor none_missing after fills minus open_outcome known format_of version_of count_of entry_of words_of annotations_of little instruction_at annotation_at successors read read_row find rows places slots modifier_at lowest_stray lowest_from assigned judge judge_modifiers judge_sources unsigned signed meaning reads kills defines writes ◌then◌
nops_accepted = by_version (λ v. Acceptable v nops (both 0) (alike v 0 3)) refl refl

nops_shown : (v : ℕ) → known v ≡ true → Shown v nops 3 (both 0) (alike v 0 3)
unfolding nops nop nop_end alike
nops_shown v k = record {
  is_known = k;
  bytes = tt;
  low = omega arith;
  high = omega arith;
  fits = fit v nops 3 refl (omega arith) (omega arith);
  other_bytes = are_bytes_lem v (λ j. both 0) 3;
  accepted = nops_accepted v k;
}

-- what the first sweep makes is refused: after it the last note names all registers, of which nothing fills r0
once_swept : ℕ → List ℕ
once_swept v = note_bytes v (note (unannotated v nops (both 0)) 1) (word_count (length nops))

once_refused : (v : ℕ) → known v ≡ true → verdict_of (container_bytes v (both 0) nops (once_swept v)) ≡ refuses (finding 22 0 1 0 Low)
unfolding once_swept nops nop nop_end note_bytes note first_note swept among taken container_bytes front_bytes halves_bytes little_bytes verdict_of first each judge_program judge_flow judge_successor none_missing after fills minus open_outcome known format_of version_of count_of entry_of words_of annotations_of little instruction_at annotation_at successors read read_row find rows places slots modifier_at lowest_stray lowest_from assigned judge judge_modifiers judge_sources unsigned signed meaning reads kills defines writes ◌then◌
once_refused = by_version (λ v. verdict_of (container_bytes v (both 0) nops (once_swept v)) ≡ refuses (finding 22 0 1 0 Low)) refl refl

pub stops_early : (v : ℕ) → known v ≡ true → (m : Maker) → StopsEarly v m → ¬ AskedIn v m
unfolding once_swept
stops_early v is_known m lazy asked =
    let s = nops_shown v is_known in
    let p = proposes m v asked s in
    let a = (promised m v asked s).accepted p.0 p.1 in
    never (sym (once_refused v is_known) ∙ ap (λ (l : List ℕ). verdict_of (container_bytes v (both 0) nops l)) (sym (lazy nops (both 0) (alike v 0 3) p.0 p.1)) ∙ a)

-- the second annotation names the low half of r1
half_named : List ℕ
half_named = halves_bytes 2 (both 0) ++ halves_bytes 2 (halves 2 0)

half_shown : Shown 2 half_mov 2 (both 0) half_named
unfolding half_mov nop_end half_named container_bytes front_bytes halves_bytes little_bytes verdict_of first each judge_program judge_flow judge_successor none_missing after fills minus open_outcome known format_of version_of count_of entry_of words_of annotations_of little instruction_at annotation_at successors read read_row find rows places slots modifier_at lowest_stray lowest_from assigned judge judge_modifiers judge_sources unsigned signed meaning reads kills defines writes ◌then◌
half_shown = record {
  is_known = refl;
  bytes = tt;
  low = omega arith;
  high = omega arith;
  fits = fit 2 half_mov 2 refl (omega arith) (omega arith);
  other_bytes = tt;
  accepted = refl;
}

r1 : Half → Fact
r1 h = record { half = h; register = 1 }

half_names : In (annotation_at 2 half_named 1) (r1 lower)
unfolding half_named halves_bytes little_bytes format_of annotation_at little In Has r1
half_names = refl

-- nothing fills the high half of r1
unfilled : ¬ In (fills 2 (instruction_at half_mov 0)) (r1 upper)
unfolding half_mov nop_end In Has r1 fills writes instruction_at read read_row find rows places slots modifier_at lowest_stray lowest_from assigned judge judge_modifiers judge_sources unsigned signed meaning ◌then◌ little little_bytes
unfilled h = omega (arith, h)

not_entered : ¬ In (taken 2 (both 0)) (r1 upper)
unfolding taken format_of In Has r1
not_entered h = omega (arith, h)

goes_on : Memᴰ (pos 1) (successors (instruction_at half_mov 0) 0)
unfolding half_mov nop_end successors instruction_at read read_row find rows places slots modifier_at lowest_stray lowest_from assigned judge judge_modifiers judge_sources unsigned signed meaning ◌then◌ little little_bytes
goes_on = Memᴰ.head refl

pub whole_registers : (m : Maker) → WholeRegisters m → ¬ AskedIn 2 m
unfolding half_mov nop_end In machine r1
whole_registers m lazy asked =
    let p = proposes m 2 asked half_shown in
    let after = m.after 2 half_mov (both 0) (alike 2 0 2) in
    let d = promised m 2 asked half_shown in
    let h = d.largest p.0 p.1 half_named half_shown.other_bytes half_shown.accepted 1 (omega arith) (r1 lower) half_names in
    let u : In (annotation_at 2 after 1) (r1 upper) = subst (λ (s : ℕ). Has s 1) (lazy half_mov (both 0) (alike 2 0 2) p.0 p.1 1) h in
    let q = accept_of 2 half_mov (both 0) half_shown.low half_shown.high half_shown.is_known after _ half_shown.fits (d.accepted p.0 p.1) in
    let t = passes_of (program_in 2 half_mov after 2 (taken 2 (both 0))) q.2 in
    ⊎_elim unfilled (λ c. not_entered (t.first (r1 upper) c.0)) (t.carries 0 1 (omega arith) (omega arith) goes_on (r1 upper) u)
