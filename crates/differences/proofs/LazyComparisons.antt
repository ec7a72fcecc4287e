-- What is asked of a comparison is met by no lazy one: not by one that never lists anything, nor by one that lists every field. Each fails at
-- containers that are written out here. Assumes nothing.
use Rattle.std.specs.Prelude.{Option, None, Some}
use mathlib.Core.Path.{◌≡◌, refl, sym, ◌∙◌}
use mathlib.Core.List.{List, [], ◌∷◌, ◌++◌, Memᴰ}
use mathlib.Core.Logic.{◌≢◌}
use Prim.Native.Nat.{ℕ}
use native.Mathlib.Omega.{arith}
use lib.Dec.{T}
use lib.Pow.{are_bytes}
use Rattle.bits.specs.Bytes.{little}
use Rattle.bits.specs.Fields.{assigned}
use Rattle.bits.specs.Sets.{lowest_from}
use Rattle.bits.specs.Outcomes.{Outcome, gives, ◌then◌, first}
use Rattle.bits.specs.Signed.{unsigned, signed}
use Rattle.rows.specs.Rows.{rows}
use Rattle.rows.specs.Layout.{modifier_at, places, slots, find}
use Rattle.rows.specs.Sources.{meaning}
use Rattle.record.specs.Legality.{judge_modifiers, judge_sources, judge}
use Rattle.reading.specs.Reader.{lowest_stray, read_row, read}
use Rattle.container.specs.Formats.{known, format_of}
use Rattle.container.specs.Container.{version_of, count_of, entry_of, words_of}
use Rattle.container.specs.Opening.{open_outcome}
use Rattle.safety.specs.Program.{WellFormed}
use Rattle.safety.specs.Verdict.{all_read}
use Rattle.differences.specs.declared.answer.Unread.{Unread}
use Rattle.differences.specs.declared.line.What.TheVariants.{Entry}
use Rattle.differences.specs.declared.line.Line.{Line}
use Rattle.differences.specs.Sets.{sets_of, compared, set_in}
use Rattle.differences.specs.Differences.{line}
use Rattle.differences.specs.Asked.{Comparison, Compares, at_entry}
use Rattle.differences.specs.Lazy.{NeverLists, ListsEveryField}
use Rattle.safety.proofs.ReadLaws.{formed}

-- one NOP with end and no register in its annotation, with this as the lowest byte of the entry set
container : ℕ → List ℕ
container e =
    (86 ∷ 83 ∷ 80 ∷ 1 ∷ 0 ∷ 0 ∷ 1 ∷ 0 ∷ [])
    ++ (e ∷ 0 ∷ 0 ∷ 0 ∷ 0 ∷ 0 ∷ 0 ∷ 0 ∷ [])
    ++ (0x00 ∷ 0x00 ∷ 0x00 ∷ 0x00 ∷ 0x00 ∷ 0x00 ∷ 0x00 ∷ 0x78 ∷ [])
    ++ (0 ∷ 0 ∷ 0 ∷ 0 ∷ 0 ∷ 0 ∷ 0 ∷ 0 ∷ [])

container_formed : (e : ℕ) → WellFormed (container e)
unfolding container all_read first open_outcome known format_of version_of count_of entry_of words_of little read read_row find rows places slots modifier_at lowest_stray lowest_from assigned judge judge_modifiers judge_sources unsigned signed meaning ◌then◌
container_formed e = formed (container e) refl

-- with nothing defined at entry, and with r0
empty : List ℕ
empty = container 0

full : List ℕ
full = container 1

empty_formed : WellFormed empty
unfolding empty
empty_formed = container_formed 0

full_formed : WellFormed full
unfolding full
full_formed = container_formed 1

empty_bytes : T (are_bytes empty)
unfolding empty container
empty_bytes = tt

full_bytes : T (are_bytes full)
unfolding full container
full_bytes = tt

-- both are version 1, so that the one set is compared
one_set : Memᴰ 0 (compared empty full)
unfolding empty full container version_of little sets_of
one_set = Memᴰ.head refl

entries_differ : set_in 0 (entry_of empty) ≢ set_in 0 (entry_of full)
unfolding empty full container entry_of format_of version_of little
entries_differ e = omega arith

one_instruction : count_of empty ≡ 1
unfolding empty container count_of little
one_instruction = refl

pub not_silent : (c : Comparison) → Compares c → NeverLists c → ⊥
not_silent c asked lazy =
    let l = line (Entry 0) 0 (set_in 0 (entry_of empty)) (set_in 0 (entry_of full)) in
    let p = (asked empty full empty_bytes full_bytes).all_lines empty_formed full_formed l (at_entry 0 one_set entries_differ) in
    lazy empty full p.0 l p.1

no_line : {l : Line} → ◌≡◌ {A = Outcome Unread (Option Line)} (gives None) (gives (Some l)) → ⊥
no_line e = let z : ◌≡◌ {A = ℕ} 0 1 = cc in omega arith

pub not_everything : (c : Comparison) → Compares c → ListsEveryField c → ⊥
not_everything c asked lazy =
    let s = asked empty empty empty_bytes empty_bytes in
    let p = lazy empty empty empty_formed empty_formed 0 0 (omega (arith, one_instruction)) (omega arith) in
    no_line (sym (s.no_gap empty_formed empty_formed 0 p.0 (omega arith) ((s.equal empty_formed empty_formed).1 refl)) ∙ p.2.0)
