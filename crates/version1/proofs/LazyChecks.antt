-- Demand 3 of version 1 is met by no lazy check: not by one that always accepts, nor one that always refuses, nor one that looks at
-- instruction 0 alone. Assumes nothing.
use mathlib.Core.Path.{◌≡◌, refl}
use mathlib.Core.List.Memᴰ
use mathlib.Core.List.{List, [], ◌∷◌, ◌++◌}
use mathlib.Core.Logic.{⊎_elim}
use Prim.Native.Nat.{ℕ, zero, suc}
use native.Mathlib.Omega.{arith}
use lib.Dec.{T}
use lib.Pow.{are_bytes}
use Rattle.bits.specs.Bytes.{little}
use Rattle.bits.specs.Fields.{assigned}
use Rattle.bits.specs.Sets.{Has, minus, lowest_from}
use Rattle.bits.specs.Signed.{unsigned, signed}
use Rattle.bits.specs.Outcomes.{refuses, passes, ◌then◌, first, each}
use Rattle.bits.proofs.OutcomeLaws.{never}
use Rattle.rows.specs.Rows.{rows}
use Rattle.rows.specs.Layout.{find, modifier_at, places, slots}
use Rattle.rows.specs.Sources.{meaning}
use Rattle.record.specs.Legality.{judge_modifiers, judge_sources, judge}
use Rattle.reading.specs.Reader.{lowest_stray, read_row, read}
use Rattle.record.specs.Registers.{reads, kills, defines, writes}
use Rattle.container.specs.Formats.{known, format_of}
use Rattle.container.specs.Container.{version_of, count_of}
use Rattle.container.specs.Container as now
use Rattle.container.specs.Opening.{open_outcome}
use Rattle.walks.specs.Walks.{start, step, AllSafe, AllReached, Exact}
use Rattle.walks.proofs.WalkLaws.{held}
use Rattle.safety.specs.Program.{successors, fills, instruction_at}
use Rattle.safety.specs.Program as program
use Rattle.safety.specs.Verdict.{Judgement, none_missing, judge_successor, judge_flow, judge_program, verdict_of}
use Rattle.safety.specs.Lazy.{first_only, WavesThrough}
use Rattle.safety.proofs.LazyChecks.{container, none, nop, nop_end, mov_end, nothing}
use Rattle.version1.specs.Container.{entry_of, words_of, annotations_of}
use Rattle.version1.specs.Program.{machine, annotation_at, machine_of}
use Rattle.version1.specs.Demand3.{Demand3}
use Rattle.version1.proofs.Demand3Met.{demand3}

-- nothing is defined and nothing is read
good : List ℕ
good = container 1 1 none nop_end none

-- instruction 1 reads r2, which nothing defines
bad : List ℕ
bad = container 1 2 none (nop ++ mov_end) (none ++ none)

good_bytes : T (are_bytes good)
unfolding good
good_bytes = tt

bad_bytes : T (are_bytes bad)
unfolding bad
bad_bytes = tt

good_carries : version_of good ≡ 1
unfolding good version_of little
good_carries = refl

bad_carries : version_of bad ≡ 1
unfolding bad version_of little
bad_carries = refl

good_accepted : verdict_of good ≡ passes
unfolding good verdict_of first each judge_program judge_flow judge_successor none_missing program.after minus open_outcome version_of count_of now.entry_of now.words_of now.annotations_of little instruction_at program.annotation_at successors read read_row find rows places slots modifier_at lowest_stray lowest_from assigned judge judge_modifiers judge_sources unsigned signed meaning reads kills defines ◌then◌ known format_of fills writes
good_accepted = refl

-- the one instruction of `good` lies on a walk, and its annotation is exact
good_reached : AllReached (machine_of good)
unfolding good machine count_of little
good_reached zero l = (0 ∷ [], start, Memᴰ.head refl)
good_reached (suc i) l = absurd (omega arith)

good_exact : Exact (machine_of good)
unfolding good machine count_of entry_of annotations_of annotation_at little
good_exact zero l r k =
    (λ h w v. (((demand3 good good_bytes good_carries).sound good_accepted).1 (0 ∷ w) v).0.claimed r h, λ h. h [] start)
good_exact (suc i) l r k = absurd (omega arith)

-- a walk of `bad` reads r2 where it is not defined
bad_unsafe : ¬ AllSafe (machine_of bad)
unfolding bad machine Has open_outcome version_of count_of entry_of words_of annotations_of little instruction_at annotation_at successors read read_row find rows places slots modifier_at lowest_stray lowest_from assigned judge judge_modifiers judge_sources unsigned signed meaning reads kills defines ◌then◌
bad_unsafe safe =
    ⊎_elim (λ a. nothing a) (λ b. nothing b.0)
    (held (machine_of bad) 1 (0 ∷ []) 2 ((safe (1 ∷ 0 ∷ []) (step start (Memᴰ.head refl) (omega arith))).0.needed 2 refl))

module _ {F : Type 0} where
  -- always yes
  pub always_yes : ¬ Demand3 {F = F} (λ s. passes)
  always_yes d = bad_unsafe ((d bad bad_bytes bad_carries).sound refl).1

  -- always no, whatever it reports
  pub always_no : (f : List ℕ → F) → ¬ Demand3 (λ s. refuses (f s))
  always_no f d =
      let a = (demand3 good good_bytes good_carries).sound good_accepted in
      never ((d good good_bytes good_carries).complete a.0 a.1 good_reached good_exact)

bad_passes : first_only bad ≡ passes
unfolding bad first_only first each judge_program judge_flow judge_successor none_missing program.after minus open_outcome version_of count_of now.entry_of now.words_of now.annotations_of little instruction_at program.annotation_at successors read read_row find rows places slots modifier_at lowest_stray lowest_from assigned judge judge_modifiers judge_sources unsigned signed meaning reads kills defines ◌then◌ known format_of fills writes
bad_passes = refl

-- whatever waves through all after instruction 0
pub only_first : (check : List ℕ → Judgement) → WavesThrough check → ¬ Demand3 check
only_first check waves d = bad_unsafe ((d bad bad_bytes bad_carries).sound (waves bad bad_passes)).1
