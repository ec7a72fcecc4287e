-- The verdict on a container that was packed from a version, words, annotations and an entry set. Assumes nothing.
use mathlib.Core.Path.{◌≡◌, ap, ◌∙◌}
use mathlib.Core.Bool.{true}
use mathlib.Core.List.{List}
use Prim.Native.Nat.{ℕ, ◌^◌, ◌<◌}
use lib.ListN.{length}
use Rattle.bits.specs.declared.halves.Halves.{Halves}
use Rattle.bits.specs.Outcomes.{◌then◌, first}
use Rattle.bits.proofs.OutcomeLaws.{then_passed}
use Rattle.container.specs.Formats.{known}
use Rattle.packing.specs.Packing.{word_count, Fitting, taken, container_bytes}
use Rattle.packing.proofs.PackLaws.{packed_opens, packed_version, packed_count, packed_entry, packed_words, packed_annotations}
use Rattle.safety.specs.Program.{program_in, program_of}
use Rattle.safety.specs.Verdict.{judge_opening, judge_word, judge_program, verdict_of}

module _ (v : ℕ) (entry : Halves) (words annotations : List ℕ) (is_known : known v ≡ true) (fits : Fitting v (length words) (length annotations))
    (low : entry.low < 2 ^ 64) (high : entry.high < 2 ^ 64) where
  pub packed_program : program_of (container_bytes v entry words annotations) ≡ program_in v words annotations (word_count (length words)) (taken v entry)
  packed_program =
      rw (
        packed_words v entry words annotations is_known fits low high,
        packed_annotations v entry words annotations is_known fits low high,
        packed_count v entry words annotations is_known fits low high,
        packed_entry v entry words annotations is_known fits low high,
        packed_version v entry words annotations is_known fits low high,
      )

  pub packed_verdict : verdict_of (container_bytes v entry words annotations)
      ≡ (first (judge_word words) (word_count (length words)) then judge_program (program_in v words annotations (word_count (length words)) (taken v entry)))
  unfolding verdict_of
  packed_verdict =
      then_passed _ (ap judge_opening (packed_opens v entry words annotations is_known fits low high))
      ∙ rw (
        packed_words v entry words annotations is_known fits low high,
        packed_annotations v entry words annotations is_known fits low high,
        packed_count v entry words annotations is_known fits low high,
        packed_entry v entry words annotations is_known fits low high,
        packed_version v entry words annotations is_known fits low high,
      )
