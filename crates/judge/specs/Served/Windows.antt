-- Whether the modifiers of a word are legal, asked of a row's limits and pairs.
use Rattle.std.specs.Prelude.{Bool, false, ℕ, ◌+◌, ◌/◌, eqb, Result}
use Rattle.std.specs.Int.Bits.{bit_and}
use Rattle.bits.specs.Fields.{bits, choose}
use Rattle.bits.specs.Sets.{has}
use Rattle.record.specs.declared.answer.Refusal.{Refusal}
use Rattle.judge.specs.declared.Fit.{Fit}
use Rattle.judge.specs.Served.Judge.{refused}

-- the bits of a word that are 1 together with the next one and may not be
abbrev pub paired : ℕ → ℕ → ℕ
paired pairs w = bit_and (bit_and w (w / 2)) pairs

abbrev pub modifiers_ok : ℕ → ℕ → ℕ → Bool
modifiers_ok limits pairs w =
    choose (has limits (bits w 26 4)) false (choose (has limits (16 + bits w 36 4)) false (eqb (paired pairs w) 0))

-- the refusal of the lowest modifier that is illegal
abbrev pub refused_modifier : ℕ → ℕ → ℕ → ℕ → Result Fit Refusal
refused_modifier limits widths pairs w =
    choose (eqb (bits (paired pairs w) 8 1) 1) (refused 6 8)
    (choose (has limits (bits (bits w 26 4) 0 (bits widths 16 3))) (refused 6 26)
    (choose (has limits (bits w 26 4)) (refused 6 28)
    (choose (eqb (paired pairs w) 0)
    (choose (has limits (16 + bits (bits w 36 4) 0 (bits widths 40 3))) (refused 6 36) (refused 6 37))
    (refused 6 32))))
