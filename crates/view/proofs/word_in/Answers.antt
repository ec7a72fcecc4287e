use mathlib.Core.Path.{◌≡◌, ap, ◌∙◌}
use Prim.Native.Nat.{ℕ, ◌+◌, ◌-◌, ◌*◌}
use native.Mathlib.Nat.{add-sub_cancel_left}
use native.Mathlib.Omega.{arith}
use lib.ListN.{take, drop}
use Rattle.bits.specs.Bytes.{little}
use Rattle.bits.specs.Outcomes.{gives}
use Rattle.container.specs.declared.format.Format.{Format}
use Rattle.container.specs.Formats.{format_of, header_length, word_length}
use Rattle.container.specs.Container.{version_of, word_start}
use Rattle.container.proofs.FormatLaws.{bounded, bounded_by}
use Rattle.view.proofs.WordLaws.{past_count, past_bytes, inside}
use Rattle.view.proofs.word_in.Goals.{then-n-i-via-then-n-i, then-n-i-via-else-n-i+then-bytes-lt-SHORTEST_HEADER}
use Rattle.view.proofs.word_in.Goals as goal

-- the header of the version that was read
header : {f : Format} {v w : ℕ} → f ≡ format_of v → v ≡ w → f.header ≡ header_length w
header e p = ap (λ (f : Format). f.header) e ∙ ap header_length p

pub returns-then-n-i : goal.returns-then-n-i
returns-then-n-i c =
    let s = c.args.bytes.now in
    let b = bounded (version_of s) in
    elim c.then-n-i.branch [
      | then-n-i-via-then-n-i w ↦ past_count s c.args.n c.args.i (omega (arith, w.if-n-i.true))
      | then-n-i-via-else-n-i+then-bytes-lt-SHORTEST_HEADER w ↦
          past_bytes s c.args.n c.args.i (omega (arith, w.if-n-i.false)) (omega (arith, b.header_least, w.if-bytes-lt-SHORTEST_HEADER.true))
    ]

pub returns-in_default : goal.returns-in_default
returns-in_default c =
    let a = c.args in
    past_bytes a.bytes.now a.n a.i (omega (arith, c.if-n-i.false)) (omega (arith, header c.format_of-f.ensures c.version_in.ensures, c.in_default.ensures))

pub returns-then-after_first-i : goal.returns-then-after_first-i
returns-then-after_first-i c =
    let a = c.args in
    past_bytes a.bytes.now a.n a.i (omega (arith, c.if-n-i.false)) (omega (arith, header c.format_of-f.ensures c.version_in.ensures, c.if-after_first-i.true, c.in-Some.ensures))

pub overflow_add-f : goal.overflow_add-f
overflow_add-f c =
    let b = bounded_by _ c.format_of-f.ensures in
    omega (arith, b.header_most)

pub returns : goal.returns
returns c =
    let a = c.args in
    let s = a.bytes.now in
    let h = header c.format_of-f.ensures c.version_in.ensures in
    let start = word_start (version_of s) a.i in
    ap gives
    (c.load64.ensures
    ∙ ap (λ (k : ℕ). little (take (k + word_length * a.i + word_length - (k + word_length * a.i)) (drop (k + word_length * a.i) s))) h
    ∙ ap (λ (k : ℕ). little (take k (drop start s))) (add-sub_cancel_left start word_length))
    ∙ inside s a.n a.i (omega (arith, c.if-n-i.false)) (omega (arith, h, c.if-after_first-i.false, c.in-Some.ensures))
