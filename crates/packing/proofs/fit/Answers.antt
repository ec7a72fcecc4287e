use mathlib.Core.Path.{◌≡◌, ap}
use Prim.Native.Nat.{ℕ, ◌*◌, ◌≤◌}
use native.Mathlib.Omega.{arith}
use lib.Dec.{eqb}
use borrow.Author.Tests.{le-leb, lt-leb, eq-eqb, ne_eqb}
use Rattle.container.specs.declared.format.Format.{Format}
use Rattle.container.specs.Formats.{format_of, most_of, word_length}
use Rattle.container.proofs.FormatLaws.{Bounded, bounded_by, at_most}
use Rattle.packing.specs.Packing.{word_count, fitting}
use Rattle.packing.proofs.fit.Goals.{then-n-lt-FEWEST-via-then-n-lt-FEWEST, then-n-lt-FEWEST-via-else-n-lt-FEWEST+then-f-n, then-n-lt-FEWEST-via-else-n-lt-FEWEST+else-f-n+then-words-n}
use Rattle.packing.proofs.fit.Goals as goal

-- the most instructions of a format that was looked up
most : {f : Format} (v : ℕ) → f ≡ format_of v → f.most ≡ most_of v
most v e = ap (λ (f : Format). f.most) e

few : {f : Format} {n : ℕ} → Bounded f → n ≤ f.most → n ≤ 2048
few b l = omega (arith, b.few, l)

pub returns-then-n-lt-FEWEST : goal.returns-then-n-lt-FEWEST
unfolding fitting
returns-then-n-lt-FEWEST c =
    let v = c.args.version in
    let w = c.args.words in
    let n = word_count w in
    let m = most _ c.format_of-f.ensures in
    elim c.then-n-lt-FEWEST.branch [
      | then-n-lt-FEWEST-via-then-n-lt-FEWEST z ↦ rw (lt-leb 1 n (omega (arith, z.if-n-lt-FEWEST.true)))
      | then-n-lt-FEWEST-via-else-n-lt-FEWEST+then-f-n z ↦
          rw (le-leb 1 n (omega (arith, z.if-n-lt-FEWEST.false)), lt-leb n (most_of v) (omega (arith, m, z.if-f-n.true)))
      | then-n-lt-FEWEST-via-else-n-lt-FEWEST+else-f-n+then-words-n z ↦
          rw (le-leb 1 n (omega (arith, z.if-n-lt-FEWEST.false)), le-leb n (most_of v) (omega (arith, m, z.if-f-n.false)), ne_eqb w (word_length * n) (λ e. omega (arith, z.if-words-n.true)))
    ]

pub overflow_mul-result : goal.overflow_mul-result
overflow_mul-result c =
    let b = bounded_by _ c.format_of-f.ensures in
    record { fits = omega (arith, at_most 16 2048 b.annotation_most (few b c.if-f-n.false)) }

pub returns : goal.returns
unfolding fitting
returns c =
    let v = c.args.version in
    let w = c.args.words in
    let n = word_count w in
    let m = most _ c.format_of-f.ensures in
    rw (le-leb 1 n (omega (arith, c.if-n-lt-FEWEST.false)), le-leb n (most_of v) (omega (arith, m, c.if-f-n.false)), eq-eqb w (word_length * n) (omega (arith, c.if-words-n.false)))
    (ap (λ (f : Format). eqb c.args.annotations (f.annotation * n)) c.format_of-f.ensures)
