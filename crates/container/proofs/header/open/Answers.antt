use mathlib.Core.Path.{◌≡◌, sym, ap, ap₂, ◌∙◌}
use Prim.Native.Nat.{ℕ, ◌+◌}
use native.Mathlib.Omega.{arith}
use Rattle.bits.specs.Outcomes.{Outcome, gives}
use Rattle.bits.specs.Halves.{halves}
use Rattle.bits.specs.declared.halves.Halves.{Halves}
use Rattle.container.specs.declared.format.Format.{Format}
use Rattle.container.specs.declared.header.Header.{Header}
use Rattle.container.specs.Formats.{known, high_offset, most_of, container_length}
use Rattle.container.specs.Container.{number, entry_of}
use Rattle.container.specs.Opening.{Rejection}
use Rattle.container.proofs.FormatLaws.{bounded_by}
use Rattle.container.proofs.OpeningLaws.{count_two, too_short, wrong_mark, wrong_version, wrong_zero, framed_by, no_instruction, too_many, wrong_length, opens}
use Rattle.container.proofs.header.open.Goals as goal

-- the same header, part by part
same : {v w n m : ℕ} {e f : Halves} → v ≡ w → n ≡ m → e ≡ f
    → ◌≡◌ {A = Outcome Rejection Header} (gives (record { version = v; count = n; entry = e })) (gives (record { version = w; count = m; entry = f }))
same p q r = cc

pub returns-then-bytes-lt-SHORTEST_HEADER : goal.returns-then-bytes-lt-SHORTEST_HEADER
returns-then-bytes-lt-SHORTEST_HEADER c =
    let s = c.args.bytes.now in
    too_short s (omega (arith, c.if-bytes-lt-SHORTEST_HEADER.true))

pub returns-then-not-has_mark : goal.returns-then-not-has_mark
returns-then-not-has_mark c =
    let s = c.args.bytes.now in
    wrong_mark s c.if-bytes-lt-SHORTEST_HEADER.false (sym c.has_mark.ensures ∙ c.if-not-has_mark.true)

pub returns-then-not-known : goal.returns-then-not-known
returns-then-not-known c =
    let s = c.args.bytes.now in
    wrong_version s c.if-bytes-lt-SHORTEST_HEADER.false (sym c.has_mark.ensures ∙ c.if-not-has_mark.false)
    (ap known (sym c.version_in-version.ensures) ∙ sym c.known.ensures ∙ c.if-not-known.true)

pub returns-then-bytes-ne0 : goal.returns-then-bytes-ne0
returns-then-bytes-ne0 c =
    let s = c.args.bytes.now in
    wrong_zero s c.if-bytes-lt-SHORTEST_HEADER.false (sym c.has_mark.ensures ∙ c.if-not-has_mark.false)
    (ap known (sym c.version_in-version.ensures) ∙ sym c.known.ensures ∙ c.if-not-known.false) c.if-bytes-ne0.true

pub returns-then-count-lt-FEWEST : goal.returns-then-count-lt-FEWEST
returns-then-count-lt-FEWEST c =
    let v = c.version_in-version.ensures in
    let framed = framed_by c.if-bytes-lt-SHORTEST_HEADER.false c.has_mark.ensures c.if-not-has_mark.false v c.known.ensures c.if-not-known.false c.if-bytes-ne0.false in
    let s = c.args.bytes.now in
    let n = c.from-count.ensures ∙ c.from_le_bytes.ensures ∙ sym (count_two s) in
    no_instruction s framed (omega (arith, c.if-count-lt-FEWEST.true))

pub returns-then-f-count : goal.returns-then-f-count
returns-then-f-count c =
    let v = c.version_in-version.ensures in
    let framed = framed_by c.if-bytes-lt-SHORTEST_HEADER.false c.has_mark.ensures c.if-not-has_mark.false v c.known.ensures c.if-not-known.false c.if-bytes-ne0.false in
    let s = c.args.bytes.now in
    let n = c.from-count.ensures ∙ c.from_le_bytes.ensures ∙ sym (count_two s) in
    let m = ap (λ (f : Format). f.most) c.format_of-f.ensures ∙ ap most_of v in
    too_many s framed (omega (arith, m, n, c.if-f-count.true))

pub returns-then-bytes-container_length : goal.returns-then-bytes-container_length
returns-then-bytes-container_length c =
    let v = c.version_in-version.ensures in
    let framed = framed_by c.if-bytes-lt-SHORTEST_HEADER.false c.has_mark.ensures c.if-not-has_mark.false v c.known.ensures c.if-not-known.false c.if-bytes-ne0.false in
    let s = c.args.bytes.now in
    let n = c.from-count.ensures ∙ c.from_le_bytes.ensures ∙ sym (count_two s) in
    let m = ap (λ (f : Format). f.most) c.format_of-f.ensures ∙ ap most_of v in
    wrong_length s framed (omega (arith, n, c.if-count-lt-FEWEST.false)) (omega (arith, m, n, c.if-f-count.false))
    (λ e. c.if-bytes-container_length.true (e ∙ ap₂ container_length (sym v) (sym n) ∙ sym c.container_length.ensures))

pub halves_in-requires : goal.halves_in-requires
halves_in-requires c =
    let b = bounded_by _ c.format_of-f.ensures in
    omega (arith, b.high_in_header, c.if-bytes-container_length.false, c.container_length.ensures, ap (λ (f : Format). f.header) c.format_of-f.ensures)

pub returns : goal.returns
unfolding entry_of
returns c =
    let v = c.version_in-version.ensures in
    let framed = framed_by c.if-bytes-lt-SHORTEST_HEADER.false c.has_mark.ensures c.if-not-has_mark.false v c.known.ensures c.if-not-known.false c.if-bytes-ne0.false in
    let s = c.args.bytes.now in
    let n = c.from-count.ensures ∙ c.from_le_bytes.ensures ∙ sym (count_two s) in
    let m = ap (λ (f : Format). f.most) c.format_of-f.ensures ∙ ap most_of v in
    let h = ap (λ (f : Format). f.high) c.format_of-f.ensures ∙ ap high_offset v in
    same v n (c.halves_in.ensures ∙ ap (λ (k : ℕ). halves (number s 8 8) (number s (8 + k) 8)) h)
    ∙ opens s framed (omega (arith, n, c.if-count-lt-FEWEST.false)) (omega (arith, m, n, c.if-f-count.false))
    (c.if-bytes-container_length.false ∙ c.container_length.ensures ∙ ap₂ container_length v n)
