use mathlib.Core.Path.{◌≡◌, refl, ap, ◌∙◌}
use Prim.Native.Nat.{ℕ}
use native.Mathlib.Omega.{arith}
use Rattle.bits.specs.Outcomes.{gives, refuses, passes, first}
use Rattle.container.specs.Container.{words_of, annotations_of}
use Rattle.container.specs.Opening.{open_outcome}
use Rattle.container.proofs.OpeningLaws.{opened_by, refused_by, words_contents}
use Rattle.safety.specs.Verdict.{Judgement, plain}
use Rattle.safety.proofs.PassLaws.{unopened_read, worded, opened_read}
use Rattle.verifier.proofs.read_all.Goals as goal

none_before : (f : ℕ → Judgement) → first f 0 ≡ passes
unfolding first
none_before f = refl

pub invariant_of-words : goal.invariant_of-words
invariant_of-words c =
    let opens : open_outcome c.args.bytes.now ≡ gives c.in-Ok.header = opened_by c.open.ensures c.in-Ok.is in
    let are_words : c.words.result.now ≡ words_of c.args.bytes.now = words_contents c.args.bytes c.words.result c.words.ensures (opens) in
    let s = c.args.bytes.now in
    record { worded = worded s c.words.result.now (annotations_of s) c.in-Ok.header (opens) (are_words) refl }

pub read_from-requires : goal.read_from-requires
read_from-requires c = (omega arith, none_before _)

pub returns-in-Ok : goal.returns-in-Ok
returns-in-Ok c =
    let opens : open_outcome c.args.bytes.now ≡ gives c.in-Ok.header = opened_by c.open.ensures c.in-Ok.is in
    let are_words : c.words.result.now ≡ words_of c.args.bytes.now = words_contents c.args.bytes c.words.result c.words.ensures (opens) in
    let s = c.args.bytes.now in
    opened_read s c.words.result.now (annotations_of s) c.in-Ok.header (opens) (are_words) refl c.read_from.ensures

pub returns-in-Err : goal.returns-in-Err
returns-in-Err c =
    unopened_read c.args.bytes.now (refused_by c.open.ensures c.in-Err.is) (c.refused.ensures ∙ ap (λ (k : ℕ). refuses (plain k 0 0)) c.number.ensures)
