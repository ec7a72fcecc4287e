use mathlib.Core.Path.{◌≡◌, ap, ◌∙◌}
use Prim.Native.Nat.{ℕ}
use native.Mathlib.Omega.{arith}
use Rattle.bits.specs.Outcomes.{gives, refuses}
use Rattle.container.specs.Container.{words_of, annotations_of}
use Rattle.container.specs.Opening.{open_outcome}
use Rattle.container.proofs.OpeningLaws.{sized, opened_by, refused_by, words_contents, annotations_contents}
use Rattle.safety.specs.Verdict.{plain}
use Rattle.safety.proofs.ProgramLaws.{bytes_below}
use Rattle.safety.proofs.PassLaws.{unopened, worded, annotated, opened_to}
use Rattle.safety.proofs.Demand3.{agreed}
use Rattle.safety.proofs.ReasonLaws.{grounded}
use Rattle.verifier.proofs.verify.Goals as goal

pub judge_words-requires : goal.judge_words-requires
judge_words-requires c =
    let opens : open_outcome c.args.bytes.now ≡ gives c.in-Ok.header = opened_by c.open.ensures c.in-Ok.is in
    let are_words : c.words.result.now ≡ words_of c.args.bytes.now = words_contents c.args.bytes c.words.result c.words.ensures (opens) in
    let are_notes : c.annotations.result.now ≡ annotations_of c.args.bytes.now = annotations_contents c.args.bytes c.annotations.result c.annotations.ensures (opens) in
    let s = c.args.bytes.now in
    let w = c.words.result.now in
    let n = c.annotations.result.now in
    let h = c.in-Ok.header in
    let z = sized s (opens) in
    (worded s w n h (opens) (are_words) (are_notes), annotated s w n h (opens) (are_words) (are_notes), omega (arith, z.counts, z.some))

pub returns-in-Ok : goal.returns-in-Ok
returns-in-Ok c =
    let opens : open_outcome c.args.bytes.now ≡ gives c.in-Ok.header = opened_by c.open.ensures c.in-Ok.is in
    let are_words : c.words.result.now ≡ words_of c.args.bytes.now = words_contents c.args.bytes c.words.result c.words.ensures (opens) in
    let are_notes : c.annotations.result.now ≡ annotations_of c.args.bytes.now = annotations_contents c.args.bytes c.annotations.result c.annotations.ensures (opens) in
    let s = c.args.bytes.now in
    let e = opened_to s c.words.result.now c.annotations.result.now c.in-Ok.header (opens) (are_words) (are_notes) c.judge_words.ensures in
    let t = bytes_below s (λ k. (c.type_inv.bytes k).fits) in
    record { verdict = e; demand = agreed s _ t e; reason = grounded s _ t e }

pub returns-in-Err : goal.returns-in-Err
returns-in-Err c =
    let s = c.args.bytes.now in
    let e = unopened s (refused_by c.open.ensures c.in-Err.is) (c.refused.ensures ∙ ap (λ (k : ℕ). refuses (plain k 0 0)) c.number.ensures) in
    let t = bytes_below s (λ k. (c.type_inv.bytes k).fits) in
    record { verdict = e; demand = agreed s _ t e; reason = grounded s _ t e }
