use mathlib.Core.Path.{◌≡◌, sym, ap, ◌∙◌}
use mathlib.Core.List.{◌++◌}
use native.Mathlib.Omega.{arith}
use lib.ListN.{length-take, length-drop}
use Rattle.bits.specs.Outcomes.{passes}
use Rattle.container.specs.Container.{count_of, words_of}
use Rattle.container.specs.Opening.{Opens}
use Rattle.container.proofs.OpeningLaws.{sized}
use Rattle.safety.specs.Verdict.{Judgement, all_read}
use Rattle.safety.proofs.ProgramLaws.{bytes_below}
use Rattle.verdictline.specs.VerdictLine.{verdict_line, lists}
use Rattle.listing.specs.Listing.{lines}
use Rattle.text.proofs.TextLaws.{put_next, same_text}
use Rattle.listing.proofs.ListingLaws.{read_by, unread_by, listing_read, listing_unread, opening}
use Rattle.listing.proofs.put_listing.Goals as goal

pub returns-then-not-all_read : goal.returns-then-not-all_read
returns-then-not-all_read c =
    let s = c.args.bytes.now in
    let t = bytes_below s (λ k. (c.type_inv.bytes k).fits) in
    let v = c.verify-v.ensures.verdict in
    let u = unread_by s t (sym (c.all_read.ensures ∙ ap lists v) ∙ c.if-not-all_read.true) in
    same_text (ap verdict_line v ∙ sym (listing_unread s u.1)) c.put_verdict.ensures.0

pub put_lines-at-requires : goal.put_lines-at-requires
put_lines-at-requires c =
    let all : all_read c.args.bytes.now ≡ passes = let s = c.args.bytes.now in
    let t = bytes_below s (λ k. (c.type_inv.bytes k).fits) in
    read_by s t (sym (c.all_read.ensures ∙ ap lists c.verify-v.ensures.verdict) ∙ c.if-not-all_read.false) in
    let opens : Opens c.args.bytes.now = opening _ (all) in
    let z = sized _ (opens) in
    (opens, omega arith)

pub put_verdict-requires-2 : goal.put_verdict-requires-2
put_verdict-requires-2 c =
    let all : all_read c.args.bytes.now ≡ passes = let s = c.args.bytes.now in
    let t = bytes_below s (λ k. (c.type_inv.bytes k).fits) in
    read_by s t (sym (c.all_read.ensures ∙ ap lists c.verify-v.ensures.verdict) ∙ c.if-not-all_read.false) in
    let opens : Opens c.args.bytes.now = opening _ (all) in
    let z = sized _ (opens) in
    simp (length-take, length-drop) (omega arith)

pub returns : goal.returns
returns c =
    let all : all_read c.args.bytes.now ≡ passes = let s = c.args.bytes.now in
    let t = bytes_below s (λ k. (c.type_inv.bytes k).fits) in
    read_by s t (sym (c.all_read.ensures ∙ ap lists c.verify-v.ensures.verdict) ∙ c.if-not-all_read.false) in
    let s = c.args.bytes.now in
    let v = c.verify-v.ensures.verdict in
    same_text (ap (λ (j : Judgement). lines (words_of s) (count_of s) ++ verdict_line j) v ∙ sym (listing_read s (all)))
    (put_next c.put_lines-at.ensures.0 c.put_verdict-2.ensures.0)
