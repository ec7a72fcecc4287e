use mathlib.Core.Path.{refl, sym, ◌∙◌}
use Prim.Native.Nat.{◌^◌, ◌<◌}
use Rattle.bits.proofs.OutcomeLaws.{left_by}
use Rattle.packing.proofs.PackLaws.{fitting_of}
use Rattle.infer.proofs.InferLaws.{short, room, worded, some, noted, annotated, ready, unknown, unfit, unread, checked}
use borrow.Author.Rules.{rules}
use Rattle.infer.proofs.infer.Goals as goal

pub returns-then-not-known : goal.returns-then-not-known
returns-then-not-known c =
    let a = c.args in
    let low : a.entry.low < 2 ^ 64 = search rules in
    let high : a.entry.high < 2 ^ 64 = search rules in
    unknown a.version a.words.now a.entry a.annotations.now low high (sym c.known.ensures ∙ c.if-not-known.true) c.refuse.ensures

pub returns-then-not-fit : goal.returns-then-not-fit
returns-then-not-fit c =
    let a = c.args in
    let low : a.entry.low < 2 ^ 64 = search rules in
    let high : a.entry.high < 2 ^ 64 = search rules in
    unfit a.version a.words.now a.entry a.annotations.now low high (sym c.known.ensures ∙ c.if-not-known.false)
    (sym c.fit.ensures ∙ c.if-not-fit.true) c.refuse-then-not-fit.ensures

pub slice_bounds-proposal-end : goal.slice_bounds-proposal-end
slice_bounds-proposal-end c = short _ _ (fitting_of _ _ _ (sym c.fit.ensures ∙ c.if-not-fit.false))

pub slice_bounds-proposal-end-2 : goal.slice_bounds-proposal-end-2
slice_bounds-proposal-end-2 c = room 0 _ (short _ _ (fitting_of _ _ _ (sym c.fit.ensures ∙ c.if-not-fit.false)))

pub propose-requires : goal.propose-requires
propose-requires c =
    let a = c.args in
    let w = a.words.now in
    let f = fitting_of _ _ _ (sym c.fit.ensures ∙ c.if-not-fit.false) in
    (ready a.version w refl f a.entry (sym c.known.ensures ∙ c.if-not-known.false) c.taken-held.ensures, sym (room 0 _ (short _ _ f)) ∙ noted a.version w refl f)

pub returns-in_err-k : goal.returns-in_err-k
returns-in_err-k c =
    let a = c.args in
    let low : a.entry.low < 2 ^ 64 = search rules in
    let high : a.entry.high < 2 ^ 64 = search rules in
    let f = fitting_of _ _ _ (sym c.fit.ensures ∙ c.if-not-fit.false) in
    rw (left_by _ c.from_residual.ensures)
    (unread a.version a.words.now a.entry a.annotations.now low high (sym c.known.ensures ∙ c.if-not-known.false) _ refl f c.taken-held.ensures c.in_err-k.ensures)

pub hand_over-requires : goal.hand_over-requires
hand_over-requires c =
    let a = c.args in
    let w = a.words.now in
    let f = fitting_of _ _ _ (sym c.fit.ensures ∙ c.if-not-fit.false) in
    let long = c.propose.auto.out ∙ sym (room 0 _ (short _ _ f)) in
    (worded a.version w refl f, annotated a.version w refl f long, some a.version w refl f, sym long)

pub returns : goal.returns
returns c =
    let a = c.args in
    let low : a.entry.low < 2 ^ 64 = search rules in
    let high : a.entry.high < 2 ^ 64 = search rules in
    let f = fitting_of _ _ _ (sym c.fit.ensures ∙ c.if-not-fit.false) in
    checked a.version a.words.now a.entry a.annotations.now low high (sym c.known.ensures ∙ c.if-not-known.false) _ refl f c.taken-held.ensures c.in_ok-k.ensures
    c.hand_over.ensures
