use mathlib.Core.Path.{sym, ◌∙◌}
use native.Mathlib.Nat.{add-mul}
use native.Mathlib.Omega.{arith}
use lib.ListN.{length}
use Rattle.container.specs.Formats.{annotation_length}
use Rattle.packing.specs.Packing.{word_count}
use Rattle.packing.proofs.PackLaws.{fitting_of, few_words, no_version, no_fit, no_room, packs}
use Rattle.packing.proofs.pack.Goals as goal

pub returns-then-not-known : goal.returns-then-not-known
returns-then-not-known c =
    let a = c.args in
    let all = no_version a.version a.entry a.words.now a.annotations.now a.out.now (sym c.known.ensures ∙ c.if-not-known.true) in record { answer = all.0; buffer = all.1 }

pub returns-then-not-fit : goal.returns-then-not-fit
returns-then-not-fit c =
    let a = c.args in
    let all = no_fit a.version a.entry a.words.now a.annotations.now a.out.now (sym c.known.ensures ∙ c.if-not-known.false) (sym c.fit.ensures ∙ c.if-not-fit.true) in record { answer = all.0; buffer = all.1 }

pub container_length-requires : goal.container_length-requires
container_length-requires c =
    let a = c.args in
    let f = fitting_of a.version (length a.words.now) (length a.annotations.now) (sym c.fit.ensures ∙ c.if-not-fit.false) in
    omega (arith, few_words a.version (length a.words.now) (length a.annotations.now) f)

pub fill-requires : goal.fill-requires
fill-requires c =
    let a = c.args in
    let f = fitting_of a.version (length a.words.now) (length a.annotations.now) (sym c.fit.ensures ∙ c.if-not-fit.false) in
    omega (arith, f.whole, f.noted, c.if-out-container_length.false, c.container_length.ensures, add-mul 8 (annotation_length a.version) (word_count (length a.words.now)))

pub returns : goal.returns
returns c =
    let a = c.args in
    let p = packs a.version a.entry a.words.now a.annotations.now a.out.now (sym c.known.ensures ∙ c.if-not-known.false) (sym c.fit.ensures ∙ c.if-not-fit.false)
    (c.if-out-container_length.false ∙ c.container_length.ensures) in
    record { answer = p.0; buffer = c.fill.ensures ∙ p.1 }

pub returns-then-out-container_length : goal.returns-then-out-container_length
returns-then-out-container_length c =
    let a = c.args in
    let all = no_room a.version a.entry a.words.now a.annotations.now a.out.now (sym c.known.ensures ∙ c.if-not-known.false) (sym c.fit.ensures ∙ c.if-not-fit.false)
    (λ e. c.if-out-container_length.true (e ∙ sym c.container_length.ensures)) in record { answer = all.0; buffer = all.1 }
