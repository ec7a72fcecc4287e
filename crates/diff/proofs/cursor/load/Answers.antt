use mathlib.Core.Path.{◌≡◌, sym, ap, ◌∙◌}
use Prim.Native.Nat.{ℕ}
use native.Mathlib.Omega.{arith}
use Rattle.bits.proofs.Every.{clash}
use Rattle.reading.specs.Reader.{read_number}
use Rattle.safety.specs.Program.{instruction_in}
use Rattle.differences.specs.Records.{contents}
use Rattle.differences.specs.Differences.{word_of}
use Rattle.diff.proofs.WalkLaws.{said, same_words, whole}
use Rattle.diff.proofs.cursor.load.Goals as goal

pub returns-then-x-y : goal.returns-then-x-y
returns-then-x-y c =
    let a = c.args.first.now in
    let b = c.args.second.now in
    let i = c.args.i in
    let e : word_of a i ≡ word_of b i = sym c.word-x.ensures ∙ c.if-x-y.true ∙ c.word-y.ensures in
    let q = same_words a b i (sym (said a c.requires.0.first.opens i (omega (arith, c.requires.1)))
    ∙ ap (λ (w : ℕ). contents (instruction_in (read_number w))) e ∙ said b c.requires.0.second.opens i (omega (arith, c.requires.1))) in
    record { differ = λ z. clash (sym z); same = λ _. q }

pub returns : goal.returns
returns c =
    let a = c.args.first.now in
    let b = c.args.second.now in
    let i = c.args.i in
    let ex = c.take_contents.ensures ∙ ap (λ (x : ℕ). contents (instruction_in (read_number x))) c.word-x.ensures ∙ said a c.requires.0.first.opens i (omega (arith, c.requires.1)) in
    let ey = c.take_contents-2.ensures ∙ ap (λ (x : ℕ). contents (instruction_in (read_number x))) c.word-y.ensures ∙ said b c.requires.0.second.opens i (omega (arith, c.requires.1)) in
    record { differ = λ _. whole a b i ex ey; same = λ z. clash z }
