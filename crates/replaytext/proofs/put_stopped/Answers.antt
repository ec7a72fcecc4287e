use mathlib.Core.Path.{ap}
use mathlib.Core.List.{◌++◌}
use Prim.Native.Nat.{ℕ}
use native.Mathlib.Omega.{arith}
use Rattle.rows.specs.Names.{ascii}
use Rattle.text.proofs.TextLaws.{put_next, same_text}
use Rattle.replaytext.specs.ReplayText.{plain, step_word, stopped_line}
use Rattle.replaytext.proofs.put_stopped.Goals as goal

pub returns : goal.returns
unfolding stopped_line ascii
returns c =
    let a = c.args in
    (same_text (ap (λ (k : ℕ). (a.why.now ++ plain a.n ++ step_word a.n) ++ (ascii ", " ++ plain k ++ ascii " compared\n")) c.compared-k.ensures) (put_next c.put_steps-at.ensures.0 c.put_enclosed.ensures.0), omega (arith, c.put_steps-at.ensures.1, c.put_enclosed.ensures.1, c.requires.0))
