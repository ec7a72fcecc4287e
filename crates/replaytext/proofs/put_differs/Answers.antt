use mathlib.Core.Path.{ap₂}
use mathlib.Core.List.{◌++◌}
use Prim.Native.Nat.{ℕ}
use native.Mathlib.Omega.{arith}
use Rattle.rows.specs.Names.{ascii}
use Rattle.text.proofs.TextLaws.{put_next, same_text}
use Rattle.replaytext.specs.ReplayText.{plain, value_text, differs_line}
use Rattle.replaytext.proofs.put_differs.Goals as goal

pub returns : goal.returns
unfolding differs_line ascii
returns c =
    let a = c.args in (
      same_text
          (ap₂ (λ (v w : ℕ). (ascii "DIFFERS at step " ++ plain a.k ++ ascii ", r") ++ (plain a.r ++ ascii ": ") ++ (value_text v ++ ascii " replayed, ") ++ (value_text w ++ ascii " recorded\n")) c.number_at-held.ensures c.recorded-kept.ensures)
          (put_next (put_next (put_next c.put_enclosed-at.ensures.0 c.put_enclosed-at-2.ensures.0) c.put_value-at.ensures.0) c.put_value-at-2.ensures.0),
      omega (arith, c.put_enclosed-at.ensures.1, c.put_enclosed-at-2.ensures.1, c.put_value-at.ensures.1, c.put_value-at-2.ensures.1),
    )
