use Rattle.rows.specs.Names.{name_of}
use Rattle.text.specs.Text.{space, decimal}
use mathlib.Core.List.{[], ◌∷◌, append_assoc}
use native.Mathlib.Omega.{arith}
use Rattle.text.proofs.TextLaws.{put_next, same_text}
use Rattle.linetext.proofs.put_row.Goals as goal

pub returns : goal.returns
returns c =
    let n = c.args.row in
    (same_text (append_assoc (space ∷ decimal 2 n) (space ∷ []) (name_of n)) (put_next (put_next c.put_spaced-at.ensures.0 c.put_byte-at.ensures) c.put_name-at.ensures.0), omega arith)
