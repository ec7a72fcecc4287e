use native.Mathlib.Omega.{arith}
use Rattle.text.proofs.TextLaws.{put_next}
use Rattle.listing.proofs.LineLaws.{line_put}
use Rattle.listing.proofs.line.put_line.Goals as goal

pub returns : goal.returns
returns c =
    let a = c.args in (
      line_put a.i a.w c.read_number-r.ensures
          (put_next (put_next (put_next c.put_digits-at.ensures.0 c.put_spaced-at.ensures.0) c.put_reading-at.ensures.0) c.put_byte-at.ensures),
      omega arith,
    )
