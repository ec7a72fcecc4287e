use borrow.Author.Tests.{lt-ltb}
use Rattle.operations.proofs.ByteLaws.{ordinary_byte}
use Rattle.operations.proofs.fault.all_ordinary.Goals as goal

pub returns-then-s-lt-SPECIALS-2 : goal.returns-then-s-lt-SPECIALS-2
returns-then-s-lt-SPECIALS-2 c =
    let x = c.args.x in
    let h = c.if-s-lt-SPECIALS-2.true in
    rw (ordinary_byte x.page x.sources.s0, ordinary_byte x.page x.sources.s1, ordinary_byte x.page x.sources.s2, lt-ltb _ 224 h.0, lt-ltb _ 224 h.1)
