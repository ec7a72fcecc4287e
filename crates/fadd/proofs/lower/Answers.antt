use lib.Ieee.{neg, div, of_bits, of_fields, odd}
use lib.Count.{count_trailing_zeros}
use borrow.Author.Tests.{eq-eqb}
use Rattle.fadd.proofs.lower.Goals as goal

pub returns-then-c-eq2 : goal.returns-then-c-eq2
unfolding neg div of_bits of_fields odd count_trailing_zeros
returns-then-c-eq2 c = rw (eq-eqb _ _ c.if-c-eq2.true)
