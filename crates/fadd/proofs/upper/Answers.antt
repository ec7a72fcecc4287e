use lib.Ieee.{neg, div, of_bits, of_fields, odd}
use lib.Count.{count_trailing_zeros}
use borrow.Author.Tests.{eq-eqb}
use Rattle.fadd.proofs.upper.Goals as goal

pub returns-then-c-eq1 : goal.returns-then-c-eq1
unfolding neg div of_bits of_fields odd count_trailing_zeros
returns-then-c-eq1 c = rw (eq-eqb _ _ c.if-c-eq1.true)
