use mathlib.Core.Path.{◌≡◌}
use lib.ListN.{drop}
use Rattle.writing.specs.Served.Parts.{narrow}
use Rattle.wordparts.proofs.room.modifiers_fit.Given as goal

abbrev pub invariant-loop-j : goal.invariant-loop-j
invariant-loop-j l = narrow l.widths l.j (drop l.j l.m) ≡ narrow l.widths 0 l.m
