-- The values of registers, one after the other. Assumes nothing.
use mathlib.Core.Path.{◌≡◌, refl, sym, ap, ◌∙◌}
use mathlib.Core.List.{List, [], ◌∷◌, ◌++◌, append_assoc, append-nil}
use Prim.Native.Nat.{ℕ, suc, ◌<◌}
use lib.ListN.{length, get_or, take}
use lib.Seq.{take-suc}
use Rattle.replaytext.specs.ReplayText.{value_text, values}

values_append : (x y : List ℕ) → values (x ++ y) ≡ values x ++ values y
unfolding values
values_append [] y = refl
values_append (v ∷ x) y = rw (values_append x y) (sym (append_assoc (value_text v) (values x) (values y)))

-- one value more
pub one_value : (registers : List ℕ) (i : ℕ) → i < length registers → values (take i registers) ++ value_text (get_or registers i 0) ≡ values (take (suc i) registers)
unfolding values
one_value registers i h =
    sym (ap values (take-suc registers i 0 h) ∙ values_append (take i registers) (get_or registers i 0 ∷ []) ∙ rw (append-nil (value_text (get_or registers i 0))))
