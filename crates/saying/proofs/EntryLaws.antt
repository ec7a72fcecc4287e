-- What stands behind two fronts of some bytes. Assumes nothing.
use mathlib.Core.Path.{◌≡◌, ap, ◌∙◌}
use mathlib.Core.List.{List}
use Prim.Native.Nat.{ℕ, ◌+◌}
use lib.ListN.{take, drop}
use Rattle.std.proofs.lemmas.List.{drop-drop}

pub parted : (k m n : ℕ) (s : List ℕ) {rest after bytes left : List ℕ} → rest ≡ drop k s → after ≡ drop m rest → bytes ≡ take n after → left ≡ drop n after → (bytes ≡ take n (drop (k + m) s)) × (left ≡ drop (k + m + n) s)
parted k m n s r a b l =
    let e = a ∙ (ap (drop m) r ∙ drop-drop m k s) in
    (b ∙ ap (take n) e, l ∙ (ap (drop n) e ∙ drop-drop n (k + m) s))
