-- Numbers as bytes, the lowest first.
use Rattle.std.specs.Prelude.{List, [], ◌∷◌, ℕ, zero, suc, ◌+◌, ◌*◌, ◌/◌, ◌%◌}

-- the number that bytes give
unfoldable pub little : List ℕ → ℕ
little [] = 0
little (b ∷ bs) = b + 256 * little bs

-- the n bytes of a number
unfoldable pub little_bytes : ℕ → ℕ → List ℕ
little_bytes zero w = []
little_bytes (suc n) w = w % 256 ∷ little_bytes n (w / 256)
