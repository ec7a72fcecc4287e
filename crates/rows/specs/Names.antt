-- The names of the rows, as the lister writes them.
use mathlib.Core.List.{List, [], ◌∷◌, ◌++◌, map, flatten}
use Rattle.std.specs.Prelude.{ℕ, suc, ◌-◌, eqb, length, replicate}
use Prim.Native.Char.{code}
use Prim.Native.String.{String, [] as empty, ◌∷◌ as letter}
use Rattle.bits.specs.Fields.{choose}
use Rattle.rows.specs.Rows.{Row, rows, row_of}
use Rattle.rows.specs.declared.names.Name.{Name}

-- the bytes of an ASCII text
unfoldable pub ascii : String → List ℕ
ascii empty = []
ascii (letter c s) = code c ∷ ascii s

-- the bytes of row k's name; none where there is no row k
abbrev pub name_of : ℕ → List ℕ
name_of k = ascii (row_of k).name

-- a name is handed out with spaces after it
abbrev pub name_width : ℕ
name_width = 18

abbrev pub filled : List ℕ → List ℕ
filled s = s ++ replicate (name_width - length s) 32

unfoldable pub name : ℕ → Name
name k = record { bytes = filled (name_of k); len = length (name_of k) }

-- the names of all rows in their order, each in name_width bytes, one after another
unfoldable pub names : List ℕ
names = flatten (map (λ (r : Row). filled (ascii r.name)) rows)

-- how many bytes stand before the first space
unfoldable pub before_space : List ℕ → ℕ
before_space [] = 0
before_space (b ∷ bs) = choose (eqb b 32) 0 (suc (before_space bs))
