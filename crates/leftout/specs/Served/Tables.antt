-- What is left out, as the code's tables have it.
use Rattle.std.specs.Prelude.{Bool, ◌&&◌, List, [], ◌∷◌, ◌++◌, map, ℕ, suc, ◌+◌, ◌-◌, ◌*◌, ◌^◌, eqb, length, take, replicate}
use Rattle.bits.specs.Fields.{bits, choose}
use Rattle.rows.specs.Names.{ascii}
use Rattle.leftout.specs.Omitted.{Omitted, omitted, omitted_at, longest_omitted}

-- the bytes of the name of number k; none where there is no number k
abbrev pub omitted_name : ℕ → List ℕ
omitted_name k = ascii (omitted_at k).name

-- by what a word is known, in one number: the opcode, and the lowest bit, the width and the value of the secondary opcode
abbrev pub key_of : Omitted → ℕ
key_of o = o.opcode + 2 ^ 9 * o.second_low + 2 ^ 15 * o.second_width + 2 ^ 18 * o.second

abbrev pub key_fits : ℕ → ℕ → Bool
key_fits key w = eqb (bits w 48 9) (bits key 0 9) && eqb (bits w (bits key 9 6) (bits key 15 3)) (bits key 18 4)

unfoldable pub key_table : List ℕ
key_table = map key_of omitted

-- a text, filled with spaces
abbrev pub filled : List ℕ → List ℕ
filled s = s ++ replicate (longest_omitted - length s) 32

-- some names, one after another
abbrev pub joined : List Omitted → List ℕ
joined [] = []
joined (o ∷ os) = filled (ascii o.name) ++ joined os

unfoldable pub name_text : List ℕ
name_text = joined omitted

-- how many bytes stand before the spaces at the end
unfoldable pub before_filling : List ℕ → ℕ
before_filling [] = 0
before_filling (b ∷ bs) = choose (eqb (before_filling bs) 0 && eqb b 32) 0 (suc (before_filling bs))

unfoldable pub unfilled : List ℕ → List ℕ
unfilled s = take (before_filling s) s
