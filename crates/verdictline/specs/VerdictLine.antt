-- The line of a verdict (01, The lister; 02, Items 5 and 7).
use Rattle.std.specs.Prelude.{Bool, true, ◌&&◌, List, [], ◌∷◌, ◌++◌, ℕ, ◌+◌, leb}
use Rattle.bits.specs.Fields.{choose}
use Rattle.bits.specs.Outcomes.{gives, refuses}
use Rattle.rows.specs.Names.{ascii}
use Rattle.safety.specs.declared.verdict.Reported.{Reported}
use Rattle.safety.specs.declared.verdict.Reported.TheVariants.{Neither, Low, High}
use Rattle.safety.specs.declared.verdict.Finding.{Finding}
use Rattle.safety.specs.Verdict.{Judgement}
use Rattle.text.specs.Text.{space, line_feed, decimal}

-- the letter of a half (02, Item 7); none where there is no register
unfoldable pub half_letter : Reported → List ℕ
half_letter Neither = []
half_letter Low = ascii "L"
half_letter High = ascii "H"

-- what the line of every refusal has: `REFUSED`, the number in two decimal digits, the index in four, the register in two and after it the
-- letter of its half
abbrev pub refusal_fields : Finding → List ℕ
refusal_fields f =
    ascii "REFUSED"
    ++ (space ∷ decimal 2 f.number)
    ++ (space ∷ decimal 4 f.index)
    ++ (space ∷ decimal 2 f.register)
    ++ half_letter f.half

-- a refusal of a word that does not read has a fourth field (02, Item 5), the place in two decimal digits, `00` where it names none; no other
-- refusal has it
abbrev pub place_field : Finding → List ℕ
place_field f = choose (leb 2 f.number && leb f.number 7) (space ∷ decimal 2 f.place) []

-- the line: `ACCEPTED`, or the fields of a refusal; then a line feed
unfoldable pub verdict_line : Judgement → List ℕ
verdict_line (gives _) = ascii "ACCEPTED" ++ (line_feed ∷ [])
verdict_line (refuses f) = refusal_fields f ++ (place_field f ++ (line_feed ∷ []))

-- whether it is a container whose words all read, from a verdict: the refusals after reading are numbered from 20 on
unfoldable pub lists : Judgement → Bool
lists (gives _) = true
lists (refuses f) = leb 20 f.number

-- the most bytes that the line has
abbrev pub longest_verdict : ℕ
longest_verdict = 7 + 1 + 2 + 1 + 4 + 1 + 2 + 1 + 1 + 2 + 1
