-- Examples A to L (01, Checked examples; L as 02, Item 2, mends it, and H with the place of 02, Item 5): what each word reads as, what its
-- sources mean, and that writing gives the word back.
use Rattle.std.specs.Prelude.{◌≡◌, List, [], ◌∷◌, ◌++◌, map, ℕ, ℤ, pos, negsuc, take, replicate}
use Rattle.bits.specs.Bytes.{little_bytes}
use Rattle.bits.specs.Outcomes.{Outcome, gives, refuses}
use Rattle.rows.specs.Rows.{row_of}
use Rattle.rows.specs.Sources.{Meaning, meaning, register_read, register_released, uniform, immediate, special, warp_id, low_word, high_word}
use Rattle.record.specs.Lists.{source_list, sources_of, modifiers_of}
use Rattle.record.specs.Answers.{refusal}
use Rattle.reading.specs.Reader.{read}
use Rattle.writing.specs.Writer.{stored}
use Rattle.record.specs.declared.instruction.Instruction.{Instruction}
use Rattle.record.specs.declared.answer.Refusal.{Refusal}

-- a word, its outcome, and the meanings of the sources that its row has
pub record Example : Type 0 where
  pub word : ℕ
  pub outcome : Outcome Refusal Instruction
  pub meanings : List Meaning

abbrev pub reads_as : ℕ → Instruction → List Meaning → Example
reads_as w i ms = record { word = w; outcome = gives i; meanings = ms }

abbrev pub refused_with : ℕ → ℕ → ℕ → Example
refused_with w number place = record { word = w; outcome = refuses (refusal number place); meanings = [] }

-- modifiers that are 0 but for those at bits 26, 28 and 36
abbrev pub modifiers : (m26 m28 m36 : ℕ) → List ℕ
modifiers m26 m28 m36 = replicate 4 0 ++ (m26 ∷ m28 ∷ []) ++ replicate 4 0 ++ (m36 ∷ []) ++ replicate 3 0

abbrev pub instruction : (row page flow register mask s0 s1 : ℕ) → List ℕ → ℤ → Instruction
instruction row page flow register mask s0 s1 ms z =
    record {
      row = row;
      page = page;
      flow = flow;
      register = register;
      half_mask = mask;
      sources = sources_of (s0 ∷ s1 ∷ 0 ∷ 0 ∷ []);
      modifiers = modifiers_of ms;
      offset = z;
    }

unfoldable pub examples : List Example
examples =
    -- A: MOV r1, r2
    reads_as 0x0091C10000000002 (instruction 30 0 0 1 3 2 0 (modifiers 0 0 0) (pos 0)) (register_read 2 ∷ [])
    -- B: NOP, end
    ∷ reads_as 0x7800000000000000 (instruction 0 0 15 0 0 0 0 (modifiers 0 0 0) (pos 0)) []
    -- C: POPCOUNT r3, r4 released
    ∷ reads_as 0x0091C300000C0044 (instruction 37 0 0 3 3 0x44 0 (modifiers 0 0 0) (pos 0)) (register_released 4 ∷ [])
    -- D: FADD.f32 r0, r1, minus r2
    ∷ reads_as 0x00A4C01000000201 (instruction 53 0 0 0 3 1 2 (modifiers 0 0 1) (pos 0)) (register_read 1 ∷ register_read 2 ∷ [])
    -- E: BRANCHZ on constant 0, offset -1
    ∷ reads_as 0x001F0007FFFFFFC0 (instruction 1 0 0 0 0 0xC0 0 (modifiers 0 0 0) (negsuc 0)) (immediate 0 ∷ [])
    -- F: FADD.v2f16, both H = 2
    ∷ reads_as 0x00A5C00028000201 (instruction 54 0 0 0 3 1 2 (modifiers 2 2 0) (pos 0)) (register_read 1 ∷ register_read 2 ∷ [])
    -- G: MOV r1, uniform 69
    ∷ reads_as 0x0291C10000000085 (instruction 30 1 0 1 3 0x85 0 (modifiers 0 0 0) (pos 0)) (uniform 69 ∷ [])
    -- H: 3, place 63 (02, Item 5); I: 2; J: 4; K: 6, place 32
    ∷ refused_with 0x8000000000000000 3 63
    ∷ refused_with 0x0091C10000010002 2 0
    ∷ refused_with 0x5891C10000000002 4 0
    ∷ refused_with 0x00F0C00600020100 6 32
    -- L: 7; with byte E2 too, and with E4 and E5 it is warp_id's low and high word (02, Item 2)
    ∷ refused_with 0x0091C100000000E0 7 0
    ∷ refused_with 0x0091C100000000E2 7 0
    ∷ reads_as 0x0091C100000000E4 (instruction 30 0 0 1 3 0xE4 0 (modifiers 0 0 0) (pos 0)) (special warp_id low_word ∷ [])
    ∷ reads_as 0x0091C100000000E5 (instruction 30 0 0 1 3 0xE5 0 (modifiers 0 0 0) (pos 0)) (special warp_id high_word ∷ [])
    ∷ []

-- what the sources of the record read mean
abbrev pub meanings_of : Outcome Refusal Instruction → List Meaning
meanings_of (gives i) =
    map (meaning i.page) (take (row_of i.row).sources (source_list i.sources))
meanings_of (refuses f) = []

-- what writing the record read leaves in eight zero bytes, and what it should
abbrev pub written_back : Outcome Refusal Instruction → List ℕ
written_back (gives i) = stored i (replicate 8 0)
written_back (refuses f) = []

abbrev pub word_back : Outcome Refusal Instruction → ℕ → List ℕ
word_back (gives i) w = little_bytes 8 w
word_back (refuses f) w = []

pub record Hold (es : List Example) : Type 0 where
  pub reads : map (λ (e : Example). read (little_bytes 8 e.word)) es ≡ map (λ (e : Example). e.outcome) es
  pub means : map (λ (e : Example). meanings_of e.outcome) es ≡ map (λ (e : Example). e.meanings) es
  pub writes : map (λ (e : Example). written_back e.outcome) es ≡ map (λ (e : Example). word_back e.outcome e.word) es
