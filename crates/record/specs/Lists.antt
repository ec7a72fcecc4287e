-- The sources and the modifiers of a record as lists, and back.
use Rattle.std.specs.Prelude.{List, [], ◌∷◌, ℕ, get_or}
use Rattle.record.specs.declared.instruction.Sources.{Sources}
use Rattle.record.specs.declared.instruction.Modifiers.{Modifiers}

abbrev pub source_list : Sources → List ℕ
source_list s = s.s0 ∷ s.s1 ∷ s.s2 ∷ s.s3 ∷ []

abbrev pub sources_of : List ℕ → Sources
sources_of l = record { s0 = get_or l 0 0; s1 = get_or l 1 0; s2 = get_or l 2 0; s3 = get_or l 3 0 }

-- in the order of their lowest bits
abbrev pub modifier_list : Modifiers → List ℕ
modifier_list m =
    m.m8
    ∷ m.m10
    ∷ m.m11
    ∷ m.m24
    ∷ m.m26
    ∷ m.m28
    ∷ m.m30
    ∷ m.m32
    ∷ m.m34
    ∷ m.m35
    ∷ m.m36
    ∷ m.m37
    ∷ m.m38
    ∷ m.m39
    ∷ []

abbrev pub modifiers_of : List ℕ → Modifiers
modifiers_of l =
    record {
      m8 = get_or l 0 0;
      m10 = get_or l 1 0;
      m11 = get_or l 2 0;
      m24 = get_or l 3 0;
      m26 = get_or l 4 0;
      m28 = get_or l 5 0;
      m30 = get_or l 6 0;
      m32 = get_or l 7 0;
      m34 = get_or l 8 0;
      m35 = get_or l 9 0;
      m36 = get_or l 10 0;
      m37 = get_or l 11 0;
      m38 = get_or l 12 0;
      m39 = get_or l 13 0;
    }
