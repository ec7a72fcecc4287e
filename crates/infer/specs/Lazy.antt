-- Lazy makers of annotations that Items 1 and 7 of paper 02 must exclude, where they are told version v, and one that knows no halves.
use Rattle.std.specs.Prelude.{◌≡◌, List, ℕ, suc, length}
use Rattle.bits.specs.declared.halves.Halves.{Halves}
use Rattle.bits.specs.Outcomes.{gives, refuses}
use Rattle.packing.specs.Packing.{word_count}
use Rattle.walks.specs.Sweeps.{Reports}
use Rattle.safety.specs.Program.{Fact, In, annotation_at, machine}
use Rattle.sweeps.specs.Sweeps.{note, note_bytes}
use Rattle.infer.specs.Inference.{unannotated, none_acceptable}
use Rattle.infer.specs.Asked.{Maker}

-- one that always answers 24
abbrev pub AlwaysNone : ℕ → Maker → Type 0
AlwaysNone v m = (words : List ℕ) (entry : Halves) (buffer : List ℕ) → m.answer v words entry buffer ≡ refuses none_acceptable

-- one that proposes no halves anywhere
abbrev pub NamesNothing : ℕ → Maker → Type 0
NamesNothing v m =
    (words : List ℕ) (entry : Halves) (buffer : List ℕ) (k : ℕ) → m.answer v words entry buffer ≡ gives k
    → (i : ℕ) (g : Fact) → ¬ In (annotation_at v (m.after v words entry buffer) i) g

-- one that does not count the last sweep
abbrev pub LeavesOutTheLast : ℕ → Maker → Type 0
LeavesOutTheLast v m =
    (words : List ℕ) (entry : Halves) (buffer : List ℕ) (k : ℕ) → m.answer v words entry buffer ≡ gives k
    → Reports (machine (unannotated v words entry)) (suc k)

-- one that stops after the first sweep: where it proposes anything, that is what the first sweep made
abbrev pub StopsEarly : ℕ → Maker → Type 0
StopsEarly v m =
    (words : List ℕ) (entry : Halves) (buffer : List ℕ) (k : ℕ) → m.answer v words entry buffer ≡ gives k
    → m.after v words entry buffer ≡ note_bytes v (note (unannotated v words entry) 1) (word_count (length words))

-- one that goes by whole registers in version 2 too: of each register it names both halves or neither
abbrev pub WholeRegisters : Maker → Type 0
WholeRegisters m =
    (words : List ℕ) (entry : Halves) (buffer : List ℕ) (k : ℕ) → m.answer 2 words entry buffer ≡ gives k
    → (i : ℕ) → (annotation_at 2 (m.after 2 words entry buffer) i).low ≡ (annotation_at 2 (m.after 2 words entry buffer) i).high
