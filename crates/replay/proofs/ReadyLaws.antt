-- A container that is accepted, made ready. Assumes nothing.
use mathlib.Core.Path.{◌≡◌, sym, ap, ◌∙◌, subst}
use mathlib.Core.List.{List}
use Prim.Native.Nat.{ℕ, ◌*◌, ◌/◌, ◌<◌}
use native.Mathlib.Omega.{arith}
use lib.ListN.{length}
use Rattle.bits.specs.Outcomes.{gives}
use Rattle.record.specs.declared.instruction.Instruction.{Instruction}
use Rattle.reading.specs.Reader.{read}
use Rattle.writing.proofs.RoundTrip.{read_legal, legal_row, legal_roomy}
use Rattle.writing.proofs.WordLaws.{heads_small}
use Rattle.container.specs.Container.{count_of, words_of, eight}
use Rattle.container.proofs.OpeningLaws.{sized, length_words}
use Rattle.safety.specs.Program.{WellFormed, Worded, machine_of, instruction_at}
use Rattle.walks.specs.Walks.{AllSafe}
use Rattle.operations.specs.declared.Operation.{Operation}
use Rattle.decode.specs.Served.Decoded.{AllRead, Decoded}
use Rattle.run.specs.Served.Ready.{Ready}

-- an instruction that was read writes one of the 64 registers, if it writes one
small_register : (bs : List ℕ) (x : Instruction) → read bs ≡ gives x → x.register < 64
small_register bs x e =
    let l = read_legal bs x e in
    (heads_small x (legal_row x l) (legal_roomy x l)).2

module _ (s : List ℕ) (formed : WellFormed s) {w : List ℕ} (are : w ≡ words_of s) where
  long : length w ≡ 8 * count_of s
  long = ap length are ∙ length_words s formed.opens

  pub counted : length w / 8 ≡ count_of s
  counted = rw long (omega arith)

  pub worded : Worded w (length w / 8)
  worded = record { few = rw counted (sized s formed.opens).few; long = long ∙ ap (λ (k : ℕ). 8 * k) (sym counted) }

  pub all_read : AllRead w (length w / 8)
  all_read i l = subst (λ (v : List ℕ). (x : Instruction) × (read (eight v i) ≡ gives x)) (sym are) (formed.reads i (rw counted at l))

  pub ready : AllSafe (machine_of s) → {uniforms : List ℕ} {program : List Operation} → Decoded w uniforms (length w / 8) (length w / 8) program → Ready s uniforms program
  unfolding instruction_at
  ready safe d = record {
    safe = (formed, safe);
    small = λ i l. let r = formed.reads i l in rw r.1 (small_register (eight (words_of s) i) r.0 r.1);
    stands = λ i none l. rw (counted, are) at (d i none (rw counted l));
  }
