-- That version 1 stays as it was (02, Item 7): of bytes that carry it the verdict is the one before there were halves, but for the half that it
-- now tells, which is the low one wherever there is a register.
use Rattle.std.specs.Prelude.{◌≡◌, List, ℕ, T, ltb}
use Rattle.std.proofs.Math.Pow.{are_bytes}
use Rattle.bits.specs.Fields.{choose}
use Rattle.bits.specs.Outcomes.{gives, refuses, passes}
use Rattle.container.specs.Container.{version_of}
use Rattle.safety.specs.declared.verdict.Reported.{Reported}
use Rattle.safety.specs.declared.verdict.Reported.TheVariants.{Neither, Low}
use Rattle.safety.specs.declared.verdict.Finding.{Finding}
use Rattle.safety.specs.Program.{register_count}
use Rattle.safety.specs.Verdict.{Judgement}
use Rattle.version1.specs.Container.{version}
use Rattle.version1.specs.Verdict.{Finding as OldFinding, Judgement as OldJudgement, verdict_of as old_verdict_of}

-- the half that is told of a register: low, and neither where there is none
abbrev pub half_told : ℕ → Reported
half_told r = choose (ltb r register_count) Low Neither

abbrev pub with_half : OldFinding → Finding
with_half f = record { number = f.number; place = f.place; index = f.index; register = f.register; half = half_told f.register }

abbrev pub halved : OldJudgement → Judgement
halved (gives _) = passes
halved (refuses f) = refuses (with_half f)

-- of a check: its judgement of bytes that carry version 1
abbrev pub AsBefore : (List ℕ → Judgement) → Type 0
AsBefore check = (s : List ℕ) → T (are_bytes s) → version_of s ≡ version → check s ≡ halved (old_verdict_of s)
