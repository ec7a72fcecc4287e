use Rattle.std.specs.Prelude.{Result}
use mathlib.Core.Path.{sym, ap, ◌∙◌}
use Rattle.safety.specs.declared.verdict.Finding.{Finding}
use Rattle.safety.specs.Verdict.{verdict_outcome}
use Rattle.codes.specs.Codes.{verdict_code}
use Rattle.codes.proofs.CodeLaws.{roomy}
use Rattle.codes.proofs.PromiseLaws.{demanded}
use Rattle.capi.proofs.vsp_check.Goals as goal

pub finding_code-requires : goal.finding_code-requires
finding_code-requires c =
    let s = c.args.container.now in
    let q = roomy s (λ k. (c.type_inv.container k).fits) (sym c.verify.ensures.verdict ∙ ap verdict_outcome c.in-Err.is) in
    (q.index, q.register)

pub returns-in-Err : goal.returns-in-Err
returns-in-Err c =
    let e = c.finding_code.ensures.0 ∙ ap (λ (v : (Result (Unit {0}) Finding)). verdict_code (verdict_outcome v)) (sym c.in-Err.is) ∙ ap verdict_code c.verify.ensures.verdict in
    record { answer = e; demand = demanded _ (λ k. (c.type_inv.container k).fits) e }
