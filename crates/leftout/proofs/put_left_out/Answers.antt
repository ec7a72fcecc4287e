use mathlib.Core.Path.{◌≡◌, sym, ◌∙◌}
use Prim.Native.Nat.{◌+◌, ◌-◌, ◌*◌, ◌<◌}
use native.Mathlib.Omega.{arith}
use lib.ListN.{take, drop, length-take}
use Rattle.std.proofs.Common.{rules}
use Rattle.text.proofs.TextLaws.{put_nothing, same_text}
use Rattle.leftout.specs.Omitted.{longest_omitted, omitted_count}
use Rattle.leftout.specs.LeftOut.{left_out}
use Rattle.leftout.specs.Served.Tables.{omitted_name, unfilled}
use Rattle.leftout.proofs.OmittedLaws.{fitting, fitting_none, name_read}
use Rattle.leftout.proofs.put_left_out.Goals.{In-Some}
use Rattle.leftout.proofs.put_left_out.Goals as goal

pub returns-in_default : goal.returns-in_default
returns-in_default c = (put_nothing (fitting_none c.args.w (sym c.first_fit.ensures ∙ c.in_default.is)) c.args.out.now, omega arith)

found : (c : In-Some) → (c.in-Some.k < omitted_count) × (left_out c.args.w ≡ omitted_name c.in-Some.k)
found c = fitting c.args.w c.in-Some.k (sym c.first_fit.ensures ∙ c.in-Some.is)

pub overflow_mul-at : goal.overflow_mul-at
overflow_mul-at c = let h = (found (goal.at.overflow_mul-at c).In-Some).0 in search rules

pub overflow_add-at : goal.overflow_add-at
overflow_add-at c = let h = (found (goal.at.overflow_add-at c).In-Some).0 in search rules

pub slice_bounds-put_unfilled-end : goal.slice_bounds-put_unfilled-end
slice_bounds-put_unfilled-end c = let h = (found (goal.at.slice_bounds-put_unfilled-end c).In-Some).0 in search rules

pub returns : goal.returns
returns c =
    let f = found (goal.at.returns c).In-Some in
    let k = c.in-Some.k in
    let at = k * longest_omitted in
    let e : at + longest_omitted - at ≡ longest_omitted = omega arith in
    let t : unfilled (take (at + longest_omitted - at) (drop at c.names-names.result)) ≡ omitted_name k = rw e (name_read k c.names-names.ensures f.0) in
    let p = c.put_unfilled.ensures in
    (same_text (t ∙ sym f.1) p.0, omega (arith, p.1, length-take (at + longest_omitted - at) (drop at c.names-names.result)))
