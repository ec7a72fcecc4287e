use mathlib.Core.Path.{◌≡◌, sym, ap, ap₂, ◌∙◌}
use mathlib.Core.List.{List, ◌++◌}
use Prim.Native.Nat.{ℕ}
use native.Mathlib.Omega.{arith}
use lib.ListN.{length, drop, length-append}
use Rattle.bits.specs.Bytes.{little_bytes}
use Rattle.bits.proofs.ByteLaws.{length_bytes}
use Rattle.container.specs.declared.format.Format.{Format}
use Rattle.container.specs.Formats.{format_of, high_offset}
use Rattle.container.proofs.FormatLaws.{bounded}
use Rattle.packing.specs.Packing.{halves_bytes}
use Rattle.packing.proofs.FillLaws.{stored, filled}
use Rattle.packing.proofs.PackLaws.{low_alone, high_after, halves_room}
use Rattle.packing.proofs.fill_entry.Goals as goal

-- where the high halves are, in the format that was looked up
offset : {f : Format} (v : ℕ) → f ≡ format_of v → f.high ≡ high_offset v
offset v e = ap (λ (f : Format). f.high) e

pub slice_bounds-store64-end : goal.slice_bounds-store64-end
slice_bounds-store64-end c =
    let b = bounded c.args.version in
    omega (arith, b.header_least, c.requires)

pub slice_bounds-store64-end-then-f-ne0 : goal.slice_bounds-store64-end-then-f-ne0
slice_bounds-store64-end-then-f-ne0 c =
    let a = c.args in
    let r = halves_room a.version a.entry c.requires in
    let l = ap length (high_after a.version a.entry (λ z. c.if-f-ne0.true (offset _ c.format_of-f.ensures ∙ z))) in
    let m = length-append (little_bytes 8 a.entry.low) (little_bytes 8 a.entry.high) in
    omega (arith, r, l, m, length_bytes 8 a.entry.low, length_bytes 8 a.entry.high)

pub returns-then-f-ne0 : goal.returns-then-f-ne0
returns-then-f-ne0 c =
    let a = c.args in
    let out = a.out.now in
    let low = c.store64.new.b in
    let high = c.store64-then-f-ne0.new.b in
    let ll : length low ≡ 8 = ap length c.store64.ensures ∙ length_bytes 8 a.entry.low in
    let lh : length high ≡ 8 = ap length c.store64-then-f-ne0.ensures ∙ length_bytes 8 a.entry.high in
    let e : low ++ high ≡ halves_bytes a.version a.entry =
    ap₂ (λ (x y : List ℕ). x ++ y) c.store64.ensures c.store64-then-f-ne0.ensures
    ∙ high_after a.version a.entry (λ z. c.if-f-ne0.true (offset _ c.format_of-f.ensures ∙ z)) in
    filled (low ++ high) _ out (stored low _ out (ap (λ (k : ℕ). low ++ drop k out) (sym ll)) 8 ll high 8 lh)
    (halves_room a.version a.entry c.requires ∙ ap length (sym e)) ∙ e

pub returns-else-f-ne0 : goal.returns-else-f-ne0
returns-else-f-ne0 c =
    let a = c.args in
    let out = a.out.now in
    let low = c.store64.new.b in
    let ll : length low ≡ 8 = ap length c.store64.ensures ∙ length_bytes 8 a.entry.low in
    let e : low ≡ halves_bytes a.version a.entry =
    c.store64.ensures ∙ low_alone a.version a.entry (sym (offset _ c.format_of-f.ensures) ∙ c.if-f-ne0.false) in
    filled low _ out (ap (λ (k : ℕ). low ++ drop k out) (sym ll)) (halves_room a.version a.entry c.requires ∙ ap length (sym e)) ∙ e
