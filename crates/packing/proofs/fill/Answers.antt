use mathlib.Core.Path.{◌≡◌, ap, ap₂, ◌∙◌}
use mathlib.Core.List.{List, ◌++◌}
use Prim.Native.Nat.{ℕ, ◌+◌, ◌-◌}
use native.Mathlib.Omega.{arith}
use lib.ListN.{length, length-append}
use Rattle.container.specs.declared.format.Format.{Format}
use Rattle.container.specs.Formats.{format_of, header_length}
use Rattle.container.proofs.FormatLaws.{bounded}
use Rattle.packing.specs.Packing.{word_count, container_bytes}
use Rattle.packing.proofs.FillLaws.{first, stored, copied, filled}
use Rattle.packing.proofs.PackLaws.{front_length, halves_length}
use Rattle.packing.proofs.fill.Goals as goal

-- the length of the header, in the format that was looked up
header : {f : Format} (v : ℕ) → f ≡ format_of v → f.header ≡ header_length v
header v e = ap (λ (f : Format). f.header) e

pub copy-requires : goal.copy-requires
copy-requires c =
    let v = c.args.version in
    omega (arith, header v c.format_of-f.ensures, (bounded v).header_least, (bounded v).header_most)

pub slice_bounds-fill_entry-count : goal.slice_bounds-fill_entry-count
slice_bounds-fill_entry-count c =
    let v = c.args.version in
    omega (arith, header v c.format_of-f.ensures, (bounded v).header_least, (bounded v).header_most)

pub slice_bounds-fill_entry-start : goal.slice_bounds-fill_entry-start
slice_bounds-fill_entry-start c =
    let v = c.args.version in
    omega (arith, header v c.format_of-f.ensures, (bounded v).header_least, (bounded v).header_most)

pub fill_entry-requires : goal.fill_entry-requires
fill_entry-requires c =
    let v = c.args.version in
    omega (arith, header v c.format_of-f.ensures, (bounded v).header_least, (bounded v).header_most)

pub returns : goal.returns
unfolding container_bytes
returns c =
    let a = c.args in
    let words = a.words.now in
    let annotations = a.annotations.now in
    let out = a.out.now in
    let k = c.format_of-f.result.header in
    let f = c.front-first.result in
    let e = c.fill_entry.new.out in
    let ef = c.front-first.ensures in
    let ee = c.fill_entry.ensures in
    let h = header a.version c.format_of-f.ensures in
    let lf : length f ≡ 8 = ap length ef ∙ front_length a.version (word_count (length words)) in
    let le : length e ≡ k - 8 = ap length ee ∙ omega (arith, h, halves_length a.version a.entry) in
    let lh : length (f ++ e) ≡ k = simp length-append (omega (arith, h, (bounded a.version).header_least)) in
    let lw : length (f ++ e ++ words) ≡ k + length words = length-append (f ++ e) words ∙ ap (λ (i : ℕ). i + length words) lh in
    let la : length out ≡ length (f ++ e ++ words ++ annotations) =
    c.requires ∙ omega (arith, h, lw, length-append (f ++ e ++ words) annotations) in
    let b = first f _ out c.copy.ensures.1 in
    let s = stored f _ out b 8 lf e (k - 8) le in
    let w = copied (f ++ e) _ out s k lh words _ c.copy-2.ensures.1 in
    filled (f ++ e ++ words ++ annotations) _ out (copied (f ++ e ++ words) _ out w (k + length words) lw annotations _ c.copy-3.ensures.1) la
    ∙ ap₂ (λ (x y : List ℕ). x ++ y ++ words ++ annotations) ef ee
