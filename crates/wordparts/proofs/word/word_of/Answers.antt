use mathlib.Core.Path.{◌≡◌, sym, ap, ◌∙◌, subst}
use Prim.Native.Nat.{◌+◌, ◌*◌, ◌%◌, ◌^◌, ◌<◌}
use native.Mathlib.Omega.{arith}
use mir.Syntax.{w32}
use mir.Facts.{to_z-of_z}
use Rattle.bits.specs.Fields.{bits}
use Rattle.rows.specs.declared.table.Row.{Row as Words}
use Rattle.record.specs.Instructions.{offset_number, word_of}
use Rattle.writing.specs.Served.Parts.{modifier_word}
use Rattle.writing.proofs.RoomLaws.{offset_small}
use Rattle.writing.proofs.RoundTrip.{word_lt}
use Rattle.writing.proofs.WordLaws.{heads_small, opcodes_lt, whole}
use Rattle.wordparts.proofs.word.word_of.Goals as goal

pub overflow_add-fields : goal.overflow_add-fields
overflow_add-fields c = omega (arith, offset_small _ c.offset_number.ensures)

pub overflow_add-fields-2 : goal.overflow_add-fields-2
overflow_add-fields-2 c = omega (arith, offset_small _ c.offset_number.ensures)

pub opcodes-requires : goal.opcodes-requires
opcodes-requires c =
    subst (λ (r : Words). r.opcode * 2 ^ 48 + r.second * 2 ^ bits r.shape 33 6 < 2 ^ 64) (sym c.requires.0) (opcodes_lt c.args.i c.requires.1 c.requires.2)

pub heads_word-requires : goal.heads_word-requires
heads_word-requires c =
    heads_small c.args.i c.requires.1 c.requires.2

pub overflow_add-result : goal.overflow_add-result
overflow_add-result c =
    let sum : c.opcodes.result + c.heads_word.result
    + (c.sources_word.result + c.offset_number.result * 256 % 2 ^ 64 + c.modifiers_word.result)
    ≡ word_of c.args.i = let i = c.args.i in
    let p = c.requires in
    let back = to_z-of_z {w = w32} {z = i.offset} (record { sfits = c.struct_told-1.given.1.1.1.1.1.1.1.0.1 }) in
    let eo = c.opcodes.ensures ∙ ap (λ (r : Words). r.opcode * 2 ^ 48 + r.second * 2 ^ bits r.shape 33 6) p.0 in
    let ef = c.offset_number.ensures ∙ ap offset_number back in
    let em = c.modifiers_word.ensures.0 ∙ ap modifier_word c.list.ensures in
    let es = c.sources_word.ensures.0 in
    omega (arith, eo, c.heads_word.ensures, es, ef, em, whole i p.1 p.2, offset_small _ ef) in
    omega (arith, sum, word_lt c.args.i c.requires.1 c.requires.2)

pub overflow_add-result-2 : goal.overflow_add-result-2
overflow_add-result-2 c =
    let sum : c.opcodes.result + c.heads_word.result
    + (c.sources_word.result + c.offset_number.result * 256 % 2 ^ 64 + c.modifiers_word.result)
    ≡ word_of c.args.i = let i = c.args.i in
    let p = c.requires in
    let back = to_z-of_z {w = w32} {z = i.offset} (record { sfits = c.struct_told-1.given.1.1.1.1.1.1.1.0.1 }) in
    let eo = c.opcodes.ensures ∙ ap (λ (r : Words). r.opcode * 2 ^ 48 + r.second * 2 ^ bits r.shape 33 6) p.0 in
    let ef = c.offset_number.ensures ∙ ap offset_number back in
    let em = c.modifiers_word.ensures.0 ∙ ap modifier_word c.list.ensures in
    let es = c.sources_word.ensures.0 in
    omega (arith, eo, c.heads_word.ensures, es, ef, em, whole i p.1 p.2, offset_small _ ef) in
    omega (arith, sum, word_lt c.args.i c.requires.1 c.requires.2)

pub returns : goal.returns
returns c =
    let sum : c.opcodes.result + c.heads_word.result
    + (c.sources_word.result + c.offset_number.result * 256 % 2 ^ 64 + c.modifiers_word.result)
    ≡ word_of c.args.i = let i = c.args.i in
    let p = c.requires in
    let back = to_z-of_z {w = w32} {z = i.offset} (record { sfits = c.struct_told-1.given.1.1.1.1.1.1.1.0.1 }) in
    let eo = c.opcodes.ensures ∙ ap (λ (r : Words). r.opcode * 2 ^ 48 + r.second * 2 ^ bits r.shape 33 6) p.0 in
    let ef = c.offset_number.ensures ∙ ap offset_number back in
    let em = c.modifiers_word.ensures.0 ∙ ap modifier_word c.list.ensures in
    let es = c.sources_word.ensures.0 in
    omega (arith, eo, c.heads_word.ensures, es, ef, em, whole i p.1 p.2, offset_small _ ef) in
    sum
