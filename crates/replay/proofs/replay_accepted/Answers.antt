use Rattle.bits.proofs.OutcomeLaws.{left_by}
use Rattle.container.proofs.OpeningLaws.{words_contents}
use Rattle.replay.specs.Replay.{asked}
use Rattle.replay.proofs.ReadyLaws.{counted, worded, all_read, ready}
use Rattle.replay.proofs.AnswerLaws.{by_fault, ran}
use Rattle.replay.proofs.replay_accepted.Goals as goal

pub decode-program-requires : goal.decode-program-requires
decode-program-requires c =
    let a = c.args in
    let f = c.requires.safe.0 in
    let e = words_contents a.bytes c.words-w.result c.words-w.ensures f.opens in
    (worded a.bytes.now f e, all_read a.bytes.now f e)

pub first_fault-requires : goal.first_fault-requires
first_fault-requires c =
    let a = c.args in
    let f = c.requires.safe.0 in
    let e = words_contents a.bytes c.words-w.result c.words-w.ensures f.opens in
    (ready a.bytes.now f e c.requires.safe.1 c.decode-program.ensures, counted a.bytes.now f e)

pub run-requires : goal.run-requires
run-requires c =
    let a = c.args in
    let f = c.requires.safe.0 in
    ready a.bytes.now f (words_contents a.bytes c.words-w.result c.words-w.ensures f.opens) c.requires.safe.1 c.decode-program.ensures

pub returns-in_err-first_fault : goal.returns-in_err-first_fault
returns-in_err-first_fault c =
    let a = c.args in
    let r = by_fault (asked a.bytes.now a.registers.now a.uniforms.now a.trace.now a.limit) c.requires.accepted c.requires.whole c.in_err-first_fault.ensures in
    record { answer = rw (left_by _ c.from_residual.ensures) r.answer; left = r.registers }

pub returns : goal.returns
returns c =
    let a = c.args in
    let r = ran (asked a.bytes.now a.registers.now a.uniforms.now a.trace.now a.limit) c.requires.accepted c.requires.whole c.in_ok-first_fault.ensures c.run.ensures.answer c.run.ensures.left in
    record { answer = r.answer; left = r.registers }
