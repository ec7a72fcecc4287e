use Rattle.codec.proofs.Demand2Met.{settled_write}
use Rattle.codec.proofs.write_word.Goals as goal

pub returns : goal.returns
returns c =
    let a = c.args in
    let all = settled_write a.i a.buffer.now (c.write_buffer.ensures.answer, c.write_buffer.ensures.kept) in
    record { answer = all.0; kept = all.1.0; demand = all.1.1 }
