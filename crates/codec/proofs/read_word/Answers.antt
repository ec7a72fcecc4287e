use Rattle.reader.specs.Answers.{reading}
use Rattle.codec.proofs.Demand2Met.{read_as_asked}
use Rattle.codec.proofs.read_word.Goals as goal

pub returns : goal.returns
returns c = record { answer = c.read_bytes.ensures; demand = read_as_asked c.args.bytes.now (reading c.read_bytes.result) (λ b. (c.type_inv.bytes b).fits) c.read_bytes.ensures }
