use Rattle.reader.proofs.KnownLaws.{wrong_length, right_length}
use Rattle.reader.proofs.read_bytes.Goals as goal

pub returns-then-bytes-ne8 : goal.returns-then-bytes-ne8
returns-then-bytes-ne8 c = wrong_length c.args.bytes.now c.if-bytes-ne8.true

pub returns : goal.returns
returns c = right_length c.args.bytes.now c.if-bytes-ne8.false c.load64.ensures c.read_number.ensures
