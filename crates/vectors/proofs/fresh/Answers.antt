use Rattle.vectors.proofs.FreshLaws.{made}
use Rattle.vectors.proofs.fresh.Goals as goal

pub unwrap-requires : goal.unwrap-requires
unwrap-requires c = made c.args.row c.fresh.result c.requires c.fresh.ensures
