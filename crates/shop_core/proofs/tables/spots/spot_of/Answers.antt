use Rattle.shop_core.proofs.Spotted.{spot_unnamed}
use Rattle.shop_core.proofs.tables.spots.spot_of.Goals as goal

pub returns-in-None : goal.returns-in-None
returns-in-None c = spot_unnamed c.args.num.now c.in-None.ensures.valid.1
