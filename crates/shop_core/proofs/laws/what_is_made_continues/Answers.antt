use Rattle.shop_core.proofs.Remade.{made_continues}
use Rattle.shop_core.proofs.laws.what_is_made_continues.Goals as goal

pub returns : goal.returns
returns c = made_continues c.series_is_read_back.ensures
