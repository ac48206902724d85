use Rattle.shop_core.proofs.Settling.{line_settles}
use Rattle.shop_core.proofs.laws.a_line_settles.Goals as goal

pub returns : goal.returns
returns c = line_settles
