use Rattle.shop_core.proofs.Newer.{legal_in_two}
use Rattle.shop_core.proofs.laws.a_legal_history_is_legal_in_version_two.Goals as goal

pub returns : goal.returns
returns c = legal_in_two
