use Rattle.shop_core.proofs.Newer.{encoded_in_two}
use Rattle.shop_core.proofs.laws.what_is_encoded_is_encoded_in_version_two.Goals as goal

pub returns : goal.returns
returns c = encoded_in_two
