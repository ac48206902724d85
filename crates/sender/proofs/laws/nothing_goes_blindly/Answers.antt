use Rattle.sender.proofs.Darkness.{goes_lit}
use Rattle.sender.proofs.laws.nothing_goes_blindly.Goals as goal

pub returns : goal.returns
returns c = goes_lit c.a_record_may_go_unless_dark.ensures
