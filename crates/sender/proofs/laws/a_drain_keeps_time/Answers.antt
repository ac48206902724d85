use Rattle.sender.proofs.Times.{keeps_time}
use Rattle.sender.proofs.laws.a_drain_keeps_time.Goals as goal

pub returns : goal.returns
returns c = keeps_time
