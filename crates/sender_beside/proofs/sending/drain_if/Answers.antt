use Rattle.std.proofs.Common.{refl}
use Rattle.sender_beside.proofs.Behind.{on_error}
use Rattle.sender_beside.proofs.sending.drain_if.Goals as goal

pub returns-clause-failed : goal.returns-clause-failed
returns-clause-failed g c = on_error c.args.sent.answer refl
