use Rattle.agency_rules.proofs.Tables.{judged_gone}
use Rattle.agency_rules.proofs.judging.judge_by_register.Goals as goal

pub returns-then-past : goal.returns-then-past
returns-then-past c = judged_gone c.args.past.now c.args.verdict c.args.body.now c.requires c.if-past.true
