use Rattle.agency_rules.proofs.Judgements.{judged_by}
use Rattle.agency_rules.proofs.pairs.Pairs.judgement.Goals as goal

pub returns : goal.returns
returns c = judged_by c.args.verdicts.now c.args.self.now c.args.body.now c.id-id.result c.past_of-past.result
    c.for_record-verdict.result c.judge.result
    c.id-id.ensures c.past_of-past.ensures.value c.for_record-verdict.ensures c.judge.ensures
