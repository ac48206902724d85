use Rattle.agency_port.proofs.Tellings.{submit_cause, submit_stale, submit_lists}
use Rattle.agency_port.proofs.told.ToldAgencyAgency.submit.Goals as goal

pub returns-clause-cause : goal.returns-clause-cause
returns-clause-cause c = submit_cause c.args.self.now c.args.batch.now c.submission.result c.submission.new.self
    c.submission.ensures

pub returns-clause-stale : goal.returns-clause-stale
returns-clause-stale c = submit_stale c.args.self.now c.args.batch.now c.submission.result c.submission.new.self
    c.submission.ensures

pub returns-clause-lists : goal.returns-clause-lists
returns-clause-lists c = λ tells. submit_lists c.args.self.now c.args.batch.now c.submission.result c.submission.new.self
    c.submission.ensures
