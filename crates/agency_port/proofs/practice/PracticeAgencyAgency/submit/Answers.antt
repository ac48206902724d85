use Rattle.agency_port.proofs.Submissions.{submit_cause, submit_stale, submit_lists, submit_rules}
use Rattle.agency_port.proofs.practice.PracticeAgencyAgency.submit.Goals as goal

pub returns-clause-cause : goal.returns-clause-cause
returns-clause-cause c = submit_cause c.args.self.now c.args.batch.now c.submission.result c.submission.new.self
    c.submission.ensures

pub returns-clause-stale : goal.returns-clause-stale
returns-clause-stale c = submit_stale c.args.self.now c.args.batch.now c.submission.result c.submission.new.self
    c.submission.ensures

pub returns-clause-lists : goal.returns-clause-lists
returns-clause-lists c = λ tells. submit_lists c.args.self.now c.args.batch.now c.submission.result c.submission.new.self
    c.submission.ensures

pub returns-clause-rules : goal.returns-clause-rules
returns-clause-rules c = λ keeps. submit_rules c.args.self.now c.args.batch.now c.submission.result c.submission.new.self
    c.submission.ensures
