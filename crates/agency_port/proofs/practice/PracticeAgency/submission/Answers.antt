use Rattle.std.proofs.Common.{◌∙◌}
use Rattle.agency_port.specs.Practice.{submission_answer, submitted, fate_of, processed_before}
use Rattle.agency_port.proofs.Submissions.{row_of, never_memory, cut_back}
use Rattle.agency_port.proofs.practice.PracticeAgency.submission.Goals as goal

pub returns-in-Ok : goal.returns-in-Ok
returns-in-Ok c =
    let a = c.args.self.now in
    let batch = c.args.batch.now in
    row_of c.in-Ok.answer (submission_answer a batch) a c.try_submission.new.self (submitted a batch)
    c.in-Ok.ensures.said (never_memory (fate_of a) a.plan (processed_before a) a.log batch) c.in-Ok.ensures.ok

pub returns-in-Err : goal.returns-in-Err
returns-in-Err c =
    c.cut_back.ensures ∙ cut_back c.args.self.now c.try_submission.new.self c.processed_count-count.result c.in-Err.ensures.err
    c.processed_count-count.ensures
