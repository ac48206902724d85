use Rattle.std.proofs.Common.{◌∙◌}
use Rattle.agency_port.specs.Practice.{consultation_answer, consulted}
use Rattle.agency_port.proofs.Submissions.{row_of, cut_back}
use Rattle.agency_port.proofs.Consultations.{never_memory}
use Rattle.agency_port.proofs.practice.PracticeAgency.consultation.Goals as goal

pub returns-in-Ok : goal.returns-in-Ok
returns-in-Ok c =
    let a = c.args.self.now in
    let asked = c.args.huellas.now in
    row_of c.in-Ok.answer (consultation_answer a asked.huellas) a c.try_consultation.new.self (consulted a asked)
    c.in-Ok.ensures.said (never_memory a asked.huellas) c.in-Ok.ensures.ok

pub returns-in-Err : goal.returns-in-Err
returns-in-Err c =
    c.cut_back.ensures ∙ cut_back c.args.self.now c.try_consultation.new.self c.processed_count-count.result c.in-Err.ensures.err
    c.processed_count-count.ensures
