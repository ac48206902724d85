use Rattle.agency_port.proofs.Tellings.{consult_count, consult_cause, consult_lists}
use Rattle.agency_port.proofs.told.ToldAgencyAgency.consult.Goals as goal

pub returns-clause-count : goal.returns-clause-count
returns-clause-count c = consult_count c.args.self.now c.args.huellas.now c.consultation.result c.consultation.new.self c.consultation.ensures

pub returns-clause-cause : goal.returns-clause-cause
returns-clause-cause c = consult_cause c.args.self.now c.args.huellas.now c.consultation.result c.consultation.new.self c.consultation.ensures

pub returns-clause-lists : goal.returns-clause-lists
returns-clause-lists c = λ tells. consult_lists c.args.self.now c.args.huellas.now c.consultation.result c.consultation.new.self c.consultation.ensures

pub returns-clause-row : goal.returns-clause-row
returns-clause-row c = c.consultation.ensures
