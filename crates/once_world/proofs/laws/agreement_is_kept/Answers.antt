use Rattle.once_world.proofs.Agreements.{agree_begun, stand_once, agree_records, next_records, agree_sent, agree_delivered}
use Rattle.once_world.proofs.Agreements.{agree_noted}
use Rattle.once_world.proofs.laws.agreement_is_kept.Goals as goal

pub returns-clause-begun : goal.returns-clause-begun
returns-clause-begun c = agree_begun c.a_history_notes_its_records.ensures

pub returns-clause-once : goal.returns-clause-once
returns-clause-once c = stand_once c.legal_is_chained.ensures.linked c.a_sale_has_a_new_number.ensures

pub returns-clause-records : goal.returns-clause-records
returns-clause-records c = agree_records

pub returns-clause-next_lines : goal.returns-clause-next_lines
returns-clause-next_lines c = next_records

pub returns-clause-sending : goal.returns-clause-sending
returns-clause-sending c = agree_sent

pub returns-clause-deliveries : goal.returns-clause-deliveries
returns-clause-deliveries c = agree_delivered c.legal_is_chained.ensures.linked c.a_sale_has_a_new_number.ensures

pub returns-clause-noting : goal.returns-clause-noting
returns-clause-noting c = agree_noted
