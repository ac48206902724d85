use Rattle.verifactu.proofs.Stopping.{by_a_fault, once, one_entry, till_or_sender, told_of_it, where_it_rose}
use Rattle.verifactu.proofs.laws.a_day_stops_once.Goals as goal

pub returns-clause-one : goal.returns-clause-one
returns-clause-one c = one_entry

pub returns-clause-fault : goal.returns-clause-fault
returns-clause-fault c = by_a_fault

pub returns-clause-rose : goal.returns-clause-rose
returns-clause-rose c = where_it_rose

pub returns-clause-whose : goal.returns-clause-whose
returns-clause-whose c = till_or_sender

pub returns-clause-told : goal.returns-clause-told
returns-clause-told c = told_of_it

pub returns-clause-once : goal.returns-clause-once
returns-clause-once c = once
