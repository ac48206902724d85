use Rattle.std.proofs.Common.{◌≡◌, IsTrue, true, length, ap}
use Rattle.agency_port.specs.Ledger.{Begins}
use Rattle.agency_port.specs.Practice.{Practice, ledger_of, begun, opened}
use Rattle.agency_port.proofs.Consultations.{begin_lists}
use Rattle.agency_port.proofs.Tellings.{on_ok}
use Rattle.agency_port.proofs.practice.PracticeAgencyAgency.begin.Goals as goal

pub returns-clause-lists : goal.returns-clause-lists
returns-clause-lists c =
    let a = c.args.self.now in
    let new = c.open.new.self in
    let noted = c.args.noted.now in
    on_ok c.open.result (new ≡ opened a c.args.plan.now noted) (IsTrue true → Begins (ledger_of a) (ledger_of new) c.args.plan.now
    (length noted))
    (λ is tells. begin_lists a new c.args.plan.now noted is) c.open.ensures.ok

pub returns-clause-rules : goal.returns-clause-rules
returns-clause-rules c =
    let a = c.args.self.now in
    let new = c.open.new.self in
    let noted = c.args.noted.now in
    on_ok c.open.result (new ≡ opened a c.args.plan.now noted) (IsTrue true → new.processed ≡ begun a.processed noted)
    (λ is keeps. ap (λ (x : Practice). x.processed) is) c.open.ensures.ok
