use Rattle.std.proofs.Common.{◌≡◌, ◌∙◌, IsTrue, length}
use Rattle.agency_port.specs.Ledger.{Begins}
use Rattle.sender_session.specs.Kinds.{agency_kind}
use Rattle.sender_session.proofs.Turns.{both_ok}
use Rattle.shop_drain.proofs.Closing.{opened_by}
use Rattle.shop_drain.proofs.opening.begin_session.Goals as goal

pub returns-clause-ok : goal.returns-clause-ok
returns-clause-ok g c =
    let old = g.G.Agency.ledger c.args.agency.now in
    let new = g.G.Agency.ledger c.begin.new.self in
    let es = c.args.state.now.entries in
    both_ok c.begin.result
    (IsTrue g.G.Agency.tells → Begins old new c.args.plan.now (length c.deref.result.now))
    (IsTrue g.G.Agency.keeps_rules → new.processed ≡ g.G.Agency.begun old.processed c.deref.result.now) _
    (λ lists rules. opened_by (agency_kind g.G.Agency) g.G.Agency.begun
    c.args.plan.now es
    (record { ledger = old; faults = g.G.Agency.faults c.args.agency.now }) (record {
      ledger = new;
      faults = g.G.Agency.faults c.begin.new.self;
    }) c.deref.result.now (c.deref.ensures.value ∙ c.in_ok-pairs.ensures)
    (c.a_history_notes_its_records.ensures c.args.state.now.version c.args.state.now.issuer es c.is_legal.ensures)
    lists rules c.begin.ensures.same)
    c.begin.ensures.lists c.begin.ensures.rules
