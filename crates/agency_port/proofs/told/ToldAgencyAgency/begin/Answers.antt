use Rattle.std.proofs.Common.{◌≡◌, ◌∙◌, IsTrue, true, length, ap}
use Rattle.agency_rules.specs.declared.plans.Plan.{Plan}
use Rattle.agency_port.specs.Ledger.{Begins}
use Rattle.agency_port.specs.Telling.{ledger_of, saying, opened}
use Rattle.agency_port.specs.declared.messages.Message.TheVariants.{Begun}
use Rattle.agency_port.proofs.Tellings.{begin_lists, on_ok}
use Rattle.agency_port.proofs.told.ToldAgencyAgency.begin.Goals as goal

pub returns-clause-lists : goal.returns-clause-lists
returns-clause-lists c =
    let a = c.args.self.now in
    let new = c.say.new.self in
    let pairs = length c.args.noted.now in
    on_ok c.say.result (new ≡ saying a (Begun c.in_ok-copied.field-0 pairs)) (IsTrue true → Begins (ledger_of a) (ledger_of new)
    c.args.plan.now pairs)
    (λ is tells. begin_lists a new c.args.plan.now pairs (is ∙ ap (λ (p : Plan). opened a p pairs) c.in_ok-copied.ensures))
    c.say.ensures.ok
