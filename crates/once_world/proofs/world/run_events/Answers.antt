use Rattle.std.proofs.Common.{◌∙◌, ap, sym, subst}
use Rattle.once_world.specs.declared.world.World.{World}
use Rattle.once_world.proofs.Agreements.{once_of}
use Rattle.once_world.proofs.Deliveries.{chain_of}
use Rattle.once_world.proofs.Worlds.{HoldsOf, holds_then, same_issuer, same_version, learnt_fits, world_more}
use Rattle.once_world.proofs.world.run_events.Goals as goal

pub step-requires : goal.step-requires
step-requires c = learnt_fits c.loop-event.world c.loop-event.invariant.holds

pub loop-event-preserved : goal.loop-event-preserved
loop-event-preserved c =
    let plan = c.args.plan.now in
    let old = c.loop-event.world in
    let e = c.event-item.result in
    let then = c.in_ok-step.ensures in
    let chain = chain_of c.legal_is_chained.ensures.linked c.a_sale_has_a_new_number.ensures old.state.version old.state.issuer
    old.state.entries
    c.is_legal.ensures in
    record {
      same = world_more c.args.issuer.now plan c.args.events.now c.loop-event.event-index e old c.step.new.self
          c.loop-event-test.true c.event-item.is c.loop-event.invariant.same then;
      issuer = ap (λ (w : World). w.state.issuer) then ∙ same_issuer plan old e ∙ c.loop-event.invariant.issuer;
      version = ap (λ (w : World). w.state.version) then ∙ same_version plan old e ∙ c.loop-event.invariant.version;
      holds = subst (λ (w : World). HoldsOf w) (sym then) (holds_then c.what_is_made_is_a_record.ensures plan old e chain
          c.loop-event.invariant.holds);
    }

pub returns-clause-once : goal.returns-clause-once
returns-clause-once c =
    let w = c.loop-event.world in
    once_of w.state.entries w.processed w.sent
    (chain_of c.legal_is_chained.ensures.linked c.a_sale_has_a_new_number.ensures w.state.version w.state.issuer w.state.entries
    c.is_legal-2.ensures) c.loop-event.invariant.holds.agree
