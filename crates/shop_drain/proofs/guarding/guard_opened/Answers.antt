use Rattle.std.proofs.Common.{inl, inr, refl, ap, subst, Err, List, IsTrue}
use Rattle.agency_port.specs.Ledger.{Ledger}
use Rattle.record_codec.specs.declared.entry.Entry.{Entry}
use Rattle.sender.specs.declared.answers.DrainFault.TheVariants as drain
use Rattle.shop_core.specs.History.{History}
use Rattle.shop_core.specs.Legal.{Legal}
use Rattle.standby.specs.Chains.{chain_of}
use Rattle.standby.specs.Pairs.{both_of, stop_of}
use Rattle.sender_session.specs.Kinds.{agency_state_of, agency_kind}
use Rattle.shop_drain.specs.Draining.{OpensSession, Sends, Span, spanning}
use Rattle.shop_drain.specs.Guarding.{MissesTorn, first_torn, held_by, outcome_by}
use Rattle.shop_drain.specs.Outcomes.{guard_outcome}
use Rattle.shop_drain.proofs.Closing.{in_session}
use Rattle.shop_drain.proofs.Guarded.{guard_drains, none_first, pair_held, none_torn, pair_first, sound_ready}
use Rattle.shop_drain.proofs.GuardSaying.{both_said, file_said, nothing_said}
use Rattle.shop_drain.proofs.Starting.{nothing_came}
use Rattle.shop_drain.proofs.guarding.guard_opened.Goals as goal

pub returns-in-Ok-clause-drains : goal.returns-in-Ok-clause-drains
returns-in-Ok-clause-drains g c =
    let from = c.args.opened in
    let end = c.drain_pair.result in
    let start = both_of from.store c.args.standby in
    let present = both_of end.opened.store end.standby in
    let kind = agency_kind g.G.Agency in
    let old = agency_state_of g.G.Agency from.agency in
    let opened = agency_state_of g.G.Agency c.begin_session.new.agency in
    let new = agency_state_of g.G.Agency end.opened.agency in
    let moment = g.Z.Sleeper.moment from.sleeper in
    let sends = subst (λ (es : List Entry). Sends (spanning es kind opened new g.Z.Sleeper.tells moment (guard_outcome end)))
    c.requires.entries c.drain_pair.ensures.sends in
    let missed = subst (λ (es : List Entry). IsTrue kind.tells → MissesTorn (spanning es kind opened new g.Z.Sleeper.tells moment
    (guard_outcome end))) c.requires.entries c.drain_pair.ensures.missed in
    let d : Span = spanning start.shop.history.entries kind old new g.Z.Sleeper.tells moment (guard_outcome end) in
    let held = pair_held g.D.Disk.tells g.D.Disk.on_disk g.D.Disk.faults g.M.Disk.tells g.M.Disk.on_disk g.M.Disk.faults start present
    c.drain_pair.ensures.pair in
    let opens = subst (λ (h : History). OpensSession kind g.G.Agency.begun c.args.plan.now h.entries old opened) c.state-2.ensures
    c.in-Ok.ensures.ok in
    guard_drains g.D.Disk.tells g.D.Disk.on_disk g.D.Disk.faults g.M.Disk.tells g.M.Disk.on_disk g.M.Disk.faults start present
    c.drain_pair.ensures.pair g.G.Agency.begun c.args.plan.now d refl refl refl
    (inr (in_session g.G.Agency.begun c.args.plan.now d opened g.met.G.Agency.keeps_and_tells opens sends)) sends.notes
    c.drain_pair.ensures.stopped (λ says. g.met.D.Disk.reads_an_image present.shop.disk says)
    (λ says. g.met.M.Disk.reads_an_image present.standby.disk says) c.legal_is_chained.ensures.linked
    (λ tells. file_said d.start d.end d.torn old.ledger.messages opened.ledger.messages new.ledger.messages c.args.plan.now _
    (opens.lists tells).messages (held_by present.shop) (held_by present.standby) end.answer held sends.at_most_one
    (sends.lines tells) (missed tells) (sends.torn_lines tells))
    (λ tells. both_said d.start d.end d.torn old.ledger.messages opened.ledger.messages new.ledger.messages c.args.plan.now _
    (opens.lists tells).messages end.answer (sends.lines tells))

pub returns-in-Ok-clause-clock : goal.returns-in-Ok-clause-clock
returns-in-Ok-clause-clock g c = c.drain_pair.ensures.pair.clock

pub returns-in-Err-clause-drains : goal.returns-in-Err-clause-drains
returns-in-Err-clause-drains g c =
    let from = c.args.opened in
    let start = both_of from.store c.args.standby in
    let kind = agency_kind g.G.Agency in
    let old = agency_state_of g.G.Agency from.agency in
    let new = agency_state_of g.G.Agency c.begin_session.new.agency in
    let moment = g.Z.Sleeper.moment from.sleeper in
    let going = c.requires.going_on in
    let legal = subst (λ (h : History). Legal h.version h.issuer h.entries) c.state.ensures c.is_legal.ensures in
    let shop = sound_ready g.D.Disk.tells g.D.Disk.on_disk g.D.Disk.faults (chain_of from.store) going.0 c.requires.ready legal in
    let p = pair_first g.D.Disk.tells g.D.Disk.on_disk g.D.Disk.faults g.M.Disk.tells g.M.Disk.on_disk g.M.Disk.faults start going.0
    going.1 shop c.is_sound.ensures c.requires.issuer c.requires.version c.requires.entries in
    let d : Span = spanning start.shop.history.entries kind old new g.Z.Sleeper.tells moment
    (outcome_by start c.new.result (Err drain.NoMemory)) in
    let torn = none_torn (stop_of start) (first_torn start.shop.stopped start.shop.torn start.standby.torn)
    (none_first start.shop.stopped start.standby.stopped going.0 going.1) in
    guard_drains g.D.Disk.tells g.D.Disk.on_disk g.D.Disk.faults g.M.Disk.tells g.M.Disk.on_disk g.M.Disk.faults start start p
    g.G.Agency.begun c.args.plan.now d refl refl refl (inl (record {
      answer = refl;
      turns = c.new.ensures;
      lists = c.in-Err.ensures.err.0;
      faults = c.in-Err.ensures.err.1;
      end = c.requires.entries;
      torn = torn;
    })) (nothing_came start.shop.history.entries start.standby.history.entries c.requires.entries) (λ disk. absurd disk)
    (λ says. g.met.D.Disk.reads_an_image start.shop.disk says)
    (λ says. g.met.M.Disk.reads_an_image start.standby.disk says) c.legal_is_chained.ensures.linked
    (λ tells. nothing_said d.start start.shop.history.entries old.ledger.messages new.ledger.messages refl
    (ap (λ (l : Ledger). l.messages) (c.in-Err.ensures.err.0 tells)))
    (λ tells. nothing_said d.start start.standby.history.entries old.ledger.messages new.ledger.messages c.requires.entries
    (ap (λ (l : Ledger). l.messages) (c.in-Err.ensures.err.0 tells)))

pub returns-in-Err-clause-no_rest : goal.returns-in-Err-clause-no_rest
returns-in-Err-clause-no_rest g c = g.met.Z.Sleeper.unrested c.args.opened.sleeper
