use Rattle.std.proofs.Common.{Option, sym, subst}
use Rattle.chain_store.specs.Crashes.{StandsUpTo}
use Rattle.chain_store.specs.Store.{journal_of, state_of, torn_of}
use Rattle.journal.specs.Journal.{disk_of, stopped_of}
use Rattle.journal.specs.declared.journal.Journal.{Journal}
use Rattle.record_codec.specs.declared.entry.Entry.{Entry}
use Rattle.sender_session.specs.Kinds.{agency_state_of, agency_kind}
use Rattle.shop_core.specs.History.{History}
use Rattle.shop_drain.specs.Draining.{Outcome, StoreDrains, disk_span, spanning, torn_in}
use Rattle.shop_drain.proofs.draining.drain_opened.Goals as goal

pub returns-clause-drains : goal.returns-clause-drains
returns-clause-drains g c =
    let from = c.args.opened in
    let first = c.with_clock-opened.result.0 in
    let last = c.begin_and_drain-answer.result in
    let end = c.with_clock-opened-2.result.0 in
    let Disk : Type 0 = g.row.D.Denot in
    let Sleeper : Type 0 = g.row.Z.Denot in
    let Agency : Type 0 = g.row.G.Denot in
    let ended : History → Journal Disk g.D.Disk → Option Entry → Outcome = λ h j t. record {
      end = h.entries;
      torn = torn_in (stopped_of j) t;
      turns = last.turns;
      answer = last.answer;
    } in
    let Drains : History → Journal Disk g.D.Disk → Sleeper → Agency → Agency → Journal Disk g.D.Disk → Outcome → Type 0 =
    λ h j z a b k o. StoreDrains (StandsUpTo h.version h.issuer) g.G.Agency.begun c.args.plan.now h.version h.issuer
    (disk_span g.D.Disk (disk_of j) (disk_of k)) (spanning h.entries (agency_kind g.G.Agency) (agency_state_of g.G.Agency a)
    (agency_state_of g.G.Agency b) g.Z.Sleeper.tells (g.Z.Sleeper.moment z) o) in
    let was = c.with_clock-opened.ensures in
    let is = c.with_clock-opened-2.ensures in
    let o = ended (state_of end.store) (journal_of end.store) (torn_of end.store) in
    subst (λ (h : History). Drains h (journal_of from.store) from.sleeper from.agency end.agency (journal_of end.store) o) was.store.0
    (subst (λ (j : Journal Disk g.D.Disk). Drains (state_of first.store) j from.sleeper from.agency end.agency (journal_of end.store) o)
    was.store.1
    (subst (λ (z : Sleeper). Drains (state_of first.store) (journal_of first.store) z from.agency end.agency (journal_of end.store) o)
    was.rest.0
    (subst (λ (a : Agency). Drains (state_of first.store) (journal_of first.store) first.sleeper a end.agency (journal_of end.store) o)
    was.rest.1
    (subst (λ (b : Agency). Drains (state_of first.store) (journal_of first.store) first.sleeper first.agency b (journal_of end.store) o)
    (sym is.rest.1)
    (subst (λ (h : History). Drains (state_of first.store) (journal_of first.store) first.sleeper first.agency last.opened.agency
    (journal_of end.store) (ended h (journal_of end.store) (torn_of end.store))) (sym is.store.0)
    (subst (λ (t : Option Entry). Drains (state_of first.store) (journal_of first.store) first.sleeper first.agency last.opened.agency
    (journal_of end.store) (ended (state_of last.opened.store) (journal_of end.store) t)) (sym is.store.2)
    (subst (λ (k : Journal Disk g.D.Disk). Drains (state_of first.store) (journal_of first.store) first.sleeper first.agency
    last.opened.agency k (ended (state_of last.opened.store) k (torn_of last.opened.store))) (sym is.store.1)
    c.begin_and_drain-answer.ensures.drains)))))))

pub returns-clause-no_rest : goal.returns-clause-no_rest
returns-clause-no_rest g c =
    subst (λ (z : g.row.Z.Denot). g.Z.Sleeper.without_rest z c.with_clock-opened-2.result.0.sleeper) c.with_clock-opened.ensures.rest.0
    (subst (λ (z : g.row.Z.Denot). g.Z.Sleeper.without_rest c.with_clock-opened.result.0.sleeper z)
    (sym c.with_clock-opened-2.ensures.rest.0) c.begin_and_drain-answer.ensures.no_rest)
