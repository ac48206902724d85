use Rattle.std.proofs.Common.{◌≡◌, ◌∙◌, ◌⊎◌, [], inl, inr, refl, sym, ap, subst, Err}
use Rattle.chain_store.specs.Store.{journal_of}
use Rattle.journal.specs.Journal.{disk_of}
use Rattle.sender.specs.declared.answers.DrainFault.TheVariants as drain
use Rattle.shop_core.specs.History.{History}
use Rattle.shop_core.specs.Legal.{Legal}
use Rattle.till_calls.specs.Root.{Parts, Root, parts_of, root_of}
use Rattle.till_calls.specs.Sound.{IsSound}
use Rattle.sender_session.specs.Kinds.{agency_state_of, agency_kind}
use Rattle.shop_drain.specs.Draining.{IsSession, IsUnopened, Outcome, Sends, Span, spanning, torn_in}
use Rattle.shop_drain.specs.Outcomes.{outcome_of}
use Rattle.shop_drain.proofs.Agreed.{none_torn}
use Rattle.shop_drain.proofs.Closing.{in_session, store_drains}
use Rattle.shop_drain.proofs.Starting.{nothing_came, nothing_sent, sound_at_start}
use Rattle.shop_drain.proofs.draining.begin_and_drain.Goals as goal

pub returns-in-Ok-clause-drains : goal.returns-in-Ok-clause-drains
returns-in-Ok-clause-drains g c =
    let from = c.args.opened in
    let b = c.in-Ok.begun in
    let h = c.in-Ok.ensures in
    let end = c.drain_begun.result in
    let p0 = parts_of from.store in
    let p1 = parts_of end.opened.store in
    let kind = agency_kind g.G.Agency in
    let old = agency_state_of g.G.Agency from.agency in
    let opened = agency_state_of g.G.Agency b.agency in
    let new = agency_state_of g.G.Agency end.opened.agency in
    let moment = g.Z.Sleeper.moment from.sleeper in
    let sound = subst (λ (r : Root g.row.C.Denot). IsSound g.D.Disk.tells g.D.Disk.on_disk g.D.Disk.faults g.C.Clock.coming r p1)
    h.shop.root c.drain_begun.ensures.sound in
    let sends = subst (λ (z : g.row.Z.Denot). Sends (spanning p0.state.entries kind opened new g.Z.Sleeper.tells
    (g.Z.Sleeper.moment z) (outcome_of end))) h.sleeper
    (subst (λ (r : Root g.row.C.Denot). Sends (spanning r.history kind opened new g.Z.Sleeper.tells
    (g.Z.Sleeper.moment b.sleeper) (outcome_of end))) h.shop.root c.drain_begun.ensures.sends) in
    let d : Span = spanning p0.state.entries kind old new g.Z.Sleeper.tells moment (outcome_of end) in
    store_drains g.D.Disk.tells g.D.Disk.on_disk g.D.Disk.faults g.C.Clock.coming p0 p1 sound g.G.Agency.begun c.args.plan.now kind
    old new g.Z.Sleeper.tells moment end.turns end.answer (outcome_of end) refl
    (inr (in_session g.G.Agency.begun c.args.plan.now d opened g.met.G.Agency.keeps_and_tells h.session sends)) sends.notes
    c.drain_begun.ensures.stopped (λ says. g.met.D.Disk.reads_an_image (disk_of (journal_of end.opened.store)) says)
    c.legal_is_chained.ensures.linked

pub returns-in-Ok-clause-no_rest : goal.returns-in-Ok-clause-no_rest
returns-in-Ok-clause-no_rest g c =
    subst (λ (z : g.row.Z.Denot). g.Z.Sleeper.without_rest z c.drain_begun.result.opened.sleeper) c.in-Ok.ensures.sleeper
    c.drain_begun.ensures.no_rest

pub returns-in-Err-clause-drains : goal.returns-in-Err-clause-drains
returns-in-Err-clause-drains g c =
    let from = c.args.opened in
    let left = c.in-Err.opened in
    let h = c.in-Err.ensures.refused in
    let p0 = parts_of from.store in
    let p1 = parts_of left.store in
    let kind = agency_kind g.G.Agency in
    let old = agency_state_of g.G.Agency from.agency in
    let new = agency_state_of g.G.Agency left.agency in
    let moment = g.Z.Sleeper.moment from.sleeper in
    let o : Outcome = record {
      end = p1.state.entries;
      torn = torn_in p1.stopped p1.torn;
      turns = c.new.result;
      answer = Err drain.NoMemory;
    } in
    let d : Span = spanning p0.state.entries kind old new g.Z.Sleeper.tells moment o in
    let end : p1.state.entries ≡ p0.state.entries = ap (λ (p : Parts g.row.D.Denot g.row.C.Denot). p.state.entries) h.0 in
    let torn : torn_in p1.stopped p1.torn ≡ [] = none_torn p1.stopped p1.torn
    (ap (λ (p : Parts g.row.D.Denot g.row.C.Denot). p.stopped) h.0 ∙ c.requires.going_on) in
    let sound = subst (λ (p : Parts g.row.D.Denot g.row.C.Denot). IsSound g.D.Disk.tells g.D.Disk.on_disk g.D.Disk.faults
    g.C.Clock.coming (root_of g.D.Disk.on_disk g.D.Disk.faults p0) p) (sym h.0)
    (sound_at_start g.D.Disk.tells g.D.Disk.on_disk g.D.Disk.faults g.C.Clock.coming p0 c.requires.going_on c.requires.ready
    (subst (λ (h : History). Legal h.version h.issuer h.entries) c.state.ensures c.is_legal.ensures)) in
    let session : IsUnopened d ⊎ IsSession g.G.Agency.begun c.args.plan.now d = elim h.2 [
      | inl none ↦ inl (record {
        answer = refl;
        turns = c.new.ensures;
        lists = none.lists;
        faults = none.faults;
        end = end;
        torn = torn;
      })
      | inr opens ↦ inr (in_session g.G.Agency.begun c.args.plan.now d new g.met.G.Agency.keeps_and_tells opens
          (nothing_sent (spanning p0.state.entries kind new new g.Z.Sleeper.tells moment o) end torn refl c.new.ensures refl))
    ] in
    store_drains g.D.Disk.tells g.D.Disk.on_disk g.D.Disk.faults g.C.Clock.coming p0 p1 sound g.G.Agency.begun c.args.plan.now kind
    old new g.Z.Sleeper.tells moment c.new.result (Err drain.NoMemory) o refl session
    (nothing_came p0.state.entries p1.state.entries end) (λ disk. absurd disk)
    (λ says. g.met.D.Disk.reads_an_image (disk_of (journal_of left.store)) says) c.legal_is_chained.ensures.linked

pub returns-in-Err-clause-no_rest : goal.returns-in-Err-clause-no_rest
returns-in-Err-clause-no_rest g c =
    subst (λ (z : g.row.Z.Denot). g.Z.Sleeper.without_rest c.args.opened.sleeper z) (sym c.in-Err.ensures.refused.1)
    (g.met.Z.Sleeper.unrested c.args.opened.sleeper)
