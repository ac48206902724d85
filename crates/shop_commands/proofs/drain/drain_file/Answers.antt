use Rattle.std.proofs.Common.{inl, inr, sym, subst}
use Rattle.chain_store.specs.Store.{clock_of, journal_of, state_of}
use Rattle.journal.specs.Journal.{disk_of}
use Rattle.file_commands.proofs.Bytewise.{took_nothing}
use Rattle.ports.specs.Sinks.{this_sink}
use Rattle.shop_core.specs.History.{History}
use Rattle.till_calls.specs.Root.{parts_of}
use Rattle.till_calls.specs.Sound.{IsLater}
use Rattle.chain_store.specs.Crashes.{StandsUpTo}
use Rattle.sender_session.specs.Kinds.{agency_state_of, agency_kind}
use Rattle.shop_drain.specs.Devices.{agency_in, disk_in}
use Rattle.shop_drain.specs.Draining.{StoreDrains, disk_span, spanning}
use Rattle.shop_drain.specs.Outcomes.{outcome_of}
use Rattle.shop_drain.proofs.Starting.{not_later}
use Rattle.command_ends.specs.DrainEnds.{DrainRunEnds}
use Rattle.shop_commands.specs.Drain.{drain_text}
use Rattle.shop_commands.proofs.Finished.{opened_drained}
use Rattle.command_ends.proofs.RunEnding.{not_opened}
use Rattle.shop_commands.proofs.drain.drain_file.Goals as goal

pub returns-in-Err : goal.returns-in-Err
returns-in-Err g c =
    let u = c.in-Err.unopened in
    let h = c.in-Err.ensures in
    record {
      ends = inl (not_opened u.why c.opening_end.ensures h.unopened.risen h.unopened.left_by h.unopened.never_loses
          (took_nothing (g.K.Sink.taken c.args.sink.now)) (record {
            clock = h.left.0;
            sleeper = h.left.1;
            agency = h.left.2;
          }));
      clock = not_later g.C.Clock.coming c.args.post.clock u.post.clock h.left.0;
    }

pub returns-in-Ok : goal.returns-in-Ok
returns-in-Ok g c =
    let out = c.args.post in
    let o = c.in-Ok.opened in
    let k = c.in-Ok.ensures in
    let h = k.opened in
    let end = c.drain_opened-answer.result in
    let then = c.close.result in
    let store = o.store in
    let issuer = (state_of store).issuer in
    let version = (state_of store).version in
    let Drains : g.row.D.Denot → g.row.G.Denot → g.row.G.Denot → g.row.Z.Denot → Type 0 = λ d x y z.
    StoreDrains (StandsUpTo version issuer) g.G.Agency.begun c.args.plan.now version issuer
    (disk_span g.D.Disk (disk_of (journal_of store)) d) (spanning (state_of store).entries (agency_kind g.G.Agency) (agency_state_of g.G.Agency x) (agency_state_of g.G.Agency y)
    g.Z.Sleeper.tells (g.Z.Sleeper.moment z) (outcome_of end)) in
    let drains = subst (λ (d : g.row.D.Denot). Drains d out.agency then.agency out.sleeper) (sym c.close.ensures.disk)
    (subst (λ (y : g.row.G.Denot). Drains (disk_of (journal_of end.opened.store)) out.agency y out.sleeper)
    (sym c.close.ensures.rest.1)
    (subst (λ (x : g.row.G.Denot). Drains (disk_of (journal_of end.opened.store)) x end.opened.agency out.sleeper) k.kept.1
    (subst (λ (z : g.row.Z.Denot). Drains (disk_of (journal_of end.opened.store)) o.agency end.opened.agency z) k.kept.0
    c.drain_opened-answer.ensures.drains))) in
    let sink = this_sink g.K.Sink.taken g.K.Sink.faults c.args.sink.now c.print_turns-detail.new.sink in
    let ended = subst (λ (h : History). DrainRunEnds end.answer (drain_text end.turns h.entries) sink c.print_turns-detail.result)
    c.state.ensures c.print_turns-detail.ensures in
    record {
      ends = inr (opened_drained c.args.issuer.now issuer version c.args.plan.now g.Z.Sleeper.tells
          (g.Z.Sleeper.moment out.sleeper) sink (disk_in g.D.Disk out then)
          (agency_in g.G.Agency out then) (state_of store).entries (g.D.Disk.on_disk (disk_of (journal_of store)))
          (g.D.Disk.faults (disk_of (journal_of store))) c.print_turns-detail.result h.issuer_is h.found h.any_moment
          h.never_loses h.later (outcome_of end, drains, ended));
      clock = subst (λ (x : g.row.C.Denot). IsLater g.C.Clock.coming x then.clock) h.clock_is
          (subst (λ (y : g.row.C.Denot). IsLater g.C.Clock.coming (parts_of store).clock y) (sym c.close.ensures.clock)
          (not_later g.C.Clock.coming (clock_of store) (clock_of end.opened.store) c.drain_opened-answer.ensures.clock));
    }
