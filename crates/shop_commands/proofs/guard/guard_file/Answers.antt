use Rattle.std.proofs.Common.{◌∙◌, inl, inr, refl, sym, subst}
use Rattle.chain_disk.specs.Disks.{this_disk}
use Rattle.chain_store.specs.Crashes.{StandsUpTo}
use Rattle.chain_store.specs.Store.{journal_of, state_of}
use Rattle.file_commands.proofs.Bytewise.{took_nothing}
use Rattle.journal.specs.Journal.{disk_of}
use Rattle.ports.specs.Sinks.{this_sink}
use Rattle.shop_core.specs.History.{History}
use Rattle.standby.specs.Chains.{chain_of}
use Rattle.till_calls.specs.Root.{parts_of}
use Rattle.sender_session.specs.Kinds.{agency_state_of, agency_kind, store_kind}
use Rattle.shop_drain.specs.Devices.{agency_in}
use Rattle.shop_drain.specs.Draining.{disk_span, spanning}
use Rattle.command_ends.specs.DrainEnds.{DrainRunEnds}
use Rattle.shop_commands.specs.Drain.{drain_text}
use Rattle.shop_commands.specs.Guard.{IsCopied, LeftUncopied}
use Rattle.shop_drain.specs.Guarding.{GuardDrains, held_by}
use Rattle.shop_drain.specs.Outcomes.{guard_outcome}
use Rattle.shop_commands.proofs.GuardEnding.{guarded_file, not_copied}
use Rattle.command_ends.proofs.RunEnding.{not_opened}
use Rattle.shop_commands.proofs.guard.guard_file.Goals as goal

pub returns-in-Err : goal.returns-in-Err
returns-in-Err g c =
    let u = c.in-Err.unopened in
    let h = c.in-Err.ensures in
    record {
      ends = inl (not_opened u.why c.opening_end.ensures h.unopened.risen h.unopened.left_by h.unopened.never_loses
          (took_nothing (g.K.Sink.taken c.args.sink.now)) (
            record {
              clock = h.left.0;
              sleeper = h.left.1;
              agency = h.left.2;
            },
            refl,
          ));
      clock = h.left.0;
    }

pub returns-in-Err-copy_of : goal.returns-in-Err-copy_of
returns-in-Err-copy_of g c =
    let out = c.args.post in
    let o = c.in-Ok.opened in
    let h = c.in-Ok.ensures in
    let left = c.in-Err-copy_of.field-0 in
    let then = c.close.result in
    let clock = c.close.ensures.clock ∙ h.opened.clock_is in
    let uncopied = subst (λ (h : History). LeftUncopied h.version h.issuer h.entries
    (this_disk g.D.Disk.tells g.D.Disk.on_disk g.D.Disk.faults c.args.copy left.disk) left.end) c.state.ensures
    c.in-Err-copy_of.ensures.uncopied in
    record {
      ends = inr (inl (not_copied c.args.issuer.now c.args.plan.now g.Z.Sleeper.tells (g.Z.Sleeper.moment out.sleeper)
          (this_sink g.K.Sink.taken g.K.Sink.faults c.args.sink.now c.args.sink.now) (store_kind g.D.Disk g.C.Clock) out.disk
          then.disk c.args.copy left.disk (agency_in g.G.Agency out then) left.end out.clock (parts_of o.store) h.opened
          c.close.ensures.disk (λ says. g.met.D.Disk.reads_an_image then.disk says) uncopied (took_nothing (g.K.Sink.taken c.args.sink.now)) (record {
            clock = clock;
            sleeper = c.close.ensures.rest.0 ∙ h.kept.0;
            agency = c.close.ensures.rest.1 ∙ h.kept.1;
          })));
      clock = clock;
    }

pub returns-in-Ok-copy_of : goal.returns-in-Ok-copy_of
returns-in-Ok-copy_of g c =
    let out = c.args.post in
    let o = c.in-Ok.opened in
    let k = c.in-Ok.ensures in
    let h = k.opened in
    let standby = c.in-Ok-copy_of.standby in
    let copied = subst (λ (h : History). IsCopied g.D.Disk.tells g.D.Disk.on_disk g.D.Disk.faults h.version h.issuer h.entries
    c.args.copy standby) c.state.ensures c.in-Ok-copy_of.ensures.copied in
    let end = c.guard_opened-answer.result in
    let then = c.close-in-Ok-copy_of.result in
    let store = o.store in
    let issuer = (state_of store).issuer in
    let version = (state_of store).version in
    let Drains : g.row.D.Denot → g.row.D.Denot → g.row.G.Denot → g.row.G.Denot → g.row.Z.Denot → Type 0 = λ d e x y z.
    GuardDrains (StandsUpTo version issuer) (StandsUpTo version issuer) g.G.Agency.begun c.args.plan.now version issuer
    (disk_span g.D.Disk (disk_of (journal_of store)) d) (disk_span g.D.Disk standby.disk e)
    (spanning (state_of store).entries (agency_kind g.G.Agency) (agency_state_of g.G.Agency x) (agency_state_of g.G.Agency y)
    g.Z.Sleeper.tells (g.Z.Sleeper.moment z) (guard_outcome end)) (held_by (chain_of end.opened.store)) (held_by end.standby) in
    let drains = subst (λ (d : g.row.D.Denot). Drains d c.into_disk.result out.agency then.agency out.sleeper)
    (sym c.close-in-Ok-copy_of.ensures.disk)
    (subst (λ (e : g.row.D.Denot). Drains (disk_of (journal_of end.opened.store)) e out.agency then.agency out.sleeper)
    (sym c.into_disk.ensures.disk)
    (subst (λ (y : g.row.G.Denot). Drains (disk_of (journal_of end.opened.store)) end.standby.disk out.agency y out.sleeper)
    (sym c.close-in-Ok-copy_of.ensures.rest.1)
    (subst (λ (x : g.row.G.Denot). Drains (disk_of (journal_of end.opened.store)) end.standby.disk x end.opened.agency
    out.sleeper) k.kept.1
    (subst (λ (z : g.row.Z.Denot). Drains (disk_of (journal_of end.opened.store)) end.standby.disk o.agency end.opened.agency z)
    k.kept.0 c.guard_opened-answer.ensures.drains)))) in
    let sink = this_sink g.K.Sink.taken g.K.Sink.faults c.args.sink.now c.print_turns-detail.new.sink in
    let ended = subst (λ (h : History). DrainRunEnds end.answer (drain_text end.turns h.entries) sink c.print_turns-detail.result)
    c.state-in-Ok-copy_of.ensures c.print_turns-detail.ensures in
    record {
      ends = inr (inr (guarded_file c.args.issuer.now c.args.plan.now g.Z.Sleeper.tells (g.Z.Sleeper.moment out.sleeper)
          sink (store_kind g.D.Disk g.C.Clock) out.disk then.disk c.args.copy c.into_disk.result (agency_in g.G.Agency out then)
          c.print_turns-detail.result out.clock (parts_of store) h standby copied (guard_outcome end)
          (held_by (chain_of end.opened.store)) (held_by end.standby) drains ended));
      clock = c.close-in-Ok-copy_of.ensures.clock ∙ c.guard_opened-answer.ensures.clock ∙ h.clock_is;
    }
