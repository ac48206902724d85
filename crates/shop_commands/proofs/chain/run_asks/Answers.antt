use Rattle.std.proofs.Common.{arith, inl, inr, subst, refl}
use Rattle.chain_disk.specs.Disks.{this_disk}
use Rattle.chain_disk.specs.OnDisk.{synced}
use Rattle.chain_disk.specs.Stays.{run_of}
use Rattle.chain_store.specs.Losing.{none_lost_since}
use Rattle.chain_store.specs.Store.{state_of, journal_of, clock_of}
use Rattle.file_commands.proofs.Bytewise.{took_nothing}
use Rattle.journal.specs.Journal.{disk_of}
use Rattle.ports.specs.Sinks.{this_sink}
use Rattle.shop_commands.specs.Chain.{ScriptEnds}
use Rattle.chain_store.specs.Runs.{Stores}
use Rattle.chain_store.specs.Clocks.{this_clock}
use Rattle.chain_store.specs.Readings.{IsAsked, readings}
use Rattle.shop_commands.proofs.ChainEnding.{not_asked, store_ran}
use Rattle.command_ends.proofs.RunEnding.{not_opened}
use Rattle.shop_drain.proofs.Finishing.{found_since}
use Rattle.shop_commands.proofs.chain.run_asks.Goals as goal

pub returns-in-Err : goal.returns-in-Err
returns-in-Err g c =
    let fault = c.in-Err.fault in
    let h = c.in-Err.ensures in
    inr (inl (not_opened fault.cause c.opening_end.ensures h.disk_fault h.left h.never_loses_err
    (took_nothing (g.K.Sink.taken c.args.sink.now))
    (not_asked (this_clock g.C.Clock.coming c.args.clock fault.clock) h.clock_err)))

pub returns-then-is_err : goal.returns-then-is_err
returns-then-is_err g c = inl (record {
  ends = refl;
  wrote = took_nothing (g.K.Sink.taken c.args.sink.now);
  disk = refl;
  rest = not_asked (this_clock g.C.Clock.coming c.args.clock c.args.clock) refl;
})

pub returns-in-Ok : goal.returns-in-Ok
returns-in-Ok g c =
    let store = c.in-Ok.store in
    let after = c.run_opened.result.2 in
    let coming = g.C.Clock.coming in
    let on_disk = g.D.Disk.on_disk in
    let faults = g.D.Disk.faults in
    let issuer = c.args.issuer.now in
    let asks = c.args.asks.now in
    let sink = this_sink g.K.Sink.taken g.K.Sink.faults c.args.sink.now c.run_opened.new.sink in
    let disk = this_disk g.D.Disk.tells on_disk faults c.args.disk c.run_opened.result.1 in
    let h = c.run_opened.ensures in
    let span : Stores g.row.D.Denot g.row.C.Denot = record {
      issuer = (state_of store).issuer;
      version = (state_of store).version;
      start = (state_of store).entries;
      end = h.0;
      tells = g.D.Disk.tells;
      since = on_disk (disk_of (journal_of store));
      now = on_disk c.run_opened.result.1;
      faults = faults (disk_of (journal_of store));
      faults_after = faults c.run_opened.result.1;
      disk = this_disk g.D.Disk.tells on_disk faults (disk_of (journal_of store)) c.run_opened.result.1;
      clock = this_clock coming (clock_of store) after;
    } in
    let opened = c.in-Ok.ensures in
    let run = store_ran issuer asks h.1.0 span sink disk c.run_opened.result.0 opened.issuer refl refl refl
    opened.later opened.found
    (λ says. found_since c.a_file_has_one_meaning.ensures.not_begun (state_of store).version issuer (state_of store).entries
    (on_disk c.args.disk) (on_disk (disk_of (journal_of store))) (opened.found says) (opened.any_moment says) (opened.unwritten says))
    (λ says. none_lost_since (on_disk c.args.disk) (synced (on_disk c.args.disk)) (on_disk (disk_of (journal_of store)))
    (opened.never_loses says) (omega arith) (run_of (opened.any_moment says)))
    (λ v n es f. record {
      found = f.found;
      left = f.left;
      held = f.held;
      early = omega (arith, f.early, opened.later);
      risen = f.risen;
      late = f.late;
    }) h.1.1 h.1.2 in
    subst (λ x. ScriptEnds issuer asks (coming x) (λ replies. IsAsked (this_clock coming x after) (readings replies)) sink disk
    c.run_opened.result.0) opened.clock run
