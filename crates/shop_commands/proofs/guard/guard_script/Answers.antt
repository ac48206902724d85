use Rattle.std.proofs.Common.{◌≡◌, ◌∙◌, Some, refl, subst, true}
use Rattle.chain_disk.specs.Disks.{Disks, this_disk}
use Rattle.ports.specs.Counting.{counting}
use Rattle.ports.specs.Sinks.{this_sink}
use Rattle.ports.specs.declared.memory.CountingClock.{CountingClock}
use Rattle.ports.specs.declared.sleeper.LeapSleeper.{LeapSleeper}
use Rattle.chain_store.specs.Clocks.{Clocks, this_clock}
use Rattle.shop_drain.specs.Devices.{Agencies, Sleepers, agency_in, clock_in, disk_in, sleeper_in}
use Rattle.shop_commands.specs.Guard.{FileGuardEnds}
use Rattle.shop_commands.proofs.GuardEnding.{guard_plain, guard_timed}
use Rattle.shop_commands.proofs.guard.guard_script.Goals as goal

pub returns-in_default : goal.returns-in_default
returns-in_default g c =
    let out = c.args.post in
    let run = c.guard_file in
    guard_plain c.args.issuer.now c.args.script.now
    (this_sink g.K.Sink.taken g.K.Sink.faults c.args.sink.now run.new.sink) (disk_in g.D.Disk out run.result.1)
    (this_disk g.D.Disk.tells g.D.Disk.on_disk g.D.Disk.faults c.args.copy run.result.2)
    (clock_in g.C.Clock out run.result.1) (sleeper_in g.Z.Sleeper out run.result.1) (agency_in g.G.Agency out run.result.1)
    run.result.0 c.in_default.is run.ensures

pub returns : goal.returns
returns g c =
    let out = c.args.post in
    let own = c.with_own_time-own in
    let run = c.guard_file-detail in
    let back = c.with_time in
    let issuer = c.args.issuer.now in
    let script = c.args.script.now in
    let t = clock_in g.C.Clock out back.result in
    let z = sleeper_in g.Z.Sleeper out back.result in
    let a = agency_in g.G.Agency out back.result in
    let k = disk_in g.D.Disk out back.result in
    let l = this_disk g.D.Disk.tells g.D.Disk.on_disk g.D.Disk.faults c.args.copy run.result.2 in
    let sink = this_sink g.K.Sink.taken g.K.Sink.faults c.args.sink.now run.new.sink in
    let own_clock : Clocks CountingClock = this_clock (λ x i. Some (counting x.next x.step i)) own.result.0.clock
    run.result.1.clock in
    let leap : Sleepers LeapSleeper = record {
      tells = true;
      moment = λ x. x.at;
      sleeper = own.result.0.sleeper;
      sleeper_after = run.result.1.sleeper;
    } in
    let same_disk : disk_in g.D.Disk own.result.0 run.result.1 ≡ k = cc (own.ensures.kept.0, back.ensures.kept.0) in
    let same_agency : agency_in g.G.Agency own.result.0 run.result.1 ≡ a = cc (own.ensures.kept.1, back.ensures.kept.1) in
    let ends = subst (λ (d : Disks g.row.D.Denot). FileGuardEnds issuer script.plan sink d l own_clock leap
    (agency_in g.G.Agency own.result.0 run.result.1) run.result.0) same_disk run.ensures in
    guard_timed issuer script sink k l t z a run.result.0 (c.in-Some.start, c.in-Some.step) own_clock leap c.in-Some.is refl
    own.ensures.sleeper (back.ensures.time.0 ∙ own.ensures.replaced.0) (back.ensures.time.1 ∙ own.ensures.replaced.1)
    (subst (λ (b : Agencies g.row.G.Denot). FileGuardEnds issuer script.plan sink k l own_clock leap b run.result.0) same_agency
    ends)
