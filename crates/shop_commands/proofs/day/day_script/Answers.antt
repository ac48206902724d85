use Rattle.std.proofs.Common.{◌≡◌, ◌∙◌, ℕ, refl, sym, subst, None, Some, Option, true}
use Rattle.chain_disk.specs.Disks.{Disks}
use Rattle.ports.specs.Counting.{counting}
use Rattle.ports.specs.Sinks.{this_sink}
use Rattle.ports.specs.declared.memory.CountingClock.{CountingClock}
use Rattle.ports.specs.declared.sleeper.LeapSleeper.{LeapSleeper}
use Rattle.shop_commands.specs.Day.{FileDay}
use Rattle.chain_store.specs.Clocks.{Clocks, this_clock}
use Rattle.shop_drain.specs.Devices.{Agencies, Sleepers, agency_in, around_in, disk_in}
use Rattle.shop_commands.proofs.DayEnding.{by_line}
use Rattle.shop_commands.proofs.day.day_script.Goals as goal

pub returns-in_default : goal.returns-in_default
returns-in_default g c =
    let run = c.day_file in
    subst (λ (l : Option (ℕ × ℕ)). FileDay c.args.issuer.now c.args.script.now l (around_in
    (this_sink g.K.Sink.taken g.K.Sink.faults c.args.sink.now run.new.sink) g.D.Disk g.C.Clock g.Z.Sleeper g.G.Agency
    c.args.post run.result.1) run.result.0) (sym c.in_default.is) run.ensures

pub returns : goal.returns
returns g c =
    let out = c.args.post in
    let own = c.with_own_time-own in
    let run = c.day_file-detail in
    let back = c.with_time in
    let issuer = c.args.issuer.now in
    let script = c.args.script.now in
    let end = run.result.0 in
    let line : ℕ × ℕ = (c.in-Some.start, c.in-Some.step) in
    let sink = this_sink g.K.Sink.taken g.K.Sink.faults c.args.sink.now run.new.sink in
    let call = around_in sink g.D.Disk g.C.Clock g.Z.Sleeper g.G.Agency out back.result in
    let own_clock : Clocks CountingClock = this_clock (λ x i. Some (counting x.next x.step i)) own.result.0.clock
    run.result.1.clock in
    let leap : Sleepers LeapSleeper = record {
      tells = true;
      moment = λ x. x.at;
      sleeper = own.result.0.sleeper;
      sleeper_after = run.result.1.sleeper;
    } in
    let At : Disks g.row.D.Denot → Agencies g.row.G.Denot → Type 0 = λ k a. FileDay issuer script None (record {
      sink = sink;
      disk = k;
      clock = own_clock;
      sleeper = leap;
      agency = a;
    }) end in
    let same_disk : disk_in g.D.Disk own.result.0 run.result.1 ≡ disk_in g.D.Disk out back.result =
    cc (own.ensures.kept.0, back.ensures.kept.0) in
    let same_agency : agency_in g.G.Agency own.result.0 run.result.1 ≡ agency_in g.G.Agency out back.result =
    cc (own.ensures.kept.1, back.ensures.kept.1) in
    let ends = subst (λ (b : Agencies g.row.G.Denot). At (disk_in g.D.Disk out back.result) b) same_agency
    (subst (λ (k : Disks g.row.D.Denot). At k (agency_in g.G.Agency own.result.0 run.result.1)) same_disk run.ensures) in
    subst (λ (l : Option (ℕ × ℕ)). FileDay issuer script l call end) (sym c.in-Some.is)
    (by_line issuer script line call own_clock leap refl own.ensures.sleeper own.ensures.clock (back.ensures.time.0 ∙ own.ensures.replaced.0)
    (back.ensures.time.1 ∙ own.ensures.replaced.1) end ends)
