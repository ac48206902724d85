use Rattle.std.proofs.Common.{◌≡◌, ◌∙◌, ℕ, None, Some, Option, true, ap, refl, sym, subst}
use Rattle.chain_disk.specs.Disks.{this_disk}
use Rattle.chain_store.specs.Clocks.{Clocks, this_clock}
use Rattle.chain_store.specs.Store.{clock_of}
use Rattle.dialogue_loop.specs.Speech.{clock_first}
use Rattle.journal.specs.Journal.{disk_of}
use Rattle.ports.specs.Counting.{counting}
use Rattle.ports.specs.Sinks.{this_sink}
use Rattle.ports.specs.declared.memory.CountingClock.{CountingClock}
use Rattle.ports.specs.declared.sleeper.LeapSleeper.{LeapSleeper}
use Rattle.till_calls.specs.Root.{parts_of}
use Rattle.shop_drain.specs.Devices.{Agencies, Sleepers, around_in}
use Rattle.sender_session.specs.Kinds.{agency_state_of, agency_kind, store_kind}
use Rattle.shop_commands.specs.Serve.{FileServe, post_with, source_since}
use Rattle.shop_commands.proofs.ServeEnding.{opened_with, serve_by_line}
use Rattle.shop_commands.proofs.serve.serve_first.Goals as goal

pub returns-in_default-clause-ends : goal.returns-in_default-clause-ends
returns-in_default-clause-ends g c = λ issuer disk left faults is_opened comes later cause.
    let run = c.serve_opened in
    let o = c.args.opened in
    let said = clock_first c.args.first.now in
    let none : said ≡ None = sym c.clock_line.ensures ∙ c.in_default.is in
    subst (λ (l : Option (ℕ × ℕ)). FileServe issuer l said (source_since left faults (g.S.Source.left run.new.source)
    (g.S.Source.faults run.new.source)) (around_in (this_sink g.K.Sink.taken g.K.Sink.faults c.args.sink.now run.new.sink) g.D.Disk
    g.C.Clock g.Z.Sleeper g.G.Agency (post_with disk (parts_of o.store) o.sleeper o.agency)
    (post_with (parts_of run.result.1.store).disk (parts_of run.result.1.store) run.result.1.sleeper run.result.1.agency))
    run.result.0) (sym none) (run.ensures.ends issuer disk left faults is_opened comes later cause)

pub returns-clause-ends : goal.returns-clause-ends
returns-clause-ends g c = λ issuer disk left faults is_opened comes later cause.
    let o = c.args.opened in
    let own = c.with_own_time-own in
    let run = c.serve_opened-detail in
    let back = c.with_time in
    let end = run.result.0 in
    let said = clock_first c.args.first.now in
    let line : ℕ × ℕ = (c.in-Some.start, c.in-Some.step) in
    let is : said ≡ Some line = sym c.clock_line.ensures ∙ c.in-Some.is in
    let sink = this_sink g.K.Sink.taken g.K.Sink.faults c.args.sink.now run.new.sink in
    let sources = source_since left faults (g.S.Source.left run.new.source) (g.S.Source.faults run.new.source) in
    let coming : CountingClock → ℕ → Option ℕ = λ x i. Some (counting x.next x.step i) in
    let call = around_in sink g.D.Disk g.C.Clock g.Z.Sleeper g.G.Agency (post_with disk (parts_of o.store) o.sleeper o.agency)
    (post_with (parts_of back.result.store).disk (parts_of back.result.store) back.result.sleeper back.result.agency) in
    let own_clock : Clocks CountingClock = this_clock coming (clock_of own.result.0.store) (clock_of run.result.1.store) in
    let leap : Sleepers LeapSleeper = record {
      tells = true;
      moment = λ x. x.at;
      sleeper = own.result.0.sleeper;
      sleeper_after = run.result.1.sleeper;
    } in
    let agency_stays : g.row.G.Denot → g.row.G.Denot → Agencies g.row.G.Denot = λ x y. record {
      kind = agency_kind g.G.Agency;
      begun = g.G.Agency.begun;
      agency = x;
      agency_after = y;
      before = agency_state_of g.G.Agency x;
      after = agency_state_of g.G.Agency y;
    } in
    let At : g.row.D.Denot → g.row.G.Denot → g.row.G.Denot → Type 0 = λ d x y. FileServe issuer None said sources (record {
      sink = sink;
      disk = this_disk g.D.Disk.tells g.D.Disk.on_disk g.D.Disk.faults disk d;
      clock = own_clock;
      sleeper = leap;
      agency = agency_stays x y;
    }) end in
    let opened = opened_with (store_kind g.D.Disk g.C.Clock) coming issuer disk (parts_of o.store) (parts_of own.result.0.store)
    own.ensures.store.0 (ap disk_of own.ensures.store.1) is_opened in
    let ran : At (parts_of run.result.1.store).disk own.result.0.agency run.result.1.agency =
    run.ensures.ends issuer disk left faults opened comes later cause in
    let ends : At (parts_of back.result.store).disk o.agency back.result.agency =
    subst (λ (d : g.row.D.Denot). At d o.agency back.result.agency) (sym (ap disk_of back.ensures.store.1))
    (subst (λ (x : g.row.G.Denot). At (parts_of run.result.1.store).disk x back.result.agency) own.ensures.agency
    (subst (λ (y : g.row.G.Denot). At (parts_of run.result.1.store).disk own.result.0.agency y) (sym back.ensures.agency) ran)) in
    subst (λ (l : Option (ℕ × ℕ)). FileServe issuer l said sources call end) (sym is)
    (serve_by_line issuer said sources line call own_clock leap refl own.ensures.sleeper own.ensures.clock (back.ensures.time.0 ∙ own.ensures.replaced.0)
    (back.ensures.time.1 ∙ own.ensures.replaced.1) end ends)
