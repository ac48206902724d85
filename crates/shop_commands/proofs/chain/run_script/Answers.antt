use Rattle.std.proofs.Common.{ℕ, List, sym, subst, refl, Some, Option}
use Rattle.chain_disk.specs.Disks.{this_disk}
use Rattle.ports.specs.Counting.{counting}
use Rattle.ports.specs.Sinks.{this_sink}
use Rattle.shop_core.specs.Answer.Requests.{Asked}
use Rattle.shop_commands.specs.Chain.{ScriptEnds}
use Rattle.chain_store.specs.Clocks.{this_clock}
use Rattle.chain_store.specs.Readings.{IsAsked, LeavesClock, readings, readings_of}
use Rattle.shop_commands.proofs.ChainEnding.{script_by}
use Rattle.shop_commands.proofs.chain.run_script.Goals as goal

pub returns-in-Some : goal.returns-in-Some
returns-in-Some g c =
    let coming = g.C.Clock.coming in
    let clock = this_clock coming c.args.clock c.args.clock in
    let issuer = c.args.issuer.now in
    let asks = c.args.script.now.asks in
    let line : ℕ × ℕ = (c.in-Some.start, c.in-Some.step) in
    let own : ℕ → Option ℕ = λ k. Some (counting c.new-own.result.next c.new-own.result.step k) in
    let end = c.run_asks-detail.result.0 in
    let sink = this_sink g.K.Sink.taken g.K.Sink.faults c.args.sink.now c.run_asks-detail.new.sink in
    let disk = this_disk g.D.Disk.tells g.D.Disk.on_disk g.D.Disk.faults c.args.disk c.run_asks-detail.result.1 in
    let ends = script_by issuer c.as_slice.result.now own (readings_of (Some line) (coming c.args.clock)) _
    (LeavesClock clock (Some line)) sink disk end
    c.new-own.ensures (λ replies left. refl) c.run_asks-detail.ensures in
    subst (λ (l : Option (ℕ × ℕ)). ScriptEnds issuer asks (readings_of l (coming c.args.clock)) (LeavesClock clock l) sink disk
    end) (sym c.in-Some.is)
    (subst (λ (xs : List Asked). ScriptEnds issuer xs (readings_of (Some line) (coming c.args.clock))
    (LeavesClock clock (Some line)) sink disk end) c.as_slice.ensures ends)

pub returns-in-None : goal.returns-in-None
returns-in-None g c =
    let coming = g.C.Clock.coming in
    let clock = this_clock coming c.args.clock c.run_asks.result.2 in
    let issuer = c.args.issuer.now in
    let asks = c.args.script.now.asks in
    let end = c.run_asks.result.0 in
    let sink = this_sink g.K.Sink.taken g.K.Sink.faults c.args.sink.now c.run_asks.new.sink in
    let disk = this_disk g.D.Disk.tells g.D.Disk.on_disk g.D.Disk.faults c.args.disk c.run_asks.result.1 in
    subst (λ (l : Option (ℕ × ℕ)). ScriptEnds issuer asks (readings_of l (coming c.args.clock)) (LeavesClock clock l) sink disk
    end) (sym c.in-None.is)
    (subst (λ (xs : List Asked). ScriptEnds issuer xs (coming c.args.clock) (λ replies. IsAsked clock (readings replies)) sink
    disk end) c.as_slice-in-None.ensures c.run_asks.ensures)
