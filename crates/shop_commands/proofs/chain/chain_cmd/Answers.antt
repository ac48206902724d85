use Rattle.std.proofs.Common.{rules, sym, ◌∙◌, subst, refl}
use Rattle.chain_disk.specs.Disks.{this_disk}
use Rattle.ports.specs.Sinks.{this_sink}
use Rattle.ports.specs.Sources.{this_source}
use Rattle.report.specs.declared.status.Detail.{Detail}
use Rattle.script.specs.declared.forms.Form.TheVariants.{Full}
use Rattle.shop_commands.specs.Chain.{ChainEnds, ChainRan}
use Rattle.chain_store.specs.Clocks.{this_clock}
use Rattle.shop_drain.specs.Devices.{Devices, Untouched}
use Rattle.shop_commands.proofs.ChainEnding.{chain_ran}
use Rattle.command_ends.proofs.RunEnding.{unread}
use Rattle.shop_commands.proofs.chain.chain_cmd.Goals as goal

pub returns-in-Ok-clause-ends : goal.returns-in-Ok-clause-ends
returns-in-Ok-clause-ends g c =
    let issuer = c.args.issuer.now in
    let run = c.run_script-detail in
    let devices : Devices g.row.D.Denot g.row.C.Denot = record {
      source = this_source g.S.Source.left g.S.Source.faults c.args.source.now c.read_source.new.source;
      sink = this_sink g.K.Sink.taken g.K.Sink.faults c.args.sink.now run.new.sink;
      disk = this_disk g.D.Disk.tells g.D.Disk.on_disk g.D.Disk.faults c.args.disk run.result.1;
      clock = this_clock g.C.Clock.coming c.args.clock run.result.2;
    } in
    subst (λ (d : Detail). ChainEnds issuer devices d) (sym c.of-in-Ok.ensures.detail)
    (chain_ran issuer devices c.in-Ok.script run.result.0 c.in-Ok.ensures.script run.ensures)

pub returns-in-Err-clause-ends : goal.returns-in-Err-clause-ends
returns-in-Err-clause-ends g c =
    let issuer = c.args.issuer.now in
    let devices : Devices g.row.D.Denot g.row.C.Denot = record {
      source = this_source g.S.Source.left g.S.Source.faults c.args.source.now c.read_source.new.source;
      sink = this_sink g.K.Sink.taken g.K.Sink.faults c.args.sink.now c.args.sink.now;
      disk = this_disk g.D.Disk.tells g.D.Disk.on_disk g.D.Disk.faults c.args.disk c.args.disk;
      clock = this_clock g.C.Clock.coming c.args.clock c.args.clock;
    } in
    subst (λ (d : Detail). ChainEnds issuer devices d) (sym (c.of.ensures.detail ∙ c.detail.ensures))
    (unread Full devices.source (Untouched devices) (ChainRan issuer devices) c.in-Err.fault c.in-Err.ensures.script
    (record { wrote = search rules; disk = refl; clock = refl }))
