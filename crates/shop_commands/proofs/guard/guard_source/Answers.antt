use Rattle.std.proofs.Common.{rules, sym, ◌∙◌, subst, refl}
use Rattle.chain_disk.specs.Disks.{LeftDisk, this_disk}
use Rattle.ports.specs.Sinks.{this_sink}
use Rattle.ports.specs.Sources.{this_source}
use Rattle.report.specs.declared.status.Detail.{Detail}
use Rattle.script.specs.declared.forms.Form.TheVariants.{NoCommands}
use Rattle.script.specs.declared.scripts.Script.{Script}
use Rattle.shop_drain.specs.Devices.{LeftAll, around, this_call}
use Rattle.shop_commands.specs.Guard.{GuardEnds, ScriptGuardEnds}
use Rattle.command_ends.specs.Scripts.ScriptedEnds.{ran}
use Rattle.command_ends.proofs.RunEnding.{unread}
use Rattle.shop_commands.proofs.guard.guard_source.Goals as goal

pub returns-in-Ok-clause-ends : goal.returns-in-Ok-clause-ends
returns-in-Ok-clause-ends g c =
    let run = c.guard_script-detail in
    let all = this_call (this_source g.S.Source.left g.S.Source.faults c.args.source.now c.read_source.new.source)
    (this_sink g.K.Sink.taken g.K.Sink.faults c.args.sink.now run.new.sink) g.D.Disk g.C.Clock g.Z.Sleeper g.G.Agency
    c.args.post run.result.1 in
    let l = this_disk g.D.Disk.tells g.D.Disk.on_disk g.D.Disk.faults c.args.copy run.result.2 in
    subst (λ (d : Detail). GuardEnds c.args.issuer.now all l d) (sym c.of-in-Ok.ensures.detail)
    (ran c.in-Ok.script run.result.0 c.in-Ok.ensures.script run.ensures)

pub returns-in-Err-clause-ends : goal.returns-in-Err-clause-ends
returns-in-Err-clause-ends g c =
    let issuer = c.args.issuer.now in
    let out = c.args.post in
    let all = this_call (this_source g.S.Source.left g.S.Source.faults c.args.source.now c.read_source.new.source)
    (this_sink g.K.Sink.taken g.K.Sink.faults c.args.sink.now c.args.sink.now) g.D.Disk g.C.Clock g.Z.Sleeper g.G.Agency out
    out in
    let l = this_disk g.D.Disk.tells g.D.Disk.on_disk g.D.Disk.faults c.args.copy c.args.copy in
    subst (λ (d : Detail). GuardEnds issuer all l d) (sym (c.of.ensures.detail ∙ c.detail.ensures))
    (unread NoCommands all.devices.source (LeftAll (around all) × LeftDisk l) (λ (script : Script) (how : Detail).
    ScriptGuardEnds issuer script all.devices.sink all.devices.disk l all.devices.clock all.sleeper all.agency how) c.in-Err.fault
    c.in-Err.ensures.script (record { wrote = search rules; disk = refl; clock = refl; sleeper = refl; agency = refl }, refl))
