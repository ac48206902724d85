use Rattle.std.proofs.Common.{rules, sym, ◌∙◌, subst, refl}
use Rattle.ports.specs.Sinks.{this_sink}
use Rattle.ports.specs.Sources.{this_source}
use Rattle.report.specs.declared.status.Detail.{Detail}
use Rattle.script.specs.declared.forms.Form.TheVariants.{Full}
use Rattle.shop_commands.specs.Day.{DayEnds, DayRan}
use Rattle.shop_drain.specs.Devices.{LeftAll, around, this_call}
use Rattle.shop_commands.proofs.DayEnding.{day_ran}
use Rattle.command_ends.proofs.RunEnding.{unread}
use Rattle.shop_commands.proofs.day.day_cmd.Goals as goal

pub returns-in-Ok-clause-ends : goal.returns-in-Ok-clause-ends
returns-in-Ok-clause-ends g c =
    let issuer = c.args.issuer.now in
    let run = c.day_script-detail in
    let all = this_call (this_source g.S.Source.left g.S.Source.faults c.args.source.now c.read_source.new.source)
    (this_sink g.K.Sink.taken g.K.Sink.faults c.args.sink.now run.new.sink) g.D.Disk g.C.Clock g.Z.Sleeper g.G.Agency
    c.args.post run.result.1 in
    subst (λ (d : Detail). DayEnds issuer all d) (sym c.of-in-Ok.ensures.detail)
    (day_ran issuer all c.in-Ok.script run.result.0 c.in-Ok.ensures.script run.ensures)

pub returns-in-Err-clause-ends : goal.returns-in-Err-clause-ends
returns-in-Err-clause-ends g c =
    let issuer = c.args.issuer.now in
    let out = c.args.post in
    let all = this_call (this_source g.S.Source.left g.S.Source.faults c.args.source.now c.read_source.new.source)
    (this_sink g.K.Sink.taken g.K.Sink.faults c.args.sink.now c.args.sink.now) g.D.Disk g.C.Clock g.Z.Sleeper g.G.Agency out
    out in
    subst (λ (d : Detail). DayEnds issuer all d) (sym (c.of.ensures.detail ∙ c.detail.ensures))
    (unread Full all.devices.source (LeftAll (around all)) (DayRan issuer all) c.in-Err.fault
    c.in-Err.ensures.script (record { wrote = search rules; disk = refl; clock = refl; sleeper = refl; agency = refl }))
