use Rattle.std.proofs.Common.{sym, ◌∙◌, subst, refl}
use Rattle.ports.specs.Sinks.{this_sink}
use Rattle.ports.specs.Sources.{this_source}
use Rattle.report.specs.declared.status.Detail.{Detail}
use Rattle.file_commands.proofs.Bytewise.{took_nothing}
use Rattle.many_issuers.specs.Ends.{ManyEnds}
use Rattle.many_issuers.specs.Ends.ManyEnds.{ran}
use Rattle.many_issuers.proofs.Unread.{many_unread}
use Rattle.many_issuers.proofs.command.many_cmd.Goals as goal

pub returns-in-Ok-clause-ends : goal.returns-in-Ok-clause-ends
returns-in-Ok-clause-ends g c =
    let run = c.run_parts-detail in
    subst (λ (d : Detail). ManyEnds g.D.Disk g.C.Clock g.Z.Sleeper g.G.Agency c.args.issuers.now
    (this_source g.S.Source.left g.S.Source.faults c.args.source.now c.read_parts.new.source)
    (this_sink g.K.Sink.taken g.K.Sink.faults c.args.sink.now run.new.sink) c.args.posts run.result.1 d) (sym c.of-in-Ok.ensures.detail)
    (ran c.in-Ok.parts run.result.0 c.in-Ok.ensures.parts run.ensures)

pub returns-in-Err-clause-ends : goal.returns-in-Err-clause-ends
returns-in-Err-clause-ends g c =
    let source = this_source g.S.Source.left g.S.Source.faults c.args.source.now c.read_parts.new.source in
    let sink = this_sink g.K.Sink.taken g.K.Sink.faults c.args.sink.now c.args.sink.now in
    subst (λ (d : Detail). ManyEnds g.D.Disk g.C.Clock g.Z.Sleeper g.G.Agency c.args.issuers.now source sink c.args.posts c.args.posts d)
    (sym (c.of.ensures.detail ∙ c.detail.ensures))
    (many_unread g.D.Disk g.C.Clock g.Z.Sleeper g.G.Agency c.args.issuers.now source sink c.args.posts c.args.posts c.in-Err.fault
    c.in-Err.ensures.parts (record { wrote = took_nothing (g.K.Sink.taken c.args.sink.now); same = refl }))
