use Rattle.std.proofs.Common.{rules, ◌≡◌, ◌∙◌, List, ℕ, subst}
use Rattle.ports.specs.Sinks.{this_sink}
use Rattle.report.specs.Verdicts.{verdict_text}
use Rattle.report.specs.declared.status.Detail.{Detail}
use Rattle.file_commands.specs.Auditing.{verdict_end}
use Rattle.file_commands.specs.Auditing.AuditEnds.{reached, disk_fault, no_memory}
use Rattle.file_commands.specs.Output.{PrintEnds}
use Rattle.file_commands.proofs.Bytewise.{took_nothing}
use Rattle.file_commands.proofs.auditing.audited.Goals as goal

pub returns-in-Err-DiskFault-clause-ends : goal.returns-in-Err-DiskFault-clause-ends
returns-in-Err-DiskFault-clause-ends g c = disk_fault (search rules) (took_nothing (g.K.Sink.taken c.args.sink.now))

pub returns-in-Err-NoMemory-clause-ends : goal.returns-in-Err-NoMemory-clause-ends
returns-in-Err-NoMemory-clause-ends g c = no_memory (took_nothing (g.K.Sink.taken c.args.sink.now))

pub returns-in-Ok-verdict_text-clause-ends : goal.returns-in-Ok-verdict_text-clause-ends
returns-in-Ok-verdict_text-clause-ends g c =
    let s = this_sink g.K.Sink.taken g.K.Sink.faults c.args.sink.now c.print.new.sink in
    let verdict = c.in-Ok.verdict in
    let same : c.as_slice.result.now ≡ verdict_text verdict = c.as_slice.ensures ∙ c.in-Ok-verdict_text.ensures in
    reached verdict c.print.result c.in-Ok.ensures.verdict
    (subst (λ (t : List ℕ). PrintEnds t (verdict_end verdict) s c.print.result) same
    (subst (λ (d : Detail). PrintEnds c.as_slice.result.now d s c.print.result) c.verdict_end.ensures c.print.ensures))

pub returns-in-Err-clause-ends : goal.returns-in-Err-clause-ends
returns-in-Err-clause-ends g c = no_memory (took_nothing (g.K.Sink.taken c.args.sink.now))
