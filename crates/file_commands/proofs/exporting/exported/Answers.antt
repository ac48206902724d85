use Rattle.std.proofs.Common.{ℕ, List, rules, subst, sym}
use Rattle.ports.specs.Sinks.{this_sink}
use Rattle.report.specs.declared.status.Detail.TheVariants as detail
use Rattle.shop_core.specs.File.Reading.{IsRead}
use Rattle.shop_core.specs.declared.file.reading.FileRead.{FileRead}
use Rattle.file_commands.specs.Exporting.Exported.{history, nothing}
use Rattle.file_commands.specs.Exporting.ExportEnds.{read, damaged, disk_fault, no_memory}
use Rattle.file_commands.specs.Exporting.LinesPrinted.{told}
use Rattle.file_commands.specs.Output.{PrintEnds}
use Rattle.file_commands.specs.Output.PrintEnds.{printed}
use Rattle.file_commands.proofs.Bytewise.{took_nothing}
use Rattle.file_commands.proofs.Exports.{Exports, exports, no_lines}
use Rattle.file_commands.proofs.exporting.exported.Goals as goal

pub returns-in-Ok-Sound-clause-ends : goal.returns-in-Ok-Sound-clause-ends
returns-in-Ok-Sound-clause-ends g c =
    let content = (g.D.Disk.on_disk c.args.disk.now).content in
    let state = c.in-Ok-Sound.state in
    read (history state.version state.issuer state.entries) c.print_lines.result
    (λ says. subst (λ (r : FileRead). Exports content r) c.in-Ok-Sound.field-0-is (exports content c.in-Ok-Sound.field-0
    (c.in-Ok-Sound.ensures.read says)))
    c.print_lines.ensures

pub returns-in-Ok-NotBegun-clause-ends : goal.returns-in-Ok-NotBegun-clause-ends
returns-in-Ok-NotBegun-clause-ends g c =
    let content = (g.D.Disk.on_disk c.args.disk.now).content in
    let s = this_sink g.K.Sink.taken g.K.Sink.faults c.args.sink.now c.args.sink.now in
    read nothing detail.Done
    (λ says. subst (λ (r : FileRead). Exports content r) c.in-Ok-NotBegun.field-0-is (exports content c.in-Ok-NotBegun.field-0
    (c.in-Ok-NotBegun.ensures.read says)))
    (told detail.Done (subst (λ (t : List ℕ). PrintEnds t detail.Done s detail.Done) (sym no_lines)
    (printed (took_nothing (g.K.Sink.taken c.args.sink.now)))))

pub returns-in-Ok-Broken-clause-ends : goal.returns-in-Ok-Broken-clause-ends
returns-in-Ok-Broken-clause-ends g c =
    let content = (g.D.Disk.on_disk c.args.disk.now).content in
    damaged c.in-Ok-Broken.at
    (λ says. c.a_broken_file_is_damaged.ensures content _ c.in-Ok-Broken.at _ (subst (λ (r : FileRead). IsRead content r)
    c.in-Ok-Broken.field-0-is (c.in-Ok-Broken.ensures.read says)))
    (took_nothing (g.K.Sink.taken c.args.sink.now))

pub returns-in-Err-DiskFault-clause-ends : goal.returns-in-Err-DiskFault-clause-ends
returns-in-Err-DiskFault-clause-ends g c = disk_fault (search rules) (took_nothing (g.K.Sink.taken c.args.sink.now))

pub returns-in-Err-NoMemory-clause-ends : goal.returns-in-Err-NoMemory-clause-ends
returns-in-Err-NoMemory-clause-ends g c = no_memory (took_nothing (g.K.Sink.taken c.args.sink.now))
