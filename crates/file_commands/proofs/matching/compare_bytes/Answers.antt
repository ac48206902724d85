use Rattle.std.proofs.Common.{rules, subst}
use Rattle.shop_core.specs.File.Reading.{IsRead}
use Rattle.shop_core.specs.declared.file.reading.FileRead.{FileRead}
use Rattle.file_commands.specs.Exporting.Exported.{history, nothing}
use Rattle.file_commands.specs.Matching.ComparedWith.{read, damaged, disk_fault, no_memory}
use Rattle.file_commands.proofs.Bytewise.{took_nothing}
use Rattle.file_commands.proofs.Exports.{Exports, exports}
use Rattle.file_commands.proofs.matching.compare_bytes.Goals as goal

pub returns-in-Ok-Sound-clause-ends : goal.returns-in-Ok-Sound-clause-ends
returns-in-Ok-Sound-clause-ends g c =
    let content = (g.D.Disk.on_disk c.args.disk.now).content in
    let state = c.in-Ok-Sound.state in
    read (history state.version state.issuer state.entries) c.compare_with.result
    (λ says. subst (λ (r : FileRead). Exports content r) c.in-Ok-Sound.field-0-is (exports content c.in-Ok-Sound.field-0
    (c.in-Ok-Sound.ensures.read says)))
    c.compare_with.ensures

pub returns-in-Ok-NotBegun-clause-ends : goal.returns-in-Ok-NotBegun-clause-ends
returns-in-Ok-NotBegun-clause-ends g c =
    let content = (g.D.Disk.on_disk c.args.disk.now).content in
    read nothing c.compare_with_nothing.result
    (λ says. subst (λ (r : FileRead). Exports content r) c.in-Ok-NotBegun.field-0-is (exports content c.in-Ok-NotBegun.field-0
    (c.in-Ok-NotBegun.ensures.read says)))
    c.compare_with_nothing.ensures

pub returns-in-Ok-Broken-clause-ends : goal.returns-in-Ok-Broken-clause-ends
returns-in-Ok-Broken-clause-ends g c =
    let content = (g.D.Disk.on_disk c.args.disk.now).content in
    damaged c.in-Ok-Broken.at
    (λ says. c.a_broken_file_is_damaged.ensures content _ c.in-Ok-Broken.at _ (subst (λ (r : FileRead). IsRead content r)
    c.in-Ok-Broken.field-0-is (c.in-Ok-Broken.ensures.read says)))
    (took_nothing (g.K.Sink.taken c.args.sink.now))

pub returns-in-Err-DiskFault-clause-ends : goal.returns-in-Err-DiskFault-clause-ends
returns-in-Err-DiskFault-clause-ends g c = disk_fault (search rules) (took_nothing (g.K.Sink.taken c.args.sink.now))

pub returns-in-Err-NoMemory-clause-ends : goal.returns-in-Err-NoMemory-clause-ends
returns-in-Err-NoMemory-clause-ends g c = no_memory (took_nothing (g.K.Sink.taken c.args.sink.now))
