use Rattle.std.proofs.Common.{rules, [], subst, refl}
use Rattle.shop_core.specs.File.Reading.{IsRead}
use Rattle.shop_core.specs.declared.file.reading.FileRead.{FileRead}
use Rattle.file_commands.specs.Linking.LinkEnds.{read, damaged, disk_fault, no_memory}
use Rattle.file_commands.specs.Linking.LinkedFrom.{unknown}
use Rattle.file_commands.proofs.Bytewise.{took_nothing}
use Rattle.file_commands.proofs.FileReads.{Holds, holds}
use Rattle.file_commands.proofs.linking.linked.Goals as goal

pub returns-in-Ok-Sound-clause-ends : goal.returns-in-Ok-Sound-clause-ends
returns-in-Ok-Sound-clause-ends g c =
    let content = (g.D.Disk.on_disk c.args.disk.now).content in
    read c.in-Ok-Sound.state.entries c.link_in.result
    (λ says. subst (λ (r : FileRead). Holds content r) c.in-Ok-Sound.field-0-is (holds content c.in-Ok-Sound.field-0
    (c.in-Ok-Sound.ensures.read says)))
    c.link_in.ensures

pub returns-in-Ok-NotBegun-clause-ends : goal.returns-in-Ok-NotBegun-clause-ends
returns-in-Ok-NotBegun-clause-ends g c =
    let content = (g.D.Disk.on_disk c.args.disk.now).content in
    read [] _
    (λ says. subst (λ (r : FileRead). Holds content r) c.in-Ok-NotBegun.field-0-is (holds content c.in-Ok-NotBegun.field-0
    (c.in-Ok-NotBegun.ensures.read says)))
    (unknown refl (took_nothing (g.K.Sink.taken c.args.sink.now)))

pub returns-in-Ok-Broken-clause-ends : goal.returns-in-Ok-Broken-clause-ends
returns-in-Ok-Broken-clause-ends g c =
    let content = (g.D.Disk.on_disk c.args.disk.now).content in
    damaged c.in-Ok-Broken.at
    (λ says. c.a_broken_file_is_damaged.ensures content _ c.in-Ok-Broken.at _ (subst (λ (r : FileRead). IsRead content r)
    c.in-Ok-Broken.field-0-is (c.in-Ok-Broken.ensures.read says)))
    (took_nothing (g.K.Sink.taken c.args.sink.now))

pub returns-in-Err-DiskFault-clause-ends : goal.returns-in-Err-DiskFault-clause-ends
returns-in-Err-DiskFault-clause-ends g c = disk_fault (search rules) (took_nothing (g.K.Sink.taken c.args.sink.now))

pub returns-in-Err-NoMemory-clause-ends : goal.returns-in-Err-NoMemory-clause-ends
returns-in-Err-NoMemory-clause-ends g c = no_memory (took_nothing (g.K.Sink.taken c.args.sink.now))
