use Rattle.std.proofs.Common.{rules, [], subst, refl}
use Rattle.shop_core.specs.File.Reading.{IsRead}
use Rattle.shop_core.specs.declared.file.reading.FileRead.{FileRead}
use Rattle.statements.specs.Periods.{IsStatementOf}
use Rattle.statements.specs.declared.periods.Period.{Period}
use Rattle.file_commands.specs.Statements.StatementEnds.{read, damaged, disk_fault, no_memory}
use Rattle.file_commands.specs.Statements.StatementPrinted.{stated}
use Rattle.file_commands.proofs.Bytewise.{took_nothing}
use Rattle.file_commands.proofs.FileReads.{Holds, holds}
use Rattle.file_commands.proofs.stating.stated.Goals as goal

-- no entries have no rows
nothing : (period : Period) → IsStatementOf [] period []
nothing period = record { in_order = tt; keys = tt; each = λ key is. refl }

pub returns-in-Ok-Sound-clause-ends : goal.returns-in-Ok-Sound-clause-ends
returns-in-Ok-Sound-clause-ends g c =
    let content = (g.D.Disk.on_disk c.args.disk.now).content in
    read c.in-Ok-Sound.state.entries c.state_period.result
    (λ says. subst (λ (r : FileRead). Holds content r) c.in-Ok-Sound.field-0-is (holds content c.in-Ok-Sound.field-0
    (c.in-Ok-Sound.ensures.read says)))
    c.state_period.ensures

pub returns-in-Ok-NotBegun-clause-ends : goal.returns-in-Ok-NotBegun-clause-ends
returns-in-Ok-NotBegun-clause-ends g c =
    let content = (g.D.Disk.on_disk c.args.disk.now).content in
    read [] c.print_rows.result
    (λ says. subst (λ (r : FileRead). Holds content r) c.in-Ok-NotBegun.field-0-is (holds content c.in-Ok-NotBegun.field-0
    (c.in-Ok-NotBegun.ensures.read says)))
    (stated [] c.print_rows.result (nothing c.args.period.now) c.print_rows.ensures)

pub returns-in-Ok-Broken-clause-ends : goal.returns-in-Ok-Broken-clause-ends
returns-in-Ok-Broken-clause-ends g c =
    let content = (g.D.Disk.on_disk c.args.disk.now).content in
    damaged c.in-Ok-Broken.at
    (λ says. c.a_broken_file_is_damaged.ensures content _ c.in-Ok-Broken.at _ (subst (λ (r : FileRead). IsRead content r)
    c.in-Ok-Broken.field-0-is (c.in-Ok-Broken.ensures.read says)))
    (took_nothing (g.K.Sink.taken c.args.sink.now))

pub returns-in-Err-DiskFault-clause-ends : goal.returns-in-Err-DiskFault-clause-ends
returns-in-Err-DiskFault-clause-ends g c = disk_fault (search rules) (took_nothing (g.K.Sink.taken c.args.sink.now))

pub returns-in-Err-NoMemory-clause-ends : goal.returns-in-Err-NoMemory-clause-ends
returns-in-Err-NoMemory-clause-ends g c = no_memory (took_nothing (g.K.Sink.taken c.args.sink.now))
