use Rattle.std.proofs.Common.{◌∙◌, rules, length, sym}
use Rattle.verifactu.proofs.CommandLine.{is_guard, some_byte}
use Rattle.verifactu.proofs.command_line.guard_of.Goals as goal

pub returns-in-Ok : goal.returns-in-Ok
returns-in-Ok c = is_guard c.args.file.now c.args.nif.now c.args.new.now c.in-Ok.issuer c.requires
    (some_byte (length c.args.new.now) (sym c.is_empty.ensures ∙ c.if-is_empty.false)) (search rules) c.in-Ok.ensures
