use Rattle.std.proofs.Common.{◌∙◌, Global, map, string_bytes, sym}
use Rattle.verifactu.proofs.CommandLine.{asked_as_said}
use Rattle.verifactu.proofs.command_line.command_of.Goals as goal

pub returns : goal.returns
returns c =
    asked_as_said (map (string_bytes {Z = Global}) c.args.words.now) c.said_by.result c.in_default.ensures
    (sym c.has_help.ensures ∙ c.if-has_help.false) c.said_by.ensures
