use Rattle.file_commands.proofs.Generating.{not_refused}
use Rattle.file_commands.proofs.generate.issuer.Goals as goal

pub unreachable-requires : goal.unreachable-requires
unreachable-requires c = not_refused c.in-Err.field-0 c.in-Err.ensures
