use Rattle.file_commands.specs.Output.PrintEnds.{printed, failed}
use Rattle.file_commands.proofs.output.print_line.Goals as goal

pub returns-in-Ok : goal.returns-in-Ok
returns-in-Ok g c = printed c.in-Ok.ensures

pub returns-in-Err : goal.returns-in-Err
returns-in-Err g c = failed c.in-Err.ensures
