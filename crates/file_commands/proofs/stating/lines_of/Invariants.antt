use Rattle.std.proofs.Common.{◌≡◌, map, take}
use Rattle.file_commands.specs.Statements.{line_of}
use Rattle.file_commands.proofs.stating.lines_of.Given as goal

abbrev pub invariant-loop-row : goal.invariant-loop-row
invariant-loop-row l = l.lines.items ≡ map line_of (take l.row-index l.rows)
