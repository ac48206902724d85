use Rattle.file_commands.specs.Generated.{AreCommands}
use Rattle.file_commands.proofs.generated.commands.Given as goal

abbrev pub invariant-loop-i : goal.invariant-loop-i
invariant-loop-i l = AreCommands l.i l.asks.items
