use Rattle.std.proofs.Common.{◌≡◌, take}
use Rattle.file_commands.specs.Exporting.{lines_text, objects_of}
use Rattle.file_commands.specs.Exporting.Exported.{history}
use Rattle.file_commands.proofs.exporting.history_text.Given as goal

abbrev pub invariant-loop-index : goal.invariant-loop-index
invariant-loop-index l =
    l.text.items ≡ lines_text (objects_of (history l.state.version l.state.issuer (take l.index l.state.entries)))
