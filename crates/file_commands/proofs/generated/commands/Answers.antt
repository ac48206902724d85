use Rattle.std.proofs.Common.{◌+◌, List, subst, sym}
use Rattle.shop_core.specs.Answer.Requests.{Asked}
use Rattle.file_commands.specs.Generated.{AreCommands}
use Rattle.file_commands.proofs.Generating.{commands_more}
use Rattle.file_commands.proofs.generated.commands.Goals as goal

pub loop-i-preserved : goal.loop-i-preserved
loop-i-preserved c =
    subst (λ (asks : List Asked). AreCommands (c.loop-i.i + 1) asks) (sym c.in_ok-push.ensures.items)
    (commands_more c.loop-i.asks.items c.loop-i.i c.in_ok-command.field-0 c.loop-i.invariant c.in_ok-command.ensures)
