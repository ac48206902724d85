use Rattle.std.proofs.Common.{◌≡◌, ◌++◌, length}
use Rattle.command_ends.specs.Printed.{answers}
use Rattle.sender_beside.specs.Tills.{asks_of}
use Rattle.shop_commands.proofs.day.put_till.Given as goal

abbrev pub invariant-loop-asked : goal.invariant-loop-asked
invariant-loop-asked l = l.lines.items ++ answers (asks_of l.day.till l.asked) l.told ≡ l.initial.lines.items ++ answers
    (asks_of l.day.till l.asks) l.day.answers.items

abbrev pub decreases-loop-asked : goal.decreases-loop-asked
decreases-loop-asked l = length l.asked
