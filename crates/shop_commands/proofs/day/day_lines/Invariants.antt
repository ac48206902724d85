use Rattle.std.proofs.Common.{◌≡◌, map, take}
use Rattle.std.specs.List.{flat_map}
use Rattle.shop_commands.specs.Day.{till_lines}
use Rattle.shop_day.specs.TillJobs.{told_in}
use Rattle.shop_commands.proofs.day.day_lines.Given as goal

abbrev pub invariant-loop-day : goal.invariant-loop-day
invariant-loop-day l = l.lines.items ≡ flat_map (till_lines l.asks) (map told_in (take l.day-index l.days))
