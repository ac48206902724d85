use Rattle.std.proofs.Common.{◌≡◌, ◌++◌, drop}
use Rattle.once_world.specs.Looks.{answers_for, lines_in_front}
use Rattle.once_world.proofs.looks.lines_in_front.Given as goal

-- the lines so far and those in front of what is left are those in front of all
abbrev pub invariant-loop-sealed : goal.invariant-loop-sealed
invariant-loop-sealed l =
    l.lines.items ++ lines_in_front (answers_for l.processed (drop l.sealed-index l.records)) ≡ lines_in_front
    (answers_for l.processed l.records)
