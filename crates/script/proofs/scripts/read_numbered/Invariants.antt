use Rattle.std.proofs.Common.{◌≡◌, ◌≤◌, ◌+◌, ℕ, List, length}
use Rattle.script.specs.Cuts.{lines_of}
use Rattle.script.specs.declared.lines.Meaning.{Meaning}
use Rattle.script.specs.Numbered.{command_lines}
use Rattle.script.proofs.Reading.{IsPartway}
use Rattle.script.proofs.scripts.read_numbered.Given as goal

abbrev pub invariant-loop-text : goal.invariant-loop-text
invariant-loop-text l = record {
  front : List (List ℕ);
  meanings : List Meaning;
  partway : IsPartway l.form (lines_of l.bytes) front l.lines meanings l.number l.read;
  numbers_are : l.numbers.items ≡ command_lines meanings;
  size : l.number + length l.lines ≤ 4_294_967_295;
}

abbrev pub decreases-loop-text : goal.decreases-loop-text
decreases-loop-text l = length l.lines
