use Rattle.std.proofs.Common.{◌≡◌, ◌++◌, ℕ, List, length}
use Rattle.issuers.specs.Reading.{is_own, own_lines, part_of}
use Rattle.issuers.proofs.Sections.{glue}
use Rattle.issuers.proofs.reading.part_bytes.Given as goal

abbrev pub invariant-loop-line : goal.invariant-loop-line
invariant-loop-line l = record {
  before : List (List ℕ);
  own : l.own ≡ is_own l.nif before;
  part : l.part.items ++ glue l.begun (own_lines l.nif before l.lines) ≡ part_of l.nif l.bytes;
}

abbrev pub decreases-loop-line : goal.decreases-loop-line
decreases-loop-line l = length l.lines
