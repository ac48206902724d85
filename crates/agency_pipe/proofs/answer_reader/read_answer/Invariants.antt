use Rattle.std.proofs.Common.{◌≡◌, ◌≤◌, ℕ, List, flat_map, length, vec_capacity}
use Rattle.std.specs.Io.KnownBytes.{Consumes}
use Rattle.std.specs.List.{AllByRecursion}
use Rattle.agency_pipe.specs.Hearing.{IsEarlier}
use Rattle.agency_pipe.specs.Lines.{with_lf}
use Rattle.agency_pipe.specs.declared.reader.TheConstants.{MAX_ANSWER}
use Rattle.agency_pipe.proofs.answer_reader.read_answer.Given as goal

abbrev pub invariant-loop : goal.invariant-loop
invariant-loop g l = record {
  passed : List (List ℕ);
  count : length passed ≡ l.counter;
  over : AllByRecursion (IsEarlier l.number) passed;
  consumed : Consumes (g.S.Source.left l.fn.source) (g.S.Source.left l.source) (flat_map with_lf passed);
  later : g.S.Source.faults l.fn.source ≤ g.S.Source.faults l.source;
  room : MAX_ANSWER ≤ vec_capacity l.text;
}
