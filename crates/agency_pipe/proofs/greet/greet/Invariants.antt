use Rattle.std.proofs.Common.{◌≡◌, ◌≤◌, List, length, vec_capacity}
use Rattle.std.specs.Io.KnownBytes.{Appends}
use Rattle.agency_pipe.specs.Greeting.{Passed, Piece, openings}
use Rattle.agency_pipe.specs.declared.reader.TheConstants.{MAX_ANSWER}
use Rattle.agency_pipe.proofs.greet.greet.Given as goal

abbrev pub invariant-loop : goal.invariant-loop
invariant-loop g l = record {
  passed : List Piece;
  count : length passed ≡ l.counter;
  after : Passed l.number (g.S.Source.left l.fn.source) (g.S.Source.left l.source) passed;
  wrote : Appends (g.K.Sink.taken l.fn.sink) (g.K.Sink.taken l.sink) (openings l.opening l.number passed);
  source_later : g.S.Source.faults l.fn.source ≤ g.S.Source.faults l.source;
  sink_later : g.K.Sink.faults l.fn.sink ≤ g.K.Sink.faults l.sink;
  room : MAX_ANSWER ≤ vec_capacity l.text;
}
