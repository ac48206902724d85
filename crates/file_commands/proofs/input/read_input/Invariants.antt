use Rattle.std.proofs.Common.{◌≡◌, ◌≤◌, IsTrue, length, vec_len}
use Rattle.std.specs.Io.KnownBytes.{Consumes}
use Rattle.file_commands.proofs.input.read_input.Given as goal

abbrev pub invariant-loop-turn : goal.invariant-loop-turn
invariant-loop-turn g l = record {
  given : Consumes (g.S.Source.left l.initial.source) (g.S.Source.left l.source) l.bytes.items;
  turns : l._turn ≤ vec_len l.bytes;
  size : vec_len l.bytes ≤ 16777216;
  room : length l.buf ≡ 65536;
  later : g.S.Source.faults l.initial.source ≤ g.S.Source.faults l.source;
  once : IsTrue g.S.Source.counts → g.S.Source.faults l.source ≡ g.S.Source.faults l.initial.source;
}
