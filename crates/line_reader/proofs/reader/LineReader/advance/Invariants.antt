use Rattle.std.proofs.Common.{◌≡◌, ◌≤◌, List, [], ℕ, true, IsTrue}
use Rattle.std.specs.Io.KnownBytes.{Consumes}
use Rattle.line_reader.specs.Lines.{IsAskedFor, is_dropping, kept_of, last_read}
use Rattle.line_reader.specs.Reading.{has_lf}
use Rattle.line_reader.proofs.Underway.{Underway}
use Rattle.line_reader.proofs.reader.LineReader.advance.Given as goal

abbrev pub invariant-loop : goal.invariant-loop
invariant-loop g l = record {
  next : (goal.iterator-loop g).can_next l.iterator';
  finite : (goal.iterator-loop g).is_finite l.iterator';
  taken : List ℕ;
  let_go : List ℕ;
  consumed : Consumes (g.S.Source.left l.fn.source) (g.S.Source.left l.source) taken;
  underway : Underway (kept_of l.fn.self) taken let_go (is_dropping l.fn.self) l.self.stage l.self.text.items l.self.chunk.rest;
  asked : IsAskedFor (kept_of l.fn.self) taken (last_read l.self);
  unread : has_lf (kept_of l.fn.self) ≡ true → (l.source ≡ l.fn.source) × (has_lf l.self.chunk.rest ≡ true);
  over : l.self.over ≡ l.fn.self.over;
  rests : l.fn.self.over ≡ true → taken ≡ [];
  asleep : l.fn.self.over ≡ true → l.source ≡ l.fn.source;
  later : g.S.Source.faults l.fn.source ≤ g.S.Source.faults l.source;
  once : IsTrue g.S.Source.counts → g.S.Source.faults l.source ≡ g.S.Source.faults l.fn.source;
}
