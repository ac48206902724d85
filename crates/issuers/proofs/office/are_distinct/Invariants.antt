use Rattle.std.proofs.Common.{length, map}
use Rattle.issuers.specs.Office.{AreOwn, issuer_of}
use Rattle.issuers.proofs.office.are_distinct.Given as goal

abbrev pub invariant-loop-first : goal.invariant-loop-first
invariant-loop-first g l = record {
  down : AreOwn (map issuer_of l.stores) → AreOwn (map issuer_of l.rest);
  up : AreOwn (map issuer_of l.rest) → AreOwn (map issuer_of l.stores);
}

abbrev pub decreases-loop-first : goal.decreases-loop-first
decreases-loop-first g l = length l.rest
