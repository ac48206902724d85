use Rattle.std.proofs.Common.{◌≡◌, take, length}
use Rattle.agency_rules.specs.Pairs.{delivered}
use Rattle.agency_rules.proofs.pairs.Pairs.deliver.Given as goal

abbrev pub invariant-loop-i : goal.invariant-loop-i
invariant-loop-i l = record {
  so_far : l.self ≡ delivered l.verdicts l.initial.self (take l.i l.batch);
  front : take (length l.initial.self) l.self ≡ l.initial.self;
}
