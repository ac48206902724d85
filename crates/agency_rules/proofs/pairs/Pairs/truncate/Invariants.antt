use Rattle.std.proofs.Common.{◌≡◌, ◌≤◌, ◌-◌, take, length}
use Rattle.agency_rules.proofs.pairs.Pairs.truncate.Given as goal

abbrev pub invariant-loop-cut : goal.invariant-loop-cut
invariant-loop-cut l = record {
  front : l.self ≡ take (length l.initial.self - (l._cut - l.count)) l.initial.self;
  whole : length l.initial.self ≤ l.count → l.self ≡ l.initial.self;
}
