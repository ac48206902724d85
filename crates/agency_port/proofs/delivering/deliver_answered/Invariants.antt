use Rattle.std.proofs.Common.{◌≡◌, take, length}
use Rattle.agency_rules.specs.Pairs.{delivered}
use Rattle.agency_port.specs.Answers.{answers}
use Rattle.agency_port.proofs.delivering.deliver_answered.Given as goal

abbrev pub invariant-loop-i : goal.invariant-loop-i
invariant-loop-i l = record {
  said : l.lines.items ≡ answers l.verdicts l.initial.pairs (take l.i l.batch);
  so_far : l.pairs ≡ delivered l.verdicts l.initial.pairs (take l.i l.batch);
  front : take (length l.initial.pairs) l.pairs ≡ l.initial.pairs;
}
