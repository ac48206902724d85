use Rattle.std.proofs.Common.{◌∙◌}
use Rattle.many_issuers.proofs.working.finish_open.Goals as goal

pub returns : goal.returns
returns g c = record {
  last = c.go_on-last.result;
  behind = c.go_on-last.ensures.behind;
  ends = c.told_end-end.ensures;
  disk_is = c.close.ensures.disk;
  clock_is = c.close.ensures.clock ∙ c.go_on-last.ensures.clock;
  sleeper_is = c.close.ensures.rest.0;
  replaced = λ is. c.close.ensures.rest.0 ∙ c.go_on-last.ensures.replaced is;
  agency_is = c.close.ensures.rest.1;
}
