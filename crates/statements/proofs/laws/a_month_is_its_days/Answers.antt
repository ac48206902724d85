use Rattle.statements.proofs.Daily.{months_are_their_days, months_have_days}
use Rattle.statements.proofs.laws.a_month_is_its_days.Goals as goal

pub returns : goal.returns
returns c = record {
  days = months_have_days c.last-last.result c.last-last.ensures.date;
  added = months_are_their_days;
}
