use Rattle.std.proofs.Common.{rules}
use Rattle.statements.specs.Months.{month_text}
use Rattle.statements.proofs.months.Month.text.Goals as goal

pub returns : goal.returns
unfolding month_text
returns c = search rules
