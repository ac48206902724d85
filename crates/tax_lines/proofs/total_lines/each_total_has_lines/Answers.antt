use Rattle.tax_lines.proofs.Reaching.{each_reached}
use Rattle.tax_lines.proofs.total_lines.each_total_has_lines.Goals as goal

pub returns : goal.returns
returns c = each_reached
