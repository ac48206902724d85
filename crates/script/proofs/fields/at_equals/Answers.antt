use Rattle.std.proofs.Common.{arith}
use Rattle.script.proofs.Cutting.{at_first}
use Rattle.script.proofs.fields.at_equals.Goals as goal

pub returns : goal.returns
returns c = at_first 61 c.args.text.now c.split_once.result c.split_once.ensures.cases (omega arith)
