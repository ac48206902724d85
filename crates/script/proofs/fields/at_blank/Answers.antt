use Rattle.std.proofs.Common.{arith}
use Rattle.std.proofs.lemmas.Bool.Decides.{nat_tests}
use Rattle.script.proofs.Cutting.{at_blank}
use Rattle.script.proofs.fields.at_blank.Goals as goal

pub returns : goal.returns
returns c = at_blank _ c.args.text.now c.split_once.result c.split_once.ensures.cases (λ b. grind (arith, nat_tests))
