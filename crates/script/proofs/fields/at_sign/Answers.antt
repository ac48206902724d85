use Rattle.script.proofs.Cutting.{at_last}
use Rattle.script.proofs.fields.at_sign.Goals as goal

pub returns : goal.returns
returns c = at_last c.args.text.now c.rsplit_once.result c.rsplit_once.ensures.cases
