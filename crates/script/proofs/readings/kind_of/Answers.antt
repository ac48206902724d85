use Rattle.script.proofs.Named.{kind_is}
use Rattle.script.proofs.readings.kind_of.Goals as goal

pub returns : goal.returns
returns c = kind_is c.args.text.now c.read.result c.read.ensures.value c.read.ensures.complete
