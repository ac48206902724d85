use Rattle.script.proofs.Named.{class_is}
use Rattle.script.proofs.readings.class_of.Goals as goal

pub returns : goal.returns
returns c = class_is c.args.text.now c.read.result c.read.ensures.value c.read.ensures.key c.read.ensures.complete
