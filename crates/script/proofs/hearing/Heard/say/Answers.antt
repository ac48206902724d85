use Rattle.script.specs.Heard.{known_of}
use Rattle.script.proofs.OneByOne.{is_in, is_new}
use Rattle.script.proofs.hearing.Heard.say.Goals as goal

pub returns-clause-new : goal.returns-clause-new
returns-clause-new c = is_new c.args.form (known_of c.args.self.now) c.without_return.result.now c.line.result c.line.ensures

pub returns-clause-form : goal.returns-clause-form
returns-clause-form c = is_in c.args.form (known_of c.args.self.now) c.without_return.result.now c.line.result c.line.ensures
