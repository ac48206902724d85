use Rattle.script.specs.Fields.{is_blank}
use Rattle.script.proofs.Cutting.{parts_there, parts_nowhere}
use Rattle.script.proofs.fields.first_field.Goals as goal

pub returns-in-Some : goal.returns-in-Some
returns-in-Some c = parts_there is_blank c.args.text.now c.in-Some.field.now c.in-Some.rest.now c.in-Some.ensures

pub returns-in-None : goal.returns-in-None
returns-in-None c = parts_nowhere is_blank c.args.text.now c.in-None.ensures
