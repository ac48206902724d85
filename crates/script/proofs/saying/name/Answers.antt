use Rattle.script.proofs.Parties.{unnamed, named_ok, named_not}
use Rattle.script.proofs.saying.name.Goals as goal

pub returns-in_default : goal.returns-in_default
returns-in_default c = unnamed c.args.line.now c.in_default.ensures

pub returns-in-Ok : goal.returns-in-Ok
returns-in-Ok c =
    named_ok c.args.line.now c.in-Some.text.now c.in-Ok.name c.in-Some.ensures c.in-Ok.ensures.0 c.in-Ok.ensures.1

pub returns-in_default-fault : goal.returns-in_default-fault
returns-in_default-fault c =
    named_not c.args.line.now c.in-Some.text.now c.in-Err.fault c.in-Some.ensures c.in_default-fault.not-NoMemory
    c.in-Err.ensures
