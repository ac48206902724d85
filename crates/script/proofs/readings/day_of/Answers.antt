use Rattle.std.proofs.Common.{arith}
use Rattle.script.proofs.Named.{day_yes, day_no}
use Rattle.script.proofs.readings.day_of.Goals as goal

pub returns-in-Some : goal.returns-in-Some
returns-in-Some c = day_yes c.args.text.now c.in-Some.day c.in-Some.ensures.value
    (omega (arith, c.get-number.ensures.value, c.get-number.ensures.bound)) c.text_determines_day.ensures

pub returns-in-None : goal.returns-in-None
returns-in-None c = day_no c.args.text.now c.in-None.ensures.none
