use Rattle.std.proofs.Common.{◌≡◌, Result, rules, Ok, Err}
use Rattle.shop_core.specs.declared.answer.requests.Request.{Request}
use Rattle.shop_core.specs.declared.words.Word.{Word}
use Rattle.script.specs.Fields.{and_then}
use Rattle.script.specs.SoFar.{party_of, known}
use Rattle.script.specs.Lines.{command_said, request_said}
use Rattle.script.specs.declared.lines.Meaning.{Meaning}
use Rattle.script.specs.declared.lines.Meaning.TheVariants.{Command}
use Rattle.script.proofs.Reading.{passes_on, answers_along}
use Rattle.script.proofs.saying.command.Goals as goal

pub returns-in-Err : goal.returns-in-Err
returns-in-Err c =
    let asked = request_said c.args.command (party_of c.args.read.now.customers) c.number-2.new.fields in
    let made : Request → Result Meaning Word = λ request. Ok (Command (record {
      till = c.in_ok-till.till;
      serial = c.in_ok-serial.serial;
      request = request;
    })) in
    let same : command_said c.args.form (known c.args.read.now) c.args.command c.args.fields.now ≡ and_then asked made =
    search rules in
    answers_along (command_said c.args.form (known c.args.read.now) c.args.command c.args.fields.now) (and_then asked made)
    (Err c.in-Err.fault) same (passes_on c.in-Err.fault asked made c.in-Err.ensures)
