use Rattle.std.proofs.Common.{◌∙◌, sym}
use Rattle.script.proofs.OneByOne.{kept_more}
use Rattle.script.proofs.hearing.Heard.keep.Goals as goal

pub returns-clause-ok : goal.returns-clause-ok
returns-clause-ok c = λ before e. kept_more before c.args.meaning c.args.self.now.read c.add.new.self c.add.result (sym c.is_command.ensures ∙ c.if-is_command.false) e
    c.args.self.now.no_asks c.add.ensures.reads
