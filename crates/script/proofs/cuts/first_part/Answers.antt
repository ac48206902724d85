use Rattle.std.proofs.Common.{◌∙◌, sym}
use Rattle.script.proofs.Cutting.{cut_there, cut_nowhere}
use Rattle.script.proofs.cuts.first_part.Goals as goal

pub returns-in-Some : goal.returns-in-Some
returns-in-Some c = cut_there c.args.cut c.args.bytes.now c.in-Some.end (sym c.place_of.ensures ∙ c.in-Some.is)

pub returns-in-None : goal.returns-in-None
returns-in-None c = cut_nowhere c.args.cut c.args.bytes.now (sym c.place_of.ensures ∙ c.in-None.is)
