use Rattle.std.proofs.Common.{◌∙◌, sym}
use Rattle.file_commands.proofs.Splitting.{split_there}
use Rattle.file_commands.proofs.lines.split_behind_line.Goals as goal

pub returns-in-Some-clause-lines : goal.returns-in-Some-clause-lines
returns-in-Some-clause-lines c =
    let text = c.args.text.now in
    let whole = (split_there text c.args.at c.in-Some.more c.requires (sym c.place_of_lf.ensures ∙ c.in-Some.is)).0 in
    rw (c.split_at.ensures.front, c.split_at.ensures.back) whole
