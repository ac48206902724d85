use Rattle.std.proofs.Common.{◌∙◌, sym}
use Rattle.verifactu.proofs.CommandLine.{is_chain, is_day, is_drain, is_serve}
use Rattle.verifactu.proofs.command_line.of_issuer.Goals as goal

pub returns-then-is_word : goal.returns-then-is_word
returns-then-is_word c =
    is_chain c.args.name.now c.args.file.now c.args.nif.now c.in-Ok.issuer (sym c.is_word.ensures ∙ c.if-is_word.true)
    c.requires.file c.in-Ok.ensures

pub returns-then-is_word-2 : goal.returns-then-is_word-2
returns-then-is_word-2 c =
    is_day c.args.name.now c.args.file.now c.args.nif.now c.in-Ok.issuer (sym c.is_word-2.ensures ∙ c.if-is_word-2.true)
    c.requires.file c.in-Ok.ensures

pub returns-then-is_word-3 : goal.returns-then-is_word-3
returns-then-is_word-3 c =
    is_drain c.args.name.now c.args.file.now c.args.nif.now c.in-Ok.issuer (sym c.is_word-3.ensures ∙ c.if-is_word-3.true)
    c.requires.file c.in-Ok.ensures

pub returns-then-is_word-4 : goal.returns-then-is_word-4
returns-then-is_word-4 c =
    is_serve c.args.name.now c.args.file.now c.args.nif.now c.in-Ok.issuer (sym c.is_word-4.ensures ∙ c.if-is_word-4.true)
    c.requires.file c.in-Ok.ensures
