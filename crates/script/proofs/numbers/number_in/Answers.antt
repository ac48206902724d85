use Rattle.std.proofs.Common.{sym, ◌∙◌}
use Rattle.script.proofs.Digits.{number_yes, number_no}
use Rattle.script.proofs.numbers.number_in.Goals as goal

pub returns-then-is_within-clause-value : goal.returns-then-is_within-clause-value
returns-then-is_within-clause-value c =
    number_yes c.args.low c.args.high c.in_ok-n.n c.args.text.now c.requires c.in_ok-n.ensures.text c.in_ok-n.ensures.value
    (sym c.is_within.ensures ∙ c.if-is_within.true)

pub returns-else-is_within-clause-value : goal.returns-else-is_within-clause-value
returns-else-is_within-clause-value c =
    number_no c.args.low c.args.high c.in_ok-n.n c.args.text.now c.requires c.in_ok-n.ensures.value
    (sym c.is_within.ensures ∙ c.if-is_within.false)
