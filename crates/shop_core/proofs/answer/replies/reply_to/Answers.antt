use Rattle.std.proofs.Common.{◌∙◌, sym}
use Rattle.shop_core.proofs.Taking.{made_record, took}
use Rattle.shop_core.proofs.answer.replies.reply_to.Goals as goal

pub append_made-requires-clause-of_record : goal.append_made-requires-clause-of_record
append_made-requires-clause-of_record c =
    made_record c.args.state.now.version c.args.state.now.issuer c.args.state.now.entries c.args.ask.now c.args.seconds
    c.in-Made.entry (sym c.in_ok-receipt.ensures.answer ∙ c.in-Made.is)

pub returns-in-Made : goal.returns-in-Made
returns-in-Made c =
    took c.args.state.now c.append_made.new.state c.args.ask.now c.args.seconds c.in-Made.entry c.append_made.result
    (sym c.in_ok-receipt.ensures.answer ∙ c.in-Made.is) c.append_made.ensures.ok c.append_made.ensures.err
