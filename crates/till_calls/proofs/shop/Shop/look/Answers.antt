use Rattle.chain_lock.specs.Words.{known}
use Rattle.till_calls.specs.Shop.{till_knows}
use Rattle.till_calls.proofs.Learning.{looked}
use Rattle.till_calls.proofs.shop.Shop.look.Goals as goal

pub returns-clause-looks : goal.returns-clause-looks
returns-clause-looks g c =
    looked (g.Q.Question.learns c.args.question.now) c.turn.result (till_knows c.args.till.now) (known c.turn.new.pass)
    c.turn.ensures.turn
