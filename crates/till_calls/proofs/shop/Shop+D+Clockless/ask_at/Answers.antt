use Rattle.std.proofs.Common.{◌≡◌, ◌∙◌, ap, subst, ℕ, Some}
use Rattle.chain_lock.specs.Known.{Turns}
use Rattle.chain_lock.specs.Words.{known}
use Rattle.shop_core.specs.Answer.Requests.{Asked}
use Rattle.till_calls.specs.Shop.{till_knows, till_number}
use Rattle.till_calls.specs.Turns.{TillTurn}
use Rattle.till_calls.proofs.shop.Shop+D+Clockless.ask_at.Goals as goal

pub returns-clause-asks : goal.returns-clause-asks
returns-clause-asks g c =
    let ask : ℕ → Asked = λ n. record { till = n; serial = c.args.serial; request = c.args.request.now } in
    let same : c.new.result ≡ ask (till_number c.args.till.now) = c.new.ensures ∙ ap ask c.number.ensures.number in
    subst (λ (a : Asked). Turns (λ root before after. TillTurn (λ x k. Some c.args.seconds) a c.turn.result root before after)
    (till_knows c.args.till.now) (known c.turn.new.pass)) same c.turn.ensures.turn
