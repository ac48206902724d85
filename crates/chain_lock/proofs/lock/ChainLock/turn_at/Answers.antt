use Rattle.std.proofs.Common.{ap}
use Rattle.chain_lock.proofs.Keeps.{turned}
use Rattle.chain_lock.proofs.lock.ChainLock.turn_at.Goals as goal

pub returns-clause-turn : goal.returns-clause-turn
returns-clause-turn g c = let (m, turn, me) = c.take-value.ensures.got in
    turned _ _ _ _ _ _ _ _ c.take-value.result m _ turn (ap (λ p. p.0) me) c.count_added.ensures.view
    (ap (λ p. p.0) c.put_value.ensures.put) (ap (λ p. p.0) c.free.ensures.view) c.act-told.ensures.relates
