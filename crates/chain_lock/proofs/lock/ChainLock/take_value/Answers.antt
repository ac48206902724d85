use Rattle.std.proofs.Common.{rules, ◌∷◌, Some, ap, sym, ◌∙◌}
use Rattle.atomic_table.specs.Table.{rest}
use Rattle.chain_lock.proofs.lock.ChainLock.take_value.Goals as goal

pub exchange-requires : goal.exchange-requires
exchange-requires g c = let (y, carried) = c.requires.carried in
    (search rules, (Some y, carried ∙ ap (λ cs. (0, Some y) ∷ rest cs) (sym carried)))
