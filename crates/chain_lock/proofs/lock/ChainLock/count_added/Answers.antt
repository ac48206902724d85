use Rattle.std.proofs.Common.{sym, ◌∙◌}
use Rattle.chain_lock.proofs.Keeps.{counts_none}
use Rattle.chain_lock.proofs.lock.ChainLock.count_added.Goals as goal

pub returns-then-recorded-before-clause-view : goal.returns-then-recorded-before-clause-view
returns-then-recorded-before-clause-view g c = counts_none _ _ c.requires.before.1 c.requires.items
    ((sym c.recorded.ensures ∙ c.if-recorded-before.true) ∙ c.requires.before.0)
