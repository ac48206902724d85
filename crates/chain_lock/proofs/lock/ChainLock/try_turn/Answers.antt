use Rattle.std.proofs.Common.{rules}
use Rattle.chain_lock.proofs.Keeps.{tries}
use Rattle.chain_lock.proofs.lock.ChainLock.try_turn.Goals as goal

pub swap-requires : goal.swap-requires
swap-requires g c = (search rules, search rules, tries _ _ _ _ _ _ _ _ c.requires.rest.0 c.requires.rest.2)
