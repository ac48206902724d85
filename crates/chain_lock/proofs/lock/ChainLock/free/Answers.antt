use Rattle.std.proofs.Common.{rules}
use Rattle.chain_lock.proofs.Keeps.{frees}
use Rattle.chain_lock.proofs.lock.ChainLock.free.Goals as goal

pub store-requires : goal.store-requires
store-requires g c = let (y, carried, list, root) = c.requires.value in
    (search rules, search rules, frees _ _ _ _ _ _ _ _ y c.requires.turn carried list root)
