use Rattle.std.proofs.Common.{subst}
use Rattle.shop_core.specs.History.{History}
use Rattle.shop_core.specs.Legal.{Legal}
use Rattle.standby.specs.Chains.{chain_of}
use Rattle.standby.specs.Pairs.{both_of}
use Rattle.standby.proofs.Chained.{sound_ready}
use Rattle.standby.proofs.Pairing.{pair_new}
use Rattle.standby.proofs.pair.Pair.of.Goals as goal

pub invariant_of-result : goal.invariant_of-result
invariant_of-result g c =
    let legal : Legal c.args.store.state.version c.args.store.state.issuer c.args.store.state.entries =
    subst (λ (h : History). Legal h.version h.issuer h.entries) c.state.ensures c.is_legal.ensures in
    let shop = sound_ready g.D.Disk.tells g.D.Disk.on_disk g.D.Disk.faults (chain_of c.args.store) c.requires.going_on.0
    c.requires.ready legal in
    let p = pair_new g.D.Disk.tells g.D.Disk.on_disk g.D.Disk.faults g.M.Disk.tells g.M.Disk.on_disk g.M.Disk.faults
    (both_of c.args.store c.args.standby) shop c.is_sound.ensures c.requires.going_on.0 c.requires.going_on.1
    c.requires.issuer c.requires.version c.requires.entries in
    rw (c.of-first.ensures, c.of-second.ensures) p
