use Rattle.std.proofs.Common.{refl, option_map}
use Rattle.standby.specs.Chains.{chain_by}
use Rattle.standby.proofs.Chained.{reserved, sound_roomy}
use Rattle.standby.proofs.standby.Standby.reserve.Goals as goal

pub invariant_of-self : goal.invariant_of-self
invariant_of-self g c =
    let s = c.self.inside in
    let torn = option_map (λ t. t.value) s.torn in
    let same = reserved c.reserve.result s.state c.reserve.new.self c.args.entry.now c.reserve.ensures.ok c.reserve.ensures.err in
    sound_roomy g.D.Disk.tells g.D.Disk.on_disk g.D.Disk.faults (chain_by s.state s.journal torn)
    (chain_by c.reserve.new.self s.journal torn)
    (record { issuer = same.0; version = same.1; entries = same.2; disk = refl; gate = refl; stopped = refl; torn = refl }) c.self.invariant
