use Rattle.std.proofs.Common.{subst}
use Rattle.shop_core.specs.History.{History}
use Rattle.shop_core.specs.Legal.{Legal}
use Rattle.till_calls.specs.Root.{parts_of}
use Rattle.till_calls.proofs.Keeping.{sound_at_start}
use Rattle.till_calls.proofs.kept.Kept.new.Goals as goal

pub invariant_of-result : goal.invariant_of-result
invariant_of-result g c =
    let p = parts_of c.args.store in
    let legal = subst (λ (h : History). Legal h.version h.issuer h.entries) c.state.ensures c.is_legal.ensures in
    let sound = sound_at_start g.D.Disk.tells g.D.Disk.on_disk g.D.Disk.faults g.C.Clock.coming p c.requires.going_on
    c.requires.ready legal in
    rw c.of-start.ensures sound
