use Rattle.std.proofs.Common.{◌≡◌, ◌≤◌, ◌⊎◌, None, take}
use Rattle.standby.specs.Arriving.{Received}
use Rattle.standby.specs.Chains.{GoesTo, IsSoundChain}
use Rattle.standby.specs.Following.{Follows}
use Rattle.standby.proofs.standby.Standby.receive.Given as goal

abbrev pub invariant-loop-piece : goal.invariant-loop-piece
invariant-loop-piece g l = record {
  sound : IsSoundChain g.D.Disk.tells g.D.Disk.on_disk g.D.Disk.faults l.self;
  goes : GoesTo g.D.Disk.tells g.D.Disk.on_disk g.D.Disk.faults l.initial.self l.self;
  follows : Follows g.D.Disk.tells g.D.Disk.on_disk l.initial.self l.self (take l.piece-index l.pieces);
  received : Received l.initial.self.history.version l.initial.self.history.issuer l.initial.self.history.entries (take l.piece-index l.pieces)
      l.self.history.entries l.kept;
  stopped : l.self.stopped ≡ l.initial.self.stopped;
  begun : ((l.piece-index ≡ 0) × (l.self ≡ l.initial.self)) ⊎ (l.initial.self.stopped ≡ None);
  few : l.kept ≤ l.piece-index;
}
