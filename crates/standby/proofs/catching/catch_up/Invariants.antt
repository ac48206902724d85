use Rattle.std.proofs.Common.{◌≡◌, length, None}
use Rattle.standby.specs.Chains.{GoesTo, IsSoundChain}
use Rattle.standby.specs.Following.{IsFollowing}
use Rattle.standby.proofs.catching.catch_up.Given as goal

abbrev pub invariant-loop-index : goal.invariant-loop-index
invariant-loop-index g l = record {
  end : l.index-end ≡ length l.state.entries;
  place : l.index ≡ length l.standby.history.entries;
  held : l.held ≡ length l.initial.standby.history.entries;
  going_on : l.standby.stopped ≡ None;
  sound : IsSoundChain g.D.Disk.tells g.D.Disk.on_disk g.D.Disk.faults l.standby;
  goes : GoesTo g.D.Disk.tells g.D.Disk.on_disk g.D.Disk.faults l.initial.standby l.standby;
  follows : IsFollowing g.D.Disk.tells g.D.Disk.on_disk l.initial.standby l.standby l.state.entries;
}
