use Rattle.std.proofs.Common.{◌-◌, ◌≤◌, ◌+◌, length, IsTrue}
use Rattle.journal.specs.Tails.{WritesFrom}
use Rattle.journal.proofs.tails.lengthen.Given as goal

abbrev pub invariant-loop-at : goal.invariant-loop-at
invariant-loop-at g l = record {
  behind : IsTrue g.D.Disk.tells → l.gate + 1 ≤ l.at;
  reach : IsTrue g.D.Disk.tells → l.at ≤ length (g.D.Disk.on_disk l.disk).content;
  writes : IsTrue g.D.Disk.tells → WritesFrom (l.gate + 1) (g.D.Disk.on_disk l.fn.disk) (g.D.Disk.on_disk l.disk);
  later : g.D.Disk.faults l.fn.disk ≤ g.D.Disk.faults l.disk;
}

abbrev pub decreases-loop-at : goal.decreases-loop-at
decreases-loop-at g l = l.end - l.at
