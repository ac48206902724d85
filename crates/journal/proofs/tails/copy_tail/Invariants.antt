use Rattle.std.proofs.Common.{◌≡◌, ◌-◌, ◌≤◌, ◌+◌, length, IsTrue}
use Rattle.journal.specs.Tails.{WritesFrom}
use Rattle.journal.specs.Written.{KeepsFront}
use Rattle.journal.proofs.tails.copy_tail.Given as goal

abbrev pub invariant-loop-at : goal.invariant-loop-at
invariant-loop-at g l = record {
  behind : l.gate + 1 ≤ l.at;
  within : IsTrue g.D.Disk.tells → l.at ≤ l.end;
  same : g.D.Disk.on_disk l.first ≡ g.D.Disk.on_disk l.fn.first;
  reach : IsTrue g.M.Disk.tells → l.at ≤ length (g.M.Disk.on_disk l.second).content;
  writes : IsTrue g.M.Disk.tells → WritesFrom (l.gate + 1) (g.M.Disk.on_disk l.fn.second) (g.M.Disk.on_disk l.second);
  copied : IsTrue g.D.Disk.tells → IsTrue g.M.Disk.tells →
      KeepsFront (l.gate + 1) (g.D.Disk.on_disk l.fn.first).content (g.M.Disk.on_disk l.fn.second).content →
      KeepsFront l.at (g.D.Disk.on_disk l.fn.first).content (g.M.Disk.on_disk l.second).content;
  no_longer : IsTrue g.D.Disk.tells → IsTrue g.M.Disk.tells →
      length (g.M.Disk.on_disk l.fn.second).content ≤ length (g.D.Disk.on_disk l.fn.first).content →
      length (g.M.Disk.on_disk l.second).content ≤ length (g.D.Disk.on_disk l.fn.first).content;
  first_later : g.D.Disk.faults l.fn.first ≤ g.D.Disk.faults l.first;
  second_later : g.M.Disk.faults l.fn.second ≤ g.M.Disk.faults l.second;
}

abbrev pub decreases-loop-at : goal.decreases-loop-at
decreases-loop-at g l = l.end - l.at
