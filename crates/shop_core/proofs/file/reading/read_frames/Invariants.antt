use Rattle.std.proofs.Common.{◌≡◌, ◌≤◌, length, IsTrue}
use Rattle.journal.specs.Ahead.{IsAheadIn}
use Rattle.shop_core.specs.File.Files.{IsSoundUpTo, furthest_gate}
use Rattle.shop_core.proofs.file.reading.read_frames.Given as goal

abbrev pub invariant-loop : goal.invariant-loop
invariant-loop g l = record {
  issuer : l.state.issuer ≡ l.fn.issuer;
  version : l.state.version ≡ l.fn.version;
  count : length l.state.entries ≡ l.counter;
  place : l.at ≤ furthest_gate l.state.entries;
  sound : IsTrue g.D.Disk.tells → IsSoundUpTo l.state.version l.state.issuer l.state.entries l.at
      (g.D.Disk.on_disk l.fn.disk).content;
  ahead : IsTrue g.D.Disk.tells → IsAheadIn (g.D.Disk.on_disk l.fn.disk).content l.ahead;
  same : g.D.Disk.on_disk l.disk ≡ g.D.Disk.on_disk l.fn.disk;
  later : g.D.Disk.faults l.fn.disk ≤ g.D.Disk.faults l.disk;
}
