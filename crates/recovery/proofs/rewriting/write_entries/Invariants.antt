use Rattle.std.proofs.Common.{◌≤◌, ◌+◌, ◌*◌, IsTrue, take}
use Rattle.chain_disk.specs.OnDisk.{LeavesOnly}
use Rattle.journal.specs.File.{framed}
use Rattle.record_fields.specs.declared.versions.Version.TheVariants.{Two}
use Rattle.shop_core.specs.File.Files.{bodies_of}
use Rattle.recovery.specs.Moving.{IsHeldShut, IsWriting}
use Rattle.recovery.proofs.rewriting.write_entries.Given as goal

abbrev pub invariant-loop-index : goal.invariant-loop-index
invariant-loop-index g l = record {
  near : l.at ≤ 19 + 4101 * l.index;
  writing : IsTrue g.M.Disk.tells →
      IsWriting l.state.issuer (framed (bodies_of Two (take l.index l.state.entries))) l.at (g.M.Disk.on_disk l.disk);
  any_moment : IsTrue g.M.Disk.tells →
      LeavesOnly (g.M.Disk.on_disk l.fn.disk) (g.M.Disk.on_disk l.disk) (IsHeldShut l.state.issuer);
  later : g.M.Disk.faults l.fn.disk ≤ g.M.Disk.faults l.disk;
}
