use Rattle.std.proofs.Common.{◌≡◌, length}
use Rattle.chain_disk.proofs.Images.{AreFilled}
use Rattle.chain_disk.proofs.image.filled.Given as goal

abbrev pub invariant-loop-i : goal.invariant-loop-i
invariant-loop-i l = record {
  count : length l.c.items ≡ l.i;
  filled : AreFilled l.fill l.content (record {
    synced = l.synced;
    ranges = l.ranges;
  }) l.c.items;
}
