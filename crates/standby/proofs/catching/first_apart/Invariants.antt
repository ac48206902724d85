use Rattle.std.proofs.Common.{◌≡◌, ◌≤◌, length, take}
use Rattle.shop_core.specs.declared.limits.TheConstants.{MAX_ENTRIES}
use Rattle.standby.proofs.catching.first_apart.Given as goal

abbrev pub invariant-loop-index : goal.invariant-loop-index
invariant-loop-index l = record {
  end : l.index-end ≡ length l.copy.entries;
  few : l.index-end ≤ MAX_ENTRIES;
  same : take l.index l.copy.entries ≡ take l.index l.state.entries;
}
