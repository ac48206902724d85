-- One call of a store, by the parts that a shop's lock guards.
use Rattle.std.proofs.Common.{ℕ, Bool, Option}
use Rattle.chain_disk.specs.OnDisk.{OnDisk}
use Rattle.chain_store.specs.Ready.{StoreCall}
use Rattle.till_calls.specs.Root.{Parts}

abbrev pub call_of : {D C : Type 0} → Bool → (D → OnDisk) → (C → ℕ → Option ℕ) → Parts D C → Parts D C → StoreCall
call_of tells on_disk coming p q = record {
  old = p.state;
  new = q.state;
  coming = coming p.clock;
  coming_after = coming q.clock;
  tells = tells;
  disk = on_disk p.disk;
  disk_after = on_disk q.disk;
}
