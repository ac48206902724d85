-- What goes to a longer history is only appended to.
use Rattle.std.proofs.Common.{◌≡◌, ℕ, List, sym, subst, Bool, IsTrue, None}
use Rattle.chain_disk.specs.OnDisk.{IsImage, LeavesOnly, OnDisk}
use Rattle.chain_disk.specs.Runs.{weaker}
use Rattle.chain_store.proofs.Fronts.{front_of_whole}
use Rattle.chain_store.specs.Crashes.{StandsBetween}
use Rattle.journal.proofs.Appends.{appends_by}
use Rattle.journal.specs.Written.{AppendsFrom, KeepsFront}
use Rattle.standby.specs.Chains.{ChainOnDisk, GoesTo, IsAppended, IsSoundChain, longest}

module _ {D : Type 0} (tells : Bool) (on_disk : D → OnDisk) (faults : D → ℕ) where
  pub goes_appended : (old new : ChainOnDisk D) → IsSoundChain tells on_disk faults old → GoesTo tells on_disk faults old new →
      (IsTrue tells → IsImage (on_disk new.disk).now (on_disk new.disk).content) → IsAppended tells on_disk old new
  goes_appended old new s g image = λ going says.
      let h = old.history in
      let t = on_disk old.disk in
      let holds = s.ready.holds going says in
      let each : LeavesOnly t (on_disk new.disk) (KeepsFront old.gate t.content) =
      weaker t (on_disk new.disk) (StandsBetween h.version h.issuer h.entries (longest new)) (KeepsFront old.gate t.content)
      (g.since says) (λ c b. subst (λ (gate : ℕ). KeepsFront gate t.content c) (sym holds.file.place)
      (front_of_whole h.version h.issuer h.entries b.history t.content c b.begins holds.file.file b.stands.frames)) in
      appends_by old.gate t (on_disk new.disk) each (image says)
