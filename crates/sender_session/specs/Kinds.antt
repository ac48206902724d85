-- What contracts say of the kinds of a shop's devices and of its agency.
use Rattle.std.specs.Prelude.{ℕ, Bool, Option}
use Rattle.ports.specs.declared.Clock as clock
use Rattle.chain_disk.specs.OnDisk.{OnDisk}
use Rattle.chain_disk.specs.declared.disk.Disk as disk
use Rattle.agency_port.specs.declared.agency.Agency as agency
use Rattle.sender.specs.Turning.{AgencyState, AgencyKind}

-- what contracts say of the store's devices: whether its disk tells, what it tells, its count of faults, and the clock's coming
-- answers
pub record StoreKind (D C : Type 0) : Type 0 where
  pub tells : Bool
  pub on_disk : D → OnDisk
  pub faults : D → ℕ
  pub coming : C → ℕ → Option ℕ

abbrev pub store_kind : {D C : Type 0} → disk.Ghosts D → clock.Ghosts C → StoreKind D C
store_kind d c = record { tells = d.tells; on_disk = d.on_disk; faults = d.faults; coming = c.coming }

-- what contracts say of a kind of agency, and of an agency of it
abbrev pub agency_kind : {G : Type 0} → agency.Ghosts G → AgencyKind
agency_kind kind = record { tells = kind.tells; keeps_rules = kind.keeps_rules }

abbrev pub agency_state_of : {G : Type 0} → agency.Ghosts G → G → AgencyState
agency_state_of kind agency = record { ledger = kind.ledger agency; faults = kind.faults agency }
