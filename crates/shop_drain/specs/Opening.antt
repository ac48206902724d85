-- What a day's sender leaves of its shop and of its agency, and how a day ends.
use Rattle.std.specs.Prelude.{◌≡◌, ◌-◌, [], IsTrue, ◌≤◌, ℕ, List}
use Rattle.sender.specs.Turning.{AgencyState, AgencyKind}
use Rattle.ports.specs.Sinks.{Sinks, WroteNothing}
use Rattle.chain_disk.specs.Disks.{Disks, DiskRose, LeftDisk}
use Rattle.chain_store.specs.Losing.{NeverLoses}
use Rattle.chain_store.specs.declared.causes.OpenCause.{OpenCause}
use Rattle.chain_store.specs.declared.causes.OpenCause.TheVariants as cause
use Rattle.recovery.specs.Opening.{IsLeftUnopened, IsFound}
use Rattle.report.specs.declared.status.Detail.{Detail}
use Rattle.report.specs.declared.status.Detail.TheVariants as detail
use Rattle.chain_disk.specs.OnDisk.{LeavesNow, LeavesOnly, synced}
use Rattle.shop_core.specs.File.Files.{StandsFor}
use Rattle.till_calls.specs.Root.{Parts}
use Rattle.shop_drain.specs.Crashes.{IsFoundSince, KeepsFile}
use Rattle.sender_session.specs.Kinds.{StoreKind}

-- no session was opened
pub record IsUnbegun (kind : AgencyKind) (old new : AgencyState) : Type 0 where
  pub lists : IsTrue kind.tells → new.ledger ≡ old.ledger
  pub faults : new.faults ≡ old.faults

abbrev pub opening_end : OpenCause → Detail
opening_end cause.DiskFault = detail.DiskFault
opening_end (cause.Damaged at) = detail.Damaged at
opening_end (cause.OtherIssuer held) = detail.OtherIssuer held
opening_end cause.NoMemory = detail.NoMemory

-- there was no room for what was to come: nothing was printed, and neither the file nor the rest was touched
pub record NoRoom {D : Type 0} (left : Type 0) (s : Sinks) (k : Disks D) (end : Detail) : Type 0 where
  pub ends : end ≡ detail.NoMemory
  --= Where memory runs out for the script or for the replies nothing is printed, and neither file nor clock is
  --= touched.
  --= No body: each command makes room first
  pub wrote : WroteNothing s
  pub disk : LeftDisk k
  pub rest : left

-- the file wasn't opened, what was made sure of at any moment stays, nothing was printed, and the rest wasn't touched
pub record NotOpened {D : Type 0} (issuer : List ℕ) (left : Type 0) (s : Sinks) (k : Disks D) (end : Detail) : Type 0 where
  pub why : OpenCause
  pub ends : end ≡ opening_end why
  pub risen : why ≡ cause.DiskFault → DiskRose k
  --= 7 comes where the file is damaged at this byte, 13 where it is the chain of this other issuer, and 6 only
  --= where the disk's count of faults rose.
  --= No body: it is of `chain_store/open_journal.left`
  pub left_by : IsTrue k.tells → IsLeftUnopened issuer why (k.on_disk k.disk) (k.on_disk k.disk_after)
  pub never_loses : IsTrue k.tells → NeverLoses (k.on_disk k.disk) (k.on_disk k.disk_after)
  --= Where the file wasn't opened, the sync at the start failed, or each crash since it leaves the bytes that stood
  --= there, or, where these were no begun file, one that isn't begun or is begun and empty.
  --= No body: it is of `open_journal`: `chain_store/open_journal.left` and `chain_store/open_journal.unwritten`
  pub every_crash : IsTrue k.tells → KeepsFile issuer (k.on_disk k.disk) (k.on_disk k.disk_after)
  --= Where the file wasn't opened nothing is printed.
  --= No body: each command opens first, and prints by what it opened
  pub wrote : WroteNothing s
  pub rest : left

-- The file was opened: its store is this issuer's, with the history that the file stood for and its version, and the clock
-- wasn't read. Each crash since the sync at the opening leaves what was found, and what was made sure of at any moment since then
-- stays; now each crash leaves that history.
pub record IsOpened {D C : Type 0} (issuer : List ℕ) (h : StoreKind D C) (disk : D) (clock : C) (store : Parts D C) : Type 0 where
  pub issuer_is : store.state.issuer ≡ issuer
  pub clock_is : store.clock ≡ clock
  pub found : IsTrue h.tells → IsFound store.state.version issuer store.state.entries (h.on_disk disk).content
  --= Each crash since the sync that opening begins with leaves what was found: a file that isn't begun only where
  --= it wasn't at the start.
  pub any_moment : IsTrue h.tells →
      LeavesOnly (synced (h.on_disk disk)) (h.on_disk store.disk)
      (IsFoundSince (h.on_disk disk).content store.state.version issuer store.state.entries)
  pub never_loses : IsTrue h.tells → NeverLoses (synced (h.on_disk disk)) (h.on_disk store.disk)
  pub every_crash : IsTrue h.tells → LeavesNow (h.on_disk store.disk) (StandsFor store.state.version issuer store.state.entries)
  pub later : h.faults disk ≤ h.faults store.disk

-- it wasn't, and this is what the opening left of it
pub record IsUnopened {D : Type 0} (issuer : List ℕ) (why : OpenCause) (k : Disks D) : Type 0 where
  pub risen : why ≡ cause.DiskFault → DiskRose k
  pub left_by : IsTrue k.tells → IsLeftUnopened issuer why (k.on_disk k.disk) (k.on_disk k.disk_after)
  pub never_loses : IsTrue k.tells → NeverLoses (k.on_disk k.disk) (k.on_disk k.disk_after)
