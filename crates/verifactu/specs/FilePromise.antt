-- The promise's part on one file: for whom a command may write it, and what it is afterwards, with its tills and its agency.
use Rattle.std.specs.Prelude.{◌≡◌, ◌⊎◌, ℕ, List, [], ◌∷◌, IsTrue, Option, Some, None}
use Rattle.chain_disk.specs.OnDisk.{IsSyncFailed, OnDisk, synced}
use Rattle.record_fields.specs.declared.versions.Version.{Version}
use Rattle.record_fields.specs.declared.versions.Version.TheVariants.{Two}
use Rattle.record_codec.specs.declared.entry.Entry.{Entry}
use Rattle.journal.specs.File.{IsNotBegun}
use Rattle.shop_core.specs.File.Files.{IsDamagedFile, StandsFor}
use Rattle.recovery.specs.Opening.{IsFound}
use Rattle.shop_drain.specs.Devices.{AllDevices, NobodyCalled}
use Rattle.verifactu.specs.declared.command_line.Command.{Command}
use Rattle.verifactu.specs.declared.command_line.Command.TheVariants.{Chain, Day, Drain, Serve, Guard, Many}
use Rattle.verifactu.specs.ChainPromise.{ChainGoesOn}
use Rattle.verifactu.specs.TillPromise.{TillsGain}
use Rattle.verifactu.specs.AgencyPromise.{AgencyKept, BatchesKept}

-- the first of several issuers
abbrev pub first_of : List (List ℕ) → Option (List ℕ)
first_of [] = None
first_of (issuer ∷ issuers) = Some issuer

-- the issuer whose file a command may write, of several the first; the other commands write none
abbrev pub writes_for : Option Command → Option (List ℕ)
writes_for (Some (Chain issuer)) = Some issuer
writes_for (Some (Day issuer)) = Some issuer
writes_for (Some (Drain issuer)) = Some issuer
writes_for (Some (Serve issuer)) = Some issuer
writes_for (Some (Guard issuer)) = Some issuer
writes_for (Some (Many issuers)) = first_of issuers
writes_for _ = None

-- a file that may be written for this issuer: it isn't begun, or it stands for a legal history of this issuer
abbrev pub IsOwn : Option (List ℕ) → List ℕ → Type 0
IsOwn None file = ⊥
IsOwn (Some issuer) file = (version : Version) × (entries : List Entry) × IsFound version issuer entries file

-- the disk was synced at most: nothing was written
abbrev pub IsUnwritten : OnDisk → OnDisk → Type 0
IsUnwritten old new = IsSyncFailed old new ⊎ (new ≡ synced old)

-- what a run made of the history that its file stood for: the history at the end, and the entry whose writing was under way
pub record Grows {D C Z G : Type 0} (version : Version) (issuer : List ℕ) (start : List Entry) (a : AllDevices D C Z G) : Type 0 where
  pub end : List Entry
  pub torn : List Entry
  pub chain : ChainGoesOn version issuer start end torn a.devices.disk
  pub tills : TillsGain a.devices.source start end
  pub agency : AgencyKept start end torn a.agency
  pub batches : BatchesKept start end a.agency

-- A file and what goes with it, where its disk tells what it holds. Whoever's legal history it stood for, whatever ran has
-- taken that history further, or left it. A file that isn't begun is an empty history of the issuer that the run may write for.
-- Every other file is as it was, a damaged one too; so is one of another issuer, and each file where the run may write for
-- nobody, which then calls no agency either.
pub record FileKept {D C Z G : Type 0} (writes : Option (List ℕ)) (a : AllDevices D C Z G) : Type 0 where
  --= Whatever legal chain the file stood for, whatever ran has taken it further or left it.
  --= No body: it is made of the parts below, each with its own
  pub sound : IsTrue a.devices.disk.tells → (version : Version) (issuer : List ℕ) (start : List Entry) →
      StandsFor version issuer start (a.devices.disk.on_disk a.devices.disk.disk).content → Grows version issuer start a
  --= A file that is not begun is the empty chain of the issuer that the words name.
  --= No body: as for a file that is begun
  pub fresh : IsTrue a.devices.disk.tells → (issuer : List ℕ) → writes ≡ Some issuer →
      IsNotBegun (a.devices.disk.on_disk a.devices.disk.disk).content → Grows Two issuer [] a
  --= Every other file stays as it was, synced at most: a damaged one and another issuer's among them.
  --= No body: it is of `open_journal`: `chain_store/open_journal.left` and `chain_store/open_journal.unwritten`
  pub others : IsTrue a.devices.disk.tells → (IsOwn writes (a.devices.disk.on_disk a.devices.disk.disk).content → ⊥) →
      IsUnwritten (a.devices.disk.on_disk a.devices.disk.disk) (a.devices.disk.on_disk a.devices.disk.disk_after)
  --= A command that names no issuer, and a faulty command line, leaves all that the disk tells, and calls neither
  --= sleeper nor agency.
  --= No body: each command that reads calls no write of its disk
  pub reads : writes ≡ None →
      (a.devices.disk.on_disk a.devices.disk.disk_after ≡ a.devices.disk.on_disk a.devices.disk.disk) × NobodyCalled a

-- a damaged file may be written for nobody
--= A damaged file may be written for nobody.
--= No body: a law over definitions, which has no body
abbrev pub DamagedIsNotOwn : Type 0
DamagedIsNotOwn = (writes : Option (List ℕ)) (file : List ℕ) (at : ℕ) → IsDamagedFile file at → IsOwn writes file → ⊥

-- nor one of another issuer for this one
--= A file of another issuer may not be written.
--= No body: a law over definitions, which has no body
abbrev pub ForeignIsNotOwn : Type 0
ForeignIsNotOwn = (version : Version) (issuer held : List ℕ) (entries : List Entry) (file : List ℕ) →
    StandsFor version held entries file → (held ≡ issuer → ⊥) → IsOwn (Some issuer) file → ⊥
