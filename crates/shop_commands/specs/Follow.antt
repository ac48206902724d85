-- How `follow` ends, and what it leaves of the copy.
use Rattle.std.specs.Prelude.{◌≡◌, ◌⊎◌, ◌+◌, ◌≤◌, ℕ, List, [], length, Bool, IsTrue, Result, Ok, Err}
use Rattle.chain_disk.specs.Disks.{DiskRose, Disks}
use Rattle.chain_disk.specs.OnDisk.{IsImage, LeavesNow, LeavesOnly, OnDisk, synced}
use Rattle.chain_store.specs.Crashes.{StandsBetween}
use Rattle.chain_store.specs.Losing.{NeverLoses}
use Rattle.chain_store.specs.Opening.{IsFound}
use Rattle.chain_store.specs.declared.causes.LoadFault.{LoadFault}
use Rattle.chain_store.specs.declared.causes.LoadFault.TheVariants as load
use Rattle.standby.specs.declared.causes.StandbyCause.{StandbyCause}
use Rattle.standby.specs.declared.causes.StandbyCause.TheVariants as cause
use Rattle.standby.specs.Chains.{ChainOnDisk}
use Rattle.journal.specs.File.{IsNotBegun}
use Rattle.ports.specs.Causes.{Rose}
use Rattle.ports.specs.Sinks.{Sinks, WroteNothing}
use Rattle.record_fields.specs.declared.versions.Version.{Version}
use Rattle.record_codec.specs.declared.entry.Entry.{Entry}
use Rattle.report.specs.Follows.{followed_text}
use Rattle.report.specs.declared.status.Detail.{Detail}
use Rattle.report.specs.declared.status.Detail.TheVariants as detail
use Rattle.shop_core.specs.File.Files.{IsDamagedFile, StandsFor}
use Rattle.shop_core.specs.Prefix.{IsPrefix}
use Rattle.standby.specs.Catching.{IsFirstApart}
use Rattle.file_commands.specs.Output.{PrintEnds}
use Rattle.shop_drain.specs.Devices.{AllDevices, NobodyCalled, OnlyReadsFile}
use Rattle.shop_commands.specs.Further.{Further}
use Rattle.shop_commands.specs.Migrate.{OnePost, disk_of_post}
use Rattle.shop_drain.specs.declared.posts.Post.{Post}

-- the end that a file which can't be loaded comes to
abbrev pub load_end : LoadFault → Detail
load_end load.DiskFault = detail.DiskFault
load_end (load.Damaged at) = detail.Damaged at
load_end load.NoMemory = detail.NoMemory

-- the end that a copy which can't be opened comes to
abbrev pub start_end : StandbyCause → Detail
start_end cause.DiskFault = detail.DiskFault
start_end (cause.Damaged at) = detail.Damaged at
start_end (cause.OtherIssuer held) = detail.Parted 0
start_end (cause.OtherVersion held) = detail.Parted 0
start_end cause.NoMemory = detail.NoMemory

-- the line of these counts was printed, or there was no memory for it
abbrev pub CountsPrinted : ℕ → ℕ → Sinks → Detail → Type 0
CountsPrinted kept entries s end =
    PrintEnds (followed_text kept entries) detail.Done s end ⊎ ((end ≡ detail.NoMemory) × WroteNothing s)

-- a copy of this history next to a file that isn't begun: it has an entry, or the line of no entries was printed
abbrev pub BesideNothing : List Entry → Sinks → Detail → Type 0
BesideNothing entries s end =
    ((1 ≤ length entries) × (end ≡ detail.Parted 1) × WroteNothing s) ⊎ ((length entries ≡ 0) × CountsPrinted 0 0 s end)

-- The copy stands for the history of the file, and each crash from now on leaves that. It had a front of it before, and was
-- given this many entries, so that it has this many.
pub record HasFollowed {D : Type 0} (file new : Disks D) (kept entries : ℕ) : Type 0 where
  pub version : Version
  pub issuer : List ℕ
  pub history : List Entry
  pub copy : List Entry
  pub stands : IsTrue file.tells → StandsFor version issuer history (file.on_disk file.disk).content
  pub found : IsTrue new.tells → IsFound version version issuer copy (new.on_disk new.disk).content
  pub front : IsPrefix copy history
  --= After 0 of `follow` the copy has as many entries more as it was given, and so as many as the file.
  --= No body: it is of `catch_up`
  pub kept_is : length copy + kept ≡ length history
  pub entries_are : entries ≡ length history
  pub reads : IsTrue new.tells → StandsFor version issuer history (new.on_disk new.disk_after).content
  --= After 0 of `follow` each crash from now on leaves a copy with the file's whole history.
  --= No body: it is of `catch_up`, over `standby/Standby::arrive.arrives`
  pub every_crash : IsTrue new.tells → LeavesNow (new.on_disk new.disk_after) (StandsFor version issuer history)

-- a file without an entry: it isn't begun, or it stands for an empty history
abbrev pub HasNoEntry : List ℕ → Type 0
HasNoEntry file = IsNotBegun file ⊎ ((version : Version) × (issuer : List ℕ) × StandsFor version issuer [] file)

-- How the copy isn't of the file: the file isn't begun and the copy has an entry (1); issuer or version differ (0); or the copy has
-- an entry, of this number from 1, that isn't the file's.
--= `follow` tells 17 with 0 where issuer or version differ, and else with the first entry of the copy, from 1, that
--= isn't the file's.
--= No body: it is of `standby/Standby::arrive.arrives`
pub data IsParted (file new : List ℕ) : ℕ → Type 0 where
  of_nothing : (version : Version) (issuer : List ℕ) (copy : List Entry) → IsNotBegun file →
      StandsFor version issuer copy new → 1 ≤ length copy → IsParted file new 1
  of_other : (version another : Version) (issuer other : List ℕ) (history copy : List Entry) →
      StandsFor version issuer history file → StandsFor another other copy new →
      ((another ≡ version) × (other ≡ issuer) → ⊥) → IsParted file new 0
  at_entry : (version : Version) (issuer : List ℕ) (history copy : List Entry) (at : ℕ) →
      StandsFor version issuer history file → StandsFor version issuer copy new → IsFirstApart history copy at →
      IsParted file new (at + 1)

-- what became of a copy that was opened next to this history: it has all of it, and each crash from now on leaves that; or it has
-- an entry of its own, or its disk failed, or memory ran out
abbrev pub BringsUp : {D : Type 0} → Bool → (D → OnDisk) → (D → ℕ) → Version → List ℕ → List Entry → ChainOnDisk D → D →
    Result ℕ Detail → Type 0
BringsUp tells on_disk faults version issuer history old disk (Ok kept) =
    IsPrefix old.history.entries history × (length old.history.entries + kept ≡ length history)
    × (IsTrue tells → LeavesNow (on_disk disk) (StandsFor version issuer history))
BringsUp tells on_disk faults version issuer history old disk (Err end) =
    ((at : ℕ) × IsFirstApart history old.history.entries at × (end ≡ detail.Parted (at + 1)) × (disk ≡ old.disk))
    ⊎ ((end ≡ detail.DiskFault) × Rose (faults old.disk) (faults disk))
    ⊎ (end ≡ detail.NoMemory)

-- no call of its disk was made; or it is a front of this history, each crash since leaves one that begins with it, and what was made
-- sure of at any moment stays
abbrev pub LeftOrFollowed : {D : Type 0} → Bool → (D → OnDisk) → List Entry → ChainOnDisk D → D → Type 0
LeftOrFollowed tells on_disk history old disk =
    (disk ≡ old.disk)
    ⊎ (IsPrefix old.history.entries history × (IsTrue tells → LeavesOnly (on_disk old.disk) (on_disk disk)
    (StandsBetween old.history.version old.history.issuer old.history.entries history))
    × (IsTrue tells → NeverLoses (on_disk old.disk) (on_disk disk)))

-- a file that isn't damaged
abbrev pub IsUndamaged : List ℕ → Type 0
IsUndamaged file = IsNotBegun file
    ⊎ ((version : Version) × (issuer : List ℕ) × (history : List Entry) × StandsFor version issuer history file)

-- nothing was written: the disk is as it was, or was synced
abbrev pub IsSyncedAtMost : OnDisk → OnDisk → Type 0
IsSyncedAtMost old new = (new ≡ old) ⊎ (new ≡ synced old)

-- The copy was brought up to the file, and the counts were printed; or there was nothing to follow; or one of the two is damaged,
-- the file first; or the copy isn't of the file; or one of the disks failed, or memory ran out.
pub data FollowEnds {D : Type 0} (s : Sinks) (file new : Disks D) : Detail → Type 0 where
  followed : (kept entries : ℕ) (end : Detail) → HasFollowed file new kept entries →
      PrintEnds (followed_text kept entries) detail.Done s end → FollowEnds s file new end
  nothing : (end : Detail) → (IsTrue file.tells → IsNotBegun (file.on_disk file.disk).content) →
      (IsTrue new.tells → HasNoEntry (new.on_disk new.disk).content) → PrintEnds (followed_text 0 0) detail.Done s end →
      FollowEnds s file new end
  file_damaged : (at : ℕ) → (IsTrue file.tells → IsDamagedFile (file.on_disk file.disk).content at) → WroteNothing s →
      FollowEnds s file new (detail.Damaged at)
  copy_damaged : (at : ℕ) → (IsTrue file.tells → IsUndamaged (file.on_disk file.disk).content) →
      (IsTrue new.tells → IsDamagedFile (new.on_disk new.disk).content at) → WroteNothing s →
      FollowEnds s file new (detail.Damaged at)
  parted : (entry : ℕ) →
      (IsTrue file.tells → IsTrue new.tells → IsParted (file.on_disk file.disk).content (new.on_disk new.disk).content entry) →
      (IsTrue new.tells → IsSyncedAtMost (new.on_disk new.disk) (new.on_disk new.disk_after)) → WroteNothing s →
      FollowEnds s file new (detail.Parted entry)
  disk_fault : DiskRose file ⊎ DiskRose new → WroteNothing s → FollowEnds s file new detail.DiskFault
  no_memory : WroteNothing s → FollowEnds s file new detail.NoMemory

-- What a crash at a moment of following leaves of the copy: an image of the start; a file not begun, where it wasn't begun; or
-- one that stands for a front of the history, which begins with what the copy had.
pub data IsFollowImage (version : Version) (issuer : List ℕ) (history : List Entry) (start : OnDisk) (file : List ℕ) : Type 0 where
  as_before : IsImage start.now file → IsFollowImage version issuer history start file
  not_begun : IsNotBegun start.content → IsNotBegun file → IsFollowImage version issuer history start file
  front : (copy : List Entry) → IsFound version version issuer copy start.content →
      StandsBetween version issuer copy history file → IsFollowImage version issuer history start file

-- What is left of the copy. Where the file isn't begun nothing is written; else each crash since the start leaves such an image.
pub record OnlyFollowed {D : Type 0} (file new : Disks D) : Type 0 where
  --= Where the file isn't begun `follow` writes nothing.
  pub nothing : IsTrue file.tells → IsTrue new.tells → IsNotBegun (file.on_disk file.disk).content →
      new.on_disk new.disk_after ≡ new.on_disk new.disk
  pub damaged : (at : ℕ) → IsTrue file.tells → IsTrue new.tells → IsDamagedFile (file.on_disk file.disk).content at →
      new.on_disk new.disk_after ≡ new.on_disk new.disk
  pub images : (version : Version) (issuer : List ℕ) (history : List Entry) → IsTrue file.tells → IsTrue new.tells →
      StandsFor version issuer history (file.on_disk file.disk).content →
      LeavesOnly (new.on_disk new.disk) (new.on_disk new.disk_after) (IsFollowImage version issuer history (new.on_disk new.disk))
  --= What was made sure of in the copy at any moment of `follow` stays.
  pub never_loses : IsTrue new.tells → NeverLoses (new.on_disk new.disk) (new.on_disk new.disk_after)

-- the one further file is what following may leave of it
pub record OnlyFollows {D C Z G : Type 0} (k : Disks D) (f : Further D C Z G) : Type 0 where
  pub post : Post D C Z G
  pub after : Post D C Z G
  pub posts : OnePost f post after
  pub follows : OnlyFollowed k (disk_of_post k post after)

-- the one further file followed the first one, and how that ended
pub record FollowsPost {D C Z G : Type 0} (s : Sinks) (k : Disks D) (f : Further D C Z G) (end : Detail) : Type 0 where
  pub only : OnlyFollows k f
  pub ends : FollowEnds s k (disk_of_post k only.post only.after) end

-- what `follow` did, and how it ended: it only reads the first file, and calls nobody
pub record FollowRan {D C Z G : Type 0} (a : AllDevices D C Z G) (f : Further D C Z G) (end : Detail) : Type 0 where
  pub follows : FollowsPost a.devices.sink a.devices.disk f end
  pub reads : OnlyReadsFile a.devices
  pub nobody : NobodyCalled a
