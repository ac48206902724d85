-- How `guard` ends, and what it leaves of the file and of its copy.
use Rattle.std.specs.Prelude.{◌≡◌, ◌⊎◌, ℕ, ◌+◌, ◌<◌, ◌≤◌, ◌++◌, List, Bool, IsTrue, IsSome, None}
use Rattle.agency_rules.specs.declared.plans.Plan.{Plan}
use Rattle.chain_disk.specs.Disks.{DiskRose, Disks, LeftDisk}
use Rattle.chain_disk.specs.OnDisk.{LeavesNow, LeavesOnly, OnDisk, synced}
use Rattle.chain_store.specs.Clocks.{Clocks, LeftClock}
use Rattle.chain_store.specs.Losing.{NeverLoses}
use Rattle.chain_store.specs.Opening.{IsFound as IsCopyFound}
use Rattle.ports.specs.Sinks.{Sinks, WroteNothing}
use Rattle.record_codec.specs.declared.entry.Entry.{Entry}
use Rattle.record_fields.specs.declared.versions.Version.{Version}
use Rattle.recovery.specs.Opening.{IsFound}
use Rattle.report.specs.declared.status.Detail.{Detail}
use Rattle.report.specs.declared.status.Detail.TheVariants as detail
use Rattle.script.specs.declared.forms.Form.TheVariants.{NoCommands}
use Rattle.script.specs.declared.scripts.Script.{Script}
use Rattle.sender.specs.declared.draining.TheConstants.{MAX_LINK_FAULTS}
use Rattle.shop_core.specs.File.Files.{IsDamagedFile, StandsFor}
use Rattle.shop_core.specs.Prefix.{IsPrefix}
use Rattle.standby.specs.Catching.{IsFirstApart}
use Rattle.standby.specs.Chains.{ChainOnDisk}
use Rattle.shop_drain.specs.Crashes.{IsFoundSince, StandsSince}
use Rattle.shop_drain.specs.Devices.{Agencies, AllDevices, LeftAll, LeftSleeper, Sleepers, around, first_moment, tells_moment}
use Rattle.shop_commands.specs.Further.{Further}
use Rattle.shop_drain.specs.Draining.{AgreesAtStart, DiskSpan, Outcome, spanning}
use Rattle.shop_commands.specs.Drain.{AllLeft, NothingRose, drain_text, file_span}
use Rattle.command_ends.specs.DrainEnds.{DrainRunEnds}
use Rattle.shop_commands.specs.Follow.{IsFollowImage, IsSyncedAtMost}
use Rattle.shop_drain.specs.Guarding.{GuardDrains, Held}
use Rattle.shop_commands.specs.Migrate.{OnePost, disk_of_post}
use Rattle.shop_drain.specs.Opening.{NotOpened}
use Rattle.command_ends.specs.Scripts.{ScriptedEnds}
use Rattle.shop_drain.specs.declared.posts.Post.{Post}
use Rattle.ports.specs.Causes.{greatest_u64}

-- What a crash at a moment of a run leaves of the copy: what it left at the start, or a file that stands for a front of the history
-- at the end, with the torn notes, which begins with what the copy had.
abbrev pub GuardImage : Version → List ℕ → OnDisk → List Entry → List Entry → List Entry → List ℕ → Type 0
GuardImage version issuer first start end torn file = IsFollowImage version issuer (end ++ torn) first file

-- a disk from the start on
abbrev pub whole_span : {D : Type 0} → Disks D → DiskSpan
whole_span l = record {
  tells = l.tells;
  since = l.on_disk l.disk;
  now = l.on_disk l.disk_after;
  faults = l.faults l.disk;
  faults_after = l.faults l.disk_after;
}

-- The copy has the whole history of the file. It had a front of it, and each crash since the start leaves what following may leave.
-- What was made sure of at any moment stays.
pub record IsCopied {D : Type 0} (tells : Bool) (on_disk : D → OnDisk) (faults : D → ℕ) (version : Version) (issuer : List ℕ)
    (history : List Entry) (disk : D) (standby : ChainOnDisk D) : Type 0 where
  pub copy : List Entry
  pub found : IsTrue tells → IsCopyFound version version issuer copy (on_disk disk).content
  pub front : IsPrefix copy history
  pub issuer_is : standby.history.issuer ≡ issuer
  pub version_is : standby.history.version ≡ version
  pub entries_are : standby.history.entries ≡ history
  pub going_on : standby.stopped ≡ None
  pub any_moment : IsTrue tells →
      LeavesOnly (on_disk disk) (on_disk standby.disk) (IsFollowImage version issuer history (on_disk disk))
  pub never_loses : IsTrue tells → NeverLoses (on_disk disk) (on_disk standby.disk)
  pub later : faults disk ≤ faults standby.disk

-- How a sound copy isn't of the history that the file stands for: issuer or version differ (0); or it has an entry, of this number
-- from 1, that isn't the file's.
pub data IsPartedFrom (version : Version) (issuer : List ℕ) (history : List Entry) (copy : List ℕ) : ℕ → Type 0 where
  of_other : (another : Version) (other : List ℕ) (entries : List Entry) → StandsFor another other entries copy →
      ((another ≡ version) × (other ≡ issuer) → ⊥) → IsPartedFrom version issuer history copy 0
  at_entry : (entries : List Entry) (at : ℕ) → StandsFor version issuer entries copy → IsFirstApart history entries at →
      IsPartedFrom version issuer history copy (at + 1)

-- why the copy wasn't brought up to this history
--= `guard` drains nothing where NEW is damaged (7), is of another issuer or version or has an entry of its own
--= (17), or its disk's count rose (6).
--= No body: it is of `catch_up`
pub data IsUncopied {D : Type 0} (version : Version) (issuer : List ℕ) (history : List Entry) (l : Disks D) : Detail → Type 0 where
  damaged : (at : ℕ) → (IsTrue l.tells → IsDamagedFile (l.on_disk l.disk).content at) →
      (IsTrue l.tells → IsSyncedAtMost (l.on_disk l.disk) (l.on_disk l.disk_after)) →
      IsUncopied version issuer history l (detail.Damaged at)
  parted : (entry : ℕ) → (IsTrue l.tells → IsPartedFrom version issuer history (l.on_disk l.disk).content entry) →
      (IsTrue l.tells → IsSyncedAtMost (l.on_disk l.disk) (l.on_disk l.disk_after)) →
      IsUncopied version issuer history l (detail.Parted entry)
  disk_fault : DiskRose l → IsUncopied version issuer history l detail.DiskFault
  no_memory : IsUncopied version issuer history l detail.NoMemory

-- it wasn't, and what each crash since the start leaves of it; what was made sure of at any moment stays
pub record LeftUncopied {D : Type 0} (version : Version) (issuer : List ℕ) (history : List Entry) (l : Disks D) (end : Detail) :
    Type 0 where
  pub why : IsUncopied version issuer history l end
  pub images : IsTrue l.tells →
      LeavesOnly (l.on_disk l.disk) (l.on_disk l.disk_after) (IsFollowImage version issuer history (l.on_disk l.disk))
  pub never_loses : IsTrue l.tells → NeverLoses (l.on_disk l.disk) (l.on_disk l.disk_after)
  pub later : l.faults l.disk ≤ l.faults l.disk_after

-- The file was opened, its copy wasn't brought up to it, nothing was printed, and the rest wasn't touched. The file stands for the
-- history that it stood for, and so does each that a crash leaves. What was made sure of at any moment since the opening's sync stays.
pub record NotCopied {D : Type 0} (issuer : List ℕ) (left : Type 0) (s : Sinks) (k l : Disks D) (end : Detail) : Type 0 where
  pub version : Version
  pub start : List Entry
  pub found : IsTrue k.tells → IsFound version issuer start (k.on_disk k.disk).content
  pub any_moment : IsTrue k.tells →
      LeavesOnly (synced (k.on_disk k.disk)) (k.on_disk k.disk_after) (IsFoundSince (k.on_disk k.disk).content version issuer start)
  pub never_loses : IsTrue k.tells → NeverLoses (synced (k.on_disk k.disk)) (k.on_disk k.disk_after)
  --= Where `guard` couldn't bring NEW up, each crash leaves the history that was found in the file.
  --= No body: it is of `open`
  pub every_crash : IsTrue k.tells → LeavesNow (k.on_disk k.disk_after) (StandsFor version issuer start)
  pub reads : IsTrue k.tells → StandsFor version issuer start (k.on_disk k.disk_after).content
  pub later : k.faults k.disk ≤ k.faults k.disk_after
  pub copy : LeftUncopied version issuer start l end
  pub wrote : WroteNothing s
  pub rest : left

-- The file was opened, its copy brought up to it, and both were drained, from the history that the file stood for.
pub record FileGuarded {D G : Type 0} (issuer : List ℕ) (plan : Plan) (exact : Bool) (moment : ℕ) (s : Sinks) (k l : Disks D)
    (a : Agencies G) (end : Detail) : Type 0 where
  pub version : Version
  pub start : List Entry
  pub found : IsTrue k.tells → IsFound version issuer start (k.on_disk k.disk).content
  -- what the copy had
  pub copy : List Entry
  pub copy_found : IsTrue l.tells → IsCopyFound version version issuer copy (l.on_disk l.disk).content
  pub front : IsPrefix copy start
  -- what both hold, what the file has and what the copy has at the end
  pub outcome : Outcome
  pub file_held : Held
  pub copy_held : Held
  --= `guard` drains file and copy from equal histories, by the definition of a drain.
  --= No body: it is of `guard_opened`
  pub drains : GuardDrains (StandsSince (k.on_disk k.disk).content version issuer) (GuardImage version issuer (l.on_disk l.disk))
      a.begun plan version issuer
      (file_span k) (whole_span l) (spanning start a.kind a.before a.after exact moment outcome) file_held copy_held
  -- the text, and the end by the answer and the sink
  pub ends : DrainRunEnds outcome.answer (drain_text outcome.turns file_held.entries) s end
  -- it is undelivered only where lines are missing and the agency failed eight times
  pub undelivered : (noted_count records_count : ℕ) → end ≡ detail.Undelivered noted_count records_count →
      (noted_count < records_count) × (a.after.faults < greatest_u64 → a.before.faults + MAX_LINK_FAULTS ≤ a.after.faults)
  --= Where no device fails, and the agency keeps its rules and agrees, `guard` ends with 0 or out of memory.
  --= No body: it is of all that the command calls
  pub complete : NothingRose s k a → (DiskRose l → ⊥) → IsTrue a.kind.keeps_rules → AgreesAtStart a start →
      (end ≡ detail.Done) ⊎ (end ≡ detail.NoMemory)

-- the file couldn't be opened; or its copy wasn't brought up to it; or both were drained, by a sleeper that has this moment at the
-- start, where it tells it
abbrev pub GuardsFile : {D C Z G : Type 0} → List ℕ → Plan → Bool → ℕ → Sinks → Disks D → Disks D → Clocks C → Sleepers Z →
    Agencies G → Detail → Type 0
GuardsFile issuer plan exact moment s k l t z a end =
    NotOpened issuer (AllLeft t z a × LeftDisk l) s k end ⊎ NotCopied issuer (AllLeft t z a) s k l end
    ⊎ FileGuarded issuer plan exact moment s k l a end

pub record FileGuardEnds {D C Z G : Type 0} (issuer : List ℕ) (plan : Plan) (s : Sinks) (k l : Disks D) (t : Clocks C)
    (z : Sleepers Z) (a : Agencies G) (end : Detail) : Type 0 where
  pub ends : GuardsFile issuer plan z.tells (z.moment z.sleeper) s k l t z a end
  --= `guard` doesn't read the clock.
  --= No body: it is of `shop_drain/guard_opened.clock`
  pub clock : LeftClock t

-- what `guard` did with a script
pub record ScriptGuardEnds {D C Z G : Type 0} (issuer : List ℕ) (script : Script) (s : Sinks) (k l : Disks D) (t : Clocks C)
    (z : Sleepers Z) (a : Agencies G) (end : Detail) : Type 0 where
  pub ends : GuardsFile issuer script.plan (tells_moment script.clock z) (first_moment script.clock z) s k l t z a end
  pub clock : LeftClock t
  -- a clock line replaces the sleeper too
  pub sleeper : IsSome script.clock → LeftSleeper z
  pub risen : end ≡ detail.DiskFault → DiskRose k ⊎ DiskRose l

-- what `guard` did, and how it ended: the copy's file is on the disk `l`
abbrev pub GuardEnds : {D C Z G : Type 0} → List ℕ → AllDevices D C Z G → Disks D → Detail → Type 0
GuardEnds issuer a l end = ScriptedEnds NoCommands a.devices.source (LeftAll (around a) × LeftDisk l)
    (λ (script : Script) (how : Detail).
    ScriptGuardEnds issuer script a.devices.sink a.devices.disk l a.devices.clock a.sleeper a.agency how) end

-- the copy is the one further file
pub record GuardRan {D C Z G : Type 0} (issuer : List ℕ) (a : AllDevices D C Z G) (f : Further D C Z G) (end : Detail) :
    Type 0 where
  pub post : Post D C Z G
  pub after : Post D C Z G
  pub posts : OnePost f post after
  pub ends : GuardEnds issuer a (disk_of_post a.devices.disk post after) end
