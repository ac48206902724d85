-- How `migrate` ends.
use Rattle.std.specs.Prelude.{◌≡◌, ℕ, [], ◌∷◌, IsTrue}
use Rattle.chain_disk.specs.Disks.{Disks, this_disk}
use Rattle.chain_disk.specs.OnDisk.{LeavesNow}
use Rattle.chain_store.specs.Losing.{NeverLoses}
use Rattle.ports.specs.Sinks.{Sinks, WroteNothing}
use Rattle.recovery.specs.Causes.{IsMoveCause}
use Rattle.recovery.specs.Moving.{HasCounts, IsMoved, KeptUnlessFree, MayBeMoved, Moves}
use Rattle.recovery.specs.declared.moving.MoveCause.{MoveCause}
use Rattle.recovery.specs.declared.moving.MoveCause.TheVariants as cause
use Rattle.report.specs.Moves.{migrated_text}
use Rattle.report.specs.declared.status.Detail.{Detail}
use Rattle.report.specs.declared.status.Detail.TheVariants as detail
use Rattle.file_commands.specs.Output.{PrintEnds}
use Rattle.shop_drain.specs.Devices.{AllDevices, NobodyCalled, OnlyReadsFile}
use Rattle.shop_commands.specs.Further.{Further}
use Rattle.shop_drain.specs.declared.posts.Post.{Post}

-- the end that a cause comes to
abbrev pub move_end : MoveCause → Detail
move_end (cause.Damaged at) = detail.Damaged at
move_end (cause.NotOld held) = detail.NotOld held
move_end (cause.Occupied size) = detail.Occupied size
move_end cause.OldFault = detail.DiskFault
move_end cause.NewFault = detail.DiskFault
move_end cause.NoMemory = detail.NoMemory

-- The old file could be moved onto the new one. That stands for the history of the old one now, each crash from now on leaves
-- that, and these are its counts.
pub record HasMoved {D : Type 0} (old new : Disks D) (records noted : ℕ) : Type 0 where
  pub free : IsTrue old.tells → IsTrue new.tells → MayBeMoved (old.on_disk old.disk).content (new.on_disk new.disk).content
  pub counts : IsTrue old.tells → HasCounts (old.on_disk old.disk).content records noted
  --= After 0 and 5 of `migrate` each crash from now on leaves a new file that stands for the old one's history in
  --= version Two.
  --= No body: it is of `migrate_counted`: `recovery/MovedOnto.every_crash`
  pub every_crash : IsTrue old.tells → IsTrue new.tells →
      LeavesNow (new.on_disk new.disk_after) (IsMoved (old.on_disk old.disk).content)
  pub reads : IsTrue old.tells → IsTrue new.tells → IsMoved (old.on_disk old.disk).content (new.on_disk new.disk_after).content

-- the history was moved, and its counts were printed; or it wasn't moved, for this cause
pub data MigrateEnds {D : Type 0} (s : Sinks) (old new : Disks D) : Detail → Type 0 where
  moved : (records noted : ℕ) (end : Detail) → HasMoved old new records noted →
      PrintEnds (migrated_text records noted) detail.Done s end → MigrateEnds s old new end
  untold : (records noted : ℕ) → HasMoved old new records noted → WroteNothing s → MigrateEnds s old new detail.NoMemory
  not_moved : (why : MoveCause) → IsMoveCause old new why → WroteNothing s → MigrateEnds s old new (move_end why)

-- Each crash since the start leaves of the new file what a migration may leave. Where the old file can't be moved onto it, it was
-- synced at most.
pub record OnlyMoved {D : Type 0} (old new : Disks D) : Type 0 where
  pub images : IsTrue old.tells → IsTrue new.tells →
      Moves (old.on_disk old.disk).content (new.on_disk new.disk) (new.on_disk new.disk_after)
  --= A file that the old one can't be moved onto is synced at most.
  pub kept : IsTrue old.tells → IsTrue new.tells →
      KeptUnlessFree (old.on_disk old.disk).content (new.on_disk new.disk) (new.on_disk new.disk_after)
  --= What was made sure of in the new file at any moment of `migrate` stays.
  --= No body: it is of `migrate_counted`: `recovery/MovedOnto.never_loses`
  pub never_loses : IsTrue old.tells → IsTrue new.tells → NeverLoses (new.on_disk new.disk) (new.on_disk new.disk_after)

-- this post's disk, by what its kind tells as that of the first file does
abbrev pub disk_of_post : {D C Z G : Type 0} → Disks D → Post D C Z G → Post D C Z G → Disks D
disk_of_post k old new = this_disk k.tells k.on_disk k.faults old.disk new.disk

-- there is one further post, and nothing of it but its disk was touched
pub record OnePost {D C Z G : Type 0} (f : Further D C Z G) (post after : Post D C Z G) : Type 0 where
  pub one : f.posts ≡ post ∷ []
  pub one_after : f.posts_after ≡ after ∷ []
  pub clock : after.clock ≡ post.clock
  pub sleeper : after.sleeper ≡ post.sleeper
  --= Of the further post of `migrate`, `follow` and `guard` the agency isn't called.
  --= No body: the command is given its disk alone
  pub agency : after.agency ≡ post.agency

-- the one further file is what a migration may leave of it
pub record OnlyMoves {D C Z G : Type 0} (k : Disks D) (f : Further D C Z G) : Type 0 where
  pub post : Post D C Z G
  pub after : Post D C Z G
  pub posts : OnePost f post after
  pub moves : OnlyMoved k (disk_of_post k post after)

-- the migration to the one further file, and how it ended
pub record MovesPost {D C Z G : Type 0} (s : Sinks) (k : Disks D) (f : Further D C Z G) (end : Detail) : Type 0 where
  pub only : OnlyMoves k f
  pub ends : MigrateEnds s k (disk_of_post k only.post only.after) end

-- what `migrate` did, and how it ended: it only reads the first file, and calls nobody
pub record MigrateRan {D C Z G : Type 0} (a : AllDevices D C Z G) (f : Further D C Z G) (end : Detail) : Type 0 where
  pub moves : MovesPost a.devices.sink a.devices.disk f end
  pub reads : OnlyReadsFile a.devices
  pub nobody : NobodyCalled a
