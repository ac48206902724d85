-- The promise's part on the further files: the new file of a migration, a copy, the files of the issuers after the first one.
use Rattle.std.specs.Prelude.{ℕ, List, [], ◌∷◌, ◌++◌, IsTrue, Option, Some}
use Rattle.ports.specs.Sinks.{Sinks}
use Rattle.ports.specs.Sources.{Sources}
use Rattle.ports.specs.declared.Clock as clock
use Rattle.ports.specs.declared.sleeper.Sleeper as sleeper
use Rattle.chain_disk.specs.Disks.{Disks, LeftDisk}
use Rattle.chain_disk.specs.OnDisk.{IsSettled, LeavesOnly, OnDisk}
use Rattle.chain_disk.specs.declared.disk.Disk as disk
use Rattle.agency_port.specs.declared.agency.Agency as agency
use Rattle.chain_store.specs.Losing.{NeverLoses}
use Rattle.record_fields.specs.declared.versions.Version.{Version}
use Rattle.record_codec.specs.declared.entry.Entry.{Entry}
use Rattle.recovery.specs.Opening.{IsFound}
use Rattle.shop_drain.specs.Devices.{AllDevices, this_call}
use Rattle.shop_drain.specs.declared.posts.Post.{Post}
use Rattle.shop_commands.specs.Follow.{IsFollowImage, OnlyFollows}
use Rattle.shop_commands.specs.Further.{Further, LeftFurther}
use Rattle.shop_commands.specs.Migrate.{OnePost, OnlyMoves, disk_of_post}
use Rattle.verifactu.specs.declared.command_line.Command.{Command}
use Rattle.verifactu.specs.declared.command_line.Command.TheVariants.{Migrate, Follow, Guard, Many}
use Rattle.verifactu.specs.ChainPromise.{ChainGoesOn, IsAppendedTo}
use Rattle.verifactu.specs.FilePromise.{FileKept, IsOwn}

-- The copy (disk l) of a file (disk k) that stood for this history. Each crash since the start leaves what it left then, or a file
-- that stands for what begins with the copy that was found and is a front of the history of the file at the end, with the entry whose
-- writing was under way. What was made sure of in the copy stays.
pub record CopyGoesOn {D : Type 0} (version : Version) (issuer : List ℕ) (start : List Entry) (k l : Disks D) : Type 0 where
  pub end : List Entry
  pub torn : List Entry
  pub chain : ChainGoesOn version issuer start end torn k
  --= A copy that `guard` writes stays a front of the file's chain, whatever crash comes.
  --= No body: it is of `standby/IsPair.beside` and of `standby/Standby::arrive.arrives`
  pub images : IsTrue l.tells →
      LeavesOnly (l.on_disk l.disk) (l.on_disk l.disk_after) (IsFollowImage version issuer (end ++ torn) (l.on_disk l.disk))
  --= What was made sure of in the copy at any moment of the run stays.
  pub never_loses : IsTrue l.tells → NeverLoses (l.on_disk l.disk) (l.on_disk l.disk_after)

-- A copy (disk l) that is written next to a file of this issuer (disk k). Where the file is no such one no call of the copy's disk
-- is made.
pub record OnlyGuarded {D : Type 0} (issuer : List ℕ) (k l : Disks D) : Type 0 where
  pub own : IsTrue k.tells → (version : Version) (start : List Entry) → IsFound version issuer start (k.on_disk k.disk).content →
      CopyGoesOn version issuer start k l
  --= Where the file is not the issuer's own, the copy is not touched.
  --= No body: it is of `guard_cmd`
  pub others : IsTrue k.tells → (IsOwn (Some issuer) (k.on_disk k.disk).content → ⊥) → LeftDisk l

-- `guard` writes the one further file, as a copy
pub record OnlyGuards {D C Z G : Type 0} (issuer : List ℕ) (k : Disks D) (f : Further D C Z G) : Type 0 where
  pub post : Post D C Z G
  pub after : Post D C Z G
  pub posts : OnePost f post after
  pub guards : OnlyGuarded issuer k (disk_of_post k post after)

-- A copy is append-only as well: where nothing was pending on it at the start, each file that following or guarding may leave of
-- one that stood for a history begins with the bytes of that before its closing gate.
--= A copy is append-only as well.
--= No body: a law over definitions, which has no body
abbrev pub CopyAppends : Type 0
CopyAppends =
    (version another : Version) (issuer other : List ℕ) (copy history : List Entry) (start : OnDisk) (file : List ℕ) →
    IsSettled start → IsFollowImage another other history start file → IsAppendedTo version issuer copy start.content file

-- over a disk, a clock, a sleeper and an agency of any kind
module _ {D C Z G : Type 0} (d : disk.Ghosts D) (c : clock.Ghosts C) (z : sleeper.Ghosts Z) (g : agency.Ghosts G) where
  -- a file for each of these issuers, and what goes with it, each by its own devices alone
  --= Each file of `many` is kept so for its own issuer, by its own devices alone.
  --= No body: it is of `many_cmd`: `many_issuers/Works.played`
  abbrev pub AreKept : List (List ℕ) → Sources → Sinks → List (Post D C Z G) → List (Post D C Z G) → Type 0
  AreKept [] source s [] [] = Unit {0}
  AreKept (issuer ∷ issuers) source s (post ∷ posts) (after ∷ afters) =
      FileKept (Some issuer) (this_call source s d c z g post after) × AreKept issuers source s posts afters
  AreKept _ source s _ _ = ⊥

  -- those of all issuers but the first
  abbrev pub OthersKept : List (List ℕ) → AllDevices D C Z G → Further D C Z G → Type 0
  OthersKept [] a f = ⊥
  OthersKept (issuer ∷ issuers) a f = AreKept issuers a.devices.source a.devices.sink f.posts f.posts_after

  -- The further files: `migrate` writes one. Each file that a crash may leave of it, at any moment of the run, is one that it was
  -- before; or, where it wasn't begun then or was an unfinished migration, is such a one, or stands for the history of the file that
  -- is moved, which is only read. One that it can't be moved onto is synced at most.
  -- `follow` and `guard` write a copy. Those of `many` are the files of the issuers after the first one.
  --= Only `migrate`, `follow`, `guard` and `many` touch a further file, and of it each crash leaves what they may
  --= leave.
  abbrev pub FurtherKept : Option Command → AllDevices D C Z G → Further D C Z G → Type 0
  FurtherKept (Some Migrate) a f = OnlyMoves a.devices.disk f
  FurtherKept (Some Follow) a f = OnlyFollows a.devices.disk f
  FurtherKept (Some (Guard issuer)) a f = OnlyGuards issuer a.devices.disk f
  FurtherKept (Some (Many issuers)) a f = OthersKept issuers a f
  FurtherKept command a f = LeftFurther f
