-- A history of version One that is written into a second file in version Two: what a crash leaves of that file while it is.
use Rattle.std.specs.Prelude.{◌≡◌, ◌≤◌, ◌⊎◌, ℕ, IsTrue, List, length}
use Rattle.chain_disk.specs.Disks.{Disks}
use Rattle.chain_disk.specs.OnDisk.{OnDisk, IsImage, IsSyncFailed, LeavesNow, LeavesOnly, synced}
use Rattle.chain_store.specs.Losing.{NeverLoses}
use Rattle.journal.specs.File.{IsNotBegun}
use Rattle.journal.specs.Whole as whole_file
use Rattle.record_fields.specs.declared.versions.Version.TheVariants.{One, Two}
use Rattle.record_codec.specs.declared.entry.Entry.{Entry}
use Rattle.shop_core.specs.File.Files.{StandsFor}
use Rattle.shop_core.specs.History.{noted, recs}

-- what a file holds, or a crash leaves of it, while a history is written into it in version Two: an unfinished migration of this
-- issuer, one held shut, and so on
abbrev pub IsUnfinished : List ℕ → List ℕ → Type 0
IsUnfinished issuer file = whole_file.IsUnfinished Two issuer file

abbrev pub IsHeldShut : List ℕ → List ℕ → Type 0
IsHeldShut issuer file = whole_file.IsHeldShut Two issuer file

abbrev pub IsShutOrWhole : List ℕ → List (List ℕ) → List ℕ → Type 0
IsShutOrWhole issuer bodies file = whole_file.IsShutOrWhole Two issuer bodies file

abbrev pub IsWriting : List ℕ → List ℕ → ℕ → OnDisk → Type 0
IsWriting issuer bytes at t = whole_file.IsWriting Two issuer bytes at t

abbrev pub IsSameOrShut : List ℕ → List ℕ → List ℕ → Type 0
IsSameOrShut issuer content file = whole_file.IsSameOrShut Two issuer content file

abbrev pub IsOccupied : List ℕ → List ℕ → ℕ → Type 0
IsOccupied issuer file size = whole_file.IsOccupied Two issuer file size

-- What a crash at a moment of a migration leaves of the new file: an image of the start; or, where the file was held shut at the
-- start, a file not begun, an unfinished migration of this issuer, or the file of the whole history.
pub data IsMoveImage (issuer : List ℕ) (entries : List Entry) (start : OnDisk) (file : List ℕ) : Type 0 where
  as_before : IsImage start.now file → IsMoveImage issuer entries start file
  not_begun : IsHeldShut issuer start.content → IsNotBegun file → IsMoveImage issuer entries start file
  unfinished : IsHeldShut issuer start.content → IsUnfinished issuer file → IsMoveImage issuer entries start file
  whole : IsHeldShut issuer start.content → StandsFor Two issuer entries file → IsMoveImage issuer entries start file

-- the file stands in version Two for the history that the old one stands for in version One
abbrev pub IsMoved : List ℕ → List ℕ → Type 0
IsMoved old file =
    (issuer : List ℕ) × (entries : List Entry) × StandsFor One issuer entries old × StandsFor Two issuer entries file

-- the history that the old file stands for in version One has this many records and noted lines
abbrev pub HasCounts : List ℕ → ℕ → ℕ → Type 0
HasCounts old records lines = (issuer : List ℕ) × (entries : List Entry) × StandsFor One issuer entries old ×
    (records ≡ length (recs entries)) × (lines ≡ length (noted entries))

-- one of the four, by the history that the old file stands for; where it stands for none of version One, an image of the start
pub data IsMoveImageOf (old : List ℕ) (start : OnDisk) (file : List ℕ) : Type 0 where
  untouched : IsImage start.now file → IsMoveImageOf old start file
  of_history : (issuer : List ℕ) (entries : List Entry) → StandsFor One issuer entries old →
      IsMoveImage issuer entries start file → IsMoveImageOf old start file

-- each crash since the start leaves such a file
abbrev pub Moves : List ℕ → OnDisk → OnDisk → Type 0
Moves old start end = LeavesOnly start end (IsMoveImageOf old start)

-- the old file stands for a history of version One, and the new one isn't begun or is an unfinished migration of its issuer
abbrev pub MayBeMoved : List ℕ → List ℕ → Type 0
MayBeMoved old new =
    (issuer : List ℕ) × (entries : List Entry) × StandsFor One issuer entries old × IsHeldShut issuer new

-- nothing is written where the file isn't held shut for this issuer: it was synced at most
abbrev pub KeptUnlessShut : List ℕ → OnDisk → OnDisk → Type 0
KeptUnlessShut issuer start end = (IsHeldShut issuer start.content → ⊥) → (end ≡ synced start) ⊎ IsSyncFailed start end

-- nothing is written of a file that the old one may not be moved onto
abbrev pub KeptUnlessFree : List ℕ → OnDisk → OnDisk → Type 0
KeptUnlessFree old start end = (MayBeMoved old start.content → ⊥) → (end ≡ synced start) ⊎ IsSyncFailed start end

-- The history of the one disk was moved onto the other: that was free for it, each crash in the call left it as it was, not begun, an
-- unfinished migration or the whole history, each crash from now on leaves the whole, and it reads as that.
pub record MovedOnto {D M : Type 0} (old : Disks D) (new : Disks M) : Type 0 where
  --= Only a file of version One is moved, onto one that isn't begun or is an unfinished migration of its issuer.
  --= No body: it is `begin_shut`, which refuses others
  pub free : IsTrue old.tells → IsTrue new.tells → MayBeMoved (old.on_disk old.disk).content (new.on_disk new.disk).content
  --= At each moment of a migration a crash leaves the new disk as it was, or not begun, an unfinished migration, or
  --= the old file's whole history in version Two.
  --= No body: it is of `begin_shut`, `add_shut` and `open_shut`, whose bodies are in `journal`
  pub any_moment : IsTrue old.tells → IsTrue new.tells →
      Moves (old.on_disk old.disk).content (new.on_disk new.disk) (new.on_disk new.disk_after)
  --= What was made sure of in the new file at any moment of a migration stays.
  pub never_loses : IsTrue old.tells → IsTrue new.tells → NeverLoses (new.on_disk new.disk) (new.on_disk new.disk_after)
  --= After Ok each crash leaves the new disk with the old file's whole history in version Two.
  pub every_crash : IsTrue old.tells → IsTrue new.tells →
      LeavesNow (new.on_disk new.disk_after) (IsMoved (old.on_disk old.disk).content)
  --= After Ok the new disk reads as the old file's whole history in version Two.
  pub reads : IsTrue old.tells → IsTrue new.tells →
      IsMoved (old.on_disk old.disk).content (new.on_disk new.disk_after).content
  pub later : new.faults new.disk ≤ new.faults new.disk_after

-- A migration ended early: each crash left one of these as well, and where the other disk isn't free for it nothing was written there.
pub record NotMovedOnto {D M : Type 0} (old : Disks D) (new : Disks M) : Type 0 where
  pub any_moment : IsTrue old.tells → IsTrue new.tells →
      Moves (old.on_disk old.disk).content (new.on_disk new.disk) (new.on_disk new.disk_after)
  pub never_loses : IsTrue old.tells → IsTrue new.tells → NeverLoses (new.on_disk new.disk) (new.on_disk new.disk_after)
  --= A file that it may not be moved onto is synced at most.
  pub kept : IsTrue old.tells → IsTrue new.tells →
      KeptUnlessFree (old.on_disk old.disk).content (new.on_disk new.disk) (new.on_disk new.disk_after)
  pub later : new.faults new.disk ≤ new.faults new.disk_after
