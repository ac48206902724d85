-- How `matches` ends.
use Rattle.std.specs.Prelude.{◌≡◌, ℕ, ◌+◌, ◌<◌, List, length, IsTrue, Option, None, Some, slice_get}
use Rattle.chain_disk.specs.Disks.{Disks, DiskRose, LeftDisk}
use Rattle.ports.specs.Sinks.{Sinks, WroteNothing}
use Rattle.ports.specs.Sources.{Sources}
use Rattle.shop_core.specs.File.Files.{IsDamagedFile}
use Rattle.serde_json.specs.Data.{Data}
use Rattle.export.specs.Lines.{value_read}
use Rattle.report.specs.Matching.{matches_text}
use Rattle.report.specs.declared.status.Detail.{Detail}
use Rattle.report.specs.declared.status.Detail.TheVariants as detail
use Rattle.file_commands.specs.Exporting.{Exported, IsExportOf, objects_of}
use Rattle.file_commands.specs.Exporting.Exported.{nothing, history}
use Rattle.file_commands.specs.Input.{ReadAll, ReadFailed, ReadPast}
use Rattle.file_commands.specs.Lines.{lines_of}
use Rattle.file_commands.specs.Output.{PrintEnds}

-- how many entries were exported
abbrev pub count_of : Exported → ℕ
count_of nothing = 0
count_of (history version issuer entries) = length entries

-- a line and an object at one place: the line reads as the object, or neither is there
abbrev pub AreOne : Option (List ℕ) → Option Data → Type 0
AreOne None None = Unit {0}
AreOne None (Some value) = ⊥
AreOne (Some line) None = ⊥
AreOne (Some line) (Some value) = value_read line ≡ Some value

-- those at this index, from 0
abbrev pub AreOneAt : List (List ℕ) → List Data → ℕ → Type 0
AreOneAt lines objects index = AreOne (slice_get lines index) (slice_get objects index)

-- there are as many lines as objects, and each line reads as the object of its place
abbrev pub AreLinesOf : List (List ℕ) → List Data → Type 0
AreLinesOf lines objects = (index : ℕ) → AreOneAt lines objects index

-- the line of this number, from 1, is the first that doesn't read as the object of its place, is missing or is too many
pub record DifferFirst (lines : List (List ℕ)) (objects : List Data) (line : ℕ) : Type 0 where
  pub index : ℕ
  pub number : line ≡ index + 1
  pub before : (i : ℕ) → i < index → AreOneAt lines objects i
  pub here : ¬ (AreOneAt lines objects index)

-- the count was printed, or there was no memory for its text
pub data IsCountTold (entries : ℕ) (s : Sinks) : Detail → Type 0 where
  told : (end : Detail) → PrintEnds (matches_text entries) detail.Done s end → IsCountTold entries s end
  no_memory : WroteNothing s → IsCountTold entries s detail.NoMemory

-- the lines are those of the history, and the count of its entries was told; or the first line that differs is named
pub data Compared (exported : Exported) (lines : List (List ℕ)) (s : Sinks) : Detail → Type 0 where
  same : (end : Detail) → AreLinesOf lines (objects_of exported) → IsCountTold (count_of exported) s end →
      Compared exported lines s end
  differs : (line : ℕ) → DifferFirst lines (objects_of exported) line → WroteNothing s →
      Compared exported lines s (detail.Differs line)
  no_memory : WroteNothing s → Compared exported lines s detail.NoMemory

-- The lines of these bytes were compared with those of the file's history, of which there are none where it isn't begun; or why it
-- couldn't be read.
pub data ComparedWith {D : Type 0} (bytes : List ℕ) (s : Sinks) (k : Disks D) : Detail → Type 0 where
  read : (exported : Exported) (end : Detail) → (IsTrue k.tells → IsExportOf exported (k.on_disk k.disk).content) →
      Compared exported (lines_of bytes) s end → ComparedWith bytes s k end
  damaged : (at : ℕ) → (IsTrue k.tells → IsDamagedFile (k.on_disk k.disk).content at) → WroteNothing s →
      ComparedWith bytes s k (detail.Damaged at)
  disk_fault : DiskRose k → WroteNothing s → ComparedWith bytes s k detail.DiskFault
  no_memory : WroteNothing s → ComparedWith bytes s k detail.NoMemory

-- all of the source was compared; or why it couldn't be read, and then the disk wasn't looked at
pub data MatchesEnds {D : Type 0} (r : Sources) (s : Sinks) (k : Disks D) : Detail → Type 0 where
  input : (bytes : List ℕ) (end : Detail) → ReadAll r bytes → ComparedWith bytes s k end → MatchesEnds r s k end
  read_fault : ReadFailed r → LeftDisk k → WroteNothing s → MatchesEnds r s k detail.ReadFault
  too_big : ReadPast r → LeftDisk k → WroteNothing s → MatchesEnds r s k detail.TooBig
  no_memory : LeftDisk k → WroteNothing s → MatchesEnds r s k detail.NoMemory
