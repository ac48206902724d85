-- How `export` ends.
use Rattle.std.specs.Prelude.{ℕ, List, [], ◌∷◌, ◌++◌, map, flat_map, IsTrue}
use Rattle.chain_disk.specs.Disks.{Disks, DiskRose}
use Rattle.ports.specs.Sinks.{Sinks, WroteNothing}
use Rattle.journal.specs.File.{IsNotBegun}
use Rattle.record_fields.specs.declared.versions.Version.{Version}
use Rattle.record_codec.specs.declared.entry.Entry.{Entry}
use Rattle.shop_core.specs.File.Files.{StandsFor, IsDamagedFile}
use Rattle.serde_json.specs.Data.{Data}
use Rattle.serde_json.specs.Written.{compact_text}
use Rattle.export.specs.Objects.{head_object, object_of}
use Rattle.report.specs.declared.status.Detail.{Detail}
use Rattle.report.specs.declared.status.Detail.TheVariants as detail
use Rattle.file_commands.specs.Output.{PrintEnds}

-- what is exported: nothing where the file isn't begun, else the history that it stands for
pub data Exported : Type 0 where
  nothing : Exported
  history : (version : Version) (issuer : List ℕ) (entries : List Entry) → Exported

abbrev pub IsExportOf : Exported → List ℕ → Type 0
IsExportOf nothing file = IsNotBegun file
IsExportOf (history version issuer entries) file = StandsFor version issuer entries file

-- its objects, one a line: none of nothing, else that of the issuer and the version and then one for each entry, in order
abbrev pub objects_of : Exported → List Data
objects_of nothing = []
objects_of (history version issuer entries) = head_object issuer version ∷ map object_of entries

-- objects as lines, without blanks, each ended by LF
unfoldable pub lines_text : List Data → List ℕ
lines_text objects = flat_map (λ (value : Data). compact_text value ++ 10 ∷ []) objects

-- the lines were printed, or there was no memory for their text
pub data LinesPrinted (exported : Exported) (s : Sinks) : Detail → Type 0 where
  told : (end : Detail) → PrintEnds (lines_text (objects_of exported)) detail.Done s end → LinesPrinted exported s end
  no_memory : WroteNothing s → LinesPrinted exported s detail.NoMemory

-- the lines of the file's history were printed; or why it couldn't be read
pub data ExportEnds {D : Type 0} (s : Sinks) (k : Disks D) : Detail → Type 0 where
  read : (exported : Exported) (end : Detail) → (IsTrue k.tells → IsExportOf exported (k.on_disk k.disk).content) →
      LinesPrinted exported s end → ExportEnds s k end
  damaged : (at : ℕ) → (IsTrue k.tells → IsDamagedFile (k.on_disk k.disk).content at) → WroteNothing s →
      ExportEnds s k (detail.Damaged at)
  disk_fault : DiskRose k → WroteNothing s → ExportEnds s k detail.DiskFault
  no_memory : WroteNothing s → ExportEnds s k detail.NoMemory
