-- How `list` ends.
use Rattle.std.specs.Prelude.{ℕ, List, IsTrue}
use Rattle.chain_disk.specs.Disks.{Disks, DiskRose}
use Rattle.ports.specs.Sinks.{Sinks, WroteNothing}
use Rattle.record_codec.specs.declared.entry.Entry.{Entry}
use Rattle.shop_core.specs.File.Files.{IsDamagedFile}
use Rattle.report.specs.Chosen.{chosen_text}
use Rattle.report.specs.declared.chosen.Choice.{Choice}
use Rattle.report.specs.declared.status.Detail.{Detail}
use Rattle.report.specs.declared.status.Detail.TheVariants as detail
use Rattle.file_commands.specs.Linking.{IsHistoryOf}
use Rattle.file_commands.specs.Output.{PrintEnds}

-- the listing of those records of these entries was printed, or there was no memory for its text
pub data ListPrinted (entries : List Entry) (choice : Choice) (s : Sinks) : Detail → Type 0 where
  told : (end : Detail) → PrintEnds (chosen_text choice entries) detail.Done s end → ListPrinted entries choice s end
  no_memory : WroteNothing s → ListPrinted entries choice s detail.NoMemory

-- that of the file's history; or why the file couldn't be read
pub data ListEnds {D : Type 0} (choice : Choice) (s : Sinks) (k : Disks D) : Detail → Type 0 where
  read : (entries : List Entry) (end : Detail) → (IsTrue k.tells → IsHistoryOf entries (k.on_disk k.disk).content) →
      ListPrinted entries choice s end → ListEnds choice s k end
  damaged : (at : ℕ) → (IsTrue k.tells → IsDamagedFile (k.on_disk k.disk).content at) → WroteNothing s →
      ListEnds choice s k (detail.Damaged at)
  disk_fault : DiskRose k → WroteNothing s → ListEnds choice s k detail.DiskFault
  no_memory : WroteNothing s → ListEnds choice s k detail.NoMemory
