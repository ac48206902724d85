-- How `check` ends.
use Rattle.std.specs.Prelude.{ℕ, List, IsTrue}
use Rattle.chain_disk.specs.Disks.{Disks, DiskRose, LeftDisk}
use Rattle.ports.specs.Sinks.{Sinks, WroteNothing}
use Rattle.ports.specs.Sources.{Sources}
use Rattle.journal.specs.File.{IsNotBegun}
use Rattle.record_fields.specs.declared.versions.Version.{Version}
use Rattle.shop_core.specs.File.Files.{StandsFor, IsDamagedFile}
use Rattle.link_check.specs.Checking.{Chain, AreChecked}
use Rattle.link_check.specs.Checking.Chain.{not_begun, begun}
use Rattle.link_check.specs.Texts.{checks_text}
use Rattle.link_check.specs.declared.checked.Checked.{Checked}
use Rattle.report.specs.declared.status.Detail.{Detail}
use Rattle.report.specs.declared.status.Detail.TheVariants as detail
use Rattle.file_commands.specs.Input.{ReadAll, ReadFailed, ReadPast}
use Rattle.file_commands.specs.Lines.{lines_of}
use Rattle.file_commands.specs.Output.{PrintEnds}

-- what links are held against: nothing where the file isn't begun, else the history that it stands for
abbrev pub IsChainOf : Chain → List ℕ → Type 0
IsChainOf not_begun file = IsNotBegun file
IsChainOf (begun issuer entries) file = (version : Version) × StandsFor version issuer entries file

-- these answers were printed, a line each, or there was no memory for their text
pub data AreTold (answers : List Checked) (s : Sinks) : Detail → Type 0 where
  told : (end : Detail) → PrintEnds (checks_text answers) detail.Done s end → AreTold answers s end
  no_memory : WroteNothing s → AreTold answers s detail.NoMemory

-- the answers of all lines were printed
pub data AnswersPrinted (chain : Chain) (lines : List (List ℕ)) (s : Sinks) : Detail → Type 0 where
  answered : (answers : List Checked) (end : Detail) → AreChecked chain lines answers → AreTold answers s end →
      AnswersPrinted chain lines s end
  no_memory : WroteNothing s → AnswersPrinted chain lines s detail.NoMemory

-- the lines of these bytes were held against the file; or why it couldn't be read
pub data AnswersFrom {D : Type 0} (bytes : List ℕ) (s : Sinks) (k : Disks D) : Detail → Type 0 where
  read : (chain : Chain) (end : Detail) → (IsTrue k.tells → IsChainOf chain (k.on_disk k.disk).content) →
      AnswersPrinted chain (lines_of bytes) s end → AnswersFrom bytes s k end
  damaged : (at : ℕ) → (IsTrue k.tells → IsDamagedFile (k.on_disk k.disk).content at) → WroteNothing s →
      AnswersFrom bytes s k (detail.Damaged at)
  disk_fault : DiskRose k → WroteNothing s → AnswersFrom bytes s k detail.DiskFault
  no_memory : WroteNothing s → AnswersFrom bytes s k detail.NoMemory

-- all of the source was answered; or why it couldn't be read, and then the disk wasn't looked at
pub data CheckEnds {D : Type 0} (r : Sources) (s : Sinks) (k : Disks D) : Detail → Type 0 where
  input : (bytes : List ℕ) (end : Detail) → ReadAll r bytes → AnswersFrom bytes s k end → CheckEnds r s k end
  read_fault : ReadFailed r → LeftDisk k → WroteNothing s → CheckEnds r s k detail.ReadFault
  too_big : ReadPast r → LeftDisk k → WroteNothing s → CheckEnds r s k detail.TooBig
  no_memory : LeftDisk k → WroteNothing s → CheckEnds r s k detail.NoMemory
