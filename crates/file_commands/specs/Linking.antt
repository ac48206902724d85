-- How `link` ends.
use Rattle.std.specs.Prelude.{◌≡◌, ◌⊎◌, ℕ, List, [], ◌∷◌, ◌++◌, IsTrue, Option, Some, None, option_map}
use Rattle.record_fields.specs.declared.versions.Version.{Version}
use Rattle.chain_disk.specs.Disks.{Disks, DiskRose}
use Rattle.ports.specs.Sinks.{Sinks, WroteNothing}
use Rattle.journal.specs.File.{IsNotBegun}
use Rattle.record_fields.specs.declared.records.Alta.{Alta}
use Rattle.record_fields.specs.declared.records.Record.{Record}
use Rattle.record_fields.specs.declared.records.Record.TheVariants as body
use Rattle.record_codec.specs.declared.entry.Entry.{Entry}
use Rattle.shop_core.specs.Standing.{last_alta}
use Rattle.shop_core.specs.File.Files.{StandsFor, IsDamagedFile}
use Rattle.verify_link.specs.Parts.{link_text, parts_of}
use Rattle.verify_link.specs.declared.parts.Host.{Host}
use Rattle.report.specs.declared.status.Detail.{Detail}
use Rattle.report.specs.declared.status.Detail.TheVariants as detail
use Rattle.file_commands.specs.Output.{PrintEnds}

-- the file isn't begun, and then the history is empty; or it stands for this history
abbrev pub IsHistoryOf : List Entry → List ℕ → Type 0
IsHistoryOf entries file = (IsNotBegun file × (entries ≡ [])) ⊎
    ((version : Version) × (issuer : List ℕ) × StandsFor version issuer entries file)

-- the record that is the last alta of a number, or none
abbrev pub last_alta_of : List Entry → List ℕ → Option Record
last_alta_of entries num = option_map (λ p. p.1.body) (last_alta entries num)

-- the line of an alta's link
abbrev pub link_line : Alta → Host → List ℕ
link_line alta host = link_text (parts_of alta host) ++ 10 ∷ []

-- the link of the last alta of that number among these entries was printed, or there is none
pub data LinkedFrom (entries : List Entry) (num : List ℕ) (host : Host) (s : Sinks) : Detail → Type 0 where
  found : (alta : Alta) (end : Detail) → last_alta_of entries num ≡ Some (body.Alta alta) →
      PrintEnds (link_line alta host) detail.Done s end → LinkedFrom entries num host s end
  unknown : last_alta_of entries num ≡ None → WroteNothing s → LinkedFrom entries num host s detail.Unknown
  no_memory : WroteNothing s → LinkedFrom entries num host s detail.NoMemory

-- that of the file's history; or why the file couldn't be read
pub data LinkEnds {D : Type 0} (num : List ℕ) (host : Host) (s : Sinks) (k : Disks D) : Detail → Type 0 where
  read : (entries : List Entry) (end : Detail) → (IsTrue k.tells → IsHistoryOf entries (k.on_disk k.disk).content) →
      LinkedFrom entries num host s end → LinkEnds num host s k end
  damaged : (at : ℕ) → (IsTrue k.tells → IsDamagedFile (k.on_disk k.disk).content at) → WroteNothing s →
      LinkEnds num host s k (detail.Damaged at)
  disk_fault : DiskRose k → WroteNothing s → LinkEnds num host s k detail.DiskFault
  no_memory : WroteNothing s → LinkEnds num host s k detail.NoMemory
