-- How `audit` ends.
use Rattle.std.specs.Prelude.{IsTrue}
use Rattle.chain_disk.specs.Disks.{Disks, DiskRose}
use Rattle.ports.specs.Sinks.{Sinks, WroteNothing}
use Rattle.shop_core.specs.declared.file.audits.AuditEnd.{AuditEnd}
use Rattle.shop_core.specs.declared.file.audits.AuditEnd.TheVariants.{Sound, Broken}
use Rattle.audit.specs.Auditing.{IsVerdict}
use Rattle.report.specs.Verdicts.{verdict_text}
use Rattle.report.specs.declared.status.Detail.{Detail}
use Rattle.report.specs.declared.status.Detail.TheVariants as detail
use Rattle.file_commands.specs.Output.{PrintEnds}

-- this is the verdict on the file
abbrev pub IsVerdictOn : {D : Type 0} → Disks D → AuditEnd → Type 0
IsVerdictOn k verdict = IsTrue k.tells → IsVerdict (k.on_disk k.disk).content verdict

-- the end that a printed verdict comes to
abbrev pub verdict_end : AuditEnd → Detail
verdict_end (Sound records noted last) = detail.Done
verdict_end (Broken place at what) = detail.Broken place what

-- the verdict was printed, sound or broken; or why it wasn't
pub data AuditEnds {D : Type 0} (s : Sinks) (k : Disks D) : Detail → Type 0 where
  reached : (verdict : AuditEnd) (end : Detail) → IsVerdictOn k verdict →
      PrintEnds (verdict_text verdict) (verdict_end verdict) s end → AuditEnds s k end
  disk_fault : DiskRose k → WroteNothing s → AuditEnds s k detail.DiskFault
  no_memory : WroteNothing s → AuditEnds s k detail.NoMemory
