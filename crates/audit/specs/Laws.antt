-- Laws of verdicts.
use Rattle.std.specs.Prelude.{◌≡◌, ◌⊎◌, ℕ, List}
use Rattle.journal.specs.File.{IsNotBegun}
use Rattle.record_codec.specs.declared.entry.Entry.{Entry}
use Rattle.record_fields.specs.declared.versions.Version.{Version}
use Rattle.shop_core.specs.declared.file.audits.AuditEnd.{AuditEnd}
use Rattle.shop_core.specs.declared.file.audits.AuditEnd.TheVariants.{Sound, Broken}
use Rattle.shop_core.specs.File.Files.{StandsFor, IsDamagedFile}
use Rattle.audit.specs.Auditing.{IsVerdict, sound_end}

-- a file has at most one verdict
abbrev pub OneVerdict : Type 0
OneVerdict = (file : List ℕ) (a b : AuditEnd) → IsVerdict file a → IsVerdict file b → a ≡ b

-- a file stands for a history of which this is the end
abbrev pub StandsToEnd : List ℕ → AuditEnd → Type 0
StandsToEnd file end = (version : Version) × (issuer : List ℕ) × (entries : List Entry) × StandsFor version issuer entries file ×
    (end ≡ sound_end entries)

-- what a file is, by its verdict
abbrev pub IsSoundOrDamaged : List ℕ → AuditEnd → Type 0
IsSoundOrDamaged file (Sound records noted last) = IsNotBegun file ⊎ StandsToEnd file (Sound records noted last)
IsSoundOrDamaged file (Broken place at what) = IsDamagedFile file at

-- a sound file isn't begun or stands for a history, and one that breaks at a byte is damaged there
abbrev pub VerdictTells : Type 0
VerdictTells = (file : List ℕ) (end : AuditEnd) → IsVerdict file end → IsSoundOrDamaged file end
