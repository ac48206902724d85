-- What a verdict tells of a file.
use Rattle.std.proofs.Common.{inl, inr, refl, sym, subst, List, ℕ}
use Rattle.shop_core.specs.File.Reading.{BrokenIsDamaged, IsRead}
use Rattle.shop_core.specs.File.Reading.IsRead.{not_begun, stands}
use Rattle.shop_core.specs.declared.file.audits.AuditEnd.{AuditEnd}
use Rattle.shop_core.specs.declared.file.reading.FileRead.{FileRead}
use Rattle.shop_core.specs.declared.file.reading.FileRead.TheVariants.{NotBegun, Sound, Broken}
use Rattle.audit.specs.Auditing.{verdict_of}
use Rattle.audit.specs.Laws.{IsSoundOrDamaged, VerdictTells}

read_tells : BrokenIsDamaged → (file : List ℕ) (read : FileRead) → IsRead file read → IsSoundOrDamaged file (verdict_of read)
read_tells damaged file NotBegun (not_begun none) = inl none
read_tells damaged file (Sound history end) (stands _ _ is place) = inr (history.version, history.issuer, history.entries, is, refl)
read_tells damaged file (Broken place at what) is = damaged file place at what is

pub tells : BrokenIsDamaged → VerdictTells
tells damaged file end is = subst (λ (e : AuditEnd). IsSoundOrDamaged file e) (sym is.verdict_is) (read_tells damaged file is.read
    is.is_read)
