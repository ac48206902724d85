-- The verdict on a file.
use Rattle.std.specs.Prelude.{◌≡◌, ℕ, List, length, None}
use Rattle.record_codec.specs.declared.entry.Entry.{Entry}
use Rattle.shop_core.specs.History.{last_huella, recs, noted}
use Rattle.shop_core.specs.File.Reading.{IsRead}
use Rattle.shop_core.specs.declared.file.audits.AuditEnd.{AuditEnd}
use Rattle.shop_core.specs.declared.file.audits.AuditEnd.TheVariants as end
use Rattle.shop_core.specs.declared.file.reading.FileRead.{FileRead}
use Rattle.shop_core.specs.declared.file.reading.FileRead.TheVariants.{NotBegun, Sound, Broken}

-- how many records and noted lines a history has, and its last Huella
abbrev pub sound_end : List Entry → AuditEnd
sound_end entries = end.Sound (length (recs entries)) (length (noted entries)) (last_huella entries)

-- the verdict on what is read of a file: one that isn't begun is sound, with nothing in it
abbrev pub verdict_of : FileRead → AuditEnd
verdict_of NotBegun = end.Sound 0 0 None
verdict_of (Sound history place) = sound_end history.entries
verdict_of (Broken place at what) = end.Broken place at what

-- the verdict on what is read of this file
pub record IsVerdict (file : List ℕ) (verdict : AuditEnd) : Type 0 where
  pub read : FileRead
  pub is_read : IsRead file read
  pub verdict_is : verdict ≡ verdict_of read
