-- What the bytes of a file stand for: nothing yet, the legal history of an issuer at a version, or a damage at a byte.
use Rattle.std.specs.Prelude.{◌⊎◌, ◌+◌, ◌*◌, ℕ, List, ◌∷◌, [], ◌++◌, length, map, drop}
use Rattle.std.specs.List.{AllByRecursion}
use Rattle.frames.specs.Frames.{IsCounted, IsDamaged}
use Rattle.journal.specs.File.{IsFile}
use Rattle.journal.specs.Header.{IsBegun, IsHeaderDamaged}
use Rattle.journal.specs.Walk.{AreFrames}
use Rattle.record_codec.specs.Writing.{entry_bytes}
use Rattle.record_codec.specs.Validity.{IsEncoding}
use Rattle.record_fields.specs.declared.versions.Version.{Version}
use Rattle.record_codec.specs.declared.entry.Entry.{Entry}
use Rattle.shop_core.specs.Legal.{Legal, Continues}
use Rattle.shop_core.specs.declared.answer.Planned.{Planned}
use Rattle.shop_core.specs.declared.answer.Planned.TheVariants.{Again, Refused, Made}

-- the bodies of the frames that keep these entries at this version
abbrev pub bodies_of : Version → List Entry → List (List ℕ)
bodies_of version entries = map (entry_bytes version) entries

-- the longest file of this many entries ends here: a header of 19 bytes, and 4101 a frame at most
abbrev pub furthest_gate : List Entry → ℕ
furthest_gate entries = 19 + 4101 * length entries

-- each entry is this issuer's, and its fields are in the ranges of their bytes at this version
abbrev pub AreEncoded : Version → List ℕ → List Entry → Type 0
AreEncoded version issuer entries = AllByRecursion (λ (e : Entry). IsEncoding version issuer e (entry_bytes version e)) entries

-- a begun file of this version and issuer, whose counted frames are the encodings of the entries of this legal history
pub record StandsFor (version : Version) (issuer : List ℕ) (entries : List Entry) (file : List ℕ) : Type 0 where
  pub frames : IsFile version issuer (bodies_of version entries) file
  pub encoded : AreEncoded version issuer entries
  pub legal : Legal version issuer entries

-- a sound header, and after it counted frames of a legal history up to this place
pub record IsSoundUpTo (version : Version) (issuer : List ℕ) (entries : List Entry) (at : ℕ) (file : List ℕ) : Type 0 where
  pub header : IsBegun version issuer file
  pub frames : AreFrames file (bodies_of version entries) at
  pub encoded : AreEncoded version issuer entries
  pub legal : Legal version issuer entries

-- Where a file is damaged: in its header; or at the gate of the first frame that is none, whose body is no encoding of an
-- entry, or whose entry doesn't continue the history before it, each at the version of the header.
pub data IsDamagedFile (file : List ℕ) : ℕ → Type 0 where
  in_header : (at : ℕ) → IsHeaderDamaged file at → IsDamagedFile file at
  no_frame : (version : Version) (issuer : List ℕ) (entries : List Entry) (at : ℕ) →
      IsSoundUpTo version issuer entries at file → IsDamaged (drop at file) → IsDamagedFile file at
  no_entry : (version : Version) (issuer : List ℕ) (entries : List Entry) (at : ℕ) (body : List ℕ) →
      IsSoundUpTo version issuer entries at file → IsCounted (drop at file) body →
      ((entry : Entry) → IsEncoding version issuer entry body → ⊥) → IsDamagedFile file at
  not_next : (version : Version) (issuer : List ℕ) (entries : List Entry) (at : ℕ) (body : List ℕ) (entry : Entry) →
      IsSoundUpTo version issuer entries at file → IsCounted (drop at file) body → IsEncoding version issuer entry body →
      (Continues version issuer entries entry → ⊥) → IsDamagedFile file at

-- the file stands for the history from before, or for that with this entry
abbrev pub StandsBeforeOrWith : Version → List ℕ → List Entry → Entry → List ℕ → Type 0
StandsBeforeOrWith version issuer entries entry file =
    StandsFor version issuer entries file ⊎ StandsFor version issuer (entries ++ entry ∷ []) file

-- the same with the entry that an answer makes, where it makes one
abbrev pub StandsAround : Version → List ℕ → List Entry → Planned → List ℕ → Type 0
StandsAround version issuer entries (Again receipt) file = StandsFor version issuer entries file
StandsAround version issuer entries (Refused why) file = StandsFor version issuer entries file
StandsAround version issuer entries (Made entry) file = StandsBeforeOrWith version issuer entries entry file
