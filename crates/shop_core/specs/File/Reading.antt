-- What is read of a file: nothing, the history that it stands for, or its first break.
use Rattle.std.specs.Prelude.{◌≡◌, ◌≤◌, ◌+◌, ℕ, List, length, drop, Some}
use Rattle.frames.specs.Frames.{IsCounted, IsClosed, IsDamaged}
use Rattle.journal.specs.File.{IsNotBegun, closing_gate}
use Rattle.journal.specs.Header.{IsHeaderDamaged}
use Rattle.record_codec.specs.Validity.{IsEncoding}
use Rattle.record_fields.specs.declared.versions.Version.{Version}
use Rattle.record_codec.specs.declared.entry.Entry.{Entry}
use Rattle.shop_core.specs.Breaks.{IsBreak}
use Rattle.shop_core.specs.File.Files.{StandsFor, IsSoundUpTo, IsDamagedFile, bodies_of, furthest_gate}
use Rattle.shop_core.specs.History.{History, recs}
use Rattle.shop_core.specs.Legal.{Continues}
use Rattle.shop_core.specs.declared.file.audits.What.{What}
use Rattle.shop_core.specs.declared.file.audits.What.TheVariants as what
use Rattle.shop_core.specs.declared.breaks.Break.{Break}
use Rattle.shop_core.specs.declared.breaks.Break.TheVariants as break
use Rattle.shop_core.specs.declared.file.reading.FileRead.{FileRead}
use Rattle.shop_core.specs.declared.file.reading.FileRead.TheVariants.{NotBegun, Sound, Broken}
use Rattle.shop_core.specs.declared.file.reading.AtGate.{AtGate}
use Rattle.shop_core.specs.declared.file.reading.AtGate.TheVariants as gate

-- the place after the records of a history
abbrev pub next_place : List Entry → ℕ
next_place entries = length (recs entries) + 1

-- the word of an entry that doesn't continue a history
abbrev pub word_of : Break → What
word_of break.Notes = what.Notes
word_of break.Link = what.Link
word_of break.Seal = what.Seal
word_of break.Rule = what.Rule

-- Nothing where the file isn't begun, the history where it stands for one. Else the first break: in the header; or at the
-- gate of the first frame that is none, whose body is no encoding of an entry, or whose entry doesn't continue the history.
pub data IsRead (file : List ℕ) : FileRead → Type 0 where
  not_begun : IsNotBegun file → IsRead file NotBegun
  stands : (history : History) (end : ℕ) → StandsFor history.version history.issuer history.entries file →
      end ≡ closing_gate (bodies_of history.version history.entries) → IsRead file (Sound history end)
  in_header : (at : ℕ) → IsHeaderDamaged file at → IsRead file (Broken 1 at what.Header)
  no_frame : (version : Version) (issuer : List ℕ) (entries : List Entry) (at : ℕ) →
      IsSoundUpTo version issuer entries at file → IsDamaged (drop at file) →
      IsRead file (Broken (next_place entries) at what.Frame)
  no_entry : (version : Version) (issuer : List ℕ) (entries : List Entry) (at : ℕ) (body : List ℕ) →
      IsSoundUpTo version issuer entries at file → IsCounted (drop at file) body →
      ((entry : Entry) → IsEncoding version issuer entry body → ⊥) →
      IsRead file (Broken (next_place entries) at what.Body)
  not_next : (version : Version) (issuer : List ℕ) (entries : List Entry) (at : ℕ) (body : List ℕ) (entry : Entry) (why : Break) →
      IsSoundUpTo version issuer entries at file → IsCounted (drop at file) body → IsEncoding version issuer entry body →
      (Continues version issuer entries entry → ⊥) → IsBreak version issuer entries entry (Some why) →
      IsRead file (Broken (next_place entries) at (word_of why))

-- a file that is read as broken is damaged at that byte
abbrev pub BrokenIsDamaged : Type 0
BrokenIsDamaged = (file : List ℕ) (place at : ℕ) (what : What) → IsRead file (Broken place at what) → IsDamagedFile file at

-- the closing gate stands no further than this many entries can be long
abbrev pub HasNearGate : FileRead → Type 0
HasNearGate NotBegun = Unit {0}
HasNearGate (Sound history end) = end ≤ furthest_gate history.entries
HasNearGate (Broken place at what) = Unit {0}

-- what a look at a gate makes of the state
abbrev pub Grows : History → History → AtGate → Type 0
Grows old new (gate.Entry next) = (length new.entries ≡ length old.entries + 1) × (next ≤ furthest_gate new.entries)
Grows old new gate.Closed = new ≡ old
Grows old new (gate.Broken what) = new ≡ old

-- what stands there, in this file
abbrev pub IsSeen : List ℕ → ℕ → History → History → AtGate → Type 0
IsSeen file at old new (gate.Entry next) = IsSoundUpTo new.version new.issuer new.entries next file
IsSeen file at old new gate.Closed = IsClosed (drop at file)
IsSeen file at old new (gate.Broken what) = IsRead file (Broken (next_place old.entries) at what)
