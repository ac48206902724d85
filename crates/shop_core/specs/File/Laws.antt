-- Laws of what a file stands for.
use Rattle.std.specs.Prelude.{◌≡◌, ◌<◌, ◌≤◌, ◌+◌, ℕ, List, [], ◌∷◌, ◌++◌, length, drop}
use Rattle.frames.specs.Frames.{IsCounted, IsClosed}
use Rattle.journal.specs.File.{IsNotBegun, closing_gate}
use Rattle.journal.specs.Header.{IsBegun}
use Rattle.journal.specs.declared.TheConstants.{HEADER}
use Rattle.record_codec.specs.Writing.{entry_bytes}
use Rattle.record_codec.specs.Validity.{IsEncoding}
use Rattle.record_fields.specs.declared.versions.Version.{Version}
use Rattle.record_codec.specs.declared.entry.Entry.{Entry}
use Rattle.shop_core.specs.Legal.{Continues}
use Rattle.shop_core.specs.File.Files.{StandsFor, IsSoundUpTo, IsDamagedFile, bodies_of}

-- a file stands for at most one history
abbrev pub OneHistory : Type 0
OneHistory =
    (version another : Version) (issuer other : List ℕ) (entries others : List Entry) (file : List ℕ) →
    StandsFor version issuer entries file → StandsFor another other others file →
    (version ≡ another) × (issuer ≡ other) × (entries ≡ others)

-- a file is damaged at one byte at most
abbrev pub OneDamage : Type 0
OneDamage = (file : List ℕ) (at place : ℕ) → IsDamagedFile file at → IsDamagedFile file place → at ≡ place

-- a file that stands for a history is not damaged
abbrev pub SoundOrDamaged : Type 0
SoundOrDamaged =
    (version : Version) (issuer : List ℕ) (entries : List Entry) (file : List ℕ) (at : ℕ) →
    StandsFor version issuer entries file → IsDamagedFile file at → ⊥

-- a file that isn't begun stands for no history and is not damaged
abbrev pub NotBegunIsNeither : Type 0
NotBegunIsNeither =
    (version : Version) (issuer : List ℕ) (entries : List Entry) (file : List ℕ) (at : ℕ) →
    IsNotBegun file → (StandsFor version issuer entries file → ⊥) × (IsDamagedFile file at → ⊥)

-- a file is sound up to this place, and no entry that continues its history follows there
pub record StopsAt (version : Version) (issuer : List ℕ) (entries : List Entry) (at : ℕ) (file : List ℕ) : Type 0 where
  pub sound : IsSoundUpTo version issuer entries at file
  pub ends : (entry : Entry) (body : List ℕ) →
      IsCounted (drop at file) body → IsEncoding version issuer entry body → Continues version issuer entries entry → ⊥

-- a file stops at one place
abbrev pub OneStop : Type 0
OneStop =
    (version another : Version) (issuer other : List ℕ) (entries others : List Entry) (at place : ℕ) (file : List ℕ) →
    StopsAt version issuer entries at file → StopsAt another other others place file →
    (version ≡ another) × (issuer ≡ other) × (entries ≡ others) × (at ≡ place)

-- one that stands for a history stops at its closing gate
abbrev pub StopsAtItsGate : Type 0
StopsAtItsGate =
    (version : Version) (issuer : List ℕ) (entries : List Entry) (file : List ℕ) → StandsFor version issuer entries file →
    StopsAt version issuer entries (closing_gate (bodies_of version entries)) file
    × IsClosed (drop (closing_gate (bodies_of version entries)) file)

-- a file with a sound header is sound up to byte 19, with no entry
abbrev pub SoundBegins : Type 0
SoundBegins = (version : Version) (issuer file : List ℕ) → IsBegun version issuer file → IsSoundUpTo version issuer [] 19 file

-- past each counted frame of an entry that continues the history it is sound too
abbrev pub SoundGoesOn : Type 0
SoundGoesOn =
    (version : Version) (issuer : List ℕ) (entries : List Entry) (at : ℕ) (file body : List ℕ) (entry : Entry) →
    IsSoundUpTo version issuer entries at file → IsCounted (drop at file) body → IsEncoding version issuer entry body →
    Continues version issuer entries entry →
    IsSoundUpTo version issuer (entries ++ entry ∷ []) (at + 5 + length body) file

-- and it stands for the history where a closed gate follows
abbrev pub SoundEnds : Type 0
SoundEnds =
    (version : Version) (issuer : List ℕ) (entries : List Entry) (at : ℕ) (file : List ℕ) →
    IsSoundUpTo version issuer entries at file → IsClosed (drop at file) → StandsFor version issuer entries file

-- Where a file of these entries is damaged once it is cut to this many bytes: at the cut where no byte after the header is left,
-- else at the gate of the frame that the cut leaves without its next gate.
pub data IsCutAt (version : Version) (entries : List Entry) (left : ℕ) : ℕ → Type 0 where
  in_header : left ≤ HEADER → IsCutAt version entries left left
  in_frame : (before after : List Entry) (entry : Entry) (at : ℕ) → entries ≡ before ++ entry ∷ after →
      at ≡ closing_gate (bodies_of version before) → at < left → left ≤ at + 5 + length (entry_bytes version entry) →
      IsCutAt version entries left at

-- each proper front, of 2 bytes or more, of a file that stands for a history and ends in its closing gate is damaged
abbrev pub CutIsDamaged : Type 0
CutIsDamaged =
    (version : Version) (issuer : List ℕ) (entries : List Entry) (front rest : List ℕ) →
    StandsFor version issuer entries (front ++ rest) → length (front ++ rest) ≡ closing_gate (bodies_of version entries) + 1 →
    2 ≤ length front → 1 ≤ length rest →
    (at : ℕ) × IsCutAt version entries (length front) at × IsDamagedFile front at
