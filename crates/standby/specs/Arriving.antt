-- What arrives at a standby.
use Rattle.std.specs.Prelude.{◌≡◌, ◌<◌, ◌+◌, ◌++◌, ◌∷◌, [], ℕ, List, length, Bool, IsTrue, Some, None, Result, Ok, Err, OnOk, OnErr}
use Rattle.chain_disk.specs.OnDisk.{OnDisk, LeavesNow, LeavesOnly}
use Rattle.chain_store.specs.Ready.{WritesEntry}
use Rattle.journal.specs.Written.{with_frame}
use Rattle.journal.specs.declared.faults.StoreFault.{StoreFault}
use Rattle.journal.specs.declared.faults.StoreFault.TheVariants.{DiskFault, Stopped, NoMemory}
use Rattle.ports.specs.Causes.{Rose}
use Rattle.record_fields.specs.declared.versions.Version.{Version}
use Rattle.record_codec.specs.Reading.{IsDecoded}
use Rattle.record_codec.specs.Validity.{IsEncoding, IsNoEncoding}
use Rattle.record_codec.specs.declared.entry.Entry.{Entry}
use Rattle.record_codec.specs.declared.faults.BadEntry.TheVariants as bad
use Rattle.shop_core.specs.Breaks.{IsBreak}
use Rattle.shop_core.specs.declared.breaks.Break.{Break}
use Rattle.shop_core.specs.File.Files.{StandsBeforeOrWith, StandsFor}
use Rattle.shop_core.specs.Legal.{Continues}
use Rattle.standby.specs.Chains.{ChainOnDisk, GoesTo}
use Rattle.standby.specs.declared.arriving.Arrived.{Arrived}
use Rattle.standby.specs.declared.arriving.Arrived.TheVariants.{Kept, Old, Gap, Bad, Foreign}
use Rattle.standby.specs.declared.arriving.Looked.{Looked}
use Rattle.standby.specs.declared.arriving.Looked.TheVariants as looked
use Rattle.standby.specs.declared.pieces.Piece.{Piece}

-- the piece is the one after these entries, and brings this entry, which continues them
pub record IsNextPiece (version : Version) (issuer : List ℕ) (entries : List Entry) (piece : Piece) (entry : Entry) : Type 0 where
  pub place : piece.index ≡ length entries
  pub encoding : IsEncoding version issuer entry piece.body
  pub continues : Continues version issuer entries entry

-- the bytes at this place are no entry of this issuer from the byte `at` on
pub record IsBadPiece (version : Version) (issuer : List ℕ) (entries : List Entry) (piece : Piece) (at : ℕ) : Type 0 where
  pub place : piece.index ≡ length entries
  pub none : IsNoEncoding version issuer piece.body
  pub fault : IsDecoded version issuer piece.body (Err (bad.At at))

-- the piece's entry doesn't continue these
pub record IsForeignPiece (version : Version) (issuer : List ℕ) (entries : List Entry) (piece : Piece) (why : Break) : Type 0 where
  pub entry : Entry
  pub place : piece.index ≡ length entries
  pub encoding : IsEncoding version issuer entry piece.body
  pub breaks : IsBreak version issuer entries entry (Some why)
  pub apart : Continues version issuer entries entry → ⊥

-- What a piece is to a history. Each case excludes the others, and one holds.
abbrev pub IsLooked : Version → List ℕ → List Entry → Piece → Looked → Type 0
IsLooked version issuer entries piece looked.Old = piece.index < length entries
IsLooked version issuer entries piece (looked.Gap next) = (length entries < piece.index) × (next ≡ length entries)
IsLooked version issuer entries piece (looked.Bad at) = IsBadPiece version issuer entries piece at
IsLooked version issuer entries piece (looked.Foreign why) = IsForeignPiece version issuer entries piece why
IsLooked version issuer entries piece (looked.Next entry) = IsNextPiece version issuer entries piece entry

-- What a history becomes by what it answers to a piece: the answer's case holds, and a kept piece adds its entry.
abbrev pub ArrivesAs : Version → List ℕ → List Entry → Piece → Arrived → List Entry → Type 0
ArrivesAs version issuer entries piece Old then = (piece.index < length entries) × (then ≡ entries)
ArrivesAs version issuer entries piece (Gap next) then = (length entries < piece.index) × (next ≡ length entries) × (then ≡ entries)
ArrivesAs version issuer entries piece (Bad (bad.At at)) then = IsBadPiece version issuer entries piece at × (then ≡ entries)
ArrivesAs version issuer entries piece (Bad bad.NoMemory) then = ⊥
ArrivesAs version issuer entries piece (Foreign why) then = IsForeignPiece version issuer entries piece why × (then ≡ entries)
ArrivesAs version issuer entries piece Kept then = (entry : Entry) × IsNextPiece version issuer entries piece entry
    × (then ≡ entries ++ entry ∷ [])

-- Keeping an entry: at Ok the history has it, a crash leaves it, and its frame is all that was written. After a fault of the disk
-- the history is as it was, and the entry may be in the file.
pub record KeepsEntry {D E : Type 0} (tells : Bool) (on_disk : D → OnDisk) (faults : D → ℕ) (old new : ChainOnDisk D)
    (entry : Entry) (result : Result (Unit {0}) E) : Type 0 where
  pub goes : GoesTo tells on_disk faults old new
  pub added : OnOk result ((new.stopped ≡ None) × (new.history.entries ≡ old.history.entries ++ entry ∷ []))
  pub same : OnErr result (new.history.entries ≡ old.history.entries)
  pub any_moment : IsTrue tells → LeavesOnly (on_disk old.disk) (on_disk new.disk)
      (StandsBeforeOrWith old.history.version old.history.issuer old.history.entries entry)
  pub acknowledged : OnOk result (IsTrue tells →
      LeavesNow (on_disk new.disk) (StandsFor new.history.version new.history.issuer new.history.entries))
  pub content : OnOk result (IsTrue tells →
      WritesEntry old.history.version entry old.gate (on_disk old.disk) (on_disk new.disk))
  pub torn : OnErr result (new.torn ≡ Some entry)
  pub fault : OnErr result (Rose (faults old.disk) (faults new.disk) × (new.stopped ≡ Some (faults new.disk)))

-- adding one: room is made for it, and it is kept
abbrev pub AddsEntry : {D : Type 0} → Bool → (D → OnDisk) → (D → ℕ) → ChainOnDisk D → ChainOnDisk D → Entry →
    Result (Unit {0}) StoreFault → Type 0
AddsEntry tells on_disk faults old new entry (Ok done) = KeepsEntry {E = StoreFault} tells on_disk faults old new entry (Ok tt)
AddsEntry tells on_disk faults old new entry (Err DiskFault) =
    KeepsEntry {E = StoreFault} tells on_disk faults old new entry (Err DiskFault)
AddsEntry tells on_disk faults old new entry (Err (Stopped count)) = ⊥
AddsEntry tells on_disk faults old new entry (Err NoMemory) = new ≡ old

-- the piece's entry, kept or torn: it is the next one, and a crash at any moment leaves the history without it or with it
pub record Brings {D : Type 0} (tells : Bool) (on_disk : D → OnDisk) (faults : D → ℕ) (old new : ChainOnDisk D) (piece : Piece)
    (entry : Entry) : Type 0 where
  pub next : IsNextPiece old.history.version old.history.issuer old.history.entries piece entry
  pub goes : GoesTo tells on_disk faults old new
  pub any_moment : IsTrue tells → LeavesOnly (on_disk old.disk) (on_disk new.disk)
      (StandsBeforeOrWith old.history.version old.history.issuer old.history.entries entry)

-- the entry was added, every crash from now on leaves it, and a frame of the piece's bytes is all that was written
pub record KeepsPiece {D : Type 0} (tells : Bool) (on_disk : D → OnDisk) (faults : D → ℕ) (old new : ChainOnDisk D)
    (piece : Piece) : Type 0 where
  pub entry : Entry
  pub brings : Brings tells on_disk faults old new piece entry
  pub entries : new.history.entries ≡ old.history.entries ++ entry ∷ []
  pub going_on : new.stopped ≡ None
  pub acknowledged : IsTrue tells → LeavesNow (on_disk new.disk) (StandsFor new.history.version new.history.issuer new.history.entries)
  pub content : IsTrue tells → (on_disk new.disk).content ≡ with_frame (on_disk old.disk).content old.gate piece.body

-- the disk failed while the entry was added, which stops the standby
pub record TearsPiece {D : Type 0} (tells : Bool) (on_disk : D → OnDisk) (faults : D → ℕ) (old new : ChainOnDisk D)
    (piece : Piece) : Type 0 where
  pub entry : Entry
  pub brings : Brings tells on_disk faults old new piece entry
  pub entries : new.history.entries ≡ old.history.entries
  pub torn : new.torn ≡ Some entry
  pub rose : Rose (faults old.disk) (faults new.disk)
  pub stopped : new.stopped ≡ Some (faults new.disk)

-- What a piece does to a standby that goes on, by what is answered. A piece that isn't kept leaves all as it was.
abbrev pub Arrives : {D : Type 0} → Bool → (D → OnDisk) → (D → ℕ) → ChainOnDisk D → ChainOnDisk D → Piece →
    Result Arrived StoreFault → Type 0
Arrives tells on_disk faults old new piece (Ok Old) = (piece.index < length old.history.entries) × (new ≡ old)
Arrives tells on_disk faults old new piece (Ok (Gap next)) =
    (length old.history.entries < piece.index) × (next ≡ length old.history.entries) × (new ≡ old)
Arrives tells on_disk faults old new piece (Ok (Bad (bad.At at))) =
    IsBadPiece old.history.version old.history.issuer old.history.entries piece at × (new ≡ old)
Arrives tells on_disk faults old new piece (Ok (Bad bad.NoMemory)) = ⊥
Arrives tells on_disk faults old new piece (Ok (Foreign why)) =
    IsForeignPiece old.history.version old.history.issuer old.history.entries piece why × (new ≡ old)
Arrives tells on_disk faults old new piece (Ok Kept) = KeepsPiece tells on_disk faults old new piece
Arrives tells on_disk faults old new piece (Err DiskFault) = TearsPiece tells on_disk faults old new piece
Arrives tells on_disk faults old new piece (Err (Stopped count)) = ⊥
Arrives tells on_disk faults old new piece (Err NoMemory) = new ≡ old

-- one for a kept piece
abbrev pub kept_by : Arrived → ℕ
kept_by Kept = 1
kept_by _ = 0

-- these pieces, one after another, made of the one history the other, and this many of them were kept
pub data Received (version : Version) (issuer : List ℕ) (start : List Entry) : List Piece → List Entry → ℕ → Type 0 where
  none : Received version issuer start [] start 0
  more : (pieces : List Piece) (entries : List Entry) (kept : ℕ) (piece : Piece) (arrived : Arrived) (then : List Entry) →
      Received version issuer start pieces entries kept → ArrivesAs version issuer entries piece arrived then →
      Received version issuer start (pieces ++ piece ∷ []) then (kept + kept_by arrived)

-- the torn entry is the one that this piece brings, which is the next one
pub record TornBy {D : Type 0} (chain : ChainOnDisk D) (piece : Piece) : Type 0 where
  pub entry : Entry
  pub next : IsNextPiece chain.history.version chain.history.issuer chain.history.entries piece entry
  pub torn : chain.torn ≡ Some entry

-- what ended it: the disk failed at this piece, or had stopped the standby before the first, or memory ran out
abbrev pub EndsAtFault : {D : Type 0} → (D → ℕ) → ChainOnDisk D → ChainOnDisk D → List Piece → Piece → StoreFault → Type 0
EndsAtFault faults old new done piece DiskFault =
    (old.stopped ≡ None) × Rose (faults old.disk) (faults new.disk) × (new.stopped ≡ Some (faults new.disk)) × TornBy new piece
EndsAtFault faults old new done piece (Stopped count) = (old.stopped ≡ Some count) × (done ≡ []) × (new ≡ old)
EndsAtFault faults old new done piece NoMemory = (old.stopped ≡ None) × (new.stopped ≡ None)

-- pieces up to a store fault
pub record ReceivesUpTo {D : Type 0} (faults : D → ℕ) (old new : ChainOnDisk D) (pieces : List Piece) (fault : StoreFault) :
    Type 0 where
  pub done : List Piece
  pub piece : Piece
  pub rest : List Piece
  pub are : pieces ≡ done ++ piece ∷ rest
  pub kept : ℕ
  pub received : Received old.history.version old.history.issuer old.history.entries done new.history.entries kept
  pub ends : EndsAtFault faults old new done piece fault
