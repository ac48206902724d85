-- What the calls that write leave in the file, byte by byte, and how many moments of the disk they take.
use Rattle.std.specs.Prelude.{◌≡◌, ◌<◌, ◌≤◌, ◌+◌, ℕ, List, [], ◌∷◌, ◌++◌, length, take, drop}
use Rattle.chain_disk.specs.OnDisk.{LeavesOnly, OnDisk, moment}
use Rattle.frames.specs.Frames.{frame}
use Rattle.record_fields.specs.declared.versions.Version.{Version}
use Rattle.journal.specs.File.{header}

-- a frame more at this gate: the bytes up to it, the gate as 1, the frame with its closed gate, and what stood after that
abbrev pub with_frame : List ℕ → ℕ → List ℕ → List ℕ
with_frame file gate body = take gate file ++ (1 ∷ (frame body ++ drop (gate + 1 + length (frame body)) file))

-- the bytes before this gate are those of the file that was held
abbrev pub KeepsFront : ℕ → List ℕ → List ℕ → Type 0
KeepsFront gate held file = take gate file ≡ take gate held

-- the bytes before this gate stay, in the file at the end and in each that a crash leaves since
pub record AppendsFrom (gate : ℕ) (old new : OnDisk) : Type 0 where
  pub file : KeepsFront gate old.content new.content
  pub each_crash : LeavesOnly old new (KeepsFront gate old.content)

-- a file that is begun and empty: the gate as 1, the header, and a closed gate
abbrev pub empty_file : Version → List ℕ → List ℕ
empty_file version issuer = 1 ∷ (header version issuer ++ 0 ∷ [])

-- The header and the gate take a write and a sync each. Where at most one byte was there, so does a closed byte 0 before them.
pub record CreationTakes (old new : OnDisk) : Type 0 where
  pub from_nothing : length old.content ≤ 1 → moment new ≡ moment old + 6
  pub from_closed : 1 < length old.content → moment new ≡ moment old + 4
