-- A whole file that is written while its byte 0 is held closed, and opened last: what a crash leaves of it meanwhile.
use Rattle.std.specs.Prelude.{◌≡◌, ◌⊎◌, ◌<◌, ◌≤◌, ◌+◌, ℕ, List, ◌∷◌, ◌++◌, [], length, take, slice_index, slice_range}
use Rattle.chain_disk.specs.OnDisk.{OnDisk}
use Rattle.chain_disk.specs.declared.range.Range.{Range}
use Rattle.parties.specs.Nif.{IsNif}
use Rattle.record_fields.specs.declared.versions.Version.{Version}
use Rattle.journal.specs.File.{header, IsFile, IsNotBegun}
use Rattle.journal.specs.declared.TheConstants.{HEADER}

-- an unfinished file of this version and issuer: byte 0 isn't 1, there are more than 20 bytes, and bytes 1 to 18 are its header
pub record IsUnfinished (version : Version) (issuer file : List ℕ) : Type 0 where
  pub long : HEADER + 1 < length file
  pub shut : slice_index file 0 ≡ 1 → ⊥
  pub header_is : slice_range file 1 HEADER ≡ header version issuer

-- what a crash leaves while byte 0 is held closed
abbrev pub IsHeldShut : Version → List ℕ → List ℕ → Type 0
IsHeldShut version issuer file = IsNotBegun file ⊎ IsUnfinished version issuer file

-- the same, or the file of these bodies
abbrev pub IsShutOrWhole : Version → List ℕ → List (List ℕ) → List ℕ → Type 0
IsShutOrWhole version issuer bodies file = IsHeldShut version issuer file ⊎ IsFile version issuer bodies file

-- a file of this length that is neither not begun nor an unfinished one of this version and issuer
pub record IsOccupied (version : Version) (issuer file : List ℕ) (size : ℕ) : Type 0 where
  pub size_is : size ≡ length file
  pub begun : IsNotBegun file → ⊥
  pub other : IsUnfinished version issuer file → ⊥

-- each of these ranges begins at this place or after it
abbrev pub BeginPast : ℕ → List Range → Type 0
BeginPast n [] = Unit {0}
BeginPast n (r ∷ ranges) = (n ≤ r.at) × BeginPast n ranges

-- Frames are being written after a closed byte 0. It and the header are made sure of, no write since begins before byte 19,
-- and a read gives them with these bytes after, up to this place.
pub record IsWriting (version : Version) (issuer bytes : List ℕ) (at : ℕ) (t : OnDisk) : Type 0 where
  pub first : ℕ
  pub shut : first ≡ 1 → ⊥
  pub nif : IsNif issuer
  pub place : at ≡ HEADER + length bytes
  pub sure : take HEADER t.now.synced ≡ first ∷ header version issuer
  pub past : BeginPast HEADER t.now.ranges
  pub front : take at t.content ≡ (first ∷ header version issuer) ++ bytes

-- frames of some bodies were written so, up to this place
abbrev pub IsWritingSome : ℕ → OnDisk → Type 0
IsWritingSome at t = (version : Version) × (issuer : List ℕ) × (bytes : List ℕ) × IsWriting version issuer bytes at t

-- the content from before; or, where that was held shut, what a crash leaves while byte 0 is held closed
abbrev pub IsSameOrShut : Version → List ℕ → List ℕ → List ℕ → Type 0
IsSameOrShut version issuer content file = (file ≡ content) ⊎ (IsHeldShut version issuer content × IsHeldShut version issuer file)
