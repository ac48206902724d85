-- What a file stands for, at the level of its frames.
use Rattle.std.specs.Prelude.{◌≡◌, ◌⊎◌, ◌≤◌, ◌+◌, ℕ, List, [], ◌∷◌, ◌++◌, length, take, codes}
use Rattle.chain_disk.specs.OnDisk.{OnDisk, IsSettled, StillLeaves}
use Rattle.frames.specs.Frames.{length_bytes, IsBody}
use Rattle.parties.specs.Nif.{IsNif}
use Rattle.record_fields.specs.declared.versions.Version.{Version}
use Rattle.record_fields.specs.Versions.{number_of}
use Rattle.journal.specs.declared.TheConstants.{HEADER}

-- the bytes 1 to 18: a mark, the version and the issuer's NIF
abbrev pub header : Version → List ℕ → List ℕ
header version issuer = codes "VFCHAIN1" ++ (number_of version ∷ issuer)

-- counted frames of these bodies
abbrev pub framed : List (List ℕ) → List ℕ
framed [] = []
framed (body ∷ bodies) = 1 ∷ (length_bytes (length body) ++ (body ++ framed bodies))

abbrev pub AreBodies : List (List ℕ) → Type 0
AreBodies [] = Unit {0}
AreBodies (body ∷ bodies) = IsBody body × AreBodies bodies

-- a begun file of this version and issuer: its header, counted frames of these bodies, and a closed gate with anything after it
pub record IsFile (version : Version) (issuer : List ℕ) (bodies : List (List ℕ)) (file : List ℕ) : Type 0 where
  pub gate : ℕ
  pub rest : List ℕ
  pub nif : IsNif issuer
  pub sizes : AreBodies bodies
  pub shut : gate ≡ 1 → ⊥
  pub parts : file ≡ (1 ∷ header version issuer) ++ (framed bodies ++ (gate ∷ rest))

-- a file that isn't begun
abbrev pub IsNotBegun : List ℕ → Type 0
IsNotBegun [] = Unit {0}
IsNotBegun (first ∷ rest) = (length rest ≡ 0) ⊎ ((first ≡ 1 → ⊥) × (length rest ≤ HEADER))

-- the file as before the append, or with this body
abbrev pub IsBeforeOrAfter : Version → List ℕ → List (List ℕ) → List ℕ → List ℕ → Type 0
IsBeforeOrAfter version issuer bodies body file =
    IsFile version issuer bodies file ⊎ IsFile version issuer (bodies ++ body ∷ []) file

-- not begun, or begun and empty
abbrev pub IsNotBegunOrEmpty : Version → List ℕ → List ℕ → Type 0
IsNotBegunOrEmpty version issuer file = IsNotBegun file ⊎ IsFile version issuer [] file

-- the place of the closing gate
abbrev pub closing_gate : List (List ℕ) → ℕ
closing_gate bodies = HEADER + length (framed bodies)

-- a file of this version and issuer whose bodies begin with these, and whose bytes before the closing gate of these are those
pub record FileOn (version : Version) (issuer : List ℕ) (bodies : List (List ℕ)) (bytes file : List ℕ) : Type 0 where
  pub more : List (List ℕ)
  pub file_is : IsFile version issuer (bodies ++ more) file
  pub front : take (closing_gate bodies) file ≡ bytes

-- What the calls of a run made sure of, no later one of them loses: where the files that crashes at one moment may leave begin with
-- these bodies and bytes, so do those that crashes at a later moment may leave.
abbrev pub NeverLosesFrames : OnDisk → OnDisk → Type 0
NeverLosesFrames old new = (version : Version) (issuer : List ℕ) (bodies : List (List ℕ)) (bytes : List ℕ) →
    StillLeaves old new (FileOn version issuer bodies bytes)

-- the disk reads as such a file, nothing is pending, and the closing gate is at this place
pub record IsAt (version : Version) (issuer : List ℕ) (bodies : List (List ℕ)) (gate : ℕ) (t : OnDisk) : Type 0 where
  pub file : IsFile version issuer bodies t.content
  pub place : gate ≡ closing_gate bodies
  pub nothing_pending : IsSettled t

-- the file of some version, some issuer and some bodies, and its closing gate is at this place
abbrev pub IsAtSome : ℕ → OnDisk → Type 0
IsAtSome gate t = ∥ ((version : Version) × (issuer : List ℕ) × (bodies : List (List ℕ)) × IsAt version issuer bodies gate t) ∥₁
