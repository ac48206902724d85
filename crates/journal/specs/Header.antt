-- What the first bytes of a file stand for.
use Rattle.std.specs.Prelude.{◌≡◌, ◌<◌, ◌≤◌, ◌+◌, ℕ, List, length, codes, slice_index, slice_range}
use Rattle.parties.specs.Nif.{IsNif}
use Rattle.record_fields.specs.declared.versions.Version.{Version}
use Rattle.record_fields.specs.Versions.{number_of}
use Rattle.journal.specs.File.{IsNotBegun}
use Rattle.journal.specs.declared.TheConstants.{HEADER}
use Rattle.journal.specs.declared.reading.Header.{Header}
use Rattle.journal.specs.declared.reading.Header.TheVariants.{NotBegun, Begun, Damaged}

-- byte 0 is 1, and the mark stands after it
pub record HasMark (file : List ℕ) : Type 0 where
  pub long : 10 ≤ length file
  pub first : slice_index file 0 ≡ 1
  pub mark : slice_range file 1 9 ≡ codes "VFCHAIN1"

-- and the number of this version
pub record HasVersion (version : Version) (file : List ℕ) : Type 0 where
  pub marked : HasMark file
  pub number : slice_index file 9 ≡ number_of version

-- The rows of the table that name a damage in the header, each where none above it holds.
pub data IsHeaderDamaged (file : List ℕ) : ℕ → Type 0 where
  closed : HEADER + 1 < length file → (slice_index file 0 ≡ 1 → ⊥) → IsHeaderDamaged file 0
  cut_in_mark : slice_index file 0 ≡ 1 → 2 ≤ length file → length file ≤ 9 → IsHeaderDamaged file (length file)
  no_mark : 10 ≤ length file → slice_index file 0 ≡ 1 → (slice_range file 1 9 ≡ codes "VFCHAIN1" → ⊥) → IsHeaderDamaged file 1
  other_version : HasMark file → ((version : Version) → slice_index file 9 ≡ number_of version → ⊥) → IsHeaderDamaged file 9
  cut_in_issuer : (version : Version) → HasVersion version file → length file < HEADER → IsHeaderDamaged file (length file)
  no_nif : (version : Version) → HasVersion version file → HEADER ≤ length file → (IsNif (slice_range file 10 HEADER) → ⊥) →
      IsHeaderDamaged file 10

-- a sound header of this version and issuer
pub record IsBegun (version : Version) (issuer file : List ℕ) : Type 0 where
  pub versioned : HasVersion version file
  pub long : HEADER ≤ length file
  pub issuer_is : slice_range file 10 HEADER ≡ issuer
  pub nif : IsNif issuer

abbrev pub IsHeader : List ℕ → Header → Type 0
IsHeader file NotBegun = IsNotBegun file
IsHeader file (Begun issuer number) = (version : Version) × IsBegun version issuer file × (number ≡ number_of version)
IsHeader file (Damaged at) = IsHeaderDamaged file at

-- where it says a version, it says the number of one
abbrev pub SaysAVersion : Header → Type 0
SaysAVersion NotBegun = Unit {0}
SaysAVersion (Begun issuer number) = (version : Version) × (number ≡ number_of version)
SaysAVersion (Damaged at) = Unit {0}
