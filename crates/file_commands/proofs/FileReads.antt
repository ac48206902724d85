-- What was read of a file is its history.
use Rattle.std.proofs.Common.{inl, inr, List, ℕ, [], refl}
use Rattle.shop_core.specs.File.Reading.{IsRead}
use Rattle.shop_core.specs.File.Reading.IsRead.{not_begun, stands, in_header, no_frame, no_entry, not_next}
use Rattle.shop_core.specs.declared.file.reading.FileRead.{FileRead}
use Rattle.shop_core.specs.declared.file.reading.FileRead.TheVariants.{NotBegun, Sound, Broken}
use Rattle.link_check.specs.Checking.Chain.{not_begun as none_begun, begun}
use Rattle.file_commands.specs.Checking.{IsChainOf}
use Rattle.file_commands.specs.Linking.{IsHistoryOf}

abbrev pub Holds : List ℕ → FileRead → Type 0
Holds file NotBegun = IsHistoryOf [] file
Holds file (Sound history end) = IsHistoryOf history.entries file
Holds file (Broken place at what) = Unit {0}

pub holds : (file : List ℕ) (read : FileRead) → IsRead file read → Holds file read
holds file read (not_begun none) = inl (none, refl)
holds file read (stands history end h gate) = inr (history.version, history.issuer, h)
holds file read (in_header at h) = tt
holds file read (no_frame version issuer entries at sound damaged) = tt
holds file read (no_entry version issuer entries at body sound counted none) = tt
holds file read (not_next version issuer entries at body entry why sound counted encoding not broken) = tt

-- What links are held against.
abbrev pub HoldsChain : List ℕ → FileRead → Type 0
HoldsChain file NotBegun = IsChainOf none_begun file
HoldsChain file (Sound history end) = IsChainOf (begun history.issuer history.entries) file
HoldsChain file (Broken place at what) = Unit {0}

pub kept : (file : List ℕ) (read : FileRead) → IsRead file read → HoldsChain file read
kept file read (not_begun none) = none
kept file read (stands history end h gate) = (history.version, h)
kept file read (in_header at h) = tt
kept file read (no_frame version issuer entries at sound damaged) = tt
kept file read (no_entry version issuer entries at body sound counted none) = tt
kept file read (not_next version issuer entries at body entry why sound counted encoding not broken) = tt
