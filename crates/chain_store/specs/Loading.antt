-- What a sound file is loaded as.
use Rattle.std.specs.Prelude.{◌≡◌, ◌≤◌, ℕ, List}
use Rattle.journal.specs.File.{IsNotBegun, closing_gate}
use Rattle.shop_core.specs.File.Files.{StandsFor, bodies_of, furthest_gate}
use Rattle.chain_store.specs.declared.causes.LoadFault.{LoadFault}
use Rattle.chain_store.specs.declared.causes.LoadFault.TheVariants.{DiskFault, Damaged, NoMemory}
use Rattle.chain_store.specs.declared.causes.OpenCause.{OpenCause}
use Rattle.chain_store.specs.declared.causes.OpenCause.TheVariants as cause
use Rattle.chain_store.specs.declared.loading.Loaded.{Loaded}
use Rattle.chain_store.specs.declared.loading.Loaded.TheVariants.{NotBegun, Begun}

-- the file isn't begun, or it stands for this history, of its version, with its closing gate at this byte
abbrev pub IsLoaded : List ℕ → Loaded → Type 0
IsLoaded file NotBegun = IsNotBegun file
IsLoaded file (Begun history end) =
    StandsFor history.version history.issuer history.entries file
    × (end ≡ closing_gate (bodies_of history.version history.entries))

-- the closing gate stands no further than this many entries can be long
abbrev pub HasNearGate : Loaded → Type 0
HasNearGate NotBegun = Unit {0}
HasNearGate (Begun history end) = end ≤ furthest_gate history.entries

-- why a file that gives no history can't be opened
abbrev pub open_cause : LoadFault → OpenCause
open_cause DiskFault = cause.DiskFault
open_cause (Damaged at) = cause.Damaged at
open_cause NoMemory = cause.NoMemory
