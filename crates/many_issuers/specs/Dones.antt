-- How a run for several issuers ends, by the ends of all issuers and by what the sink took of their blocks.
use Rattle.std.specs.Prelude.{◌≡◌, ◌≢◌, ◌⊎◌, ℕ, List, [], ◌∷◌, ◌++◌, flat_map, length, filter_map, Option, Some, None, Result, Ok, Err, IsOk, OnOk}
use Rattle.std.specs.List.{AllByRecursion}
use Rattle.ports.specs.Sinks.{FailedIn, Sinks, Wrote, WroteNothing}
use Rattle.ports.specs.declared.faults.NoMemory.{NoMemory}
use Rattle.chain_disk.specs.declared.disk.Disk as disk
use Rattle.report.specs.Status.{status_of}
use Rattle.report.specs.declared.status.Detail.{Detail}
use Rattle.report.specs.declared.status.Detail.TheVariants as detail
use Rattle.many_issuers.specs.declared.working.Done.{Done}
use Rattle.many_issuers.specs.declared.working.IssuerJob.{IssuerJob}

-- what is done of these jobs
abbrev pub dones_in : {D C Z G : Type 0} {g : disk.Ghosts D} → List (IssuerJob D C Z G g) → List (Done D C Z G)
dones_in {D} {C} {Z} {G} {g} jobs = filter_map (λ (j : IssuerJob D C Z G g). j.done) jobs

-- an issuer's block, and nothing where there was no memory for it
abbrev pub block_in : Result (List ℕ) NoMemory → List ℕ
block_in (Ok block) = block
block_in (Err fault) = []

-- there was memory for each of these blocks, and this is the text of all
pub record IsWhole (blocks : List (Result (List ℕ) NoMemory)) (text : List ℕ) : Type 0 where
  pub each : AllByRecursion (λ (block : Result (List ℕ) NoMemory). IsOk block) blocks
  pub is : text ≡ flat_map block_in blocks

-- a block more, where there is one
abbrev pub PutsBlock : List ℕ → Result (List ℕ) NoMemory → List ℕ → Result (Unit {0}) NoMemory → Type 0
PutsBlock old (Ok block) new result = OnOk result (new ≡ old ++ block)
PutsBlock old (Err fault) new result = result ≡ Err fault

-- no issuer's status is other than 0
abbrev pub AllEndWell : List Detail → Type 0
AllEndWell ends = AllByRecursion (λ (end : Detail). status_of end ≡ 0) ends

-- the first issuer whose status isn't 0: its index, from 0, and its status
pub record IsFirstBad (ends : List Detail) (index status : ℕ) : Type 0 where
  pub before : List Detail
  pub bad : Detail
  pub behind : List Detail
  pub ends_are : ends ≡ before ++ bad ∷ behind
  pub well : AllEndWell before
  pub index_is : index ≡ length before
  pub status_is : status ≡ status_of bad
  pub not_well : status ≢ 0

-- the end of a run by the first issuer whose status isn't 0, where there is one
abbrev pub BadIs : List Detail → Option Detail → Type 0
BadIs ends None = AllEndWell ends
BadIs ends (Some (detail.Issuer index status)) = IsFirstBad ends index status
BadIs ends (Some other) = ⊥

-- The end of the run: the first issuer's whose status isn't 0, before a fault of the sink. Where there was no memory for the text
-- nothing was printed.
--= The run ends with the first issuer whose status isn't 0, before a fault of the sink; without memory for the text
--= nothing was printed.
--= No body: its order is tested
pub data IssuersEnd (ends : List Detail) (blocks : List (Result (List ℕ) NoMemory)) (s : Sinks) : Detail → Type 0 where
  done : (text : List ℕ) → AllEndWell ends → IsWhole blocks text → Wrote s text → IssuersEnd ends blocks s detail.Done
  write_fault : (text : List ℕ) → AllEndWell ends → IsWhole blocks text → FailedIn s text →
      IssuersEnd ends blocks s detail.WriteFault
  issuer : (text : List ℕ) (index status : ℕ) → IsFirstBad ends index status → IsWhole blocks text →
      Wrote s text ⊎ FailedIn s text → IssuersEnd ends blocks s (detail.Issuer index status)
  no_memory : WroteNothing s → IssuersEnd ends blocks s detail.NoMemory
