-- How a command ends by the answer of a drain, and by what the sink took of its text.
use Rattle.std.specs.Prelude.{◌-◌, [], Bool, true, false, Result, Err, ◌≡◌, ◌⊎◌, ℕ, List, ⊤, Ok}
use Rattle.journal.specs.declared.faults.StoreFault.TheVariants as store
use Rattle.sender.specs.declared.answers.DrainFault.{DrainFault}
use Rattle.sender.specs.declared.answers.DrainFault.TheVariants as drain
use Rattle.ports.specs.Sinks.{Sinks, Wrote, FailedIn, WrotePart}
use Rattle.journal.specs.declared.faults.StoreFault.{StoreFault}
use Rattle.agency_port.specs.declared.turns.Evidence.{Evidence}
use Rattle.report.specs.declared.status.Detail.{Detail}
use Rattle.report.specs.declared.status.Detail.TheVariants as detail
use Rattle.sender_session.specs.Session.{IsDiskAnswer}

-- the sender found no memory
abbrev pub sender_lacks_memory : Result (Unit {0}) DrainFault → Bool
sender_lacks_memory (Err (drain.Store store.NoMemory)) = true
sender_lacks_memory (Err drain.NoMemory) = true
sender_lacks_memory _ = false

-- the end of a command whose store failed so
abbrev pub store_end : StoreFault → Detail
store_end store.DiskFault = detail.DiskFault
store_end (store.Stopped faults) = detail.DiskFault
store_end store.NoMemory = detail.NoMemory

-- the end of a drain that failed so, where its text was written
abbrev pub fault_end : DrainFault → Detail
fault_end (drain.Undelivered noted_count records_count) = detail.Undelivered noted_count records_count
fault_end (drain.Contradiction evidence) = detail.Contradiction evidence
fault_end (drain.Store fault) = store_end fault
fault_end drain.NoMemory = detail.NoMemory

-- How the run of a drain ends, by its answer and by what the sink took of its text: lack of memory before a fault of the disk,
-- and the others before one of the sink.
pub data DrainRunEnds (answer : Result (Unit {0}) DrainFault) (text : List ℕ) (s : Sinks) : Detail → Type 0 where
  done : answer ≡ Ok tt → Wrote s text → DrainRunEnds answer text s detail.Done
  write_fault : answer ≡ Ok tt → FailedIn s text → DrainRunEnds answer text s detail.WriteFault
  undelivered : (noted_count records_count : ℕ) → answer ≡ Err (drain.Undelivered noted_count records_count) →
      Wrote s text ⊎ FailedIn s text → DrainRunEnds answer text s (detail.Undelivered noted_count records_count)
  contradiction : (evidence : Evidence) → answer ≡ Err (drain.Contradiction evidence) → Wrote s text ⊎ FailedIn s text →
      DrainRunEnds answer text s (detail.Contradiction evidence)
  disk_fault : IsDiskAnswer answer → Wrote s text ⊎ FailedIn s text → DrainRunEnds answer text s detail.DiskFault
  no_memory : WrotePart s text → DrainRunEnds answer text s detail.NoMemory
