-- How a day ends by its tills' replies and by the answer of its sender.
use Rattle.std.specs.Prelude.{◌≡◌, ◌⊎◌, ℕ, List, true, false, Result, Ok, Err}
use Rattle.std.specs.List.{list_any}
use Rattle.ports.specs.Sinks.{Sinks, Wrote, FailedIn, WrotePart}
use Rattle.agency_port.specs.declared.turns.Evidence.{Evidence}
use Rattle.sender.specs.declared.answers.DrainFault.{DrainFault}
use Rattle.sender.specs.declared.answers.DrainFault.TheVariants as drain
use Rattle.report.specs.declared.status.Detail.{Detail}
use Rattle.report.specs.declared.status.Detail.TheVariants as detail
use Rattle.sender_session.specs.Session.{IsDiskAnswer}
use Rattle.command_ends.specs.DrainEnds.{fault_end, sender_lacks_memory}
use Rattle.chain_store.specs.Replies.{AllReplied, Replies, is_disk_fault, is_no_memory}

-- the end of a day whose sender failed so: one that gave up tells the two counts of the history
abbrev pub sender_end : ℕ → ℕ → DrainFault → Detail
sender_end noted_count records_count (drain.Undelivered n r) = detail.Undelivered noted_count records_count
sender_end noted_count records_count fault = fault_end fault

-- How a day ends, by what its tills and its sender were told, by the two counts of its history, and by what the sink took of its
-- text: lack of memory before a fault of the disk, that before a contradiction and an undelivered drain, and these before a fault
-- of the sink. It is done only where all records have noted lines, and an undelivered drain tells the two counts.
--= The status of a day is the first that holds of 10, 6, 11 or 8, and 5; 0 comes only where every command has an
--= answer that is no fault, no record waits, and the sink took the whole text.
pub data DayRunEnds (replies : Replies) (answer : Result (Unit {0}) DrainFault) (noted_count records_count : ℕ) (text : List ℕ)
    (s : Sinks) : Detail → Type 0 where
  done : AllReplied replies → answer ≡ Ok tt → noted_count ≡ records_count → Wrote s text →
      DayRunEnds replies answer noted_count records_count text s detail.Done
  write_fault : AllReplied replies → answer ≡ Ok tt → noted_count ≡ records_count → FailedIn s text →
      DayRunEnds replies answer noted_count records_count text s detail.WriteFault
  undelivered : (n r : ℕ) → AllReplied replies → answer ≡ Err (drain.Undelivered n r) → Wrote s text ⊎ FailedIn s text →
      DayRunEnds replies answer noted_count records_count text s (detail.Undelivered noted_count records_count)
  contradiction : (evidence : Evidence) → AllReplied replies → answer ≡ Err (drain.Contradiction evidence) →
      Wrote s text ⊎ FailedIn s text → DayRunEnds replies answer noted_count records_count text s (detail.Contradiction evidence)
  disk_fault : list_any is_no_memory replies ≡ false → sender_lacks_memory answer ≡ false →
      (list_any is_disk_fault replies ≡ true) ⊎ IsDiskAnswer answer → Wrote s text ⊎ FailedIn s text →
      DayRunEnds replies answer noted_count records_count text s detail.DiskFault
  no_memory : WrotePart s text → DayRunEnds replies answer noted_count records_count text s detail.NoMemory
