-- How the run of a script's commands ends.
use Rattle.std.specs.Prelude.{◌≡◌, ◌⊎◌, ℕ, List, true, false}
use Rattle.std.specs.List.{list_any}
use Rattle.ports.specs.Sinks.{Sinks, Wrote, FailedIn, WrotePart}
use Rattle.report.specs.declared.status.Detail.{Detail}
use Rattle.report.specs.declared.status.Detail.TheVariants as detail
use Rattle.chain_store.specs.Replies.{Replies, AllReplied, is_no_memory, is_disk_fault}

-- by its replies and what the sink took of its text: lack of memory before a fault of the disk, and that before one of the sink
pub data RunEnds (replies : Replies) (text : List ℕ) (s : Sinks) : Detail → Type 0 where
  done : AllReplied replies → Wrote s text → RunEnds replies text s detail.Done
  write_fault : AllReplied replies → FailedIn s text → RunEnds replies text s detail.WriteFault
  disk_fault : list_any is_no_memory replies ≡ false → list_any is_disk_fault replies ≡ true → Wrote s text ⊎ FailedIn s text →
      RunEnds replies text s detail.DiskFault
  no_memory : WrotePart s text → RunEnds replies text s detail.NoMemory
