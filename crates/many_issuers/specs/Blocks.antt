-- How an issuer of an installation ends, and what is printed of it.
use Rattle.std.specs.Prelude.{if◌then◌else◌, ℕ, List, ◌++◌, ◌||◌, Result, Ok, Err}
use Rattle.std.specs.List.{list_any}
use Rattle.chain_store.specs.declared.causes.OpenCause.{OpenCause}
use Rattle.chain_store.specs.declared.causes.OpenCause.TheVariants as cause
use Rattle.chain_store.specs.Replies.{Replies, is_disk_fault, is_no_memory}
use Rattle.record_codec.specs.declared.entry.Entry.{Entry}
use Rattle.report.specs.Posts.{closed_text, ended_text, issuer_text}
use Rattle.report.specs.Status.{status_of}
use Rattle.report.specs.declared.posts.Closed.{Closed}
use Rattle.report.specs.declared.posts.Closed.TheVariants as closed
use Rattle.report.specs.declared.status.Detail.{Detail}
use Rattle.report.specs.declared.status.Detail.TheVariants as detail
use Rattle.sender.specs.declared.answers.DrainFault.{DrainFault}
use Rattle.shop_core.specs.Answer.Requests.{Asked}
use Rattle.command_ends.specs.DrainEnds.{sender_lacks_memory}
use Rattle.command_ends.specs.DrainEnds.{fault_end}
use Rattle.shop_drain.specs.Opening.{opening_end}
use Rattle.command_ends.specs.Printed.{printed}

-- the end by what came after the commands
abbrev pub answer_end : Result (Unit {0}) DrainFault → Detail
answer_end (Ok done) = detail.Done
answer_end (Err fault) = fault_end fault

-- An issuer's end, by the replies to its asks and by what came after them: lack of memory before a fault of its disk, and that before
-- a contradiction and records that weren't delivered.
abbrev pub issuer_end : Replies → Result (Unit {0}) DrainFault → Detail
issuer_end replies answer =
    if list_any is_no_memory replies || sender_lacks_memory answer then detail.NoMemory
    else if list_any is_disk_fault replies then detail.DiskFault
    else answer_end answer

abbrev pub cause_of : OpenCause → Closed
cause_of (cause.Damaged at) = closed.Damaged at
cause_of (cause.OtherIssuer held) = closed.FileOf held
cause_of cause.DiskFault = closed.Disk
cause_of cause.NoMemory = closed.Memory

-- the block of an issuer whose file wasn't opened: its line, the cause, and its status
abbrev pub closed_block : List ℕ → OpenCause → List ℕ
closed_block issuer why = issuer_text issuer ++ closed_text (cause_of why) ++ ended_text (status_of (opening_end why))

-- the block of an issuer whose file was opened: its line, what `chain` prints of its answers and its history, and its status
abbrev pub answered_block : List ℕ → List Asked → Replies → List Entry → Detail → List ℕ
answered_block issuer asks replies entries end =
    issuer_text issuer ++ printed asks replies entries ++ ended_text (status_of end)
