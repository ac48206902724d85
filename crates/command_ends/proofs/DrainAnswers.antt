-- How a command ends by a drain's answer.
use Rattle.std.proofs.Common.{◌≡◌, ◌⊎◌, inl, inr, refl, sym, subst, ℕ, ◌-◌, List, Result, Ok, Err}
use Rattle.ports.specs.Sinks.{FailedIn, OutputIs, Sinks, Wrote, WrotePart}
use Rattle.ports.specs.declared.faults.Failed.{Failed}
use Rattle.journal.specs.declared.faults.StoreFault.TheVariants as store
use Rattle.sender.specs.declared.answers.DrainFault.{DrainFault}
use Rattle.sender.specs.declared.answers.DrainFault.TheVariants as drain
use Rattle.report.specs.declared.status.Detail.{Detail}
use Rattle.command_ends.specs.DrainEnds.{DrainRunEnds, fault_end}
use Rattle.command_ends.specs.DrainEnds.DrainRunEnds.{undelivered, contradiction, disk_fault, no_memory}
use Rattle.command_ends.proofs.Bytewise.{part_of_output}
use Rattle.command_ends.proofs.RunEnding.{written_either}

pub either_part : (s : Sinks) (text : List ℕ) → Wrote s text ⊎ FailedIn s text → WrotePart s text
either_part s text (inl whole) = part_of_output s text (Ok tt) whole
either_part s text (inr failed) = failed.part

-- the end of a drain that failed
pub fault_ends : (fault : DrainFault) (text : List ℕ) (s : Sinks) → Wrote s text ⊎ FailedIn s text → DrainRunEnds (Err fault) text
    s (fault_end fault)
fault_ends (drain.Undelivered n r) text s w = undelivered n r refl w
fault_ends (drain.Contradiction evidence) text s w = contradiction evidence refl w
fault_ends (drain.Store store.DiskFault) text s w = disk_fault tt w
fault_ends (drain.Store (store.Stopped faults)) text s w = disk_fault tt w
fault_ends (drain.Store store.NoMemory) text s w = no_memory (either_part s text w)
fault_ends drain.NoMemory text s w = no_memory (either_part s text w)

pub answer_ends : (answer : Result (Unit {0}) DrainFault) (fault : DrainFault) (text : List ℕ) (s : Sinks)
    (written : Result (Unit {0}) Failed) (end : Detail) → answer ≡ Err fault → end ≡ fault_end fault → OutputIs s text written →
    DrainRunEnds answer text s end
answer_ends answer fault text s written end is ends h =
    subst (λ (r : Result (Unit {0}) DrainFault). DrainRunEnds r text s end) (sym is)
    (subst (λ (d : Detail). DrainRunEnds (Err fault) text s d) (sym ends)
    (fault_ends fault text s (written_either text s written h)))
