use Rattle.std.proofs.Common.{◌≡◌, Err, Result, ap}
use Rattle.journal.specs.declared.faults.StoreFault.{StoreFault}
use Rattle.journal.specs.declared.faults.StoreFault.TheVariants.{Stopped}
use Rattle.library_examples.proofs.waiting.note_lines.Goals as goal

abbrev failed : StoreFault → Result (Unit {0}) StoreFault
failed fault = Err fault

pub returns-in-Err-clause-stopped : goal.returns-in-Err-clause-stopped
returns-in-Err-clause-stopped g c = λ faults is.
    let same : c.in-Err.fault ≡ Stopped faults = (let x = is in cc) in
    (c.in-Err.ensures.stopped faults).0 (ap failed same)
