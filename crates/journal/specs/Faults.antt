-- The fault of a journal as one of the layers above.
use Rattle.journal.specs.declared.journal.JournalFault.{JournalFault}
use Rattle.journal.specs.declared.journal.JournalFault.TheVariants.{DiskFault, Stopped}
use Rattle.journal.specs.declared.faults.StoreFault.{StoreFault}
use Rattle.journal.specs.declared.faults.StoreFault.TheVariants as store

abbrev pub store_fault : JournalFault → StoreFault
store_fault DiskFault = store.DiskFault
store_fault (Stopped faults) = store.Stopped faults

-- lack of memory
abbrev pub no_memory : StoreFault
no_memory = store.NoMemory
