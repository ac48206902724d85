-- Why two files were not brought level, by the cause below.
use Rattle.chain_store.specs.declared.causes.OpenCause.{OpenCause}
use Rattle.chain_store.specs.declared.causes.OpenCause.TheVariants as opening
use Rattle.journal.specs.declared.faults.StoreFault.{StoreFault}
use Rattle.journal.specs.declared.faults.StoreFault.TheVariants as store
use Rattle.journal.specs.declared.tails.TailFault.{TailFault}
use Rattle.journal.specs.declared.tails.TailFault.TheVariants as tail
use Rattle.standby.specs.declared.causes.StandbyCause.{StandbyCause}
use Rattle.standby.specs.declared.causes.StandbyCause.TheVariants as starting
use Rattle.second_disk.specs.declared.causes.Half.{Half}
use Rattle.second_disk.specs.declared.causes.Half.TheVariants.{First, Second}
use Rattle.second_disk.specs.declared.causes.LevelCause.{LevelCause}
use Rattle.second_disk.specs.declared.causes.LevelCause.TheVariants.{DiskFault, Damaged, OtherIssuer, OtherVersion, OtherGate, NoMemory}

-- of a file that couldn't be opened
abbrev pub opened_cause : Half → OpenCause → LevelCause
opened_cause half opening.DiskFault = DiskFault half
opened_cause half (opening.Damaged at) = Damaged half at
opened_cause half (opening.OtherIssuer held) = OtherIssuer half held
opened_cause half opening.NoMemory = NoMemory

-- of a file that couldn't be opened in the other one's version
abbrev pub started_cause : Half → StandbyCause → LevelCause
started_cause half starting.DiskFault = DiskFault half
started_cause half (starting.Damaged at) = Damaged half at
started_cause half (starting.OtherIssuer held) = OtherIssuer half held
started_cause half (starting.OtherVersion held) = OtherVersion held
started_cause half starting.NoMemory = NoMemory

-- of bytes behind the closing gates that weren't made equal
abbrev pub tail_cause : TailFault → LevelCause
tail_cause tail.First = DiskFault First
tail_cause tail.Second = DiskFault Second
tail_cause tail.OtherGate = OtherGate

-- of a file that couldn't be brought up
abbrev pub store_cause : Half → StoreFault → LevelCause
store_cause half store.DiskFault = DiskFault half
store_cause half (store.Stopped faults) = DiskFault half
store_cause half store.NoMemory = NoMemory
