-- What contracts see of a journal.
use Rattle.std.specs.Prelude.{ℕ, Option}
use Rattle.chain_disk.specs.declared.disk.Disk.{Ghosts}
use Rattle.journal.specs.declared.journal.Journal.{Journal}

-- the disk that it writes
abbrev pub disk_of : {D : Type 0} {g : Ghosts D} → Journal D g → D
disk_of journal = journal.disk

-- the place of its closing gate
abbrev pub end_of : {D : Type 0} {g : Ghosts D} → Journal D g → ℕ
end_of journal = journal.end

-- the disk's count of faults when an append failed, which stopped it
abbrev pub stopped_of : {D : Type 0} {g : Ghosts D} → Journal D g → Option ℕ
stopped_of journal = journal.stopped
