-- What a run promises of a shop's file, of its tills and of what its agency was told, whatever it ran and however it ended. Its parts
-- stand beside it: ChainPromise, TillPromise, AgencyPromise, FilePromise over these three, FurtherPromise.
use Rattle.std.specs.Prelude.{ℕ, List, Option}
use Rattle.ports.specs.declared.Clock as clock
use Rattle.ports.specs.declared.sleeper.Sleeper as sleeper
use Rattle.chain_disk.specs.declared.disk.Disk as disk
use Rattle.agency_port.specs.declared.agency.Agency as agency
use Rattle.shop_drain.specs.Devices.{AllDevices}
use Rattle.shop_commands.specs.Further.{Further}
use Rattle.verifactu.specs.CommandLine.{IsAskedFor}
use Rattle.verifactu.specs.declared.command_line.Command.{Command}
use Rattle.verifactu.specs.FilePromise.{FileKept, writes_for}
use Rattle.verifactu.specs.FurtherPromise.{FurtherKept}

-- over a disk, a clock, a sleeper and an agency of any kind
module _ {D C Z G : Type 0} (d : disk.Ghosts D) (c : clock.Ghosts C) (z : sleeper.Ghosts Z) (g : agency.Ghosts G) where
  -- the promise of a run: the command that the words ask for, or none, and what is kept by it
  pub record Promise (words : List (List ℕ)) (a : AllDevices D C Z G) (f : Further D C Z G) : Type 0 where
    pub command : Option Command
    pub asked : IsAskedFor words command
    pub file : FileKept (writes_for command) a
    pub more : FurtherKept d c z g command a f
