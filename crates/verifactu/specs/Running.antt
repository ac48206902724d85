-- One call of the program, by what it is given and what it leaves.
use Rattle.std.specs.Prelude.{◌≡◌, ℕ, List, ◌∷◌, length, Option, Some, None}
use Rattle.ports.specs.Sinks.{WroteNothing}
use Rattle.ports.specs.declared.Clock as clock
use Rattle.ports.specs.declared.sleeper.Sleeper as sleeper
use Rattle.chain_disk.specs.declared.disk.Disk as disk
use Rattle.agency_port.specs.declared.agency.Agency as agency
use Rattle.report.specs.Status.{status_of}
use Rattle.report.specs.declared.status.Detail.{Detail}
use Rattle.report.specs.declared.status.Detail.TheVariants as detail
use Rattle.report.specs.declared.status.Ended.{Ended}
use Rattle.file_commands.specs.Auditing.{AuditEnds}
use Rattle.file_commands.specs.Checking.{CheckEnds}
use Rattle.file_commands.specs.Exporting.{ExportEnds}
use Rattle.file_commands.specs.Linking.{LinkEnds}
use Rattle.file_commands.specs.Listing.{ListEnds}
use Rattle.file_commands.specs.Matching.{MatchesEnds}
use Rattle.file_commands.specs.Statements.{StatementEnds}
use Rattle.file_commands.specs.Output.{PrintEnds}
use Rattle.shop_commands.specs.Chain.{ChainEnds}
use Rattle.shop_commands.specs.Day.{DayEnds}
use Rattle.shop_drain.specs.Devices.{AllDevices, NobodyCalled, OnlyPrints, OnlyReads, OnlyReadsFile, this_call}
use Rattle.shop_drain.specs.declared.posts.Post.{Post}
use Rattle.many_issuers.specs.Ends.{ManyEnds}
use Rattle.shop_commands.specs.Further.{Further, LeftFurther}
use Rattle.shop_commands.specs.Drain.{DrainEnds}
use Rattle.file_commands.specs.Generate.{GenerateEnds}
use Rattle.verifactu.specs.Help.{help_on, help_text, version_text}
use Rattle.shop_commands.specs.Follow.{FollowRan}
use Rattle.shop_commands.specs.Guard.{GuardRan}
use Rattle.shop_commands.specs.Migrate.{MigrateRan}
use Rattle.shop_commands.specs.Serve.{EndsAtFault, ServeEnds}
use Rattle.verifactu.specs.CommandLine.{IsAskedFor}
use Rattle.verifactu.specs.declared.command_line.Command.{Command}
use Rattle.verifactu.specs.declared.command_line.Command.TheVariants.{Chain, Day, Drain, Serve, Audit, Link, Check, Migrate, Follow, Guard, Many}
use Rattle.verifactu.specs.declared.command_line.Command.TheVariants.{Listing, Statement, Export, Matches, Generate, Help, HelpOn, Version}

-- when a command that works on one file ends in this way
abbrev pub OwnEnds : {D C Z G : Type 0} → Command → AllDevices D C Z G → Detail → Type 0
OwnEnds (Chain issuer) a end = ChainEnds issuer a.devices end × NobodyCalled a
OwnEnds (Day issuer) a end = DayEnds issuer a end
OwnEnds (Drain issuer) a end = DrainEnds issuer a end
OwnEnds (Serve issuer) a end = ServeEnds issuer a end
OwnEnds Audit a end = AuditEnds a.devices.sink a.devices.disk end × OnlyReadsFile a.devices × NobodyCalled a
OwnEnds (Link num host) a end = LinkEnds num host a.devices.sink a.devices.disk end × OnlyReadsFile a.devices × NobodyCalled a
OwnEnds (Listing choice) a end = ListEnds choice a.devices.sink a.devices.disk end × OnlyReadsFile a.devices × NobodyCalled a
OwnEnds (Check workers) a end =
    CheckEnds a.devices.source a.devices.sink a.devices.disk end × OnlyReads a.devices × NobodyCalled a
OwnEnds Migrate a end = ⊥
OwnEnds Follow a end = ⊥
OwnEnds (Guard issuer) a end = ⊥
OwnEnds (Many issuers) a end = ⊥
OwnEnds (Statement period) a end =
    StatementEnds period a.devices.sink a.devices.disk end × OnlyReadsFile a.devices × NobodyCalled a
OwnEnds Export a end = ExportEnds a.devices.sink a.devices.disk end × OnlyReadsFile a.devices × NobodyCalled a
OwnEnds Matches a end =
    MatchesEnds a.devices.source a.devices.sink a.devices.disk end × OnlyReads a.devices × NobodyCalled a
OwnEnds (Generate n) a end = GenerateEnds n a.devices.sink end × OnlyPrints a.devices × NobodyCalled a
OwnEnds Help a end = PrintEnds help_text detail.Done a.devices.sink end × OnlyPrints a.devices × NobodyCalled a
OwnEnds (HelpOn topic) a end = PrintEnds (help_on topic) detail.Done a.devices.sink end × OnlyPrints a.devices × NobodyCalled a
OwnEnds Version a end = PrintEnds version_text detail.Done a.devices.sink end × OnlyPrints a.devices × NobodyCalled a

-- words that are no command
pub record NoCommand {D C Z G : Type 0} (a : AllDevices D C Z G) (f : Further D C Z G) (end : Detail) : Type 0 where
  pub usage : end ≡ detail.Usage
  pub wrote : WroteNothing a.devices.sink
  pub nothing : OnlyPrints a.devices
  pub nobody : NobodyCalled a
  pub further : LeftFurther f

-- by what the kinds of the devices tell
module _ {D C Z G : Type 0} (d : disk.Ghosts D) (c : clock.Ghosts C) (z : sleeper.Ghosts Z) (g : agency.Ghosts G) where
  -- what `many` did, and how it ended: the first issuer's post is the run's own, and the others are the further ones
  pub record ManyRan (issuers : List (List ℕ)) (a : AllDevices D C Z G) (f : Further D C Z G) (end : Detail) : Type 0 where
    pub post : Post D C Z G
    pub after : Post D C Z G
    pub own : a ≡ this_call a.devices.source a.devices.sink d c z g post after
    pub one_each : length (post ∷ f.posts) ≡ length issuers
    pub ends : ManyEnds d c z g issuers a.devices.source a.devices.sink (post ∷ f.posts) (after ∷ f.posts_after) end

  -- when a command ends in this way; all but `migrate`, `follow`, `guard` and `many` leave the further files alone
  abbrev pub CommandEnds : Command → AllDevices D C Z G → Further D C Z G → Detail → Type 0
  CommandEnds Migrate a f end = MigrateRan a f end
  CommandEnds Follow a f end = FollowRan a f end
  CommandEnds (Guard issuer) a f end = GuardRan issuer a f end
  CommandEnds (Many issuers) a f end = ManyRan issuers a f end
  CommandEnds command a f end = OwnEnds command a end × LeftFurther f

  -- how a call ends whose words ask for this command, or for none
  abbrev pub CallEnds : Option Command → AllDevices D C Z G → Further D C Z G → Detail → Type 0
  CallEnds None a f end = NoCommand a f end
  CallEnds (Some command) a f end = CommandEnds command a f end

  -- the status, with its cause: words that ask for no command, or the way that the command ended
  pub record EndsAs (words : List (List ℕ)) (a : AllDevices D C Z G) (f : Further D C Z G) (ended : Ended) : Type 0 where
    pub status : ended.status ≡ status_of ended.detail
    pub command : Option Command
    pub asked : IsAskedFor words command
    pub cause : CallEnds command a f ended.detail

-- Of a source that counts each failed read, with its counts before and after: a dialogue reads on after none.
abbrev pub CommandReads : Command → ℕ → ℕ → Detail → Type 0
CommandReads (Serve issuer) faults faults_after end = EndsAtFault faults faults_after end
CommandReads _ faults faults_after end = Unit {0}

-- by the words' command; where they ask for none, nothing is read
abbrev pub CallReads : Option Command → ℕ → ℕ → Detail → Type 0
CallReads None faults faults_after end = faults_after ≡ faults
CallReads (Some command) faults faults_after end = CommandReads command faults faults_after end

pub record ReadsOnce (words : List (List ℕ)) (faults faults_after : ℕ) (end : Detail) : Type 0 where
  pub command : Option Command
  pub asked : IsAskedFor words command
  pub reads : CallReads command faults faults_after end
