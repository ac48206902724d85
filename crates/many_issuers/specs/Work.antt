-- What is done of each issuer of an installation after its commands.
use Rattle.std.specs.Prelude.{◌≡◌, ◌⊎◌, ℕ, Bool, List, [], Some, None, IsSome, Result, Ok, Err, IfOk, Vec}
use Rattle.std.specs.declared.alloc.Global.{Global}
use Rattle.ports.specs.declared.faults.NoMemory.{NoMemory}
use Rattle.ports.specs.declared.sleeper.Sleeper as sleeper
use Rattle.chain_disk.specs.OnDisk.{OnDisk}
use Rattle.chain_disk.specs.declared.disk.Disk as disk
use Rattle.agency_port.specs.declared.agency.Agency as agency
use Rattle.agency_rules.specs.declared.plans.Plan.{Plan}
use Rattle.journal.specs.Journal.{disk_of, stopped_of}
use Rattle.journal.specs.declared.faults.StoreFault.{StoreFault}
use Rattle.journal.specs.declared.faults.StoreFault.TheVariants as store_fault
use Rattle.shop_core.specs.declared.answer.Reply.{Reply}
use Rattle.chain_store.specs.Crashes.{StandsUpTo}
use Rattle.chain_store.specs.Store.{Ready, clock_of, journal_of, state_of}
use Rattle.script.specs.declared.scripts.Script.{Script}
use Rattle.report.specs.declared.status.Detail.{Detail}
use Rattle.report.specs.declared.status.Detail.TheVariants as detail
use Rattle.sender.specs.declared.answers.DrainFault.TheVariants as drain
use Rattle.till_calls.specs.Root.{parts_of}
use Rattle.shop_drain.specs.Opening.{IsUnbegun}
use Rattle.shop_drain.specs.Devices.{Sleepers}
use Rattle.sender_session.specs.Kinds.{agency_state_of, agency_kind}
use Rattle.shop_drain.specs.Devices.{first_moment, tells_moment}
use Rattle.shop_drain.specs.Draining.{OpensSession, StoreDrains, disk_span, spanning}
use Rattle.many_issuers.specs.Blocks.{answered_block, closed_block, issuer_end}
use Rattle.shop_drain.specs.Opening.{opening_end}
use Rattle.shop_drain.specs.Outcomes.{outcome_of}
use Rattle.shop_drain.specs.declared.draining.DrainEnd.{DrainEnd}
use Rattle.many_issuers.specs.declared.working.Done.{Done}
use Rattle.many_issuers.specs.declared.working.IssuerJob.{IssuerJob}
use Rattle.many_issuers.specs.declared.working.IssuerTask.{IssuerTask}
use Rattle.many_issuers.specs.declared.working.IssuerTask.TheVariants.{Closed, Open}
use Rattle.shop_drain.specs.declared.opening.Opened.{Opened}
use Rattle.shop_drain.specs.declared.opening.Unopened.{Unopened}

-- the replies to an issuer's asks, where there was memory for them
abbrev pub Told : Type 0
Told = Result (Vec (Result Reply StoreFault) Global) NoMemory

-- a sleeper in this call: of its kind, before and after
abbrev pub this_sleeper : {Z : Type 0} → sleeper.Ghosts Z → Z → Z → Sleepers Z
this_sleeper kind old new = record { tells = kind.tells; moment = kind.moment; sleeper = old; sleeper_after = new }

-- an opened file was drained with this script's plan; the clock line of the script replaces the sleeper
abbrev pub Drained : {D C Z G : Type 0} (d : disk.Ghosts D) → sleeper.Ghosts Z → agency.Ghosts G → Script → Opened D C Z G d →
    DrainEnd D C Z G d → Type 0
Drained d z g script from end =
    StoreDrains (StandsUpTo (state_of from.store).version (state_of from.store).issuer) g.begun script.plan
    (state_of from.store).version (state_of from.store).issuer
    (disk_span d (disk_of (journal_of from.store)) (disk_of (journal_of end.opened.store)))
    (spanning (state_of from.store).entries (agency_kind g) (agency_state_of g from.agency) (agency_state_of g end.opened.agency)
    (tells_moment script.clock (this_sleeper z from.sleeper end.opened.sleeper))
    (first_moment script.clock (this_sleeper z from.sleeper end.opened.sleeper)) (outcome_of end))

-- The disk of a file had failed, and it wasn't drained. The agency's session was opened all the same, unless memory ran out.
pub record BeginsOnly {D C Z G : Type 0} {d : disk.Ghosts D} (g : agency.Ghosts G) (plan : Plan) (from : Opened D C Z G d)
    (end : DrainEnd D C Z G d) : Type 0 where
  pub count : ℕ
  pub stopped : stopped_of (journal_of from.store) ≡ Some count
  pub store : end.opened.store ≡ from.store
  pub sleeper : end.opened.sleeper ≡ from.sleeper
  pub turns : end.turns ≡ []
  pub session : ((end.answer ≡ Err (drain.Store (store_fault.Stopped count)))
      × OpensSession (agency_kind g) g.begun plan (state_of from.store).entries (agency_state_of g from.agency)
      (agency_state_of g end.opened.agency))
      ⊎ ((end.answer ≡ Err drain.NoMemory)
      × IsUnbegun (agency_kind g) (agency_state_of g from.agency) (agency_state_of g end.opened.agency))

-- what comes after an issuer's commands
abbrev pub IsBehind : {D C Z G : Type 0} (d : disk.Ghosts D) → sleeper.Ghosts Z → agency.Ghosts G → Script → Opened D C Z G d →
    DrainEnd D C Z G d → Type 0
IsBehind d z g script from end =
    ((stopped_of (journal_of from.store) ≡ None) × Drained d z g script from end) ⊎ BeginsOnly g script.plan from end

-- the end of an issuer whose file wasn't opened, and its block
pub record DoesClosed {D C Z G : Type 0} (issuer : List ℕ) (u : Unopened D C Z G) (done : Done D C Z G) : Type 0 where
  pub post : done.post ≡ u.post
  pub end : done.end ≡ opening_end u.why
  pub block : IfOk done.block (λ block. block ≡ closed_block issuer u.why)

-- the end of an issuer by the replies to its asks and by what came after them, and its block
abbrev pub EndsTold : {D C Z G : Type 0} {d : disk.Ghosts D} → List ℕ → Script → Told → DrainEnd D C Z G d → Detail →
    Result (List ℕ) NoMemory → Type 0
EndsTold issuer script (Err fault) last end block = (end ≡ detail.NoMemory) × (block ≡ Err fault)
EndsTold issuer script (Ok replies) last end block = (end ≡ issuer_end replies.items last.answer)
    × IfOk block (λ text. text ≡ answered_block issuer script.asks replies.items (parts_of last.opened.store).state.entries end)

-- What was done of an issuer whose commands were answered. Its clock wasn't read any more, and where a clock line replaces its sleeper
-- that is as it was.
pub record DoesOpen {D C Z G : Type 0} (d : disk.Ghosts D) (z : sleeper.Ghosts Z) (g : agency.Ghosts G) (issuer : List ℕ)
    (script : Script) (replies : Told) (from : Opened D C Z G d) (done : Done D C Z G) : Type 0 where
  pub last : DrainEnd D C Z G d
  pub behind : IsBehind d z g script from last
  pub ends : EndsTold issuer script replies last done.end done.block
  pub disk_is : done.post.disk ≡ disk_of (journal_of last.opened.store)
  pub clock_is : done.post.clock ≡ clock_of from.store
  pub sleeper_is : done.post.sleeper ≡ last.opened.sleeper
  pub replaced : IsSome script.clock → done.post.sleeper ≡ from.sleeper
  pub agency_is : done.post.agency ≡ last.opened.agency

abbrev pub DoesTask : {D C Z G : Type 0} (d : disk.Ghosts D) → sleeper.Ghosts Z → agency.Ghosts G → IssuerTask D C Z G d →
    Done D C Z G → Type 0
DoesTask d z g (Closed issuer unopened) done = DoesClosed issuer unopened done
DoesTask d z g (Open issuer part replies opened) done = DoesOpen d z g issuer part.script replies opened done

-- a store at work is what its disk holds, where its journal goes on
abbrev pub IsReadyTask : {D C Z G : Type 0} {d : disk.Ghosts D} → Bool → (D → OnDisk) → IssuerTask D C Z G d → Type 0
IsReadyTask tells on_disk (Closed issuer unopened) = Unit {0}
IsReadyTask tells on_disk (Open issuer part replies opened) = Ready tells on_disk opened.store

-- a job that is still to be done
pub record IsWaiting {D C Z G : Type 0} {d : disk.Ghosts D} (tells : Bool) (on_disk : D → OnDisk) (job : IssuerJob D C Z G d) : Type 0 where
  pub task : IssuerTask D C Z G d
  pub is : job.task ≡ Some task
  pub ready : IsReadyTask tells on_disk task

-- what was done of a job
pub record WorksJob {D C Z G : Type 0} (d : disk.Ghosts D) (z : sleeper.Ghosts Z) (g : agency.Ghosts G) (old new : IssuerJob D C Z G d) : Type 0
  where
    pub does : (task : IssuerTask D C Z G d) → old.task ≡ Some task →
        (done : Done D C Z G) × (new.done ≡ Some done) × DoesTask d z g task done
