-- A journal goes on where no reply of its run tells of a fault of its disk.
use Rattle.std.proofs.Common.{◌≡◌, ℕ, List, [], ◌∷◌, ◌++◌, refl, ap, subst, arith, Option, Some, None, Err}
use Rattle.ports.specs.declared.Clock as clock
use Rattle.chain_disk.specs.declared.disk.Disk as disk
use Rattle.journal.specs.Journal.{disk_of, stopped_of}
use Rattle.journal.specs.declared.faults.StoreFault.TheVariants.{DiskFault}
use Rattle.shop_core.specs.Answer.Requests.{Asked}
use Rattle.chain_store.specs.Progress.{Origin, Point, Progress, origin_of, point_of}
use Rattle.chain_store.specs.Replies.{AllGoOn, Replies}
use Rattle.chain_store.specs.Store.{journal_of, state_of}
use Rattle.chain_store.specs.Taking.{Along, GoesOrFails, RunsBy}
use Rattle.issuers.specs.Serving.{StaysOwn}
use Rattle.chain_store.specs.declared.store.Store.{Store}

no_fault_behind : (before behind : Replies) → AllGoOn (before ++ Err DiskFault ∷ behind) → ⊥
no_fault_behind [] behind all = all.0
no_fault_behind (reply ∷ before) behind all = no_fault_behind before behind all.1

not_stopped : (o : Origin) (asks : List Asked) (replies : Replies) (p : Point) (stopped : Option ℕ) →
    Progress o asks replies p stopped → AllGoOn replies → stopped ≡ None
not_stopped o asks replies p None progress all = refl
not_stopped o asks replies p (Some count) halted all =
    absurd (no_fault_behind halted.stops.before halted.stops.behind (subst AllGoOn halted.stops.parts all))

pub went_on : {D C : Type 0} (d : disk.Ghosts D) (c : clock.Ghosts C) (first now : Store D C d) (asks : List Asked)
    (replies : Replies) → Along d c first now asks replies → stopped_of (journal_of first) ≡ None → AllGoOn replies →
    stopped_of (journal_of now) ≡ None
went_on d c first now asks replies along going all =
    let run : GoesOrFails d c first now asks replies = subst (λ (o : Option ℕ). RunsBy o d c first now asks replies) going along.run in
    not_stopped (origin_of d.tells d.on_disk d.faults c.coming first) asks replies (point_of d.on_disk d.faults c.coming now)
    (stopped_of (journal_of now)) run.goes.so_far.progress all

own_by : {D C : Type 0} (d : disk.Ghosts D) (c : clock.Ghosts C) (first now : Store D C d) (asks : List Asked) (replies : Replies)
    (stopped : Option ℕ) → RunsBy stopped d c first now asks replies → StaysOwn first now
own_by d c first now asks replies None run = (run.goes.so_far.own, run.goes.so_far.version, run.goes.so_far.later)
own_by {D} {C} d c first now asks replies (Some count) run = (
  ap (λ (s : Store D C d). (state_of s).issuer) run.same,
  ap (λ (s : Store D C d). (state_of s).version) run.same,
  (let e = ap (λ (s : Store D C d). d.faults (disk_of (journal_of s))) run.same in omega (arith, e)),
)

pub stays_own : {D C : Type 0} (d : disk.Ghosts D) (c : clock.Ghosts C) (first now : Store D C d) (asks : List Asked)
    (replies : Replies) → Along d c first now asks replies → StaysOwn first now
stays_own d c first now asks replies along = own_by d c first now asks replies (stopped_of (journal_of first)) along.run
