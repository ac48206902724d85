-- A run of asks at a store, from where it began.
use Rattle.std.specs.Prelude.{◌≡◌, ◌⊎◌, ℕ, List, ◌∷◌, ◌++◌, length, Option, Some, None, Result, Err}
use Rattle.std.specs.List.{AllByRecursion}
use Rattle.ports.specs.declared.Clock as clock
use Rattle.chain_disk.specs.Disks.{LeftDisk}
use Rattle.chain_disk.specs.declared.disk.Disk as disk
use Rattle.journal.specs.Journal.{stopped_of}
use Rattle.journal.specs.declared.faults.StoreFault.{StoreFault}
use Rattle.journal.specs.declared.faults.StoreFault.TheVariants.{DiskFault, Stopped}
use Rattle.shop_core.specs.Answer.Requests.{Asked}
use Rattle.shop_core.specs.declared.answer.Reply.{Reply}
use Rattle.chain_store.specs.Store.{Ready, clock_of, journal_of}
use Rattle.chain_store.specs.declared.store.Store.{Store}
use Rattle.chain_store.specs.Clocks.{LeftClock}
use Rattle.chain_store.specs.Progress.{SoFar, origin_of, point_of}
use Rattle.chain_store.specs.Readings.{readings}
use Rattle.chain_store.specs.Replies.{AllGoOn, Replies}
use Rattle.chain_store.specs.Runs.{Answers, Stores}
use Rattle.chain_store.specs.Took.{Took}

module _ {D C : Type 0} where
  -- a run of a store whose journal went on as it began
  pub record Goes (d : disk.Ghosts D) (c : clock.Ghosts C) (first now : Store D C d) (asks : List Asked) (replies : Replies) :
      Type 0 where
    pub so_far : SoFar (origin_of d.tells d.on_disk d.faults c.coming first) asks replies (point_of d.on_disk d.faults c.coming now)
    pub unread : readings replies ≡ 0 → clock_of now ≡ clock_of first

  -- The call in which the disk failed first. The asks before it had come to the store that it found, whose journal went on; the
  -- call told of the fault, and left the store as it is now.
  pub record Fails (d : disk.Ghosts D) (c : clock.Ghosts C) (first now : Store D C d) (asks : List Asked) (replies : Replies) :
      Type 0 where
    pub before : Replies
    pub behind : Replies
    pub told : replies ≡ before ++ Err DiskFault ∷ behind
    pub earlier : List Asked
    pub ask : Asked
    pub later : List Asked
    pub asks_are : asks ≡ earlier ++ ask ∷ later
    pub found : Store D C d
    pub ready : Ready d.tells d.on_disk found
    pub going_on : stopped_of (journal_of found) ≡ None
    pub run : Goes d c first found earlier before
    pub took : Took d c found now ask (Err DiskFault)

  -- the disk didn't fail, or it failed first in such a call
  abbrev pub FailsOnce : (d : disk.Ghosts D) → clock.Ghosts C → (first now : Store D C d) → List Asked → Replies → Type 0
  FailsOnce d c first now asks replies = AllGoOn replies ⊎ Fails d c first now asks replies

  -- such a run, and the call that stopped its journal where that has stopped
  pub record GoesOrFails (d : disk.Ghosts D) (c : clock.Ghosts C) (first now : Store D C d) (asks : List Asked)
      (replies : Replies) : Type 0 where
    pub goes : Goes d c first now asks replies
    pub fails : (count : ℕ) → stopped_of (journal_of now) ≡ Some count → Fails d c first now asks replies

  -- a run of a store whose journal had stopped at this count of faults: each reply says so, and nothing changes
  pub record Stays (d : disk.Ghosts D) (count : ℕ) (first now : Store D C d) (asks : List Asked) (replies : Replies) : Type 0
    where
      pub each : AllByRecursion (λ (r : Result Reply StoreFault). r ≡ Err (Stopped count)) replies
      pub one_each : length replies ≡ length asks
      pub same : now ≡ first

  abbrev pub RunsBy : Option ℕ → (d : disk.Ghosts D) → clock.Ghosts C → (first now : Store D C d) → List Asked → Replies → Type 0
  RunsBy None d c first now asks replies = GoesOrFails d c first now asks replies
  RunsBy (Some count) d c first now asks replies = Stays d count first now asks replies

  -- a run of a store, which was this at first and is that now: the asks so far and their replies
  pub record Along (d : disk.Ghosts D) (c : clock.Ghosts C) (first now : Store D C d) (asks : List Asked) (replies : Replies) :
      Type 0 where
    pub ready : Ready d.tells d.on_disk now
    pub run : RunsBy (stopped_of (journal_of first)) d c first now asks replies
    pub read : c.by_readings (clock_of first) (clock_of now)

-- the replies of a store whose journal had stopped at this count of faults: each says so, and neither disk nor clock was asked
pub record StaysStopped {D C : Type 0} (count : ℕ) (asks : List Asked) (replies : Replies) (s : Stores D C) : Type 0 where
  pub each : AllByRecursion (λ (r : Result Reply StoreFault). r ≡ Err (Stopped count)) replies
  pub one_each : length replies ≡ length asks
  pub end : s.end ≡ s.start
  pub disk : LeftDisk s.disk
  pub clock : LeftClock s.clock

-- These asks got these replies from a store whose journal had stopped at such a count, or went on, as they began: then they are
-- those of a chain run from its history, at its clock's coming answers.
abbrev pub OwnRun : {D C : Type 0} → Option ℕ → List Asked → Replies → Stores D C → Type 0
OwnRun None asks replies s = Answers asks replies s
OwnRun (Some count) asks replies s = StaysStopped count asks replies s
