-- What the stores of an installation answered, each to its own part.
use Rattle.std.specs.Prelude.{◌≡◌, ℕ, List, length, slice_get, Some, None, Result, OnOk}
use Rattle.ports.specs.declared.Clock as clock
use Rattle.ports.specs.declared.faults.NoMemory.{NoMemory}
use Rattle.chain_disk.specs.declared.disk.Disk as disk
use Rattle.journal.specs.Journal.{stopped_of}
use Rattle.shop_core.specs.Answer.Requests.{Asked}
use Rattle.shop_core.specs.Prefix.{IsPrefix}
use Rattle.chain_store.specs.Replies.{AllGoOn, Replies}
use Rattle.chain_store.specs.Runs.{Answers, this_store}
use Rattle.chain_store.specs.Store.{clock_of, journal_of}
use Rattle.chain_store.specs.Taking.{FailsOnce}
use Rattle.chain_store.specs.declared.store.Store.{Store}
use Rattle.issuers.specs.Serving.{StaysOwn, replies_to}
use Rattle.issuers.specs.declared.answers.OfficeAnswer.{OfficeAnswer}
use Rattle.issuers.specs.declared.parts.Part.{Part}

-- A store got these replies to the asks of its part, or to the first ones where memory ran out. They are those of a run of its
-- own asks alone, from its own history, at its own clock's coming answers.
pub record ServedAt {D C : Type 0} (d : disk.Ghosts D) (c : clock.Ghosts C) (part : Part) (old new : Store D C d) (replies : Replies)
    (all : Result (Unit {0}) NoMemory) : Type 0 where
  pub asked : List Asked
  pub front : IsPrefix asked part.script.asks
  pub whole : OnOk all (asked ≡ part.script.asks)
  pub stays : StaysOwn old new
  pub answers : Answers asked replies (this_store d.tells d.on_disk d.faults c.coming old new)
  pub read : c.by_readings (clock_of old) (clock_of new)
  pub fails : FailsOnce d c old new asked replies
  -- its journal goes on where no reply tells of a fault of its disk
  pub goes_on : AllGoOn replies → stopped_of (journal_of new) ≡ None

-- each store whose journal went on, by its index
pub record EachServed {D C : Type 0} (d : disk.Ghosts D) (c : clock.Ghosts C) (parts : List Part) (before after : List (Store D C d))
    (answers : List OfficeAnswer) (all : Result (Unit {0}) NoMemory) : Type 0 where
  pub stores : length after ≡ length before
  pub each : (index : ℕ) (old new : Store D C d) (part : Part) → slice_get before index ≡ Some old →
      slice_get after index ≡ Some new → slice_get parts index ≡ Some part → stopped_of (journal_of old) ≡ None →
      ServedAt d c part old new (replies_to index answers) all
