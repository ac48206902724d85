-- All that one ask at a store leaves.
use Rattle.std.specs.Prelude.{◌≡◌, ◌++◌, ◌∷◌, [], ℕ, Some, None, Result, OnOk, IfOk, IsErrOf, IsSome, ◌↔◌}
use Rattle.ports.specs.declared.Clock as clock
use Rattle.chain_disk.specs.declared.disk.Disk as disk
use Rattle.journal.specs.Journal.{stopped_of}
use Rattle.journal.specs.declared.faults.StoreFault.{StoreFault}
use Rattle.journal.specs.declared.faults.StoreFault.TheVariants.{DiskFault, Stopped, NoMemory}
use Rattle.record_codec.specs.declared.entry.Entry.{Entry}
use Rattle.shop_core.specs.Answer.Requests.{Asked}
use Rattle.shop_core.specs.declared.answer.Reply.{Reply}
use Rattle.chain_store.specs.Ready.{IfNothingTaken, Takes, Tears}
use Rattle.chain_store.specs.Store.{Acknowledged, GoesOn, IsAppended, IsLater, IsStoppedByFault, LosesNothing, Ready, Writes}
use Rattle.chain_store.specs.Store.{clock_of, journal_of, state_of, this_call, torn_of}
use Rattle.chain_store.specs.declared.store.Store.{Store}

-- a clock of any type, where whoever asks gives the reading: each answer is that one, and the clock stays as it is
abbrev pub read_at : {C : Type 0} → ℕ → clock.Ghosts C
read_at seconds = record { last = λ c. seconds; coming = λ c k. Some seconds; by_readings = λ a b. b ≡ a }

-- one ask, of a store as it was and as it is then
pub record Took {D C : Type 0} (d : disk.Ghosts D) (c : clock.Ghosts C) (old new : Store D C d) (ask : Asked)
    (replied : Result Reply StoreFault) : Type 0 where
  pub ready : Ready d.tells d.on_disk new
  --= A record is taken whole or not at all: the reply is the answer at the history and one reading of the clock, the
  --= history gains exactly the entry made, and each crash in the call leaves the history before it or that with this
  --= entry.
  pub takes : stopped_of (journal_of old) ≡ None → Takes (this_call d.tells d.on_disk c.coming old new) ask replied
  -- what was made sure of at any moment of the call stays
  --= What was made sure of at any moment of an ask stays at each later one.
  --= No body: it is of `Journal::append`, whose clauses refuse others
  pub never_loses : LosesNothing d.tells d.on_disk old new
  -- the bytes before the closing gate stay, and the frame of an entry that the history gained is all that was written
  pub appended : IsAppended d.tells d.on_disk old new
  --= Where the history gained an entry, the file is the one before with that entry's frame at the gate, and nothing
  --= is written after it.
  pub content : (entry : Entry) → (state_of new).entries ≡ (state_of old).entries ++ entry ∷ [] →
      Writes d.tells d.on_disk old new entry
  -- after Ok every crash leaves the whole history
  --= After an ask that is answered Ok every crash leaves the whole history.
  --= No body: it is of `Journal::append`, whose clauses refuse others
  pub acknowledged : OnOk replied (Acknowledged d.tells d.on_disk new)
  pub going_on : OnOk replied (GoesOn old new)
  --= A receipt given again and a refusal touch neither the journal nor its disk.
  --= No body: both are answered ahead of each call of the journal
  pub nothing_taken : IfOk replied (λ reply. IfNothingTaken reply (journal_of new ≡ journal_of old))
  --= Out of memory leaves the journal as it was.
  --= No body: room is made ahead of each call of the journal
  pub no_memory : IsErrOf replied NoMemory → journal_of new ≡ journal_of old
  -- a fault of the disk stops the journal for good; from then on nothing is asked of the disk or the clock
  --= A fault comes only where the disk's count rose; it leaves the history, and stops the journal.
  --= No body: it is of `Journal::append`, whose clauses refuse others
  pub fault : IsErrOf replied DiskFault → IsStoppedByFault d.faults old new
  --= After a fault of the disk the entry that was cut off is known, and a crash leaves the history without or with
  --= it.
  pub torn : IsErrOf replied DiskFault → Tears (this_call d.tells d.on_disk c.coming old new) ask (torn_of new)
  --= From a fault on, and only then, every call answers `Stopped` with that count.
  --= No body: it is of `Journal::append`, whose clauses refuse others
  pub stopped : (count : ℕ) → IsErrOf replied (Stopped count) ↔ (stopped_of (journal_of old) ≡ Some count)
  pub untouched : IsSome (stopped_of (journal_of old)) → new ≡ old
  pub later : IsLater d.faults old new
  -- nothing is asked of the clock but readings
  pub read : c.by_readings (clock_of old) (clock_of new)
