-- What an office's answers are.
use Rattle.std.specs.Prelude.{◌≡◌, ◌≤◌, ℕ, List, [], map, filter, drop, length, ◌==◌, Some, None, slice_get, slice_index, Result, OnOk}
use Rattle.ports.specs.declared.Clock as clock
use Rattle.ports.specs.declared.faults.NoMemory.{NoMemory}
use Rattle.chain_disk.specs.declared.disk.Disk as disk
use Rattle.journal.specs.Journal.{disk_of, stopped_of}
use Rattle.journal.specs.declared.faults.StoreFault.{StoreFault}
use Rattle.shop_core.specs.Answer.Requests.{Asked}
use Rattle.shop_core.specs.declared.answer.Reply.{Reply}
use Rattle.chain_store.specs.Store.{clock_of, journal_of, state_of}
use Rattle.chain_store.specs.declared.store.Store.{Store}
use Rattle.chain_store.specs.Replies.{AllGoOn, Replies}
use Rattle.chain_store.specs.Runs.{this_store}
use Rattle.chain_store.specs.Taking.{Along, FailsOnce, OwnRun}
use Rattle.issuers.specs.Turns.{IsFront, Turn, asks_in, mine, own_turns}
use Rattle.issuers.specs.declared.answers.OfficeAnswer.{OfficeAnswer}
use Rattle.issuers.specs.declared.parts.Part.{Part}

-- the answer to an ask of the issuer of this index
abbrev pub answer_to : ℕ → Asked → Result Reply StoreFault → OfficeAnswer
answer_to index ask reply = record { index = index; till = ask.till; serial = ask.serial; reply = reply }

-- the answers to the issuer of this index, among all
abbrev pub replies_to : ℕ → List OfficeAnswer → Replies
replies_to index answers = map (λ (a : OfficeAnswer). a.reply) (filter (λ a. a.index == index) answers)

-- whom an answer is for, and whom a turn: the issuer's index, the till and its serial
abbrev pub answers_whom : OfficeAnswer → ℕ × ℕ × ℕ
answers_whom a = (a.index, a.till, a.serial)

abbrev pub asks_whom : Turn → ℕ × ℕ × ℕ
asks_whom t = (t.index, t.ask.till, t.ask.serial)

-- no ask of any part is left
abbrev pub NoneLeft : List Part → List ℕ → Type 0
NoneLeft parts places = (index : ℕ) → drop (slice_index places index) (own_turns parts index) ≡ []

module _ {D C : Type 0} where
  -- a store's history stays one issuer's, of one version, and its disk's count of faults never falls
  abbrev pub StaysOwn : {d : disk.Ghosts D} → Store D C d → Store D C d → Type 0
  StaysOwn {d} old new = ((state_of new).issuer ≡ (state_of old).issuer) × ((state_of new).version ≡ (state_of old).version)
      × (d.faults (disk_of (journal_of old)) ≤ d.faults (disk_of (journal_of new)))

  -- The asks that these turns make got these answers, one a turn. To each issuer they are those of a run of its own asks alone,
  -- from its own history, at its own clock's coming answers, or, where its journal had stopped, say so.
  pub record Served (d : disk.Ghosts D) (c : clock.Ghosts C) (parts : List Part) (before after : List (Store D C d))
      (answers : List OfficeAnswer) (result : Result (Unit {0}) NoMemory) : Type 0 where
    pub made : List Turn
    pub left : ℕ → List Turn
    pub order : IsFront parts made left
    -- at Ok all are made
    pub none_left : OnOk result ((index : ℕ) → left index ≡ [])
    --= All of each issuer's commands are answered, where memory lasts: a fault of one file ends nobody else's.
    pub whole : OnOk result ((index : ℕ) (part : Part) → slice_get parts index ≡ Some part →
        asks_in (mine index made) ≡ part.script.asks)
    pub whom : map answers_whom answers ≡ map asks_whom made
    pub stores : length after ≡ length before
    --= Each issuer's run is its own, from its history, at its clock's readings.
    pub own : (index : ℕ) (old new : Store D C d) → slice_get before index ≡ Some old → slice_get after index ≡ Some new →
        OwnRun (stopped_of (journal_of old)) (asks_in (mine index made)) (replies_to index answers)
        (this_store d.tells d.on_disk d.faults c.coming old new)
    pub stays : (index : ℕ) (old new : Store D C d) → slice_get before index ≡ Some old → slice_get after index ≡ Some new →
        StaysOwn old new
    -- nothing is asked of its clock but readings
    pub read : (index : ℕ) (old new : Store D C d) → slice_get before index ≡ Some old → slice_get after index ≡ Some new →
        c.by_readings (clock_of old) (clock_of new)
    -- and where its disk failed, it failed first in one call
    pub fails : (index : ℕ) (old new : Store D C d) → slice_get before index ≡ Some old → slice_get after index ≡ Some new →
        stopped_of (journal_of old) ≡ None → FailsOnce d c old new (asks_in (mine index made)) (replies_to index answers)
    -- and where no answer tells of a fault of its disk its journal goes on
    pub goes_on : (index : ℕ) (old new : Store D C d) → slice_get before index ≡ Some old → slice_get after index ≡ Some new →
        stopped_of (journal_of old) ≡ None → AllGoOn (replies_to index answers) → stopped_of (journal_of new) ≡ None

  -- the same on the way, with this many asks of each issuer taken
  pub record Serving (d : disk.Ghosts D) (c : clock.Ghosts C) (parts : List Part) (before after : List (Store D C d))
      (places : List ℕ) (answers : List OfficeAnswer) : Type 0 where
    pub made : List Turn
    pub order : IsFront parts made (λ index. drop (slice_index places index) (own_turns parts index))
    pub whom : map answers_whom answers ≡ map asks_whom made
    pub stores : length after ≡ length before
    pub own : (index : ℕ) (old new : Store D C d) → slice_get before index ≡ Some old → slice_get after index ≡ Some new →
        Along d c old new (asks_in (mine index made)) (replies_to index answers)

  -- what each run that has come to this store comes to
  pub record ComesTo (d : disk.Ghosts D) (c : clock.Ghosts C) (now : Store D C d) : Type 0 where
    pub own : (first : Store D C d) (asks : List Asked) (replies : Replies) → Along d c first now asks replies →
        OwnRun (stopped_of (journal_of first)) asks replies (this_store d.tells d.on_disk d.faults c.coming first now)
    pub fails : (first : Store D C d) (asks : List Asked) (replies : Replies) → Along d c first now asks replies →
        stopped_of (journal_of first) ≡ None → FailsOnce d c first now asks replies
    pub stays : (first : Store D C d) (asks : List Asked) (replies : Replies) → Along d c first now asks replies → StaysOwn first now
    pub goes_on : (first : Store D C d) (asks : List Asked) (replies : Replies) → Along d c first now asks replies →
        stopped_of (journal_of first) ≡ None → AllGoOn replies → stopped_of (journal_of now) ≡ None
