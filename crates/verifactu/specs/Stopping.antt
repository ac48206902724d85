-- What follows from what is said of a day's stop, whatever the day.
use Rattle.std.specs.Prelude.{◌≡◌, ◌⊎◌, ◌≤◌, ℕ, true, [], length, Contains, None}
use Rattle.std.specs.List.{AllByRecursion, list_any}
use Rattle.ports.specs.Causes.{Rose}
use Rattle.record_codec.specs.declared.entry.Entry.{Entry}
use Rattle.sender_beside.specs.Days.{Day, TillReplies, all_replies, torn_of}
use Rattle.sender_session.specs.Session.{AreNotesEntry}
use Rattle.chain_store.specs.Replies.{AllGoOn, is_disk_fault}
use Rattle.sender_beside.specs.Tills.{IsCutOffBy, SenderFails, StopIs, asks_of, own_faults}

-- at most one entry is torn
abbrev pub TearsAtMostOne : Type 0
TearsAtMostOne = (d : Day) (faults faults_after : ℕ) → StopIs d faults faults_after d.stop → length (torn_of d.stop) ≤ 1

-- none is where no till was told of a fault of the disk, nor the sender at its notes
abbrev pub TearsByAFault : Type 0
TearsByAFault = (d : Day) (faults faults_after : ℕ) → StopIs d faults faults_after d.stop → AllGoOn (all_replies d.tills) →
    (SenderFails d → ⊥) → torn_of d.stop ≡ []

-- one is only where the disk's count of faults rose
abbrev pub TearsWhereItRose : Type 0
TearsWhereItRose = (d : Day) (faults faults_after : ℕ) → StopIs d faults faults_after d.stop →
    (torn_of d.stop ≡ []) ⊎ Rose faults faults_after

-- the entry is what the answer made of this till's ask, which was told the fault
abbrev pub IsOfTill : Day → Entry → TillReplies → Type 0
IsOfTill d entry t = Contains d.tills t × IsCutOffBy d.version d.issuer d.coming d.end (asks_of t.till d.asks) t.replies entry

-- each torn entry is a till's or the sender's
abbrev pub TearsForTillOrSender : Type 0
TearsForTillOrSender = (d : Day) (faults faults_after : ℕ) → StopIs d faults faults_after d.stop →
    AllByRecursion (λ (entry : Entry). ((t : TillReplies) × IsOfTill d entry t) ⊎ AreNotesEntry entry) (torn_of d.stop)

-- where the shop has stopped a till was told of it, or the sender at its notes
abbrev pub TellsOfItsStop : Type 0
TellsOfItsStop = (d : Day) (faults faults_after : ℕ) → StopIs d faults faults_after d.stop →
    (d.stop ≡ None) ⊎ ((list_any is_disk_fault (all_replies d.tills) ≡ true) ⊎ SenderFails d)

-- at most one ask of all tills is answered with a fault of its own record
abbrev pub FaultsOnce : Type 0
FaultsOnce = (d : Day) (faults faults_after : ℕ) → StopIs d faults faults_after d.stop → own_faults d ≤ 1
