-- What a day makes of a shop: what its tills are told, by the history at its end, and its stop.
use Rattle.std.specs.Prelude.{◌≡◌, ◌≢◌, ◌≤◌, ℕ, ◌+◌, ◌==◌, Bool, true, false, List, [], ◌∷◌, ◌++◌, filter, drop, count_by}
use Rattle.std.specs.Prelude.{length, slice_get, Contains, OnOk, Option, None, Some, Result, Ok, Err}
use Rattle.std.specs.List.{AllByRecursion, list_any, range_with_len}
use Rattle.record_fields.specs.declared.versions.Version.{Version}
use Rattle.journal.specs.declared.faults.StoreFault.{StoreFault}
use Rattle.journal.specs.declared.faults.StoreFault.TheVariants.{DiskFault, Stopped, NoMemory}
use Rattle.ports.specs.Causes.{Rose}
use Rattle.ports.specs.Readings.{IsTold}
use Rattle.record_codec.specs.declared.entry.Entry.{Entry}
use Rattle.record_codec.specs.declared.entry.Entry.TheVariants.{Rec, Notes}
use Rattle.record_codec.specs.declared.entry.TheConstants.{LAST_TILL}
use Rattle.shop_core.specs.History.{noted, recs}
use Rattle.shop_core.specs.Answer.Plans.{answer}
use Rattle.shop_core.specs.Answer.Requests.{Asked}
use Rattle.shop_core.specs.Answer.Replies.{IsTakenAt, Tells}
use Rattle.shop_core.specs.declared.answer.Planned.TheVariants.{Made}
use Rattle.shop_core.specs.declared.answer.Reply.{Reply}
use Rattle.shop_core.specs.declared.answer.Reply.TheVariants.{Taken, Again, Refused}
use Rattle.till_calls.specs.Root.{Parts, Root}
use Rattle.till_calls.specs.Sound.{IsSound}
use Rattle.shop_core.specs.Prefix.{IsPrefix}
use Rattle.sender_session.specs.Session.{FailsAtNotes, AreNotesEntry, IsDiskAnswer}
use Rattle.sender_beside.specs.Beside.{SendsBeside}
use Rattle.sender_beside.specs.Days.{Day, Stop, TillReplies, all_replies}
use Rattle.sender_session.specs.Kinds.{StoreKind}
use Rattle.chain_store.specs.Replies.{Replies, AllGoOn}

-- the asks of a till, in line order
abbrev pub asks_of : ℕ → List Asked → List Asked
asks_of till asks = filter (λ (a : Asked). a.till == till) asks

-- whether a till asks for anything
abbrev pub has_asks : List Asked → ℕ → Bool
has_asks asks till = list_any (λ (a : Asked). a.till == till) asks

-- the tills that ask for anything, in order of number
abbrev pub tills_of : List Asked → List ℕ
tills_of asks = filter (has_asks asks) (range_with_len 1 LAST_TILL)

-- a coming answer of the clock; where threads ask it isn't known which one
abbrev pub IsSomeReading : (ℕ → Option ℕ) → ℕ → Type 0
IsSomeReading coming seconds = (number : ℕ) × IsTold (coming number) seconds

-- A till run of these asks from the history at the start to the one at the end, with one reply an ask. Each reply is the answer
-- at a front of the history at the end and at a coming reading of the clock. That front is no shorter than all that the till
-- had seen, and where a record was taken it is the next entry there. Once the disk has failed each later ask is told of the
-- stop. The number is how many entries the till had seen at its last answer, the mark whether it was told of the stop.
pub data ServedRun (version : Version) (issuer : List ℕ) (coming : ℕ → Option ℕ) (start end : List Entry) :
    List Asked → Replies → ℕ → Bool → Type 0 where
  unasked : ServedRun version issuer coming start end [] [] (length start) false
  --= Each reply to a till is the answer at a beginning of the history at the end and at a coming reading of the
  --= clock; no beginning is shorter than all that the till had seen, and a record told as taken is the next entry
  --= there.
  --= No body: it is of `till_calls/Shop::ask.asks`
  answered : (asks : List Asked) (replies : Replies) (seen : ℕ) (ask : Asked) (reply : Reply) (history gained : List Entry)
      (seconds : ℕ) → ServedRun version issuer coming start end asks replies seen false → seen ≤ length history →
      IsPrefix (history ++ gained) end → IsSomeReading coming seconds →
      Tells history (answer version issuer history ask seconds) reply gained →
      ServedRun version issuer coming start end (asks ++ ask ∷ []) (replies ++ Ok reply ∷ []) (length (history ++ gained)) false
  torn : (asks : List Asked) (replies : Replies) (seen : ℕ) (ask : Asked) →
      ServedRun version issuer coming start end asks replies seen false →
      ServedRun version issuer coming start end (asks ++ ask ∷ []) (replies ++ Err DiskFault ∷ []) seen true
  stopped : (asks : List Asked) (replies : Replies) (seen : ℕ) (told : Bool) (ask : Asked) (count : ℕ) →
      ServedRun version issuer coming start end asks replies seen told →
      ServedRun version issuer coming start end (asks ++ ask ∷ []) (replies ++ Err (Stopped count) ∷ []) seen true
  without_memory : (asks : List Asked) (replies : Replies) (seen : ℕ) (ask : Asked) →
      ServedRun version issuer coming start end asks replies seen false →
      ServedRun version issuer coming start end (asks ++ ask ∷ []) (replies ++ Err NoMemory ∷ []) seen false

-- the entry is a record of this till
abbrev pub is_from : ℕ → Entry → Bool
is_from till (Rec own serial sealed) = own == till
is_from till (Notes first lines) = false

-- the records of a till among these entries
abbrev pub own_of : ℕ → List Entry → List Entry
own_of till entries = filter (is_from till) entries

-- these entries are exactly those told as taken, in the order of the replies
abbrev pub AreTaken : Replies → List Entry → Type 0
AreTaken [] entries = entries ≡ []
AreTaken (Ok (Taken receipt) ∷ replies) entries = (e : Entry) × (place : ℕ) × (rest : List Entry) ×
    (entries ≡ e ∷ rest) × IsTakenAt place e (Taken receipt) × AreTaken replies rest
AreTaken (Ok (Again receipt) ∷ replies) entries = AreTaken replies entries
AreTaken (Ok (Refused why) ∷ replies) entries = AreTaken replies entries
AreTaken (Err fault ∷ replies) entries = AreTaken replies entries

-- how many stops there are after the entries of a shop's list
abbrev pub stops_in : Option Stop → ℕ
stops_in None = 0
stops_in (Some stop) = 1

-- One till's part of a day: the run of its own asks, its records since the start, and how much it saw at its end: no less than at
-- its last answer, and no more than the history at the end, and the stop after it.
pub record TillServed (d : Day) (t : TillReplies) : Type 0 where
  pub last : ℕ
  pub told : Bool
  --= Each till has a till run of its own commands, in line order.
  pub run : ServedRun d.version d.issuer d.coming d.start d.end (asks_of t.till d.asks) t.replies last told
  --= Each till's records since the start are exactly those that it was told as taken, in order.
  --= No body: it is of a law of `till_calls`, which has no body
  pub own : AreTaken t.replies (own_of t.till (drop (length d.start) d.end))
  --= At its end each till saw no less than at its last answer.
  --= No body: it is of `till_calls/Shop::count_now.at_least`
  pub at_least : last ≤ t.saw
  --= Each till saw no more than the history at the end, and the stop after it.
  --= No body: it is of `till_calls/Shop::count_now.at_least`
  pub at_most : t.saw ≤ length d.end + stops_in d.stop

-- a stop is told by this count
abbrev pub TellsStop : ℕ → Result Reply StoreFault → Type 0
TellsStop count (Err (Stopped faults)) = faults ≡ count
TellsStop _ _ = Unit {0}

-- An entry whose append failed for a till run of these asks, at this history: the till was told the fault at one of its asks, and
-- the entry is what the answer made of that ask, at this history and at a coming reading of the clock.
pub record IsCutOffBy (version : Version) (issuer : List ℕ) (coming : ℕ → Option ℕ) (history : List Entry) (asks : List Asked)
    (replies : Replies) (entry : Entry) : Type 0 where
  pub place : ℕ
  pub told : slice_get replies place ≡ Some (Err DiskFault)
  pub ask : Asked
  pub asked : slice_get asks place ≡ Some ask
  pub seconds : ℕ
  pub reading : IsSomeReading coming seconds
  pub made : answer version issuer history ask seconds ≡ Made entry

-- the answer to an ask at whose own record the disk failed
abbrev pub is_own_fault : Result Reply StoreFault → Bool
is_own_fault (Err DiskFault) = true
is_own_fault _ = false

-- how many of a day's asks were answered so
abbrev pub own_faults : Day → ℕ
own_faults d = count_by is_own_fault (all_replies d.tills)

-- the disk failed at the notes of a day's sender
abbrev pub SenderFails : Day → Type 0
SenderFails d = FailsAtNotes d.kind d.opened d.after d.answer

-- Who recorded a day's stop over an entry: a till at its answer to one of its asks, the only one of all that is answered with a
-- fault of the disk; or the sender at its notes, and then no ask is.
pub data RecordedBy (d : Day) (torn : Entry) : Type 0 where
  --= A stop over a record is over the one that the answer made, at the history at the end and a coming reading, of
  --= the only ask of all tills that is answered with the disk's fault.
  --= No body: it is of `till_calls/Shop::ask.asks`, and of laws, which have no body
  till : (t : TillReplies) → Contains d.tills t →
      IsCutOffBy d.version d.issuer d.coming d.end (asks_of t.till d.asks) t.replies torn →
      own_faults d ≡ 1 → RecordedBy d torn
  --= A stop over notes is one that the sender's own note met; no ask is answered with that fault then.
  --= No body: it is of `turn` and of `Store::note`: `sender/Turned.deals`
  sender : AreNotesEntry torn → SenderFails d → own_faults d ≡ 0 → RecordedBy d torn

-- The shop has stopped, the disk's count of faults having risen to the stop's. Each till that is told of it is told this count.
pub record IsStop (d : Day) (faults faults_after : ℕ) (stop : Stop) : Type 0 where
  pub by : RecordedBy d stop.torn
  --= Each till that is told of the stop is told its one count, to which the disk's count rose.
  --= No body: it is of `till_calls/Shop::ask.asks`, and of laws, which have no body
  pub told : AllByRecursion (TellsStop stop.count) (all_replies d.tills)
  pub risen : Rose faults stop.count
  pub within : stop.count ≤ faults_after

-- Nobody was told that the disk failed, or the shop has stopped; the disk's counts of faults are those before the day and after.
--= A shop stopped exactly where a till was told of a fault of the disk or of the stop, or the sender met one.
--= No body: it is of `Shop::close`, which finds the stop
abbrev pub StopIs : Day → ℕ → ℕ → Option Stop → Type 0
StopIs d faults faults_after None = AllGoOn (all_replies d.tills) × (IsDiskAnswer d.answer → ⊥)
StopIs d faults faults_after (Some stop) = IsStop d faults faults_after stop

-- What a day makes of a shop, which was this at its start, with the parts of its store after its close. No other till has a
-- record since the start. Where a drain is done each record has its line noted.
pub record DayRun {D C : Type 0} (h : StoreKind D C) (root : Root C) (new : Parts D C) (d : Day) : Type 0 where
  pub sound : IsSound h.tells h.on_disk h.faults h.coming root new
  pub served : AllByRecursion (TillServed d) d.tills
  --= No till that isn't of the day has a record since the start.
  --= No body: it is of a law of `till_calls`, which has no body
  pub others : (till : ℕ) → AllByRecursion (λ (t : TillReplies). t.till ≢ till) d.tills →
      own_of till (drop (length d.start) d.end) ≡ []
  pub stop : StopIs d root.faults (h.faults new.disk) d.stop
  pub sends : SendsBeside d
  --= Where the drain is done each record of the history at the end has its line.
  pub all_noted : d.drains ≡ true → OnOk d.answer (length (noted d.end) ≡ length (recs d.end))
