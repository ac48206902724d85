-- Runs of one thread over the commands of all tills.
use Rattle.std.specs.Prelude.{◌≡◌, ℕ, ◌+◌, List, [], ◌∷◌, ◌++◌, length, Result, Ok, Err}
use Rattle.ports.specs.declared.faults.NoMemory.{NoMemory}
use Rattle.record_fields.specs.declared.versions.Version.{Version}
use Rattle.record_codec.specs.declared.entry.Entry.{Entry}
use Rattle.record_codec.specs.declared.entry.Entry.TheVariants.{Rec, Notes}
use Rattle.shop_core.specs.Answer.Requests.{Asked}
use Rattle.shop_core.specs.Answer.Plans.{answer}
use Rattle.shop_core.specs.History.{History, recs, receipt}
use Rattle.shop_core.specs.declared.answer.Planned.{Planned}
use Rattle.shop_core.specs.declared.answer.Planned.TheVariants.{Again, Refused, Made}
use Rattle.shop_core.specs.declared.answer.Reply.{Reply}
use Rattle.shop_core.specs.declared.answer.Reply.TheVariants as reply

-- a record is told by its receipt, at this place
abbrev pub IsTakenAt : ℕ → Entry → Reply → Type 0
IsTakenAt place (Rec till serial sealed) replied = replied ≡ reply.Taken (receipt place sealed)
IsTakenAt place (Notes first lines) replied = ⊥

-- the same, at the place after the records of the chain
abbrev pub IsTaken : List Entry → Entry → Reply → Type 0
IsTaken entries entry replied = IsTakenAt (length (recs entries) + 1) entry replied

-- what a till is told of what was planned, and what the history then gains
abbrev pub Tells : List Entry → Planned → Reply → List Entry → Type 0
Tells entries (Again kept) replied gained = (replied ≡ reply.Again kept) × (gained ≡ [])
Tells entries (Refused why) replied gained = (replied ≡ reply.Refused why) × (gained ≡ [])
Tells entries (Made entry) replied gained = IsTaken entries entry replied × (gained ≡ entry ∷ [])

-- one reply of a run at a reading of the clock; a fault changes nothing
abbrev pub IsReply : {E : Type 0} → Version → List ℕ → List Entry → Asked → ℕ → Result Reply E → List Entry → Type 0
IsReply version issuer entries ask seconds (Ok replied) gained =
    Tells entries (answer version issuer entries ask seconds) replied gained
IsReply version issuer entries ask seconds (Err e) gained = gained ≡ []

-- the same, from state to state
pub record Replied (old new : History) (ask : Asked) (seconds : ℕ) (replied : Result Reply NoMemory) : Type 0 where
  pub issuer : new.issuer ≡ old.issuer
  pub version : new.version ≡ old.version
  pub gained : List Entry
  pub entries : new.entries ≡ old.entries ++ gained
  pub reply : IsReply old.version old.issuer old.entries ask seconds replied gained

-- The replies to these asks, in order, from this history to that one. IsReading replies seconds says which numbers the
-- clock may give after these replies; a reply may be a fault E in place of an answer.
pub data ChainRun {E : Type 0} (version : Version) (issuer : List ℕ) (IsReading : List (Result Reply E) → ℕ → Type 0)
    (start : List Entry) :
    List Asked → List (Result Reply E) → List Entry → Type 0 where
  begun : ChainRun version issuer IsReading start [] [] start
  replied : (asks : List Asked) (replies : List (Result Reply E)) (entries : List Entry)
      (ask : Asked) (answered : Result Reply E) (gained : List Entry) →
      ChainRun version issuer IsReading start asks replies entries →
      (seconds : ℕ) → IsReading replies seconds → IsReply version issuer entries ask seconds answered gained →
      ChainRun version issuer IsReading start (asks ++ ask ∷ []) (replies ++ answered ∷ []) (entries ++ gained)
