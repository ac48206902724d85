-- What one turn of a sender says, notes and answers.
use Rattle.std.specs.Prelude.{◌≡◌, ◌⊎◌, ℕ, ◌+◌, ◌-◌, ◌^◌, ◌<◌, ◌≤◌, List, [], map, length, Bool, true, false, Option, Some}
use Rattle.std.specs.Prelude.{None, Result, Ok, Err, IsTrue, ⊤}
use Rattle.record_fields.specs.declared.lines.Line.{Line}
use Rattle.pacing.specs.declared.pace.TheConstants.{MAX_BATCH}
use Rattle.record_codec.specs.declared.entry.TheConstants.{MAX_NOTES}
use Rattle.pacing.specs.Pace.{is_due, due_at}
use Rattle.batches.specs.Batches.{huellas_of, named_of}
use Rattle.agency_port.specs.declared.agency.Agency as agency
use Rattle.agency_port.specs.Reply.{Replied}
use Rattle.agency_port.specs.Ledger.{Ledger, HasCause, Names, StaleShows, Submits, Consults}
use Rattle.agency_port.specs.Rules.{SubmitKeeps, ConsultKeeps}
use Rattle.agency_port.specs.declared.answers.ReplyLine.TheVariants.{First}
use Rattle.agency_port.specs.declared.answers.Seen.{Seen}
use Rattle.agency_port.specs.declared.answers.AgencyFault.{AgencyFault}
use Rattle.agency_replies.specs.Sorting.{IsFirstAgain}
use Rattle.journal.specs.declared.faults.StoreFault.{StoreFault}
use Rattle.shop_core.specs.declared.waiting.Waiting.{Waiting}
use Rattle.shop_core.specs.Legal.{Legal}
use Rattle.once_world.specs.Outbox.{Sight, Grows, ShowsWaiting, NotedBy, history_of}
use Rattle.sender.specs.declared.answers.Turn.{Turn}
use Rattle.sender.specs.declared.answers.Turn.TheVariants.{Idle, WaitUntil, Noted, Cleared, Doubt}
use Rattle.sender.specs.declared.answers.SendFault.{SendFault}
use Rattle.sender.specs.declared.answers.SendFault.TheVariants.{LinkFault, Contradiction, Store, NoMemory}
use Rattle.sender.specs.Answers.{of_agency}
use Rattle.sender.specs.Evidence.{Shows}
use Rattle.sender.specs.Sending.{Sending}

-- what was asked of the agency in a turn, and what it answered: nothing; what it has seen of the records shown; or to take them
pub data Deed : Type 0 where
  Nothing : Deed
  Asked : (answer : Result (List Seen) AgencyFault) → Deed
  Handed : (answer : Result Replied AgencyFault) → Deed

-- the place of the first record shown
abbrev pub first_place : Waiting → ℕ
first_place shown = shown.noted + 1

abbrev pub count_waiting : Waiting → ℕ
count_waiting shown = shown.records - shown.noted

-- lines were handed to the shop, at least one, and it answered so
pub record Notes (look after : Sight) (AreLines : List Line → Type 0) (count : ℕ)
    (answer : Result (Unit {0}) StoreFault) : Type 0 where
  pub lines : List Line
  pub are : AreLines lines
  pub some : 1 ≤ length lines
  pub few : length lines ≤ MAX_NOTES
  pub count_is : count ≡ length lines
  pub grows : Grows look after
  pub noted : NotedBy look after lines answer

-- How a turn ends that asked nothing of the agency.
abbrev pub RestEnds : Sending → ℕ → Waiting → Result Turn SendFault → Type 0
RestEnds old now shown (Ok (Idle records)) = (shown.noted ≡ shown.records) × (records ≡ shown.records)
RestEnds old now shown (Ok (WaitUntil at)) = (shown.noted < shown.records) × (old.doubt ≡ false)
    × (is_due old.pace now (count_waiting shown) ≡ false) × (at ≡ due_at old.pace)
RestEnds old now shown (Err NoMemory) = ⊤
RestEnds old now shown _ = ⊥

-- How a turn ends that handed lines to the shop, or found no memory. The last part says whether it is in doubt afterwards.
abbrev pub NotesEnd : (List Line → Type 0) → Sight → Sight → Result Turn SendFault → Bool → Type 0
NotesEnd AreLines look after (Ok (Noted n)) doubt = Notes look after AreLines n (Ok tt) × (doubt ≡ false)
NotesEnd AreLines look after (Err (Store fault)) doubt = ((n : ℕ) × Notes look after AreLines n (Err fault)) × (doubt ≡ true)
NotesEnd AreLines look after (Err NoMemory) doubt = (after ≡ look) × (doubt ≡ true)
NotesEnd AreLines look after _ doubt = ⊥

-- how a turn ends whose consultation was answered
abbrev pub SeenEnds : Option Replied → Waiting → List Seen → Sight → Sight → Result Turn SendFault → Bool → Type 0
SeenEnds said shown seen look after (Ok Cleared) doubt =
    Shows said (first_place shown) (huellas_of shown.list) seen (Ok []) × (after ≡ look) × (doubt ≡ false)
SeenEnds said shown seen look after (Err (Contradiction evidence)) doubt =
    Shows said (first_place shown) (huellas_of shown.list) seen (Err evidence) × (after ≡ look) × (doubt ≡ true)
SeenEnds said shown seen look after result doubt = NotesEnd
    (λ (lines : List Line). Shows said (first_place shown) (huellas_of shown.list) seen (Ok lines)) look after result doubt

-- the place of the first record that came before, by the reply
pub record IsDoubtAt (shown : Waiting) (reply : Replied) (place : ℕ) : Type 0 where
  pub index : ℕ
  pub again : IsFirstAgain reply.lines index
  pub is : place ≡ first_place shown + index

-- How a turn ends whose batch got a reply that names it.
abbrev pub ReplyEnds : Waiting → Replied → Sight → Sight → Result Turn SendFault → Bool → Type 0
ReplyEnds shown reply look after (Ok (Doubt place)) doubt = IsDoubtAt shown reply place × (after ≡ look) × (doubt ≡ true)
ReplyEnds shown reply look after result doubt =
    NotesEnd (λ (lines : List Line). reply.lines ≡ map First lines) look after result doubt

-- the sender after a submission at this second that got no reply of its own
abbrev pub unanswered : Sending → ℕ → Sending
unanswered old now = record { doubt = true; pace = record { last = now; wait = old.pace.wait }; said = old.said }

-- a reply that names the batch, and what the sender keeps of it
pub record Replies (now : ℕ) (shown : Waiting) (look after : Sight) (reply : Replied) (result : Result Turn SendFault)
    (new : Sending) : Type 0 where
  pub names : Names reply shown.list
  pub matched : length reply.lines ≡ length reply.huellas
  pub pace : new.pace ≡ record { last = now; wait = reply.wait }
  pub said : new.said ≡ Some reply
  pub ends : ReplyEnds shown reply look after result new.doubt

-- another reply
pub record IsStale (old : Sending) (now : ℕ) (shown : Waiting) (look after : Sight) (reply : Replied)
    (result : Result Turn SendFault) (new : Sending) : Type 0 where
  pub names_not : Names reply shown.list → ⊥
  pub result_is : result ≡ Err LinkFault
  pub new_is : new ≡ unanswered old now
  pub after_is : after ≡ look

abbrev pub AskedEnds : Sending → Waiting → Sight → Sight → Result (List Seen) AgencyFault → Result Turn SendFault → Sending →
    Type 0
AskedEnds old shown look after (Ok seen) result new = (length seen ≡ length shown.list) × (new.pace ≡ old.pace)
    × (new.said ≡ None) × SeenEnds old.said shown seen look after result new.doubt
AskedEnds old shown look after (Err why) result new = (result ≡ Err (of_agency why)) × (new ≡ old) × (after ≡ look)

abbrev pub HandedEnds : Sending → ℕ → Waiting → Sight → Sight → Result Replied AgencyFault → Result Turn SendFault → Sending →
    Type 0
HandedEnds old now shown look after (Ok reply) result new = Replies now shown look after reply result new
    ⊎ IsStale old now shown look after reply result new
HandedEnds old now shown look after (Err why) result new = (result ≡ Err (of_agency why)) × (new ≡ unanswered old now)
    × (after ≡ look)

-- How a turn ends, by what was shown and what was asked. In doubt it consults; otherwise it submits where a submission is due.
abbrev pub Ends : Sending → ℕ → Waiting → Sight → Sight → Deed → Result Turn SendFault → Sending → Type 0
Ends old now shown look after Nothing result new = RestEnds old now shown result × (new ≡ old) × (after ≡ look)
Ends old now shown look after (Asked answer) result new =
    (shown.noted < shown.records) × (old.doubt ≡ true) × AskedEnds old shown look after answer result new
Ends old now shown look after (Handed answer) result new =
    (shown.noted < shown.records) × (old.doubt ≡ false) × (is_due old.pace now (count_waiting shown) ≡ true)
    × HandedEnds old now shown look after answer result new

-- what agencies of a type tell of themselves
pub record AgencyKind : Type 0 where
  pub tells : Bool
  pub keeps_rules : Bool

-- an agency's ledger and its count of faults
pub record AgencyState : Type 0 where
  pub ledger : Ledger
  pub faults : ℕ

abbrev pub agency_kind_of : Bool → Bool → AgencyKind
agency_kind_of tells keeps_rules = record { tells = tells; keeps_rules = keeps_rules }

abbrev pub agency_state_from : {G : Type 0} → (G → Ledger) → (G → ℕ) → G → AgencyState
agency_state_from ledger faults agency = record { ledger = ledger agency; faults = faults agency }

-- what the deed is to the agency
abbrev pub Dealt : AgencyKind → AgencyState → AgencyState → Waiting → Deed → Type 0
Dealt kind old new shown Nothing = new ≡ old
Dealt kind old new shown (Asked answer) =
    HasCause old.faults new.faults answer
    × (IsTrue kind.tells → Consults old.ledger new.ledger (named_of shown.list) answer)
    × (IsTrue kind.keeps_rules → ConsultKeeps old.ledger new.ledger (huellas_of shown.list) answer)
Dealt kind old new shown (Handed answer) =
    HasCause old.faults new.faults answer
    × StaleShows old.faults new.faults shown.list answer
    × (IsTrue kind.tells → Submits old.ledger new.ledger shown.list answer)
    × (IsTrue kind.keeps_rules → SubmitKeeps old.ledger new.ledger shown.list answer)

-- what a look shows: at least one record waits
pub record IsLook (look : Sight) (shown : Waiting) : Type 0 where
  pub shows : ShowsWaiting look MAX_BATCH shown
  pub legal : Legal look.version look.issuer (history_of look)
  pub some : shown.noted < shown.records
  pub small : shown.records < 2 ^ 32

-- how a turn ends that handed these lines to the shop
abbrev pub NoteEnds : Sight → Sight → List Line → Result Turn SendFault → Sending → Sending → Type 0
NoteEnds look after lines result old new = Grows look after
    × (((result ≡ Ok (Noted (length lines))) × NotedBy look after lines (Ok tt)
    × (new ≡ record { doubt = false; pace = old.pace; said = old.said }))
    ⊎ ((fault : StoreFault) × (result ≡ Err (Store fault)) × NotedBy look after lines (Err fault) × (new ≡ old)))

-- One call of a turn: what agencies of its type tell of themselves; agency, shop and sender, before the call and after it; its
-- second, and its answer.
pub record TurnCall : Type 0 where
  pub kind : AgencyKind
  pub agency_state : AgencyState
  pub agency_state_after : AgencyState
  pub sight : Sight
  pub sight_after : Sight
  pub sending : Sending
  pub sending_after : Sending
  pub now : ℕ
  pub answer : Result Turn SendFault

abbrev pub turn_call : AgencyKind → AgencyState → AgencyState → Sight → Sight → Sending → Sending → ℕ → Result Turn SendFault → TurnCall
turn_call kind agency_state agency_state_after sight sight_after sending sending_after now answer = record {
  kind = kind;
  agency_state = agency_state;
  agency_state_after = agency_state_after;
  sight = sight;
  sight_after = sight_after;
  sending = sending;
  sending_after = sending_after;
  now = now;
  answer = answer;
}

-- this call, by what contracts say of a kind of agency
abbrev pub this_turn : {G : Type 0} → agency.Ghosts G → G → G → Sight → Sight → Sending → Sending → ℕ → Result Turn SendFault →
    TurnCall
this_turn kind agency agency_after sight sight_after sending sending_after now answer =
    turn_call (agency_kind_of kind.tells kind.keeps_rules) (agency_state_from kind.ledger kind.faults agency)
    (agency_state_from kind.ledger kind.faults agency_after) sight sight_after sending sending_after now answer

-- what is left of it after its look
abbrev pub behind : Sight → TurnCall → TurnCall
behind look t =
    turn_call t.kind t.agency_state t.agency_state_after look t.sight_after t.sending t.sending_after t.now t.answer

-- a turn after a look that showed this
pub record Deals (t : TurnCall) (shown : Waiting) : Type 0 where
  pub deed : Deed
  pub dealt : Dealt t.kind t.agency_state t.agency_state_after shown deed
  pub ends : Ends t.sending t.now shown t.sight t.sight_after deed t.answer t.sending_after

-- One turn: a look at the first MAX_BATCH waiting records, at most one call of the agency, and at most one note.
pub record Turned (t : TurnCall) : Type 0 where
  pub look : Sight
  pub grows : Grows t.sight look
  pub own : look.own ≡ t.sight.own
  pub shown : Waiting
  --= A turn makes one look, at the first 1000 waiting records.
  pub shows : ShowsWaiting look MAX_BATCH shown
  --= A turn makes at most one call of the agency, in doubt a consultation, else the batch where it is due, and its
  --= answer is exactly as its case says: `Idle`, `WaitUntil`, `Noted`, `Cleared`, `Doubt`, or a contradiction, with
  --= evidence.
  pub deals : Deals (behind look t) shown
