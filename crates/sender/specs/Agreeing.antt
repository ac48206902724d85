-- That turns keep the agreement of a shop and its agency, and hand no record over in the dark.
use Rattle.std.specs.Prelude.{◌≡◌, ◌⊎◌, ℕ, ◌+◌, List, [], ◌∷◌, ◌++◌, length, take, drop, ⊤, ◌≤◌, false, Option, Some}
use Rattle.std.specs.Prelude.{None, IsSome, IsTrue, Bool, Result, Ok, Err, Contains, slice_get}
use Rattle.std.specs.List.{AllByRecursion}
use Rattle.record_fields.specs.declared.records.Sealed.{Sealed}
use Rattle.record_fields.specs.declared.lines.Line.{Line}
use Rattle.pacing.specs.declared.pace.TheConstants.{MAX_BATCH}
use Rattle.record_codec.specs.declared.entry.Entry.{Entry}
use Rattle.record_codec.specs.declared.entry.Entry.TheVariants.{Notes}
use Rattle.journal.specs.declared.faults.StoreFault.{StoreFault}
use Rattle.journal.specs.declared.faults.StoreFault.TheVariants as store
use Rattle.shop_core.specs.History.{recs, noted, waiting}
use Rattle.shop_core.specs.declared.items.Item.{Item}
use Rattle.shop_core.specs.declared.items.Item.TheVariants as recorded
use Rattle.shop_core.specs.Legal.{Legal}
use Rattle.agency_rules.specs.Pairs.{line_of}
use Rattle.agency_port.specs.Reply.{Replied}
use Rattle.agency_port.specs.Messages.{batches_in}
use Rattle.agency_port.specs.Ledger.{Ledger}
use Rattle.agency_port.specs.Rules.{Delivers}
use Rattle.agency_port.specs.declared.messages.Message.{Message}
use Rattle.agency_port.specs.declared.messages.Message.TheVariants.{Submitted}
use Rattle.agency_port.specs.declared.answers.AgencyFault.{AgencyFault}
use Rattle.shop_core.specs.Prefix.{IsPrefix}
use Rattle.once_world.specs.Agreement.{Agree, AreNextLines}
use Rattle.once_world.specs.Laws.{AreRecords}
use Rattle.once_world.specs.Outbox.{Sight, GainsOwnNotes, history_of}
use Rattle.sender.specs.declared.answers.Turn.{Turn}
use Rattle.sender.specs.declared.answers.Turn.TheVariants.{Noted}
use Rattle.sender.specs.declared.answers.SendFault.{SendFault}
use Rattle.sender.specs.declared.answers.SendFault.TheVariants.{Contradiction, Store}
use Rattle.sender.specs.Sending.{Sending, fresh}
use Rattle.agency_port.specs.Sessions.{MayGo, kept_reply}
use Rattle.sender.specs.Dark.{AreLight, NoneInTheDark, AreRunsBy}

-- the agency has processed each record of the last reply that the sender keeps
abbrev pub AreSeen : List (Sealed × Line) → Option Replied → Type 0
AreSeen processed None = ⊤
AreSeen processed (Some reply) = AllByRecursion (λ (huella : List ℕ). IsSome (line_of processed huella)) reply.huellas

-- The earlier turns of the sender, if any, were all with this agency in its present session: shop and agency agree, and the
-- agency has processed what the sender's last reply names. So it is of a new sender where they agree, and each turn leaves it so.
pub record InSession (seen : Sight) (ledger : Ledger) (said : Option Replied) : Type 0 where
  pub agree : Agree (history_of seen) ledger.processed ledger.sent
  pub said_seen : AreSeen ledger.processed said

-- the claim, of turns of a sender with an agency that keeps its rules, in one session, where the shop gained no notes but theirs
abbrev pub InOneSession : Bool → Sight → Sight → Ledger → Option Replied → Type 0 → Type 0
InOneSession keeps_rules before after ledger said Claim =
    IsTrue keeps_rules → InSession before ledger said → GainsOwnNotes before after → Claim

-- a new sender is in session where shop and agency agree
abbrev pub BeginsInSession : Type 0
BeginsInSession = (seen : Sight) (ledger : Ledger) → Agree (history_of seen) ledger.processed ledger.sent →
    InSession seen ledger fresh.said

-- more records came, and then the agency's next lines were noted
pub record NotesNext (look : List Entry) (processed : List (Sealed × Line)) (after : List Entry) (count : ℕ) : Type 0 where
  pub more : List Entry
  pub are_records : AreRecords more
  pub lines : List Line
  pub next : AreNextLines look processed lines
  pub count_is : count ≡ length lines
  pub is : after ≡ (look ++ more) ++ Notes (length (noted look)) lines ∷ []

-- after a fault of the disk the lines may stand in the file: with them too the shop and the agency agree
abbrev pub MayBeTorn : List Entry → List Entry → List (Sealed × Line) → List (List Sealed) → Sight → List Line → StoreFault →
    Type 0
MayBeTorn look more processed sent after lines store.DiskFault =
    ((items : List Item)
    × ((faults : ℕ) × (after.items ≡ items ++ recorded.Stop faults (Notes (length (noted look)) lines) ∷ [])))
    × Agree ((look ++ more) ++ Notes (length (noted look)) lines ∷ []) processed sent
MayBeTorn look more processed sent after lines _ = ⊤

-- more records came, and the agency's next lines could not be noted
pub record NotesNone (look : List Entry) (processed : List (Sealed × Line)) (sent : List (List Sealed)) (after : Sight)
    (fault : StoreFault) : Type 0 where
  pub more : List Entry
  pub are_records : AreRecords more
  pub lines : List Line
  pub next : AreNextLines look processed lines
  pub is : history_of after ≡ look ++ more
  pub torn : MayBeTorn look more processed sent after lines fault

-- what a turn adds after the history at its look, by its answer; a contradiction never comes
abbrev pub Gains : List Entry → List (Sealed × Line) → List (List Sealed) → Sight → Result Turn SendFault → Type 0
Gains look processed sent after (Ok (Noted n)) = NotesNext look processed (history_of after) n
Gains look processed sent after (Err (Store fault)) = NotesNone look processed sent after fault
Gains look processed sent after (Err (Contradiction evidence)) = ⊥
Gains look processed sent after _ = history_of after ≡ look

-- A turn with an agency that keeps its rules, in one session.
pub record KeepsAgreement (before after : Sight) (old new : Ledger) (said : Option Replied)
    (result : Result Turn SendFault) : Type 0 where
  pub records : List Entry
  pub are_records : AreRecords records
  pub sent : (new.sent ≡ old.sent) ⊎ (new.sent ≡ old.sent ++ take MAX_BATCH (waiting (history_of before ++ records)) ∷ [])
  pub verdicts : new.verdicts ≡ old.verdicts
  pub delivers : Delivers old.verdicts new.sent old.processed new.processed
  pub begins : IsPrefix old.processed new.processed
  pub gains : Gains (history_of before ++ records) new.processed new.sent after result
  pub session : InSession after new said

-- From these messages on no record was handed over in the dark, nor will it be in the next turn.
pub record IsCareful (past : List Message) (seen : Sight) (messages : List Message) (sending : Sending) : Type 0 where
  pub session : List Message
  pub is : messages ≡ past ++ session
  pub never : NoneInTheDark past session
  pub legal : Legal seen.version seen.issuer (history_of seen)
  pub runs : AreRunsBy (recs (history_of seen)) (length (noted (history_of seen)) + MAX_BATCH) (batches_in messages)
  pub light : sending.doubt ≡ false → AreLight messages (waiting (history_of seen))

-- Of the messages from these on, the sender keeps the last reply that named its batch, until a consultation answers.
pub record KeepsReply (past messages : List Message) (said : Option Replied) : Type 0 where
  pub session : List Message
  pub is : messages ≡ past ++ session
  pub kept : said ≡ kept_reply session

-- a new sender keeps none
abbrev pub BeginsWithoutReply : Type 0
BeginsWithoutReply = (past : List Message) → KeepsReply past past fresh.said

-- Of messages none of which hands a record over in the dark: each record of a submission among them was never handed over
-- before, or a consultation since the last submission that named it has answered NotSeen for it.
abbrev pub GoesLit : Type 0
GoesLit = (past session front back : List Message) (batch : List Sealed) (answer : Result Replied AgencyFault) →
    NoneInTheDark past session → session ≡ front ++ Submitted batch answer ∷ back →
    AllByRecursion (λ (s : Sealed). MayGo s.huella (past ++ front)) batch

-- Turns with an agency that keeps its rules, in one session.
pub record KeepsSession (before after : Sight) (old new : Ledger) (said : Option Replied) : Type 0 where
  pub session : InSession after new said
  pub begins : IsPrefix old.processed new.processed

-- a new sender begins so, whatever was said before its session
abbrev pub BeginsCareful : Type 0
BeginsCareful = (past : List Message) (seen : Sight) → Legal seen.version seen.issuer (history_of seen) →
    AreRunsBy (recs (history_of seen)) (length (noted (history_of seen)) + MAX_BATCH) (batches_in past) →
    IsCareful past seen past fresh

-- where shop and agency agree the batches are such runs
abbrev pub AgreedAreRuns : Type 0
AgreedAreRuns = (entries : List Entry) (processed : List (Sealed × Line)) (sent : List (List Sealed)) →
    Agree entries processed sent →
    AreRunsBy (recs entries) (length (noted entries) + MAX_BATCH) sent

-- The shop stopped over notes that may stand in its file: with them too it agrees.
pub record AgreesTorn (after : Sight) (new : Ledger) : Type 0 where
  pub items : List Item
  pub faults : ℕ
  pub torn : Entry
  pub is : after.items ≡ items ++ recorded.Stop faults torn ∷ []
  pub agree : Agree (history_of after ++ torn ∷ []) new.processed new.sent

-- the item stands at this place, and P holds of it
abbrev pub HasAt : (Item → Type 0) → List Item → ℕ → Type 0
HasAt P items place = (x : Item) × (slice_get items place ≡ Some x) × P x

-- notes
abbrev pub AreNotes : Item → Type 0
AreNotes (recorded.Entry (Notes first lines)) = ⊤
AreNotes _ = ⊥

-- notes, or the stop over notes
abbrev pub AreNotesOrTorn : Item → Type 0
AreNotesOrTorn (recorded.Stop faults torn) = AreNotes (recorded.Entry torn)
AreNotesOrTorn item = AreNotes item

-- A shop's sight after turns of its sender: it grew, and P holds of each item that its own notes added.
pub record Adds (P : Item → Type 0) (before after : Sight) : Type 0 where
  pub issuer : after.issuer ≡ before.issuer
  pub version : after.version ≡ before.version
  pub items : List Item
  pub items_is : after.items ≡ before.items ++ items
  pub own : List ℕ
  pub own_is : after.own ≡ before.own ++ own
  pub low : AllByRecursion (λ (p : ℕ). length before.items ≤ p) own
  pub are : AllByRecursion (HasAt P after.items) own

-- where the last item is a stop that its own note recorded, the shop agrees with the torn notes too
abbrev pub AgreesIfTorn : Sight → Sight → Ledger → Type 0
AgreesIfTorn before after new = (items : List Item) (faults : ℕ) (torn : Entry) →
    after.items ≡ items ++ recorded.Stop faults torn ∷ [] → Contains (drop (length before.own) after.own) (length items) →
    Agree (history_of after ++ torn ∷ []) new.processed new.sent
