-- A session by its steps, over a shop to which tills add too.
use Rattle.std.specs.Prelude.{◌≡◌, ◌⊎◌, ℕ, ◌+◌, ◌<◌, ◌≤◌, max, List, [], ◌∷◌, ◌++◌, length, map, filter_map, count_by, Bool, true, false}
use Rattle.std.specs.Prelude.{IsTrue, ⊤, Result, Ok, Err}
use Rattle.std.specs.List.{AllByRecursion, list_any}
use Rattle.ports.specs.Causes.{greatest_u64}
use Rattle.record_fields.specs.declared.records.Sealed.{Sealed}
use Rattle.record_codec.specs.declared.entry.Entry.{Entry}
use Rattle.shop_core.specs.History.{recs, noted}
use Rattle.shop_core.specs.Prefix.{IsPrefix}
use Rattle.journal.specs.declared.faults.StoreFault.TheVariants as store
use Rattle.agency_port.specs.Reply.{Replied}
use Rattle.agency_port.specs.declared.answers.AgencyFault.{AgencyFault}
use Rattle.agency_port.specs.declared.messages.Message.{Message}
use Rattle.agency_port.specs.declared.messages.Message.TheVariants.{Submitted, Consulted}
use Rattle.agency_port.specs.declared.turns.Told.TheVariants as told
use Rattle.once_world.specs.Outbox.{GainsOwnNotes, history_of}
use Rattle.sender.specs.Draining.{Scene, is_link, moment_after}
use Rattle.sender.specs.Turning.{AgencyKind, AgencyState}
use Rattle.sender.specs.declared.answers.Turn.{Turn}
use Rattle.sender.specs.declared.answers.SendFault.{SendFault}
use Rattle.sender.specs.declared.answers.DrainFault.{DrainFault}
use Rattle.sender.specs.declared.answers.DrainFault.TheVariants as drain
use Rattle.sender.specs.declared.draining.TheConstants.{MAX_LINK_FAULTS}
use Rattle.sender_session.specs.Steps.{Step, Waits, Standing, at_start, after_step, line_in, message_in, IsStep, GoesOnBehind}
use Rattle.sender_session.specs.Steps.{EndsBy, EndsContrary, EndsSaying}

-- a step, the shop's history at the look before it, and the sleeper's moment after it
pub record Stepped : Type 0 where
  pub look : List Entry
  pub step : Step
  pub moment : ℕ

abbrev pub steps_in : List Stepped → List Step
steps_in steps = map (λ (s : Stepped). s.step) steps

-- a wait leaves the second until which it was, where that is later; beside tills it may end before, and leave the moment as it was
--= While tills run a wait may end before its second.
--= No body: a definition, which allows more
abbrev pub IsMomentAfter : Bool → ℕ → Step → ℕ → Type 0
IsMomentAfter beside moment (Waits at) then = (then ≡ max moment at) ⊎ ((beside ≡ true) × (then ≡ moment))
IsMomentAfter beside moment _ then = then ≡ moment

-- the same standing at another moment of the sleeper
abbrev pub at_moment : Standing → ℕ → Standing
at_moment st moment = record { noted = st.noted; doubt = st.doubt; pace = st.pace; said = st.said; moment = moment }

abbrev pub after_stepped : Standing → Stepped → Standing
after_stepped st s = at_moment (after_step st s.step) s.moment

abbrev pub after_all : Standing → List Stepped → Standing
after_all st [] = st
after_all st (s ∷ steps) = after_all (after_stepped st s) steps

-- One after another, from one history and standing to another history, each over the records of its own look. The histories go on
-- from each other, and nothing is noted in them but what these steps noted.
--= The histories at which a session's steps look go on from each other, and nothing is noted in them but what the
--= steps noted.
--= No body: it is of `turn`, and of the seat that adds nothing else
abbrev pub AreStepped : Bool → Bool → List Entry → Standing → List Stepped → List Entry → Type 0
AreStepped exact beside history st [] end = IsPrefix history end × (length (noted end) ≡ st.noted)
AreStepped exact beside history st (s ∷ steps) end =
    IsPrefix history s.look × (length (noted s.look) ≡ st.noted) × IsStep exact (recs s.look) st s.step
    × IsMomentAfter beside st.moment s.step s.moment × AreStepped exact beside s.look (after_stepped st s) steps end

-- a part of a session: the steps after which it went on, and the last one, where there is one
pub record Part (exact beside : Bool) (history : List Entry) (st : Standing) (end : List Entry) : Type 0 where
  pub going : List Stepped
  pub last : List Stepped
  pub one : length last ≤ 1
  pub are : AreStepped exact beside history st (going ++ last) end
  pub go_on : AllByRecursion (λ (s : Step). GoesOnBehind (line_in s)) (steps_in going)

abbrev pub all_of : {exact beside : Bool} {history : List Entry} {st : Standing} {end : List Entry} →
    Part exact beside history st end → List Stepped
all_of p = p.going ++ p.last

-- How turns beside tills end: they were told to stop, or a fault that isn't the link's ended them, which the last step shows.
-- Without memory it may be untold.
abbrev pub EndsBeside : Standing → List Step → Result (Unit {0}) DrainFault → Type 0
EndsBeside st last (Ok done) = last ≡ []
EndsBeside st last (Err (drain.Undelivered noted_count records_count)) = ⊥
EndsBeside st last (Err (drain.Contradiction evidence)) = EndsContrary st last evidence
EndsBeside st last (Err (drain.Store store.DiskFault)) = EndsSaying last told.Disk
EndsBeside st last (Err (drain.Store (store.Stopped faults))) = EndsSaying last (told.Stopped faults)
EndsBeside st last (Err (drain.Store store.NoMemory)) = ⊤
EndsBeside st last (Err drain.NoMemory) = ⊤

-- how many of these steps have a link line
abbrev pub links_in : List Stepped → ℕ
links_in steps = count_by is_link (map line_in (steps_in steps))

-- where a sender stands: what its shop has noted, and what it knows; its pace, where its sleeper tells its moment
pub record StandsAt (exact : Bool) (scene : Scene) (st : Standing) : Type 0 where
  pub noted_is : length (noted (history_of scene.sight)) ≡ st.noted
  pub doubt : scene.sending.doubt ≡ st.doubt
  pub pace : IsTrue exact → scene.sending.pace ≡ st.pace
  pub kept : scene.sending.said ≡ st.said
  pub moment : scene.moment ≡ st.moment

-- From one scene to another by these steps. The agency was told their messages, and nothing else; and no more of them have a link
-- line than its count of faults rose by.
pub record TakesSteps (kind : AgencyKind) (exact beside : Bool) (before after : Scene) (st : Standing) : Type 0 where
  pub part : Part exact beside (history_of before.sight) st (history_of after.sight)
  pub messages : IsTrue kind.tells → after.agency_state.ledger.messages
      ≡ before.agency_state.ledger.messages ++ filter_map message_in (steps_in (all_of part))
  pub links : after.agency_state.faults < greatest_u64 →
      links_in (all_of part) + before.agency_state.faults ≤ after.agency_state.faults

-- turns beside tills that ended so, by their steps
pub record SendsSteps (kind : AgencyKind) (exact : Bool) (before after : Scene) (st : Standing)
    (answer : Result (Unit {0}) DrainFault) : Type 0 where
  pub steps : TakesSteps kind exact true before after st
  pub ends : EndsBeside (after_all st steps.part.going) (steps_in steps.part.last) answer
  pub stands : answer ≡ Ok tt → StandsAt exact after (after_all st steps.part.going)

-- the sleeper's moment once it has rested after a turn with this answer: that until which the turn is to wait, or as it was
abbrev pub RestsTo : ℕ → ℕ → Result Turn SendFault → Type 0
RestsTo before after answer = (after ≡ moment_after before answer) ⊎ (after ≡ before)

-- the same, wherever the sender stood, where the shop gained no notes but its own
abbrev pub StepsBeside : AgencyKind → Bool → Scene → Scene → Result (Unit {0}) DrainFault → Type 0
StepsBeside kind exact before after answer = (st : Standing) → StandsAt exact before st →
    GainsOwnNotes before.sight after.sight → SendsSteps kind exact before after st answer

-- the steps of a drain, from a standing to a history, as `Steps` has them: fewer than eight link lines where it goes on
pub record EndsAsDrain {exact : Bool} {history : List Entry} {st : Standing} {end : List Entry}
    (part : Part exact false history st end) (answer : Result (Unit {0}) DrainFault) : Type 0 where
  --= The link may fail however often while tills run; after them the steps end as a drain's do, at the eighth link
  --= line.
  --= No body: it is of `sender_beside/drain_rest.turns`
  pub few : links_in part.going < MAX_LINK_FAULTS
  pub ends : EndsBy (recs end) (after_all st part.going) (links_in part.going) (length (noted end)) (steps_in part.last) answer

-- a consultation that was answered
abbrev pub is_answered : Message → Bool
is_answered (Consulted asked (Ok seen)) = true
is_answered _ = false

-- each submission among these messages has such a one before it
--= A consultation that was answered comes ahead of the first submission of a session.
--= No body: it is of a new sender, which begins in doubt: `sender/Sender::new`
abbrev pub AsksFirst : List Message → Type 0
AsksFirst messages = (front back : List Message) (batch : List Sealed) (answer : Result Replied AgencyFault) →
    messages ≡ front ++ Submitted batch answer ∷ back → list_any is_answered front ≡ true

-- How what follows the tills ends, by how the turns beside them did: as a drain, where they were told to stop and one follows; else
-- there is no step more, and the answer is theirs.
abbrev pub Closes : {exact : Bool} {history : List Entry} {st : Standing} {end : List Entry} → Bool →
    Result (Unit {0}) DrainFault → Part exact false history st end → Result (Unit {0}) DrainFault → Type 0
Closes true (Ok done) part answer = EndsAsDrain part answer
Closes true (Err fault) part answer = (all_of part ≡ []) × (answer ≡ Err fault)
Closes false stopped part answer = (all_of part ≡ []) × (answer ≡ stopped)

-- A whole session of a new sender, from the history at its start, at this moment of its sleeper: its turns while tills ran, and what it
-- did once they had ended. What it had seen of the shop by then, and at its end, are beginnings of the history at the end, which has no
-- further notes.
pub record SessionSteps (tells exact drains : Bool) (moment : ℕ) (start end : List Entry) (opened after : AgencyState)
    (answer : Result (Unit {0}) DrainFault) : Type 0 where
  pub met : List Entry
  pub left : List Entry
  pub beside : Part exact true start (at_start (length (noted start)) moment) met
  pub stopped : Result (Unit {0}) DrainFault
  pub stops : EndsBeside (after_all (at_start (length (noted start)) moment) beside.going) (steps_in beside.last) stopped
  pub closing : Part exact false met (after_all (at_start (length (noted start)) moment) (all_of beside)) left
  pub closes : Closes drains stopped closing answer
  pub begins : IsPrefix left end
  pub no_more : length (noted end) ≡ length (noted left)
  -- the agency was told these messages, and nothing else, and was asked before a batch was handed over
  pub messages : IsTrue tells → after.ledger.messages
      ≡ opened.ledger.messages ++ filter_map message_in (steps_in (all_of beside ++ all_of closing))
  pub asks_first : AsksFirst (filter_map message_in (steps_in (all_of beside ++ all_of closing)))
  -- no more link lines than the agency's faults
  pub links : after.faults < greatest_u64 → links_in (all_of beside ++ all_of closing) + opened.faults ≤ after.faults
