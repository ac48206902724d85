-- When the messages of a session contradict themselves.
use Rattle.std.specs.Prelude.{◌≡◌, ◌⊎◌, ◌+◌, List, [], ◌∷◌, ◌++◌, length, IsErrOf, Result, Ok, Err}
use Rattle.record_codec.specs.declared.entry.Entry.{Entry}
use Rattle.batches.specs.Batches.{Named, huellas_of}
use Rattle.shop_core.specs.History.{noted, waiting}
use Rattle.agency_port.specs.Sessions.{kept_reply}
use Rattle.agency_port.specs.declared.answers.Seen.{Seen}
use Rattle.agency_port.specs.declared.messages.Message.{Message}
use Rattle.agency_port.specs.declared.messages.Message.TheVariants.{Consulted}
use Rattle.agency_port.specs.declared.turns.Evidence.{Evidence}
use Rattle.shop_core.specs.Prefix.{IsPrefix}
use Rattle.sender.specs.Evidence.{Shows}
use Rattle.sender.specs.declared.answers.DrainFault.{DrainFault}
use Rattle.sender.specs.declared.answers.DrainFault.TheVariants as drain

-- The last message of a session, which began after these, is a consultation of the first waiting records, and what it was
-- answered shows this contradiction with the reply that is kept of the session's messages before it.
pub record ShowsLast (entries : List Entry) (past messages : List Message) (evidence : Evidence) : Type 0 where
  pub before : List Message
  pub named : Named
  pub seen : List Seen
  pub is : messages ≡ (past ++ before) ++ Consulted named (Ok seen) ∷ []
  pub asked : IsPrefix named.huellas (huellas_of (waiting entries))
  --= A contradiction is a hole, or a record forgotten of which the last reply that named its batch said something,
  --= where no consultation has answered since.
  --= No body: a definition, cited by `turn`: `sender/Turned.deals`
  pub shows : Shows (kept_reply before) (length (noted entries) + 1) named.huellas seen (Err evidence)

-- it shows none, whatever the history
abbrev pub ShowsNothing : List Message → List Message → Type 0
ShowsNothing past messages = (entries : List Entry) (evidence : Evidence) → ShowsLast entries past messages evidence → ⊥

-- No message of a session, which began after these, shows a contradiction but the last one: no front of the session ends in one
-- that does.
abbrev pub NoneBefore : List Message → List Message → Type 0
NoneBefore past messages = (front : List Message) (m : Message) (back : List Message) →
    messages ≡ (past ++ front) ++ m ∷ back → ShowsNothing past (past ++ front)

abbrev pub IsContrary : Result (Unit {0}) DrainFault → Type 0
IsContrary answer = (evidence : Evidence) × IsErrOf answer (drain.Contradiction evidence)

-- where it shows one a contradiction is the answer, or memory ran out
abbrev pub AnswersWhatIsShown : List Message → List Message → Result (Unit {0}) DrainFault → Type 0
AnswersWhatIsShown past messages answer = (entries : List Entry) (evidence : Evidence) →
    ShowsLast entries past messages evidence → IsContrary answer ⊎ (answer ≡ Err drain.NoMemory)
