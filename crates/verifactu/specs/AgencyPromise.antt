-- The promise's part on the agency: nothing is sent again blindly, what is noted is what it said, and it agrees with the file.
use Rattle.std.specs.Prelude.{◌≡◌, List, ◌++◌, IsTrue}
use Rattle.record_codec.specs.declared.entry.Entry.{Entry}
use Rattle.shop_core.specs.History.{noted}
use Rattle.shop_core.specs.Prefix.{IsPrefix}
use Rattle.agency_port.specs.declared.messages.Message.{Message}
use Rattle.once_world.specs.Agreement.{Agree}
use Rattle.sender_session.specs.Noting.{NotesWhatIsSaid}
use Rattle.sender_session.specs.Session.{AreOfChain, SaysNothingBlindly}
use Rattle.shop_drain.specs.Devices.{Agencies}
use Rattle.shop_drain.specs.Draining.{AgreesAtStart}

-- The agency in a session. No record was handed over again, unless a consultation since had answered that it wasn't seen. What
-- was noted is what it said. One that keeps its rules and agreed at the start still agrees: it has processed the first records,
-- in order, each once, and the noted lines are the first ones of its lines; so it is with the torn entry.
pub record AgencyAgrees {G : Type 0} (start end torn : List Entry) (a : Agencies G) : Type 0 where
  --= No record is handed over again until a consultation since has answered that it was not seen: of an agency whose
  --= messages are known, and that was handed nothing but this chain before.
  --= No body: it is of `turn`: `sender/RepeatsNothingBlindly.careful`
  pub careful : IsTrue a.kind.tells → AreOfChain start a.before.ledger.messages →
      SaysNothingBlindly a.before.ledger.messages a.after.ledger.messages
  --= What was noted are the first of the lines that the agency said.
  --= No body: it is of `turn` and of `Store::note`: `sender/Turned.deals`
  pub said : IsTrue a.kind.tells →
      NotesWhatIsSaid start end a.before.ledger.messages a.after.ledger.messages
  --= An agency that keeps its rules, and that agreed with the file when the session was opened, has processed the
  --= first records of the chain, each once and in order.
  --= No body: it is of `turn`: `sender/Turned.deals`
  pub agrees : IsTrue a.kind.keeps_rules → AgreesAtStart a start →
      Agree end a.after.ledger.processed a.after.ledger.sent
      × Agree (end ++ torn) a.after.ledger.processed a.after.ledger.sent

-- The agency: nothing was said to it and no line was noted, or one session was opened.
pub data AgencyKept {G : Type 0} (start end torn : List Entry) (a : Agencies G) : Type 0 where
  --= Where no session was opened nothing was said to the agency, and no line noted.
  --= No body: it is of each command's ends
  silent : (IsTrue a.kind.tells → a.after.ledger ≡ a.before.ledger) → noted end ≡ noted start →
      AgencyKept start end torn a
  in_session : AgencyAgrees start end torn a → AgencyKept start end torn a

-- Where all that was ever handed over is of the chain, it is so at the end: what `careful` wants of the next run.
--= Where all that was ever handed over was of the chain, it is so at the end.
--= No body: it is of `turn`: `sender/Turned.shows`
abbrev pub BatchesKept : {G : Type 0} → List Entry → List Entry → Agencies G → Type 0
BatchesKept start end a = IsTrue a.kind.tells → AreOfChain start a.before.ledger.messages →
    AreOfChain end a.after.ledger.messages

-- and what is of the chain at the end is of the history that is found
--= What is of the chain at the end is of the chain that the next run finds.
--= No body: a law over definitions, which has no body
abbrev pub StaysOfChain : Type 0
StaysOfChain = (end next : List Entry) (messages : List Message) → IsPrefix end next → AreOfChain end messages →
    AreOfChain next messages
