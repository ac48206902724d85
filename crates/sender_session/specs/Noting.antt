-- What the messages of a session say of the lines that are noted in it.
use Rattle.std.specs.Prelude.{◌≡◌, ◌⊎◌, ℕ, ◌+◌, ◌≤◌, List, [], ◌∷◌, ◌++◌, length, drop, filter_map, flat_map, Bool, true, false}
use Rattle.std.specs.Prelude.{not, ◌&&◌, if◌then◌else◌, ⊤, Option, Some, None, Result, Ok, Err}
use Rattle.std.specs.List.{list_any}
use Rattle.record_fields.specs.declared.records.Sealed.{Sealed}
use Rattle.record_fields.specs.declared.lines.Line.{Line}
use Rattle.batches.specs.Batches.{Named, named_of}
use Rattle.record_codec.specs.declared.entry.Entry.{Entry}
use Rattle.record_codec.specs.declared.entry.Entry.TheVariants.{Notes}
use Rattle.shop_core.specs.History.{recs, noted}
use Rattle.agency_port.specs.Practice.{is_reply_to}
use Rattle.agency_port.specs.declared.answers.ReplyLine.{ReplyLine}
use Rattle.agency_port.specs.declared.answers.ReplyLine.TheVariants.{First, Duplicado}
use Rattle.agency_port.specs.declared.messages.Message.{Message}
use Rattle.agency_port.specs.declared.messages.Message.TheVariants.{Begun, Submitted, Consulted}
use Rattle.shop_core.specs.Prefix.{IsPrefix}
use Rattle.once_world.specs.Looks.{lines_in_front}
use Rattle.sender.specs.declared.answers.DrainFault.{DrainFault}
use Rattle.sender.specs.declared.answers.DrainFault.TheVariants as drain

-- the line of a record that is answered as new
abbrev pub new_line : ReplyLine → Option Line
new_line (First line) = Some line
new_line (Duplicado state) = None

abbrev pub is_again : ReplyLine → Bool
is_again (First line) = false
is_again (Duplicado state) = true

-- The lines that an answered message says: those of a reply that names its batch and answers each of its records as new, and
-- those of the records in front that a consultation is told were seen.
abbrev pub lines_said : Message → List Line
lines_said (Begun plan pairs) = []
lines_said (Submitted batch (Ok reply)) =
    if is_reply_to reply batch && not (list_any is_again reply.lines) then filter_map new_line reply.lines else []
lines_said (Submitted batch (Err why)) = []
lines_said (Consulted asked (Ok seen)) = lines_in_front seen
lines_said (Consulted asked (Err why)) = []

-- one message after another
abbrev pub all_said : List Message → List Line
all_said messages = flat_map lines_said messages

-- a consultation asks for the first of these records, each by its Huella and its id
pub record AsksForFirst (records : List Sealed) (asked : Named) : Type 0 where
  pub batch : List Sealed
  pub first : IsPrefix batch records
  pub is : asked ≡ named_of batch

-- the message hands over the first of these records, or asks for them
abbrev pub IsOfFirst : List Sealed → Message → Type 0
IsOfFirst records (Begun plan pairs) = ⊥
IsOfFirst records (Submitted batch answer) = IsPrefix batch records
IsOfFirst records (Consulted asked answer) = AsksForFirst records asked

-- how many records it names
abbrev pub count_named : Message → ℕ
count_named (Begun plan pairs) = 0
count_named (Submitted batch answer) = length batch
count_named (Consulted asked answer) = length asked.huellas

-- each message is of the first records that wait, and says a line for no more of them than it names: this many lines are noted
-- before the first message, and after each one those that it says
--= Each message hands over or asks for the first records that wait once the lines of those before it are noted, and
--= says a line for no more of them than it names.
--= No body: it is of `turn`: `sender/Turned.deals`
abbrev pub AreOfWaiting : List Sealed → ℕ → List Message → Type 0
AreOfWaiting records count [] = ⊤
AreOfWaiting records count (m ∷ messages) = IsOfFirst (drop count records) m × (length (lines_said m) ≤ count_named m)
    × AreOfWaiting records (count + length (lines_said m)) messages

-- the lines of all messages but the last were noted
pub record MissesLast (before after : List Line) (messages : List Message) : Type 0 where
  pub front : List Message
  pub last : Message
  pub is : messages ≡ front ++ last ∷ []
  pub noted : after ≡ before ++ all_said front

-- The lines that were noted, by how the sending ended: those that the messages say, in order, and no others. The last message's
-- aren't where it shows a contradiction or the store failed, and need not be where memory ran out.
--= The lines noted are those that the messages say, in order and no others: all of them but those of a last one
--= that shows a contradiction or at which the store failed; without memory those of the last may be lacking.
--= No body: it is of `turn` and of `Store::note`: `sender/Turned.deals`
abbrev pub AreNoted : List Line → List Line → List Message → Result (Unit {0}) DrainFault → Type 0
AreNoted before after messages (Ok done) = after ≡ before ++ all_said messages
AreNoted before after messages (Err (drain.Undelivered noted_count records_count)) = after ≡ before ++ all_said messages
AreNoted before after messages (Err (drain.Contradiction evidence)) = MissesLast before after messages
AreNoted before after messages (Err (drain.Store fault)) = MissesLast before after messages
AreNoted before after messages (Err drain.NoMemory) = (after ≡ before ++ all_said messages) ⊎ MissesLast before after messages

-- Between these two histories of a shop this was said, each message of the first records that waited; and the lines that were
-- noted are those that the messages say. So the line of each record is the one that the agency's answer has for it.
pub record NotesSaid (before after : List Entry) (old new : List Message) (answer : Result (Unit {0}) DrainFault) : Type 0 where
  pub session : List Message
  pub is : new ≡ old ++ session
  pub of_waiting : AreOfWaiting (recs after) (length (noted before)) session
  pub lines : AreNoted (noted before) (noted after) session answer

-- notes whose append failed after this history: the lines that the last message says, as the next ones
pub record TornSaid (after : List Entry) (messages : List Message) (torn : Entry) : Type 0 where
  pub front : List Message
  pub last : Message
  pub is : messages ≡ front ++ last ∷ []
  --= Notes that are torn are the lines that the last message says, as the next ones.
  --= No body: it is of `turn` and of `Store::note`: `sender/Turned.deals`
  pub torn_is : torn ≡ Notes (length (noted after)) (lines_said last)

-- the lines that were noted are those that the messages since say, in their order, or the first of them
pub record NotesWhatIsSaid (start end : List Entry) (old new : List Message) : Type 0 where
  pub since : List Message
  pub is : new ≡ old ++ since
  pub lines : IsPrefix (noted end) (noted start ++ all_said since)
