-- A dialogue with all tills of a shop.
use Rattle.std.specs.Prelude.{◌≡◌, ◌⊎◌, ◌<◌, ◌≤◌, ℕ, List, [], ◌∷◌, ◌++◌, length, take, Bool, true, ◌||◌, Option, Some, None, Result, Ok, Err}
use Rattle.std.specs.List.{AllByRecursion, list_any}
use Rattle.std.specs.Io.KnownBytes.{Appends, Consumes}
use Rattle.chain_lock.specs.Known.{Known}
use Rattle.chain_store.specs.Readings.{readings}
use Rattle.chain_store.specs.Replies.{AllGoOn, IsGoingOn, Replies, is_disk_fault, is_no_memory}
use Rattle.dialogue.specs.OneLine.{form_of}
use Rattle.dialogue.specs.Protocol.{Dialogue, Look as Looked, Transcript, clock_said, reply_text, written_for}
use Rattle.dialogue.specs.Continuing.{SpeakerKnows, ContinuesBy}
use Rattle.dialogue.specs.declared.speaker.Action.{Action}
use Rattle.dialogue.specs.declared.speaker.Action.TheVariants.{Write, Clock, Ask, Look}
use Rattle.journal.specs.declared.faults.StoreFault.{StoreFault}
use Rattle.line_reader.specs.Lists.{AreAllLines, AreLines, InputLine}
use Rattle.line_reader.specs.Read.{HasRead, HasReadAll, StopsBehind}
use Rattle.line_reader.specs.declared.chunk.TheConstants.{CHUNK}
use Rattle.ports.specs.Causes.{Rose, RoseByOne}
use Rattle.ports.specs.Readings.{MovedBy}
use Rattle.ports.specs.Sinks.{FailedIn, Sinks, Wrote, WroteNothing}
use Rattle.script.specs.declared.forms.Form.TheVariants.{First, Later}
use Rattle.script.specs.declared.lines.Meaning.{Meaning}
use Rattle.questions.specs.Answers.{IsAnswer}
use Rattle.questions.specs.declared.questions.TillQuestion.{TillQuestion}
use Rattle.record_codec.specs.declared.entry.Entry.{Entry}
use Rattle.shop_core.specs.Answer.Requests.{Asked}
use Rattle.shop_core.specs.declared.answer.Reply.{Reply}
use Rattle.shop_core.specs.declared.items.Item.{Item}
use Rattle.till_calls.specs.Root.{Root}
use Rattle.dialogue_loop.specs.InARow.{AllRanOn, IsOfTill}
use Rattle.dialogue_loop.specs.Looked.{AreLookedAt, LookedOn, RunsAt}
use Rattle.dialogue_loop.specs.declared.listener.Listener.{Listener}
use Rattle.dialogue_loop.specs.declared.speaking.SpeechEnd.{SpeechEnd}
use Rattle.dialogue_loop.specs.declared.speaking.SpeechEnd.TheVariants as how
use Rattle.record_codec.specs.declared.entry.TheConstants.{LAST_TILL}

-- the lines of what was said were read, and the listener knows it
pub record HasHeard (left left_now : Option (List ℕ)) (l : Listener) (t : Transcript) : Type 0 where
  pub read : HasRead left left_now l.reader t.lines
  pub so_far : SpeakerKnows l.speaker t

-- these lines were read, and nothing after them but what came with them in one read: they are all of the source's lines, or fewer
-- bytes stand after them than one read gives
pub record HasReadTo (left left_now : Option (List ℕ)) (lines : List InputLine) : Type 0 where
  pub taken : List ℕ
  pub consumed : Consumes left left_now taken
  pub are : ((rest : List ℕ) × AreLines taken lines rest × (length rest ≤ CHUNK)) ⊎ AreAllLines taken lines

-- these lines were read, or one more, which wasn't heard, or a question that wasn't answered
pub record HasReadPast (left left_now : Option (List ℕ)) (lines : List InputLine) : Type 0 where
  pub more : List InputLine
  pub at_most_one : length more < 2
  pub read : HasReadTo left left_now (lines ++ more)

-- How the source stands at an end. It was read to its end, and these are all of its lines; it failed within the next line; or no
-- line after these was read, but for one that no memory was left to hear, or to answer where it is a question.
abbrev pub IsRead : SpeechEnd → Option (List ℕ) → Option (List ℕ) → List InputLine → Type 0
IsRead how.Ended left left_now lines = HasReadAll left left_now lines
IsRead how.ReadFault left left_now lines = StopsBehind left left_now lines
IsRead how.WriteFault left left_now lines = HasReadTo left left_now lines
IsRead how.NoMemory left left_now lines = HasReadPast left left_now lines
IsRead how.Stopped left left_now lines = HasReadTo left left_now lines

-- an end ahead of any answer
abbrev pub IsEarly : SpeechEnd → Type 0
IsEarly how.Ended = Unit {0}
IsEarly how.ReadFault = Unit {0}
IsEarly how.NoMemory = Unit {0}
IsEarly how.WriteFault = ⊥
IsEarly how.Stopped = ⊥

-- one line more was read, and what it asks for
pub record HearsLine (left left_now : Option (List ℕ)) (old new : Listener) (t : Transcript) (action : Action) : Type 0 where
  pub line : InputLine
  pub read : HasRead left left_now new.reader (t.lines ++ line ∷ [])
  pub on : ContinuesBy old.speaker new.speaker t line action

-- what came after what was heard
abbrev pub Comes : Option (List ℕ) → Option (List ℕ) → Listener → Listener → Transcript → Result Action SpeechEnd → Type 0
Comes left left_now old new t (Ok action) = HearsLine left left_now old new t action
Comes left left_now old new t (Err end) = IsEarly end × IsRead end left left_now t.lines

abbrev pub HearsOn : Option (List ℕ) → Option (List ℕ) → Option (List ℕ) → Listener → Listener → Result Action SpeechEnd → Type 0
HearsOn left left_old left_now old new result =
    (t : Transcript) → HasHeard left left_old old t → Comes left left_now old new t result

-- lines that were passed over say nothing to the tills
abbrev pub passed : List InputLine → List Meaning → List (List ℕ) → Transcript
passed lines before answers =
    record { lines = lines; form = First; before = before; asks = []; replies = []; looks = []; answers = answers }

-- Lines that were passed over, and the first that is answered: what it asks for. The listener after the last of the others, and
-- what the source had left there.
pub record HearsFirst (left left_now : Option (List ℕ)) (new : Listener) (action : Action) : Type 0 where
  pub mid : Listener
  pub mid_left : Option (List ℕ)
  pub lines : List InputLine
  pub before : List Meaning
  pub answers : List (List ℕ)
  pub none : written_for answers ≡ []
  pub heard : HasHeard left mid_left mid (passed lines before answers)
  pub line_read : HearsLine left left_now mid new (passed lines before answers) action
  pub clock_none : clock_said before ≡ None
  pub later : form_of new.speaker ≡ Later

-- the source ended or failed after lines that were passed over, or memory ran out
pub record HearsNone (left left_now : Option (List ℕ)) (end : SpeechEnd) : Type 0 where
  pub early : IsEarly end
  pub lines : List InputLine
  pub before : List Meaning
  pub answers : List (List ℕ)
  pub none : written_for answers ≡ []
  pub dialogue : Dialogue (passed lines before answers)
  pub clock_none : clock_said before ≡ None
  pub read : IsRead end left left_now lines

abbrev pub ComesFirst : Option (List ℕ) → Option (List ℕ) → Listener → Result Action SpeechEnd → Type 0
ComesFirst left left_now new (Ok action) = HearsFirst left left_now new action
ComesFirst left left_now new (Err end) = HearsNone left left_now end

-- the clock line, once this was done
abbrev pub clock_with : Action → Option (ℕ × ℕ) → Option (ℕ × ℕ)
clock_with (Write text) clock = clock
clock_with (Clock start step text) clock = Some (start, step)
clock_with (Ask ask) clock = clock
clock_with (Look asked) clock = clock

-- the clock line, where the first line that is answered is one
abbrev pub clock_first : Result Action SpeechEnd → Option (ℕ × ℕ)
clock_first (Ok action) = clock_with action None
clock_first (Err end) = None

-- a fault of the source is counted
abbrev pub IsCause : ℕ → ℕ → Result Action SpeechEnd → Type 0
IsCause faults faults_after (Err how.ReadFault) = Rose faults faults_after
IsCause faults faults_after _ = Unit {0}

-- of a source that counts each failed read: one failed where a read fault is told, and else none
abbrev pub EndsOnce : ℕ → ℕ → SpeechEnd → Type 0
EndsOnce faults faults_after how.ReadFault = RoseByOne faults faults_after
EndsOnce faults faults_after _ = faults_after ≡ faults

-- the same of what came of a line
abbrev pub ComesOnce : ℕ → ℕ → Result Action SpeechEnd → Type 0
ComesOnce faults faults_after (Ok action) = faults_after ≡ faults
ComesOnce faults faults_after (Err end) = EndsOnce faults faults_after end

-- and of a dialogue that goes on or ends
abbrev pub GoesOnce : ℕ → ℕ → Option SpeechEnd → Type 0
GoesOnce faults faults_after None = faults_after ≡ faults
GoesOnce faults faults_after (Some end) = EndsOnce faults faults_after end

-- what is known of a source and a sink at a moment
pub record Moment : Type 0 where
  pub left : Option (List ℕ)
  pub source_faults : ℕ
  pub taken : Option (List ℕ)
  pub sink_faults : ℕ

abbrev pub moment_of : {S K : Type 0} → (S → Option (List ℕ)) → (S → ℕ) → (K → Option (List ℕ)) → (K → ℕ) → S → K → Moment
moment_of left source_faults taken sink_faults source sink = record {
  left = left source;
  source_faults = source_faults source;
  taken = taken sink;
  sink_faults = sink_faults sink;
}

-- a moment at which the source had this to give, and the sink was as it is
abbrev pub moment_since : Option (List ℕ) → ℕ → Option (List ℕ) → ℕ → Moment
moment_since left source_faults taken sink_faults = record {
  left = left;
  source_faults = source_faults;
  taken = taken;
  sink_faults = sink_faults;
}

-- the sink from one moment to another
abbrev pub sink_since : Moment → Moment → Sinks
sink_since from now = record {
  taken = from.taken;
  taken_after = now.taken;
  faults = from.sink_faults;
  faults_after = now.sink_faults;
}

-- the sink took all of these texts but the last, and this many bytes of that one
pub record TookToLast (s : Sinks) (texts : List (List ℕ)) : Type 0 where
  pub before : List (List ℕ)
  pub last : List ℕ
  pub texts_are : texts ≡ before ++ last ∷ []
  pub count : ℕ
  pub took : Appends s.taken s.taken_after (written_for before ++ take count last)

-- and failed
pub record FailedAtLast (s : Sinks) (texts : List (List ℕ)) : Type 0 where
  pub risen : Rose s.faults s.faults_after
  pub part : TookToLast s texts

-- What the sink took of the answers, by how the dialogue ended: all of them, but where the last one couldn't be written, or made.
abbrev pub IsWritten : SpeechEnd → Sinks → List (List ℕ) → Type 0
IsWritten how.Ended s answers = Wrote s (written_for answers)
IsWritten how.ReadFault s answers = Wrote s (written_for answers)
IsWritten how.WriteFault s answers = FailedAtLast s answers
IsWritten how.NoMemory s answers = Wrote s (written_for answers) ⊎ TookToLast s answers
IsWritten how.Stopped s answers = Wrote s (written_for answers) ⊎ FailedAtLast s answers

-- the disk failed at the last command, which is the last line, and at none before it
pub record StopsAtLast (asks : List Asked) (replies : Replies) (answers : List (List ℕ)) : Type 0 where
  pub asks_before : List Asked
  pub ask : Asked
  pub asks_are : asks ≡ asks_before ++ ask ∷ []
  pub replies_before : Replies
  pub told : Result Reply StoreFault
  pub replies_are : replies ≡ replies_before ++ told ∷ []
  pub answers_before : List (List ℕ)
  pub answers_are : answers ≡ answers_before ++ reply_text ask told ∷ []
  pub go_on : AllGoOn replies_before
  pub fault : is_disk_fault told ≡ true

-- What the replies say of how it ended: the first fault of the disk is the last reply, and its answer the last answer.
abbrev pub AreRepliesOf : SpeechEnd → List Asked → Replies → List (List ℕ) → Type 0
AreRepliesOf how.Ended asks replies answers = AllGoOn replies
AreRepliesOf how.ReadFault asks replies answers = AllGoOn replies
AreRepliesOf how.WriteFault asks replies answers = AllGoOn replies
AreRepliesOf how.NoMemory asks replies answers = AllGoOn replies ⊎ StopsAtLast asks replies answers
AreRepliesOf how.Stopped asks replies answers = StopsAtLast asks replies answers

-- the source failed where the end says so
abbrev pub IsReadFault : SpeechEnd → Moment → Moment → Type 0
IsReadFault how.ReadFault from now = Rose from.source_faults now.source_faults
IsReadFault _ from now = Unit {0}

-- How far a dialogue is: the lines that were read and all that was said and written for them, by this clock line; each till ran its
-- own of the commands, and no fault of the disk was told. The clock, whose coming answers these were and are now, was read once for
-- each reply.
pub record DialogueSoFar {C : Type 0} (coming coming_now : ℕ → Option ℕ) (clock : Option (ℕ × ℕ)) (from now : Moment) (l : Listener)
    (lacked : Bool) (olds news : List (Known Item (Root C))) : Type 0 where
  pub said : Transcript
  pub heard : HasHeard from.left now.left l said
  pub clock_is : clock_said said.before ≡ clock
  pub ran : AllRanOn (λ c. coming) said.asks said.replies olds news
  pub looked : LookedOn (λ c. coming) olds said.asks said.replies said.looks news
  pub tills : AllByRecursion IsOfTill said.asks
  pub go_on : AllGoOn said.replies
  pub moved : MovedBy (readings said.replies) coming coming_now
  pub lacked_is : lacked ≡ list_any is_no_memory said.replies
  pub wrote : Wrote (sink_since from now) (written_for said.answers)
  pub source_later : from.source_faults ≤ now.source_faults
  pub sink_later : from.sink_faults ≤ now.sink_faults

-- A dialogue that ended so.
pub record Spoken {C : Type 0} (coming : ℕ → Option ℕ) (clock : Option (ℕ × ℕ)) (from now : Moment)
    (lacked : Bool) (olds news : List (Known Item (Root C))) (end : SpeechEnd) : Type 0 where
  pub said : Transcript
  --= The lines that were read are a dialogue: each is answered by its definition, given those before it, in one text;
  --= one without its LF does nothing.
  pub dialogue : Dialogue said
  pub pairs : length said.replies ≡ length said.asks
  pub clock_is : clock_said said.before ≡ clock
  --= Each till has run its own of the commands, in their order, from what it knew, and has only seen on since.
  pub ran : AllRanOn (λ c. coming) said.asks said.replies olds news
  --= Questions are answered at histories of which each begins with the one before; each record that was told by a
  --= receipt before a question is in its history.
  pub looked : AreLookedAt olds news said.replies said.looks
  --= Commands are answered at histories with no fewer records than those at the start and those taken before, by
  --= whichever till; where the records at the end are no others than these, all commands are one run.
  pub run : RunsAt (λ c. coming) olds news said.asks said.replies said.looks
  pub tills : AllByRecursion IsOfTill said.asks
  pub lacked_is : lacked ≡ list_any is_no_memory said.replies
  --= The source is read to its end, or up to a fault of it; else up to the last line that was answered, with what
  --= came with it in one read, but for one line more that no memory was left to hear.
  pub read : IsRead end from.left now.left said.lines
  --= The sink took each answer, in order, or each but the last and a front of that one where it failed or memory ran
  --= out.
  pub written : IsWritten end (sink_since from now) said.answers
  --= No reply is a fault of the disk but the last one, where the dialogue stopped at it, and its answer is then the
  --= last.
  pub replies_are : AreRepliesOf end said.asks said.replies said.answers
  pub read_fault : IsReadFault end from now
  pub sink_later : from.sink_faults ≤ now.sink_faults

-- no line was answered
abbrev pub IsFirst : Listener → Type 0
IsFirst l = form_of l.speaker ≡ First

-- some line was answered
abbrev pub HasAnswered : Listener → Type 0
HasAnswered l = form_of l.speaker ≡ Later

-- the dialogue goes on, after a line that was answered, or ended so
abbrev pub Goes : {C : Type 0} → (coming coming_now : ℕ → Option ℕ) → Option (ℕ × ℕ) → Moment → Moment → Listener → Bool →
    List (Known Item (Root C)) → List (Known Item (Root C)) → Option SpeechEnd → Type 0
Goes coming coming_now clock from now l lacked olds news None =
    DialogueSoFar coming coming_now clock from now l lacked olds news × HasAnswered l
Goes coming coming_now clock from now l lacked olds news (Some end) = Spoken coming clock from now lacked olds news end

-- an answer that was written or not
abbrev pub IsAnswered : Sinks → List ℕ → Option SpeechEnd → Type 0
IsAnswered s text None = Wrote s text
IsAnswered s text (Some how.WriteFault) = FailedIn s text
IsAnswered s text (Some other) = ⊥

-- the answer to a command: after a fault of the disk nothing more is read
abbrev pub IsReplied : Result Reply StoreFault → Sinks → List ℕ → Option SpeechEnd → Type 0
IsReplied replied s text None = IsGoingOn replied × Wrote s text
IsReplied replied s text (Some how.WriteFault) = IsGoingOn replied × FailedIn s text
IsReplied replied s text (Some how.NoMemory) = WroteNothing s
IsReplied replied s text (Some how.Stopped) = (is_disk_fault replied ≡ true) × (Wrote s text ⊎ FailedIn s text)
IsReplied replied s text (Some other) = ⊥

-- a command was asked for, and answered, at the next reading of the clock
pub record AsksOne {C : Type 0} (coming coming_old coming_new : ℕ → Option ℕ) (ask : Asked) (s : Sinks) (old_lacked new_lacked : Bool)
    (mids news : List (Known Item (Root C))) (end : Option SpeechEnd) : Type 0 where
  pub told : Result Reply StoreFault
  pub moved : MovedBy 1 coming_old coming_new
  pub asks_on : (asks : List Asked) (replies : Replies) (olds : List (Known Item (Root C))) → length replies ≡ length asks →
      length olds ≡ LAST_TILL → MovedBy (readings replies) coming coming_old → AllRanOn (λ c. coming) asks replies olds mids →
      AllRanOn (λ c. coming) (asks ++ ask ∷ []) (replies ++ told ∷ []) olds news
  pub looked : (olds : List (Known Item (Root C))) (asks : List Asked) (replies : Replies) (looks : List Looked) →
      length replies ≡ length asks → MovedBy (readings replies) coming coming_old → LookedOn (λ c. coming) olds asks replies looks mids →
      LookedOn (λ c. coming) olds (asks ++ ask ∷ []) (replies ++ told ∷ []) looks news
  pub of_till : IsOfTill ask
  pub lacked_is : new_lacked ≡ (old_lacked || is_no_memory told)
  pub replied : IsReplied told s (reply_text ask told) end

-- no till ran, but some may have seen on
abbrev pub KeepsRuns : {C : Type 0} → (ℕ → Option ℕ) → List (Known Item (Root C)) → List (Known Item (Root C)) → Type 0
KeepsRuns {C} coming mids news = (asks : List Asked) (replies : Replies) (olds : List (Known Item (Root C))) →
    AllRanOn (λ c. coming) asks replies olds mids → AllRanOn (λ c. coming) asks replies olds news

-- a question was answered at a history
pub record AnswersOne {C : Type 0} (coming : ℕ → Option ℕ) (asked : TillQuestion) (s : Sinks)
    (mids news : List (Known Item (Root C))) (end : Option SpeechEnd) : Type 0 where
  pub history : List Entry
  pub text : List ℕ
  pub is : IsAnswer asked history text
  pub looked : (olds : List (Known Item (Root C))) (asks : List Asked) (replies : Replies) (looks : List Looked) →
      LookedOn (λ c. coming) olds asks replies looks mids →
      LookedOn (λ c. coming) olds asks replies (looks ++ record { after = length replies; history = history } ∷ []) news
  pub written : IsAnswered s text end

-- there was no memory for its answer
pub record AnswersNone {C : Type 0} (coming : ℕ → Option ℕ) (s : Sinks) (mids news : List (Known Item (Root C)))
    (end : Option SpeechEnd) : Type 0 where
  pub how : end ≡ Some how.NoMemory
  pub nothing : WroteNothing s
  pub looked : (olds : List (Known Item (Root C))) (asks : List Asked) (replies : Replies) (looks : List Looked) →
      LookedOn (λ c. coming) olds asks replies looks mids → LookedOn (λ c. coming) olds asks replies looks news

-- what a line asks for was done
abbrev pub CarriesOut : {C : Type 0} → (coming coming_old coming_new : ℕ → Option ℕ) → Action → Sinks → Bool → Bool →
    List (Known Item (Root C)) → List (Known Item (Root C)) → Option SpeechEnd → Type 0
CarriesOut coming coming_old coming_new (Write text) s old_lacked new_lacked mids news end =
    (new_lacked ≡ old_lacked) × (news ≡ mids) × IsAnswered s text end × (coming_new ≡ coming_old)
CarriesOut coming coming_old coming_new (Clock start step text) s old_lacked new_lacked mids news end =
    (new_lacked ≡ old_lacked) × (news ≡ mids) × IsAnswered s text end × (coming_new ≡ coming_old)
CarriesOut coming coming_old coming_new (Ask ask) s old_lacked new_lacked mids news end =
    AsksOne coming coming_old coming_new ask s old_lacked new_lacked mids news end
CarriesOut coming coming_old coming_new (Look asked) s old_lacked new_lacked mids news end =
    (new_lacked ≡ old_lacked) × KeepsRuns coming mids news ×
    (AnswersOne coming asked s mids news end ⊎ AnswersNone coming s mids news end) × (coming_new ≡ coming_old)
