-- What is said in a dialogue with a shop, and what it makes of the shop.
use Rattle.std.specs.Prelude.{◌≡◌, ◌≤◌, ℕ, Bool, true, false, List, length, map, IsTrue, Option, Result}
use Rattle.std.specs.List.{AllByRecursion, list_any, range_with_len}
use Rattle.chain_lock.specs.Known.{Known}
use Rattle.chain_store.specs.Replies.{is_no_memory}
use Rattle.dialogue_loop.specs.InARow.{IsOfTill, replies_of}
use Rattle.dialogue_loop.specs.Looked.{AreLooked}
use Rattle.dialogue_loop.specs.OneRun.{IsOneRun}
use Rattle.dialogue_loop.specs.Speech.{AreRepliesOf, ComesFirst, ComesOnce, EndsOnce, IsCause, IsRead, IsWritten, Moment, Spoken}
use Rattle.dialogue_loop.specs.Speech.{clock_first, moment_since, sink_since}
use Rattle.dialogue_loop.specs.declared.listener.Listener.{Listener}
use Rattle.dialogue_loop.specs.declared.speaking.SpeechEnd.{SpeechEnd}
use Rattle.dialogue_loop.specs.declared.speaking.SpeechEnd.TheVariants as speech
use Rattle.dialogue.specs.Protocol.{Dialogue, Transcript, clock_said}
use Rattle.dialogue.specs.declared.speaker.Action.{Action}
use Rattle.ports.specs.Sources.{SourceRose, Sources}
use Rattle.record_codec.specs.declared.entry.TheConstants.{LAST_TILL}
use Rattle.sender.specs.Turning.{AgencyKind, AgencyState}
use Rattle.sender.specs.declared.answers.DrainFault.{DrainFault}
use Rattle.shop_core.specs.declared.items.Item.{Item}
use Rattle.till_calls.specs.Root.{Parts, Root}
use Rattle.sender_beside.specs.Days.{Day, TillReplies, shop_day}
use Rattle.sender_session.specs.Kinds.{StoreKind}
use Rattle.sender_beside.specs.Tills.{DayRun}

-- What was said in a dialogue, and how it ended.
pub record Speech : Type 0 where
  pub said : Transcript
  pub how : SpeechEnd

-- The lines are those of the source, one after another; what is written is the answer to each; each till was told its own of the
-- replies, in this order, and the first fault of the disk is the last of them; the commands, in the order of their lines, are one
-- run; each question was answered at a history that begins with the one at the start, is a front of the one at the end, is no
-- shorter than any before it, and has exactly the records at the start and those that were taken before it; and this is the clock
-- line among them, or none.
pub record IsSpeech (clock : Option (ℕ × ℕ)) (d : Day) (s : Sources) (x : Speech) : Type 0 where
  --= What is said, asked and written for the lines of `serve` is their dialogue, by the grammar of scripts.
  --= No body: it is of `answer_lines`: `dialogue_loop/Spoken.dialogue`
  pub dialogue : Dialogue x.said
  pub pairs : length x.said.replies ≡ length x.said.asks
  --= The clock line among the lines of `serve` is the one that replaced clock and sleeper.
  --= No body: it is of `answer_lines` and of `serve_cmd`
  pub clock_is : clock_said x.said.before ≡ clock
  pub of_tills : AllByRecursion IsOfTill x.said.asks
  --= Each till of `serve` was told its own of the replies, in their order.
  --= No body: it is of `answer_lines`: `dialogue_loop/Spoken.ran`
  pub told : AllByRecursion (λ (t : TillReplies). t.replies ≡ replies_of t.till x.said.asks x.said.replies) d.tills
  --= The commands of `serve`, in the order of their lines, are one run, whose records are those at the start and
  --= those taken since, by whichever till.
  --= No body: it is of `answer_lines`: `dialogue_loop/Spoken.run`
  pub run : IsOneRun d.version d.issuer d.coming d.start d.end x.said.asks x.said.replies x.said.looks
  --= Each question of `serve` was answered at a history that begins with the one at the start and is a front of the
  --= one at the end; none is shorter than the one before it.
  --= No body: it is of `answer_lines`: `dialogue_loop/Spoken.looked`
  pub looked : AreLooked d.start d.end x.said.replies x.said.looks
  --= The lines of `serve` are the source's, in order: all of them where it was read to its end, and else none after
  --= the last one that was answered, but for one that no memory was left to hear.
  --= No body: it is of `answer_lines`: `dialogue_loop/Spoken.read`
  pub read : IsRead x.how s.left s.left_after x.said.lines
  --= The replies of `serve` go on up to the first fault of the disk, which is the last of them, and its answer is
  --= the last answer.
  --= No body: it is of `answer_lines`: `dialogue_loop/Spoken.replies_are`
  pub replies_are : AreRepliesOf x.how x.said.asks x.said.replies x.said.answers
  pub read_fault : x.how ≡ speech.ReadFault → SourceRose s

-- The first line that is answered has come from a source, or an end ahead of it: the source, which had so much to give at first and
-- counted this many faults, has this left and counts these.
pub record HasCome (left_now : Option (List ℕ)) (faults_now : ℕ) (l : Listener) (first : Result Action SpeechEnd) : Type 0 where
  pub left : Option (List ℕ)
  pub faults : ℕ
  pub comes : ComesFirst left left_now l first
  pub later : faults ≤ faults_now
  pub cause : IsCause faults faults_now first

-- What is spoken from this first line on, by a clock with these coming answers, whatever its source had to give before that line: the
-- tills knew so much before, and now. A source that counts each failed read failed once where a read fault is told, and else not.
pub record SpeaksOn {C : Type 0} (coming : ℕ → Option ℕ) (counts : Bool) (listener : Listener) (first : Result Action SpeechEnd)
    (from now : Moment) (lacked : Bool) (olds news : List (Known Item (Root C))) (how : SpeechEnd) : Type 0 where
  pub spoken : (left : Option (List ℕ)) (faults : ℕ) → ComesFirst left from.left listener first → faults ≤ from.source_faults →
      IsCause faults from.source_faults first →
      Spoken coming (clock_first first) (moment_since left faults from.taken from.sink_faults) now lacked olds news how
  pub once : IsTrue counts → (faults : ℕ) → ComesOnce faults from.source_faults first → EndsOnce faults now.source_faults how

-- whether a drain follows a dialogue that ended so: always, but after a fault of the disk
--= A drain follows a dialogue, but after one that ended at a fault of the disk.
--= No body: a definition, cited by `shop_dialogue/run_dialogue.behind`
abbrev pub drains_after : SpeechEnd → Bool
drains_after speech.Ended = true
drains_after speech.ReadFault = true
drains_after speech.WriteFault = true
drains_after speech.NoMemory = true
drains_after speech.Stopped = false

-- A dialogue with a shop, which was this at its start, while its sender sends: what was said, and what it made of the shop. These are
-- the coming answers of the clock by which its commands were answered.
pub record DialogueRun {D C : Type 0} (h : StoreKind D C) (coming : ℕ → Option ℕ) (root : Root C) (new : Parts D C) (clock : Option (ℕ × ℕ))
    (from now : Moment) (kind : AgencyKind) (opened after : AgencyState) (answer : Result (Unit {0}) DrainFault) (lacked : Bool)
    (how : SpeechEnd) : Type 0 where
  pub speech : Speech
  pub tills : List TillReplies
  pub how_is : speech.how ≡ how
  pub spoken : IsSpeech clock (shop_day (λ c. coming) speech.said.asks root new tills kind opened after (drains_after how) answer) (record {
    left = from.left;
    left_after = now.left;
    faults = from.source_faults;
    faults_after = now.source_faults;
  }) speech
  pub are : map (λ (t : TillReplies). t.till) tills ≡ range_with_len 1 LAST_TILL
  pub lacked_is : lacked ≡ list_any is_no_memory speech.said.replies
  pub written : IsWritten how (sink_since from now) speech.said.answers
  pub sink_later : from.sink_faults ≤ now.sink_faults
  pub run : DayRun h root new (shop_day (λ c. coming) speech.said.asks root new tills kind opened after (drains_after how) answer)
