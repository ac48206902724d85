-- A dialogue, one line further.
use Rattle.std.proofs.Common.{◌≡◌, ◌∙◌, ◌⊎◌, inl, inr, ℕ, ◌+◌, ◌≤◌, List, [], ◌∷◌, ◌++◌, length, refl, sym, ap, subst, arith}
use Rattle.std.proofs.Common.{Bool, true, false, ◌||◌, Option, Some, None, Result, Ok, Err, append-nil, take}
use Rattle.std.specs.List.{AllByRecursion, list_any}
use Rattle.std.proofs.KnownBytes.{Appends-nil, Appends-trans}
use Rattle.std.specs.Io.KnownBytes.{Appends}
use Rattle.chain_lock.specs.Known.{Known}
use Rattle.chain_store.specs.Readings.{readings}
use Rattle.chain_store.specs.Replies.{AllGoOn, IsGoingOn, Replies, is_disk_fault, is_no_memory}
use Rattle.dialogue.specs.OneLine.{form_of}
use Rattle.dialogue.specs.Protocol.{Dialogue, Look as Looked, Reading, Transcript, clock_said, form_after, look_at, question, reply_text, says}
use Rattle.dialogue.specs.Protocol.{too_long, unended, wrong, wrong_question, written_for}
use Rattle.dialogue.specs.Protocol.Dialogue.{silence, line as one_line}
use Rattle.dialogue.specs.Continuing.{AsksOn, LooksOn, SpeakerKnows, with_answer}
use Rattle.dialogue.specs.declared.speaker.Speaker.{Speaker}
use Rattle.dialogue.specs.declared.speaker.Action.{Action}
use Rattle.dialogue.specs.declared.speaker.Action.TheVariants.{Write, Clock, Ask, Look}
use Rattle.dialogue.proofs.Views.{written_more}
use Rattle.journal.specs.declared.faults.StoreFault.{StoreFault}
use Rattle.journal.specs.declared.faults.StoreFault.TheVariants as fault
use Rattle.line_reader.specs.Lines.{is_over, kept_of}
use Rattle.line_reader.specs.Lists.{AreAllLines, AreLines, InputLine}
use Rattle.line_reader.specs.Read.{AreRead, HasRead}
use Rattle.line_reader.specs.declared.reader.LineReader.{LineReader}
use Rattle.ports.specs.Readings.{MovedBy}
use Rattle.ports.specs.Sinks.{FailedIn, Sinks, Wrote, WroteNothing, WrotePart}
use Rattle.script.specs.declared.forms.Form.{Form}
use Rattle.script.specs.declared.forms.Form.TheVariants.{First, Later}
use Rattle.script.specs.declared.lines.Meaning.{Meaning}
use Rattle.script.specs.declared.lines.Meaning.TheVariants as line
use Rattle.shop_core.specs.Answer.Requests.{Asked}
use Rattle.shop_core.specs.declared.answer.Reply.{Reply}
use Rattle.shop_core.specs.declared.items.Item.{Item}
use Rattle.till_calls.specs.Root.{Root}
use Rattle.questions.specs.declared.questions.TillQuestion.{TillQuestion}
use Rattle.dialogue_loop.specs.InARow.{AllRanOn, IsOfTill}
use Rattle.dialogue_loop.specs.Looked.{AreLookedAt, LookedOn, RunsAt}
use Rattle.dialogue_loop.proofs.Readings.{moved_on}
use Rattle.dialogue_loop.proofs.InARow.{none_ran, shop_kept, size_kept}
use Rattle.dialogue_loop.proofs.Looking.{looked_at_end, none_looked, none_ran_at, run_at_end}
use Rattle.dialogue_loop.specs.Speech.{AreRepliesOf, AsksOne, ComesFirst, Goes, GoesOnce, HasAnswered, HasHeard, HearsFirst, clock_first, HearsNone, IsFirst, clock_with, FailedAtLast, HasReadPast, HasReadTo, HearsLine, IsAnswered, IsCause, IsEarly, IsRead, IsReadFault}
use Rattle.dialogue_loop.specs.Speech.{AnswersNone, AnswersOne, IsReplied, IsWritten, KeepsRuns, Moment, CarriesOut, DialogueSoFar, Spoken, StopsAtLast}
use Rattle.dialogue_loop.specs.Speech.{TookToLast, passed, sink_since}
use Rattle.dialogue_loop.specs.declared.listener.Listener.{Listener}
use Rattle.dialogue_loop.specs.declared.speaking.SpeechEnd.{SpeechEnd}
use Rattle.dialogue_loop.specs.declared.speaking.SpeechEnd.TheVariants as how

-- the lines after a reader were read
pub read_to : (left now : Option (List ℕ)) (r : LineReader) (lines : List InputLine) → HasRead left now r lines →
    HasReadTo left now lines
read_to left now r lines h = record {
  taken = h.taken;
  consumed = h.consumed;
  are = by_over (is_over r) h.are;
}
  where
    by_over : (over : Bool) → AreRead over h.taken lines (kept_of r) now →
        ((rest : List ℕ) × AreLines h.taken lines rest × (length rest ≤ 4096)) ⊎ AreAllLines h.taken lines
    by_over false a = inl (kept_of r, a, h.few)
    by_over true a = inr a.0

-- or one more
pub read_past : (left now : Option (List ℕ)) (r : LineReader) (lines : List InputLine) (line : InputLine) →
    HasRead left now r (lines ++ line ∷ []) → HasReadPast left now lines
read_past left now r lines line h = record {
  more = line ∷ [];
  at_most_one = omega arith;
  read = read_to left now r (lines ++ line ∷ []) h;
}

none_past : (left now : Option (List ℕ)) (lines : List InputLine) → HasReadTo left now lines → HasReadPast left now lines
none_past left now lines h = record {
  more = [];
  at_most_one = omega arith;
  read = subst (λ (ls : List InputLine). HasReadTo left now ls) (sym (append-nil lines)) h;
}

-- an end that comes after a line was read
abbrev IsLate : SpeechEnd → Type 0
IsLate how.Ended = ⊥
IsLate how.ReadFault = ⊥
IsLate how.WriteFault = Unit {0}
IsLate how.NoMemory = Unit {0}
IsLate how.Stopped = Unit {0}

-- what a sink took in two calls, one after the other: all of these texts, and what it did with one more
module _ (from mid now : Moment) (texts : List (List ℕ)) (text : List ℕ) (wrote : Wrote (sink_since from mid) (written_for texts))
    (later : from.sink_faults ≤ mid.sink_faults) where
  both_wrote : Wrote (sink_since mid now) text → Wrote (sink_since from now) (written_for (texts ++ text ∷ []))
  both_wrote w = rw (written_more texts text) (Appends-trans from.taken mid.taken now.taken (written_for texts) text wrote w)

  part_on : WrotePart (sink_since mid now) text → TookToLast (sink_since from now) (texts ++ text ∷ [])
  part_on p = record {
    before = texts;
    last = text;
    texts_are = refl;
    count = p.0;
    took = Appends-trans from.taken mid.taken now.taken (written_for texts) (take p.0 text) wrote p.1;
  }

  fails_on : FailedIn (sink_since mid now) text → FailedAtLast (sink_since from now) (texts ++ text ∷ [])
  fails_on f = record { risen = λ below. let r = f.risen below in omega (arith, r, later); part = part_on f.part }

  -- what was taken of the one text, by how it ended
  abbrev Ended : SpeechEnd → Type 0
  Ended how.Ended = ⊥
  Ended how.ReadFault = ⊥
  Ended how.WriteFault = FailedIn (sink_since mid now) text
  Ended how.NoMemory = WroteNothing (sink_since mid now)
  Ended how.Stopped = Wrote (sink_since mid now) text ⊎ FailedIn (sink_since mid now) text

  written_on : (end : SpeechEnd) → Ended end → IsWritten end (sink_since from now) (texts ++ text ∷ [])
  written_on how.Ended w = absurd w
  written_on how.ReadFault w = absurd w
  written_on how.WriteFault w = fails_on w
  written_on how.NoMemory w = inr (part_on (0, w))
  written_on how.Stopped (inl w) = inl (both_wrote w)
  written_on how.Stopped (inr f) = inr (fails_on f)

any_push : {X : Type 0} (p : X → Bool) (xs : List X) (x : X) → list_any p (xs ++ x ∷ []) ≡ (list_any p xs || p x)
any_push p [] x = or_false (p x)
  where
    or_false : (b : Bool) → (b || false) ≡ (false || b)
    or_false true = refl
    or_false false = refl
any_push p (y ∷ ys) x = ap (λ (b : Bool). p y || b) (any_push p ys x) ∙ or_assoc (p y) (list_any p ys) (p x)
  where
    or_assoc : (a b c : Bool) → (a || (b || c)) ≡ ((a || b) || c)
    or_assoc true b c = refl
    or_assoc false b c = refl

-- a reply with which the dialogue goes on, or a fault of the disk
goes_or_stops : (told : Result Reply StoreFault) → IsGoingOn told ⊎ (is_disk_fault told ≡ true)
goes_or_stops (Ok reply) = inl tt
goes_or_stops (Err fault.DiskFault) = inr refl
goes_or_stops (Err (fault.Stopped faults)) = inr refl
goes_or_stops (Err fault.NoMemory) = inl tt

go_on_push : (replies : Replies) (told : Result Reply StoreFault) → AllGoOn replies → IsGoingOn told → AllGoOn (replies ++ told ∷ [])
go_on_push [] told h g = (g, tt)
go_on_push (r ∷ rs) told h g = (h.0, go_on_push rs told h.1 g)

tills_push : (asks : List Asked) (ask : Asked) → AllByRecursion IsOfTill asks → IsOfTill ask → AllByRecursion IsOfTill (asks ++ ask ∷ [])
tills_push [] ask h t = (t, tt)
tills_push (a ∷ asks) ask h t = (h.0, tills_push asks ask h.1 t)

-- the looks of a dialogue whose tills know this at its end
module _ {C : Type 0} (coming : ℕ → Option ℕ) (olds news : List (Known Item (Root C))) (size : length olds ≡ 64) where
  at_end : (asks : List Asked) (replies : Replies) (looks : List Looked) → AllRanOn (λ c. coming) asks replies olds news →
      LookedOn (λ c. coming) olds asks replies looks news → AreLookedAt olds news replies looks
  at_end asks replies looks ran looked = looked_at_end (λ c. coming) asks replies looks olds news
      (size_kept (λ c. coming) asks replies olds news ran ∙ size) (shop_kept (λ c. coming) asks replies olds news ran) looked

  run_at : (asks : List Asked) (replies : Replies) (looks : List Looked) → AllRanOn (λ c. coming) asks replies olds news →
      LookedOn (λ c. coming) olds asks replies looks news → RunsAt (λ c. coming) olds news asks replies looks
  run_at asks replies looks ran looked =
      run_at_end (λ c. coming) asks replies looks olds news (size_kept (λ c. coming) asks replies olds news ran ∙ size) looked

-- A dialogue, one line further.
module _ {C : Type 0} (coming coming_mid coming_now : ℕ → Option ℕ) (clock : Option (ℕ × ℕ)) (from mid now : Moment)
    (old new : Listener) (lacked lacked_now : Bool) (olds mids news : List (Known Item (Root C)))
    (so_far : DialogueSoFar coming coming_mid clock from mid old lacked olds mids) (size : length olds ≡ 64) where
  abbrev said : Transcript
  said = so_far.said

  module _ (action : Action) (source_later : mid.source_faults ≤ now.source_faults) (sink_later : mid.sink_faults ≤ now.sink_faults)
      (line_read : HearsLine from.left now.left old new said action)
      (later : form_of new.speaker ≡ Later) where
    -- what was said with it
    abbrev next : List Meaning → List Asked → Replies → List Looked → List ℕ → Transcript
    next before asks replies looks more = record (with_answer said line_read.line (form_of new.speaker) more) {
      before = before;
      asks = asks;
      replies = replies;
      looks = looks;
    }

    -- the line was heard, and this is its answer
    module _ (clock_now : Option (ℕ × ℕ)) (before : List Meaning) (asks : List Asked) (replies : Replies) (looks : List Looked)
        (more : List ℕ) (knows : SpeakerKnows new.speaker (next before asks replies looks more))
        (clock_is : clock_said before ≡ clock_now) (ran : AllRanOn (λ c. coming) asks replies olds news) (looked : LookedOn (λ c. coming) olds asks replies looks news)
        (tills : AllByRecursion IsOfTill asks) (lacked_is : lacked_now ≡ list_any is_no_memory replies) where
      goes_on : AllGoOn replies → MovedBy (readings replies) coming coming_now → Wrote (sink_since mid now) more → DialogueSoFar coming coming_now clock_now from now new lacked_now olds news
      goes_on go moved w = record {
        said = next before asks replies looks more;
        heard = record { read = line_read.read; so_far = knows };
        clock_is = clock_is;
        ran = ran;
        looked = looked;
        tills = tills;
        go_on = go;
        moved = moved;
        lacked_is = lacked_is;
        wrote = both_wrote from mid now said.answers more so_far.wrote so_far.sink_later w;
        source_later = (let a = so_far.source_later in omega (arith, a, source_later));
        sink_later = (let a = so_far.sink_later in omega (arith, a, sink_later));
      }

      ends : (end : SpeechEnd) → IsLate end → AreRepliesOf end asks replies (said.answers ++ more ∷ []) →
          IsWritten end (sink_since from now) (said.answers ++ more ∷ []) → Spoken coming clock_now from now lacked_now olds news end
      ends end late go w = record {
        said = next before asks replies looks more;
        dialogue = knows.dialogue;
        pairs = knows.pairs;
        clock_is = clock_is;
        ran = ran;
        looked = at_end coming olds news size asks replies looks ran looked;
        run = run_at coming olds news size asks replies looks ran looked;
        tills = tills;
        lacked_is = lacked_is;
        read = read_at end late (read_to from.left now.left new.reader (said.lines ++ line_read.line ∷ []) line_read.read);
        written = w;
        replies_are = go;
        read_fault = no_fault end late;
        sink_later = (let a = so_far.sink_later in omega (arith, a, sink_later));
      }
        where
          read_at : (how : SpeechEnd) → IsLate how → HasReadTo from.left now.left (said.lines ++ line_read.line ∷ []) →
              IsRead how from.left now.left (said.lines ++ line_read.line ∷ [])
          read_at how.Ended late r = absurd late
          read_at how.ReadFault late r = absurd late
          read_at how.WriteFault late r = r
          read_at how.NoMemory late r = none_past from.left now.left (said.lines ++ line_read.line ∷ []) r
          read_at how.Stopped late r = r

          no_fault : (how : SpeechEnd) → IsLate how → IsReadFault how from now
          no_fault how.Ended late = absurd late
          no_fault how.ReadFault late = absurd late
          no_fault how.WriteFault late = tt
          no_fault how.NoMemory late = tt
          no_fault how.Stopped late = tt

    -- a line that asks the tills for nothing, or a question
    answered : (clock_now : Option (ℕ × ℕ)) (before : List Meaning) (looks : List Looked) (more : List ℕ) (end : Option SpeechEnd) →
        SpeakerKnows new.speaker (next before said.asks said.replies looks more) → clock_said before ≡ clock_now → lacked_now ≡ lacked →
        AllRanOn (λ c. coming) said.asks said.replies olds news → LookedOn (λ c. coming) olds said.asks said.replies looks news →
        coming_now ≡ coming_mid → IsAnswered (sink_since mid now) more end → Goes coming coming_now clock_now from now new lacked_now olds news end
    answered clock_now before looks more end knows clock_is same ran looked still a = by_end end a
      where
        by_end : (o : Option SpeechEnd) → IsAnswered (sink_since mid now) more o → Goes coming coming_now clock_now from now new lacked_now olds news o
        by_end None w = (
          goes_on clock_now before said.asks said.replies looks more knows clock_is ran looked so_far.tills
              (same ∙ so_far.lacked_is) so_far.go_on
              (subst (λ (c : ℕ → Option ℕ). MovedBy (readings said.replies) coming c) (sym still) so_far.moved) w,
          later,
        )
        by_end (Some how.WriteFault) w = ends clock_now before said.asks said.replies looks more knows clock_is ran looked so_far.tills
            (same ∙ so_far.lacked_is) how.WriteFault tt so_far.go_on
            (written_on from mid now said.answers more so_far.wrote so_far.sink_later how.WriteFault w)
        by_end (Some how.Ended) w = absurd w
        by_end (Some how.ReadFault) w = absurd w
        by_end (Some how.NoMemory) w = absurd w
        by_end (Some how.Stopped) w = absurd w

    -- a line that asks for no more than its answer
    written : (clock_now : Option (ℕ × ℕ)) (before : List Meaning) (more : List ℕ) (end : Option SpeechEnd) →
        SpeakerKnows new.speaker (next before said.asks said.replies said.looks more) → clock_said before ≡ clock_now →
        lacked_now ≡ lacked → news ≡ mids → coming_now ≡ coming_mid → IsAnswered (sink_since mid now) more end →
        Goes coming coming_now clock_now from now new lacked_now olds news end
    written clock_now before more end knows clock_is same held still a = answered clock_now before said.looks more end knows clock_is same
        (subst (λ (ks : List (Known Item (Root C))). AllRanOn (λ c. coming) said.asks said.replies olds ks) (sym held) so_far.ran)
        (subst (λ (ks : List (Known Item (Root C))). LookedOn (λ c. coming) olds said.asks said.replies said.looks ks) (sym held) so_far.looked) still a

    -- a command
    asked_for : (ask : Asked) (end : Option SpeechEnd) (on : AsksOn new.speaker said line_read.line ask) →
        AsksOne coming coming_mid coming_now ask (sink_since mid now) lacked lacked_now mids news end → Goes coming coming_now clock from now new lacked_now olds news end
    asked_for ask end on a = by_end end a.replied
      where
        told : Result Reply StoreFault
        told = a.told

        more : List ℕ
        more = reply_text ask told

        asks : List Asked
        asks = said.asks ++ ask ∷ []

        replies : Replies
        replies = said.replies ++ told ∷ []

        ran : AllRanOn (λ c. coming) asks replies olds news
        ran = a.asks_on said.asks said.replies olds so_far.heard.so_far.pairs size so_far.moved so_far.ran

        looked : LookedOn (λ c. coming) olds asks replies said.looks news
        looked = a.looked olds said.asks said.replies said.looks so_far.heard.so_far.pairs so_far.moved so_far.looked

        tills : AllByRecursion IsOfTill asks
        tills = tills_push said.asks ask so_far.tills a.of_till

        lacked_is : lacked_now ≡ list_any is_no_memory replies
        lacked_is = a.lacked_is ∙ ap (λ (b : Bool). b || is_no_memory told) so_far.lacked_is ∙
            sym (any_push is_no_memory said.replies told)

        late : (how : SpeechEnd) → IsLate how → AreRepliesOf how asks replies (said.answers ++ more ∷ []) →
            IsWritten how (sink_since from now) (said.answers ++ more ∷ []) → Spoken coming clock from now lacked_now olds news how
        late = ends clock said.before asks replies said.looks more (on.so_far told) so_far.clock_is ran looked tills lacked_is

        stops : is_disk_fault told ≡ true → StopsAtLast asks replies (said.answers ++ more ∷ [])
        stops is = record {
          asks_before = said.asks;
          ask = ask;
          asks_are = refl;
          replies_before = said.replies;
          told = told;
          replies_are = refl;
          answers_before = said.answers;
          answers_are = refl;
          go_on = so_far.go_on;
          fault = is;
        }

        taken : (how : SpeechEnd) → Ended from mid now said.answers more so_far.wrote so_far.sink_later how →
            IsWritten how (sink_since from now) (said.answers ++ more ∷ [])
        taken = written_on from mid now said.answers more so_far.wrote so_far.sink_later

        by_end : (o : Option SpeechEnd) → IsReplied told (sink_since mid now) more o → Goes coming coming_now clock from now new lacked_now olds news o
        by_end None w = (
          goes_on clock said.before asks replies said.looks more (on.so_far told) so_far.clock_is ran looked tills lacked_is
              (go_on_push said.replies told so_far.go_on w.0)
              (moved_on coming coming_mid coming_now said.replies told w.0 so_far.moved a.moved) w.1,
          later,
        )
        by_end (Some how.WriteFault) w =
            late how.WriteFault tt (go_on_push said.replies told so_far.go_on w.0) (taken how.WriteFault w.1)
        by_end (Some how.NoMemory) w = late how.NoMemory tt (elim (goes_or_stops told) [
          | inl goes ↦ inl (go_on_push said.replies told so_far.go_on goes)
          | inr is ↦ inr (stops is)
        ]) (taken how.NoMemory w)
        by_end (Some how.Stopped) w = late how.Stopped tt (stops w.0) (taken how.Stopped w.1)
        by_end (Some how.Ended) w = absurd w
        by_end (Some how.ReadFault) w = absurd w

    -- a question for whose answer there was no memory
    unanswered : lacked_now ≡ lacked → AllRanOn (λ c. coming) said.asks said.replies olds news →
        LookedOn (λ c. coming) olds said.asks said.replies said.looks news →
        WroteNothing (sink_since mid now) → Spoken coming clock from now lacked_now olds news how.NoMemory
    unanswered same ran looked nothing = record {
      said = said;
      dialogue = so_far.heard.so_far.dialogue;
      pairs = so_far.heard.so_far.pairs;
      clock_is = so_far.clock_is;
      ran = ran;
      looked = at_end coming olds news size said.asks said.replies said.looks ran looked;
      run = run_at coming olds news size said.asks said.replies said.looks ran looked;
      tills = so_far.tills;
      lacked_is = same ∙ so_far.lacked_is;
      read = read_past from.left now.left new.reader said.lines line_read.line line_read.read;
      written = inl (subst (λ (text : List ℕ). Appends from.taken now.taken text) (append-nil (written_for said.answers))
          (Appends-trans from.taken mid.taken now.taken (written_for said.answers) [] so_far.wrote nothing));
      replies_are = inl so_far.go_on;
      read_fault = tt;
      sink_later = (let a = so_far.sink_later in omega (arith, a, sink_later));
    }

    -- a question
    looked_for : (asked : TillQuestion) (end : Option SpeechEnd) (on : LooksOn new.speaker said line_read.line asked) → lacked_now ≡ lacked →
        KeepsRuns coming mids news →
        AnswersOne coming asked (sink_since mid now) mids news end ⊎ AnswersNone coming (sink_since mid now) mids news end →
        coming_now ≡ coming_mid →
        Goes coming coming_now clock from now new lacked_now olds news end
    looked_for asked end on same keeps (inl a) still =
        answered clock said.before (said.looks ++ look_at said a.history ∷ []) a.text end (on.so_far a.history a.text a.is) so_far.clock_is
        same (keeps said.asks said.replies olds so_far.ran) (a.looked olds said.asks said.replies said.looks so_far.looked) still a.written
    looked_for asked end on same keeps (inr a) still = subst (λ (o : Option SpeechEnd). Goes coming coming_now clock from now new lacked_now olds news o)
        (sym a.how) (unanswered same (keeps said.asks said.replies olds so_far.ran) (a.looked olds said.asks said.replies said.looks so_far.looked) a.nothing)

  -- what a line asked for was done
  pub carried_out_so : (action : Action) (end : Option SpeechEnd) → mid.source_faults ≤ now.source_faults →
      mid.sink_faults ≤ now.sink_faults → HearsLine from.left now.left old new said action →
      form_of new.speaker ≡ Later → CarriesOut coming coming_mid coming_now action (sink_since mid now) lacked lacked_now mids news end →
      Goes coming coming_now (clock_with action clock) from now new lacked_now olds news end
  carried_out_so (Write text) end a b line_read later o = written (Write text) a b line_read later clock (said.before ++ line_read.on.left) text
      end line_read.on.so_far (line_read.on.clock ∙ so_far.clock_is) o.0 o.1 o.3 o.2
  carried_out_so (Clock start step text) end a b line_read later o = written (Clock start step text) a b line_read later
      (Some (start, step)) (said.before ++ line.Clock start step ∷ []) text end line_read.on.so_far line_read.on.clock o.0 o.1 o.3 o.2
  carried_out_so (Ask ask) end a b line_read later o = asked_for (Ask ask) a b line_read later ask end line_read.on o
  carried_out_so (Look asked) end a b line_read later o = looked_for (Look asked) a b line_read later asked end line_read.on o.0 o.1 o.2 o.3

  -- after a line that was answered no clock line comes
  pub carried_out : (action : Action) (end : Option SpeechEnd) → mid.source_faults ≤ now.source_faults →
      mid.sink_faults ≤ now.sink_faults → form_of old.speaker ≡ Later → HearsLine from.left now.left old new said action →
      CarriesOut coming coming_mid coming_now action (sink_since mid now) lacked lacked_now mids news end → Goes coming coming_now clock from now new lacked_now olds news end
  carried_out (Write text) end a b later line_read o = carried_out_so (Write text) end a b line_read (line_read.on.later later) o
  carried_out (Clock start step text) end a b later line_read o =
      absurd (line_read.on.ahead later)
  carried_out (Ask ask) end a b later line_read o = carried_out_so (Ask ask) end a b line_read line_read.on.later o
  carried_out (Look asked) end a b later line_read o = carried_out_so (Look asked) end a b line_read line_read.on.later o

-- the dialogue ended ahead of any answer to the next line
pub ended_early : {C : Type 0} (coming coming_now : ℕ → Option ℕ) (clock : Option (ℕ × ℕ)) (from mid : Moment) (left : Option (List ℕ))
    (faults : ℕ) (old : Listener) (lacked : Bool) (olds mids : List (Known Item (Root C)))
    (so_far : DialogueSoFar coming coming_now clock from mid old lacked olds mids) (end : SpeechEnd) → length olds ≡ 64 → IsEarly end →
    IsRead end from.left left so_far.said.lines → IsReadFault end mid (record mid { left = left; source_faults = faults }) →
    Spoken coming clock from (record mid { left = left; source_faults = faults }) lacked olds mids end
ended_early {C} coming coming_now clock from mid left faults old lacked olds mids so_far end size early read fault = record {
  said = so_far.said;
  dialogue = so_far.heard.so_far.dialogue;
  pairs = so_far.heard.so_far.pairs;
  clock_is = so_far.clock_is;
  ran = so_far.ran;
  looked = at_end coming olds mids size so_far.said.asks so_far.said.replies so_far.said.looks so_far.ran so_far.looked;
  run = run_at coming olds mids size so_far.said.asks so_far.said.replies so_far.said.looks so_far.ran so_far.looked;
  tills = so_far.tills;
  lacked_is = so_far.lacked_is;
  read = read;
  written = written end early;
  replies_are = are end early;
  read_fault = rises end early fault;
  sink_later = so_far.sink_later;
}
  where
    written : (how : SpeechEnd) → IsEarly how →
        IsWritten how (sink_since from (record mid { left = left; source_faults = faults })) so_far.said.answers
    written how.Ended e = so_far.wrote
    written how.ReadFault e = so_far.wrote
    written how.NoMemory e = inl so_far.wrote
    written how.WriteFault e = absurd e
    written how.Stopped e = absurd e

    are : (how : SpeechEnd) → IsEarly how → AreRepliesOf how so_far.said.asks so_far.said.replies so_far.said.answers
    are how.Ended e = so_far.go_on
    are how.ReadFault e = so_far.go_on
    are how.NoMemory e = inl so_far.go_on
    are how.WriteFault e = absurd e
    are how.Stopped e = absurd e

    rises : (how : SpeechEnd) → IsEarly how → IsReadFault how mid (record mid { left = left; source_faults = faults }) →
        IsReadFault how from (record mid { left = left; source_faults = faults })
    rises how.Ended e r = tt
    rises how.ReadFault e r = λ below. let x = r below in let a = so_far.source_later in omega (arith, x, a)
    rises how.NoMemory e r = tt
    rises how.WriteFault e r = absurd e
    rises how.Stopped e r = absurd e

pub fault_told : (mid : Moment) (left : Option (List ℕ)) (faults : ℕ) (end : SpeechEnd) →
    IsCause mid.source_faults faults (Err end) → IsReadFault end mid (record mid { left = left; source_faults = faults })
fault_told mid left faults how.Ended e = tt
fault_told mid left faults how.ReadFault e = e
fault_told mid left faults how.WriteFault e = tt
fault_told mid left faults how.NoMemory e = tt
fault_told mid left faults how.Stopped e = tt

-- what may be said next, as long as a dialogue goes on: a clock line at first, and none later
two_forms : (t : Transcript) → Dialogue t → (t.form ≡ First) ⊎ (t.form ≡ Later)
two_forms t silence = inl refl
two_forms t' (one_line t l reading told looked answer d is n by) = after reading (two_forms t d)
  where
    after : (r : Reading) → (t.form ≡ First) ⊎ (t.form ≡ Later) → (form_after t.form r ≡ First) ⊎ (form_after t.form r ≡ Later)
    after (says line.Skip) h = h
    after (says (line.Clock start step)) h = inr refl
    after (says (line.Customer key party)) h = inr refl
    after (says (line.Command ask)) h = inr refl
    after (says (line.Verdict verdict)) h = inr refl
    after (says (line.Wait seconds)) h = inr refl
    after (says (line.Link fate)) h = inr refl
    after (wrong word) h = inr refl
    after (question asked) h = inr refl
    after (wrong_question fault) h = inr refl
    after too_long h = inr refl
    after unended h = inr refl

not_first : Later ≡ First → ⊥
not_first e = absurd (let x = e in cc)

pub answered_now : (s : Speaker) (t : Transcript) → SpeakerKnows s t → (form_of s ≡ First → ⊥) → form_of s ≡ Later
answered_now s t k unlike =
    elim (two_forms t k.dialogue) [
      | inl first ↦ absurd (unlike (sym k.form ∙ first))
      | inr later ↦ sym k.form ∙ later
    ]

-- a line that was passed over
pub record Passes (left now : Option (List ℕ)) (l : Listener) : Type 0 where
  pub lines : List InputLine
  pub before : List Meaning
  pub answers : List (List ℕ)
  pub heard : HasHeard left now l (passed lines before answers)
  pub first : IsFirst l

pub passed_over : (left now : Option (List ℕ)) (old new : Listener) (lines : List InputLine) (before : List Meaning)
    (answers : List (List ℕ)) (action : Action) → HearsLine left now old new (passed lines before answers) action → IsFirst new →
    Passes left now new
passed_over left now old new lines before answers (Write text) h first = record {
  lines = lines ++ h.line ∷ [];
  before = before ++ h.on.left;
  answers = answers ++ text ∷ [];
  heard = record {
    read = h.read;
    so_far = subst (λ (form : Form). SpeakerKnows new.speaker
        (record (passed (lines ++ h.line ∷ []) (before ++ h.on.left) (answers ++ text ∷ [])) { form = form })) first h.on.so_far;
  };
  first = first;
}
passed_over left now old new lines before answers (Clock start step text) h first = absurd (not_first (sym h.on.later ∙ first))
passed_over left now old new lines before answers (Ask ask) h first = absurd (not_first (sym h.on.later ∙ first))
passed_over left now old new lines before answers (Look asked) h first = absurd (not_first (sym h.on.later ∙ first))

-- a line that is answered
line_answered : (left now : Option (List ℕ)) (old new : Listener) (t : Transcript) (action : Action) →
    HearsLine left now old new t action → (IsFirst new → ⊥) → HasAnswered new
line_answered left now old new t (Write text) h unlike = answered_now new.speaker _ h.on.so_far unlike
line_answered left now old new t (Clock start step text) h unlike = h.on.later
line_answered left now old new t (Ask ask) h unlike = h.on.later
line_answered left now old new t (Look asked) h unlike = h.on.later

pub came_first : (left mid now : Option (List ℕ)) (old new : Listener) (action : Action) (p : Passes left mid old) →
    HearsLine left now old new (passed p.lines p.before p.answers) action → (IsFirst new → ⊥) → HearsFirst left now new action
came_first left mid now old new action p h unlike = record {
  mid = old;
  mid_left = mid;
  lines = p.lines;
  before = p.before;
  answers = p.answers;
  none = (p.heard.so_far.quiet p.first).text_none;
  heard = p.heard;
  line_read = h;
  clock_none = (p.heard.so_far.quiet p.first).clock_none;
  later = line_answered left now old new (passed p.lines p.before p.answers) action h unlike;
}

pub came_none : (left mid now : Option (List ℕ)) (old : Listener) (end : SpeechEnd) (p : Passes left mid old) →
    IsEarly end × IsRead end left now p.lines → HearsNone left now end
came_none left mid now old end p h = record {
  early = h.0;
  lines = p.lines;
  before = p.before;
  answers = p.answers;
  none = (p.heard.so_far.quiet p.first).text_none;
  dialogue = p.heard.so_far.dialogue;
  clock_none = (p.heard.so_far.quiet p.first).clock_none;
  read = h.1;
}

-- what the first line asks for was done
pub first_obeyed : {C : Type 0} (coming coming_now : ℕ → Option ℕ) (from now : Moment) (new : Listener) (lacked_now : Bool)
    (olds news : List (Known Item (Root C))) (action : Action) (end : Option SpeechEnd) → length olds ≡ 64 →
    HearsFirst from.left now.left new action → from.source_faults ≤ now.source_faults → from.sink_faults ≤ now.sink_faults →
    CarriesOut coming coming coming_now action (sink_since from now) false lacked_now olds news end →
    Goes coming coming_now (clock_with action None) from now new lacked_now olds news end
first_obeyed {C} coming coming_now from now new lacked_now olds news action end size first a b o =
    carried_out_so coming coming coming_now None from (record from { left = first.mid_left }) now first.mid new false lacked_now olds olds news
    (record {
      said = passed first.lines first.before first.answers;
      heard = first.heard;
      clock_is = first.clock_none;
      ran = none_ran (λ c. coming) olds;
      looked = none_looked (λ c. coming) olds;
      tills = tt;
      go_on = tt;
      moved = λ k. ap coming (let e : k ≡ 0 + k = omega arith in e);
      lacked_is = refl;
      wrote = subst (λ (t : List ℕ). Appends from.taken from.taken t) (sym first.none) (Appends-nil from.taken);
      source_later = omega arith;
      sink_later = omega arith;
    })
    size action end a b first.line_read first.later o

-- no line was answered
pub none_spoken : {C : Type 0} (coming : ℕ → Option ℕ) (from now : Moment) (olds : List (Known Item (Root C)))
    (end : SpeechEnd) → HearsNone from.left now.left end → now.taken ≡ from.taken →
    from.sink_faults ≤ now.sink_faults → IsReadFault end from now → Spoken coming None from now false olds olds end
none_spoken {C} coming from now olds end h same later fault = record {
  said = passed h.lines h.before h.answers;
  dialogue = h.dialogue;
  pairs = refl;
  clock_is = h.clock_none;
  ran = none_ran (λ c. coming) olds;
  looked = λ root log of_shop fit begins. record { rise = begins; told = tt };
  run = none_ran_at (λ c. coming) olds olds;
  tills = tt;
  lacked_is = refl;
  read = h.read;
  written = written end h.early;
  replies_are = are end h.early;
  read_fault = fault;
  sink_later = later;
}
  where
    nothing : Appends from.taken now.taken (written_for h.answers)
    nothing = subst (λ (t : List ℕ). Appends from.taken now.taken t) (sym h.none)
        (subst (λ (t : Option (List ℕ)). Appends from.taken t []) (sym same) (Appends-nil from.taken))

    written : (how : SpeechEnd) → IsEarly how → IsWritten how (sink_since from now) h.answers
    written how.Ended e = nothing
    written how.ReadFault e = nothing
    written how.NoMemory e = inl nothing
    written how.WriteFault e = absurd e
    written how.Stopped e = absurd e

    are : (how : SpeechEnd) → IsEarly how → AreRepliesOf how [] [] h.answers
    are how.Ended e = tt
    are how.ReadFault e = tt
    are how.NoMemory e = inl tt
    are how.WriteFault e = absurd e
    are how.Stopped e = absurd e

-- the dialogue, by what came first
module _ {C : Type 0} (coming coming_now : ℕ → Option ℕ) (from now : Moment) (new : Listener) (olds news : List (Known Item (Root C))) where
  pub ended_first : (lacked : Bool) (first : Result Action SpeechEnd) (end : SpeechEnd) → first ≡ Err end → lacked ≡ false →
      ComesFirst from.left now.left new first → now.taken ≡ from.taken → from.sink_faults ≤ now.sink_faults →
      IsCause from.source_faults now.source_faults first →
      Spoken coming (clock_first first) from now lacked olds olds end
  ended_first lacked (Ok action) end is none h same later cause = absurd cc
  ended_first lacked (Err e) end is none h same later cause =
      let one : e ≡ end = (let x = is in cc) in
      subst (λ (o : SpeechEnd). Spoken coming None from now lacked olds olds o) one
      (subst (λ (b : Bool). Spoken coming None from now b olds olds e) (sym none) (none_spoken coming from now olds e h same later
      (rises e cause)))
    where
      rises : (how : SpeechEnd) → IsCause from.source_faults now.source_faults (Err how) → IsReadFault how from now
      rises how.Ended c = tt
      rises how.ReadFault c = c
      rises how.WriteFault c = tt
      rises how.NoMemory c = tt
      rises how.Stopped c = tt

  pub began_first : (lacked lacked_now : Bool) (first : Result Action SpeechEnd) (action : Action) (end : Option SpeechEnd) →
      first ≡ Ok action → lacked ≡ false → length olds ≡ 64 → ComesFirst from.left now.left new first →
      from.source_faults ≤ now.source_faults → from.sink_faults ≤ now.sink_faults →
      CarriesOut coming coming coming_now action (sink_since from now) lacked lacked_now olds news end →
      Goes coming coming_now (clock_first first) from now new lacked_now olds news end
  began_first lacked lacked_now (Err e) action end is none size h a b o = absurd cc
  began_first lacked lacked_now (Ok t) action end is none size h a b o =
      let one : t ≡ action = (let x = is in cc) in
      let o' : CarriesOut coming coming coming_now t (sink_since from now) false lacked_now olds news end =
      subst (λ (x : Action). CarriesOut coming coming coming_now x (sink_since from now) false lacked_now olds news end) (sym one)
      (subst (λ (l : Bool). CarriesOut coming coming coming_now action (sink_since from now) l lacked_now olds news end) none o) in
      first_obeyed coming coming_now from now new lacked_now olds news t end size h a b o'

-- whatever a line asks for, no read fails in it
answered_once : (s : Sinks) (text : List ℕ) (end : Option SpeechEnd) (faults : ℕ) → IsAnswered s text end → GoesOnce faults faults end
answered_once s text None faults w = refl
answered_once s text (Some how.WriteFault) faults w = refl
answered_once s text (Some how.Ended) faults w = refl
answered_once s text (Some how.ReadFault) faults w = absurd w
answered_once s text (Some how.NoMemory) faults w = refl
answered_once s text (Some how.Stopped) faults w = refl

replied_once : (told : Result Reply StoreFault) (s : Sinks) (text : List ℕ) (end : Option SpeechEnd) (faults : ℕ) →
    IsReplied told s text end → GoesOnce faults faults end
replied_once told s text None faults w = refl
replied_once told s text (Some how.WriteFault) faults w = refl
replied_once told s text (Some how.Ended) faults w = refl
replied_once told s text (Some how.ReadFault) faults w = absurd w
replied_once told s text (Some how.NoMemory) faults w = refl
replied_once told s text (Some how.Stopped) faults w = refl

pub carried_once : {C : Type 0} (coming coming_old coming_new : ℕ → Option ℕ) (action : Action) (s : Sinks) (lacked lacked_now : Bool)
    (mids news : List (Known Item (Root C))) (end : Option SpeechEnd) (faults : ℕ) →
    CarriesOut coming coming_old coming_new action s lacked lacked_now mids news end → GoesOnce faults faults end
carried_once coming coming_old coming_new (Write text) s lacked lacked_now mids news end faults o = answered_once s text end faults o.2
carried_once coming coming_old coming_new (Clock start step text) s lacked lacked_now mids news end faults o =
    answered_once s text end faults o.2
carried_once coming coming_old coming_new (Ask ask) s lacked lacked_now mids news end faults o =
    replied_once o.told s (reply_text ask o.told) end faults o.replied
carried_once coming coming_old coming_new (Look asked) s lacked lacked_now mids news end faults o = by_look o.2
  where
    by_look : AnswersOne coming asked s mids news end ⊎ AnswersNone coming s mids news end → GoesOnce faults faults end
    by_look (inl a) = answered_once s a.text end faults a.written
    by_look (inr a) = subst (λ (e : Option SpeechEnd). GoesOnce faults faults e) (sym a.how) refl
