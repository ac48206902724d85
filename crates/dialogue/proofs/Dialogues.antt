-- A dialogue, one line further.
use Rattle.std.proofs.Common.{◌≡◌, ◌≢◌, ◌∙◌, ℕ, ◌+◌, ◌-◌, ◌^◌, ◌<◌, ◌≤◌, List, [], ◌∷◌, ◌++◌, min, length, refl, sym, ap, subst, arith}
use Rattle.std.proofs.Common.{true, false, Some, None, Result, Ok, Err, IfOk, append-nil, length-append, nat_lt}
use Rattle.ports.specs.declared.faults.NoMemory.{NoMemory as NoRoom}
use Rattle.std.proofs.lemmas.Bool.Decides.{nat_tests}
use Rattle.std.specs.Str.Lines.{strip_carriage_return}
use Rattle.shop_core.specs.Answer.Requests.{Asked}
use Rattle.script.specs.Forms.{has_clock}
use Rattle.script.specs.Heard.{known_of}
use Rattle.script.specs.Lines.{Above, above_of, clock_in, said}
use Rattle.script.specs.declared.forms.Form.{Form}
use Rattle.script.specs.declared.forms.Form.TheVariants.{First, Later}
use Rattle.script.specs.declared.lines.Meaning.{Meaning}
use Rattle.script.specs.declared.lines.Meaning.TheVariants as line
use Rattle.line_reader.specs.Lists.{InputLine, text_of, with_lf, without_lf}
use Rattle.questions.specs.Reading.{question_of}
use Rattle.questions.specs.declared.questions.TillQuestion.{TillQuestion}
use Rattle.dialogue.specs.OneLine.{Begins, HeardAfter, HeardAs, IsAhead, LineRead, IsNext, PassesOver, form_of}
use Rattle.dialogue.specs.Protocol.{Dialogue, IsAnsweredBy, Look as Looked, Reading, Replies, Transcript, answer_text, asks_of, clock_of}
use Rattle.dialogue.specs.Protocol.{clock_said, form_after, is_question, leaves, look_at, nothing_said, number_of, question}
use Rattle.dialogue.specs.Protocol.{reading_of, reply_text, says, script_reading, too_long, unended, with_line, wrong, wrong_question, written_for}
use Rattle.dialogue.specs.Continuing.{AsksOn, ClocksOn, IsQuiet, LooksOn, SpeakerKnows, Continues, WritesOn, with_answer}
use Rattle.dialogue.specs.declared.speaker.Speaker.{Speaker}
use Rattle.dialogue.specs.declared.speaker.Action.{Action}
use Rattle.dialogue.specs.declared.speaker.Action.TheVariants.{Write, Clock, Ask, Look}
use Rattle.dialogue.proofs.Views.{written_more}

-- a line that is no clock line leaves the clock as it was
clock_kept : (before : List Meaning) (m : Meaning) → clock_in m ≡ None → clock_said (before ++ m ∷ []) ≡ clock_said before
clock_kept [] m e = rw e refl
clock_kept (line.Skip ∷ before) m e = clock_kept before m e
clock_kept (line.Clock start step ∷ before) m e = refl
clock_kept (line.Customer key party ∷ before) m e = clock_kept before m e
clock_kept (line.Command ask ∷ before) m e = clock_kept before m e
clock_kept (line.Verdict verdict ∷ before) m e = clock_kept before m e
clock_kept (line.Wait seconds ∷ before) m e = clock_kept before m e
clock_kept (line.Link fate ∷ before) m e = clock_kept before m e

-- the first clock line is the clock
clock_first : (before : List Meaning) (start step : ℕ) → clock_said before ≡ None →
    clock_said (before ++ line.Clock start step ∷ []) ≡ Some (start, step)
clock_first [] start step e = refl
clock_first (line.Skip ∷ before) start step e = clock_first before start step e
clock_first (line.Clock other more ∷ before) start step e = absurd cc
clock_first (line.Customer key party ∷ before) start step e = clock_first before start step e
clock_first (line.Command ask ∷ before) start step e = clock_first before start step e
clock_first (line.Verdict verdict ∷ before) start step e = clock_first before start step e
clock_first (line.Wait seconds ∷ before) start step e = clock_first before start step e
clock_first (line.Link fate ∷ before) start step e = clock_first before start step e

clock_left : (before : List Meaning) (reading : Reading) → clock_of reading ≡ None →
    clock_said (before ++ leaves reading) ≡ clock_said before
clock_left before (says line.Skip) e = clock_kept before line.Skip e
clock_left before (says (line.Clock start step)) e = absurd cc
clock_left before (says (line.Customer key party)) e = clock_kept before (line.Customer key party) e
clock_left before (says (line.Command ask)) e = ap clock_said (append-nil before)
clock_left before (says (line.Verdict verdict)) e = clock_kept before (line.Verdict verdict) e
clock_left before (says (line.Wait seconds)) e = clock_kept before (line.Wait seconds) e
clock_left before (says (line.Link fate)) e = clock_kept before (line.Link fate) e
clock_left before (wrong word) e = ap clock_said (append-nil before)
clock_left before (question asked) e = ap clock_said (append-nil before)
clock_left before (wrong_question fault) e = ap clock_said (append-nil before)
clock_left before too_long e = ap clock_said (append-nil before)
clock_left before unended e = ap clock_said (append-nil before)

later_on : (form : Form) (reading : Reading) → form ≡ Later → form_after form reading ≡ Later
later_on form (says line.Skip) e = e
later_on form (says (line.Clock start step)) e = refl
later_on form (says (line.Customer key party)) e = refl
later_on form (says (line.Command ask)) e = refl
later_on form (says (line.Verdict verdict)) e = refl
later_on form (says (line.Wait seconds)) e = refl
later_on form (says (line.Link fate)) e = refl
later_on form (wrong word) e = refl
later_on form (question asked) e = refl
later_on form (wrong_question fault) e = refl
later_on form too_long e = refl
later_on form unended e = refl

-- a line that is answered ends the quiet
quiet_on : (t : Transcript) (form : Form) (line : InputLine) (reading : Reading) (told : Replies) (looked : List Looked)
    (answer : List ℕ) → t.form ≡ form → IsAnsweredBy t reading told looked answer → (form ≡ First → IsQuiet t) →
    form_after form reading ≡ First → IsQuiet (with_line t line reading told looked answer)
quiet_on t form l (says line.Skip) told looked answer same by q e =
    let quiet = q e in record {
      asks_none = append-nil t.asks ∙ quiet.asks_none;
      looks_none = ap (λ (k : List Looked). t.looks ++ k) by.0 ∙ append-nil t.looks ∙ quiet.looks_none;
      text_none = ap (λ (a : List ℕ). written_for (t.answers ++ a ∷ [])) by.1 ∙ written_more t.answers [] ∙
          append-nil (written_for t.answers) ∙ quiet.text_none;
      clock_none = clock_kept t.before line.Skip refl ∙ quiet.clock_none;
    }
quiet_on t form l (says (line.Clock start step)) told looked answer same by q e = absurd cc
quiet_on t form l (says (line.Customer key party)) told looked answer same by q e = absurd cc
quiet_on t form l (says (line.Command ask)) told looked answer same by q e = absurd cc
quiet_on t form l (says (line.Verdict verdict)) told looked answer same by q e = absurd cc
quiet_on t form l (says (line.Wait seconds)) told looked answer same by q e = absurd cc
quiet_on t form l (says (line.Link fate)) told looked answer same by q e = absurd cc
quiet_on t form l (wrong word) told looked answer same by q e = absurd cc
quiet_on t form l (question asked) told looked answer same by q e = absurd cc
quiet_on t form l (wrong_question fault) told looked answer same by q e = absurd cc
quiet_on t form l too_long told looked answer same by q e = absurd cc
quiet_on t form l unended told looked answer same by q e = absurd cc

number_on : (lines : List InputLine) (text : InputLine) (old new : ℕ) → old ≡ number_of (length lines) →
    new ≡ min (old + 1) (2 ^ 64 - 1) → new ≡ number_of (length (lines ++ text ∷ []))
number_on lines text old new e f = simp length-append (omega (arith, e, f))

pairs_on : (asks more : List Asked) (replies told : Replies) → length replies ≡ length asks → length told ≡ length more →
    length (replies ++ told) ≡ length (asks ++ more)
pairs_on asks more replies told e f = simp length-append (omega (arith, e, f))

-- one line, whatever it is, in the form that its reading leaves
abbrev after_line : Transcript → Form → InputLine → Reading → Replies → List Looked → List ℕ → Transcript
after_line t form line reading told looked answer = record (with_line t line reading told looked answer) { form = form }

step : (old new : Speaker) (t : Transcript) (text : InputLine) (reading : Reading) (told : Replies) (looked : List Looked)
    (answer : List ℕ) → SpeakerKnows old t → reading_of (form_of old) t.before text ≡ reading →
    length told ≡ length (asks_of reading) → IsAnsweredBy t reading told looked answer → IsNext old new →
    form_of new ≡ form_after (form_of old) reading → known_of new.heard ≡ above_of (t.before ++ leaves reading) →
    SpeakerKnows new (after_line t (form_of new) text reading told looked answer)
step old new t text reading told looked answer k is size by n f h = record {
  dialogue = subst (λ (form : Form). Dialogue (after_line t form text reading told looked answer))
      (ap (λ (form : Form). form_after form reading) k.form ∙ sym f)
      (Dialogue.line t text reading told looked answer k.dialogue (ap (λ (form : Form). reading_of form t.before text) k.form ∙ is) size by);
  form = refl;
  heard = h;
  number = number_on t.lines text old.number new.number k.number n;
  pairs = pairs_on t.asks (asks_of reading) t.replies told k.pairs size;
  quiet = λ e. still (quiet_on t (form_of old) text reading told looked answer k.form by k.quiet (sym f ∙ e));
}
  where
    still : IsQuiet (with_line t text reading told looked answer) → IsQuiet (after_line t (form_of new) text reading told looked answer)
    still q = record { asks_none = q.asks_none; looks_none = q.looks_none; text_none = q.text_none; clock_none = q.clock_none }

-- a line that is no question is answered by its text
by_text : (t : Transcript) (reading : Reading) (told : Replies) (answer : List ℕ) → is_question reading ≡ false →
    answer ≡ answer_text (number_of (length t.lines)) reading told → IsAnsweredBy t reading told [] answer
by_text t (says meaning) told answer none e = (refl, e)
by_text t (wrong word) told answer none e = (refl, e)
by_text t (question asked) told answer none e = absurd cc
by_text t (wrong_question fault) told answer none e = (refl, e)
by_text t too_long told answer none e = (refl, e)
by_text t unended told answer none e = (refl, e)

-- what stays as it is
module _ (new : Speaker) (t : Transcript) (text : InputLine) (answer : List ℕ) where
  abbrev Now : List Meaning → List Asked → Replies → List Looked → Type 0
  Now before asks replies looks = SpeakerKnows new (record (with_answer t text (form_of new) answer) {
    before = before;
    asks = asks;
    replies = replies;
    looks = looks;
  })

  same_before : (asks : List Asked) (replies : Replies) (looks : List Looked) → Now (t.before ++ []) asks replies looks →
      Now t.before asks replies looks
  same_before asks replies looks k = subst (λ (b : List Meaning). Now b asks replies looks) (append-nil t.before) k

  same_asks : (before : List Meaning) (looks : List Looked) → Now before (t.asks ++ []) (t.replies ++ []) looks →
      Now before t.asks t.replies looks
  same_asks before looks k = subst (λ (a : List Asked). Now before a t.replies looks) (append-nil t.asks)
      (subst (λ (r : Replies). Now before (t.asks ++ []) r looks) (append-nil t.replies) k)

  same_looks : (before : List Meaning) (asks : List Asked) (replies : Replies) → Now before asks replies (t.looks ++ []) →
      Now before asks replies t.looks
  same_looks before asks replies k = subst (λ (l : List Looked). Now before asks replies l) (append-nil t.looks) k

writes_on : (old new : Speaker) (t : Transcript) (text : InputLine) (more : List ℕ) → SpeakerKnows old t → IsNext old new →
    HeardAfter t.before old new text (Write more) → WritesOn old new t text more
writes_on old new t text more k n a =
    let none = a.heard.action_is.0 in
    let answer : more ≡ answer_text (number_of (length t.lines)) a.reading [] =
    a.heard.action_is.3 ∙ ap (λ number. answer_text number a.reading []) k.number in
    let so_far = step old new t text a.reading [] [] more k a.is (ap (λ (l : List Asked). length l) (sym none))
    (by_text t a.reading [] more a.heard.action_is.2 answer) n a.heard.form a.heard.heard in
    let before : List Meaning = t.before ++ leaves a.reading in
    record {
      left = leaves a.reading;
      so_far = same_looks new t text more before t.asks t.replies (same_asks new t text more before (t.looks ++ [])
          (subst (λ (l : List Asked). Now new t text more before (t.asks ++ l) (t.replies ++ []) (t.looks ++ [])) none so_far));
      clock = clock_left t.before a.reading a.heard.action_is.1;
      later = λ e. a.heard.form ∙ later_on (form_of old) a.reading e;
    }

never_later : (form : Form) → has_clock form ≡ true → form ≢ Later
never_later form e same = let there = ap has_clock (sym same) ∙ e in absurd cc

-- a line of this reading
module _ (old new : Speaker) (t : Transcript) (text : InputLine) (reading : Reading) (told : Replies) (looked : List Looked)
    (answer : List ℕ) (k : SpeakerKnows old t) (n : IsNext old new) (action : Action) (a : HeardAfter t.before old new text action)
    (same : a.reading ≡ reading) (size : length told ≡ length (asks_of reading)) (by : IsAnsweredBy t reading told looked answer) where
  step_as : SpeakerKnows new (after_line t (form_of new) text reading told looked answer)
  step_as = step old new t text reading told looked answer k (a.is ∙ same) size by n
      (a.heard.form ∙ ap (λ (r : Reading). form_after (form_of old) r) same)
      (a.heard.heard ∙ ap (λ (r : Reading). above_of (t.before ++ leaves r)) same)

clocks_on : (old new : Speaker) (t : Transcript) (text : InputLine) (start tick : ℕ) (more : List ℕ) → SpeakerKnows old t →
    IsNext old new → has_clock (form_of old) ≡ true → (known_of old.heard).clock ≡ None →
    HeardAfter t.before old new text (Clock start tick more) → ClocksOn old new t text start tick more
clocks_on old new t text start tick more k n may none a =
    let said = says (line.Clock start tick) in
    let same : a.reading ≡ said = a.heard.action_is.0 in
    let answer : more ≡ answer_text (number_of (length t.lines)) said [] =
    a.heard.action_is.1 ∙ ap (λ r. answer_text old.number r []) same in
    let so_far = step_as old new t text said [] [] more k n (Clock start tick more) a same refl (refl, answer) in
    let before : List Meaning = t.before ++ line.Clock start tick ∷ [] in
    let first : clock_said t.before ≡ None = ap (λ (above : Above). above.clock) (sym k.heard) ∙ none in
    record {
      ahead = never_later (form_of old) may;
      so_far = same_looks new t text more before t.asks t.replies (same_asks new t text more before (t.looks ++ []) so_far);
      clock = clock_first t.before start tick first;
      later = a.heard.form ∙ ap (λ r. form_after (form_of old) r) same;
    }

asks_on : (old new : Speaker) (t : Transcript) (text : InputLine) (ask : Asked) → SpeakerKnows old t → IsNext old new →
    HeardAfter t.before old new text (Ask ask) → AsksOn new t text ask
asks_on old new t text ask k n a = record {
  so_far = λ told.
      let more : List ℕ = reply_text ask told in
      let asks : List Asked = t.asks ++ ask ∷ [] in
      let replies : Replies = t.replies ++ told ∷ [] in
      same_looks new t text more t.before asks replies (same_before new t text more asks replies (t.looks ++ [])
      (step_as old new t text (says (line.Command ask)) (told ∷ []) [] more k n (Ask ask) a a.heard.action_is refl (refl, refl)));
  later = a.heard.form ∙ ap (λ r. form_after (form_of old) r) a.heard.action_is;
}

looks_on : (old new : Speaker) (t : Transcript) (text : InputLine) (asked : TillQuestion) → SpeakerKnows old t → IsNext old new →
    HeardAfter t.before old new text (Look asked) → LooksOn new t text asked
looks_on old new t text asked k n a = record {
  so_far = λ history more is.
      let looks : List Looked = t.looks ++ look_at t history ∷ [] in
      same_asks new t text more t.before looks (same_before new t text more (t.asks ++ []) (t.replies ++ []) looks
      (step_as old new t text (question asked) [] (look_at t history ∷ []) more k n (Look asked) a a.heard.action_is refl
      (history, refl, is)));
  later = a.heard.form ∙ ap (λ r. form_after (form_of old) r) a.heard.action_is;
}

continues : (old new : Speaker) (text : InputLine) (action : Action) → LineRead old new text action → Continues old new text action
continues old new text (Write more) h = λ t k. writes_on old new t text more k h.next (h.after t.before k.heard)
continues old new text (Clock start tick more) h = λ t k.
    clocks_on old new t text start tick more k h.next h.ahead.0 h.ahead.1 (h.after t.before k.heard)
continues old new text (Ask ask) h = λ t k. asks_on old new t text ask k h.next (h.after t.before k.heard)
continues old new text (Look asked) h = λ t k. looks_on old new t text asked k h.next (h.after t.before k.heard)

past_limit : (n : ℕ) → 65536 < n → nat_lt 65536 n ≡ true
past_limit n h = grind (arith, nat_tests)

within_limit : (n : ℕ) → n ≤ 65536 → nat_lt 65536 n ≡ false
within_limit n h = grind (arith, nat_tests)

-- a line that was passed over was heard as this
passed_heard : (old new : Speaker) (reading : Reading) (action : Action) (text : InputLine) →
    ((form : Form) (before : List Meaning) → reading_of form before text ≡ reading) → leaves reading ≡ [] →
    ((form : Form) → form_after form reading ≡ Later) → PassesOver old new reading action → LineRead old new text action
passed_heard old new reading action text is none later p = record {
  next = p.next;
  ahead = p.ahead;
  after = λ before known. record {
    reading = reading;
    is = is old.form before;
    heard = record {
      heard = ap known_of p.heard ∙ known ∙ ap above_of (sym (ap (λ (l : List Meaning). before ++ l) none ∙ append-nil before));
      form = p.form ∙ sym (later old.form);
      action_is = p.action_is;
    };
  };
}

reads_too_long : (text : InputLine) → 65536 < length (text_of text) → (form : Form) (before : List Meaning) →
    reading_of form before text ≡ too_long
reads_too_long text past form before = rw (past_limit (length (text_of text)) past) refl

reads_unended : (text : List ℕ) → length text ≤ 65536 → (form : Form) (before : List Meaning) →
    reading_of form before (without_lf text) ≡ unended
reads_unended text within form before = rw (within_limit (length text) within) refl

talks_past : (old new : Speaker) (action : Action) (text : InputLine) → 65536 < length (text_of text) →
    PassesOver old new too_long action → Continues old new text action
talks_past old new action text past p =
    continues old new text action (passed_heard old new too_long action text (reads_too_long text past) refl (λ form. refl) p)

talks_unended : (old new : Speaker) (action : Action) (text : List ℕ) → length text ≤ 65536 → PassesOver old new unended action →
    Continues old new (without_lf text) action
talks_unended old new action text within p = continues old new (without_lf text) action
    (passed_heard old new unended action (without_lf text) (reads_unended text within) refl (λ form. refl) p)

-- a line that ended at its LF and is no question's
script_heard : (old new : Speaker) (text : List ℕ) (action : Action) → length text ≤ 65536 → IsNext old new → IsAhead old action →
    question_of (strip_carriage_return text) ≡ None → ((before : List Meaning) → known_of old.heard ≡ above_of before →
    HeardAs old.number before old new (script_reading (said old.form before (strip_carriage_return text))) action) →
    LineRead old new (with_lf text) action
script_heard old new text action short next ahead is heard = record {
  next = next;
  ahead = ahead;
  after = λ before known. record {
    reading = script_reading (said old.form before (strip_carriage_return text));
    is = rw (within_limit (length text) short) (rw is refl);
    heard = heard before known;
  };
}

-- the same, once the line's number was taken
pub all_of_script : (old mid new : Speaker) (text : List ℕ) (number : ℕ) (r : Result Action NoRoom) → length text ≤ 65536 →
    number ≡ old.number → mid ≡ record old { number = min (old.number + 1) (2 ^ 64 - 1) } → new.number ≡ mid.number →
    question_of (strip_carriage_return text) ≡ None → IfOk r (λ action. IsAhead mid action) →
    ((before : List Meaning) → known_of mid.heard ≡ above_of before → IfOk r (λ action. HeardAs number before mid new
    (script_reading (said mid.form before (strip_carriage_return text))) action)) →
    IfOk r (λ action. LineRead old new (with_lf text) action)
all_of_script old mid new text number (Err e) short same is kept none ahead heard = tt
all_of_script old mid new text number (Ok action) short same is kept none ahead heard =
    script_heard old new text action short (kept ∙ ap (λ (s : Speaker). s.number) is)
    (subst (λ (s : Speaker). IsAhead s action) is ahead) none (λ before known.
    let Heard : ℕ → Speaker → Type 0 = λ n s. known_of s.heard ≡ above_of before →
    HeardAs n before s new (script_reading (said s.form before (strip_carriage_return text))) action in
    let at : Heard old.number (record old { number = min (old.number + 1) (2 ^ 64 - 1) }) =
    subst (λ (n : ℕ). Heard n (record old { number = min (old.number + 1) (2 ^ 64 - 1) })) same
    (subst (λ (s : Speaker). Heard number s) is (heard before)) in
    let h = at known in record { heard = h.heard; form = h.form; action_is = h.action_is })

pub begins : (s : Speaker) → Begins s → SpeakerKnows s nothing_said
begins s b = record {
  dialogue = Dialogue.silence;
  form = sym b.form;
  heard = b.heard;
  number = b.number;
  pairs = refl;
  quiet = λ e. record { asks_none = refl; looks_none = refl; text_none = refl; clock_none = refl };
}

pub all_talk : (old new : Speaker) (text : InputLine) (r : Result Action NoRoom) → IfOk r (λ action. LineRead old new text action) →
    IfOk r (λ action. Continues old new text action)
all_talk old new text (Ok action) h = continues old new text action h
all_talk old new text (Err e) h = tt

pub all_talk_past : (old new : Speaker) (text : InputLine) (r : Result Action NoRoom) → 65536 < length (text_of text) →
    IfOk r (λ action. PassesOver old new too_long action) → IfOk r (λ action. Continues old new text action)
all_talk_past old new text (Ok action) past h = talks_past old new action text past h
all_talk_past old new text (Err e) past h = tt

pub all_talk_unended : (old new : Speaker) (text : List ℕ) (r : Result Action NoRoom) → length text ≤ 65536 →
    IfOk r (λ action. PassesOver old new unended action) → IfOk r (λ action. Continues old new (without_lf text) action)
all_talk_unended old new text (Ok action) within h = talks_unended old new action text within h
all_talk_unended old new text (Err e) within h = tt
