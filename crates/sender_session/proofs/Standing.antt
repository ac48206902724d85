-- What one turn did, over a shop to which nobody else adds.
use Rattle.std.proofs.Common.{◌≡◌, inl, inr, ℕ, ◌+◌, ◌-◌, ◌<◌, ◌≤◌, List, [], ◌∷◌, ◌++◌, length, length-append, map, take, drop}
use Rattle.std.proofs.Common.{filter_map, refl, sym, ◌∙◌, ap, subst, arith, append-nil, Bool, true, false, IsTrue, Option, Some}
use Rattle.std.proofs.Common.{None, Result, Ok, Err}
use Rattle.std.specs.Prelude.{Contains}
use Rattle.std.specs.List.{AllByRecursion}
use Rattle.std.proofs.lemmas.Grind.{flat_map-append}
use Rattle.std.proofs.lemmas.List.Elements.{Contains-append_cases, filter_map-append}
use Rattle.record_fields.specs.Picks.{when}
use Rattle.record_fields.specs.declared.records.Sealed.{Sealed}
use Rattle.record_fields.specs.declared.lines.Line.{Line}
use Rattle.record_codec.specs.declared.entry.Entry.{Entry}
use Rattle.record_codec.specs.declared.entry.Entry.TheVariants.{Notes as notes_of}
use Rattle.batches.specs.Batches.{huellas_of, named_of}
use Rattle.pacing.specs.Pace.{is_due, due_at}
use Rattle.pacing.specs.declared.pace.Pace.{Pace}
use Rattle.journal.specs.declared.faults.StoreFault.{StoreFault}
use Rattle.journal.specs.declared.faults.StoreFault.TheVariants as store
use Rattle.shop_core.specs.History.{recs, noted, lines_in, row_in, rows, Row}
use Rattle.shop_core.specs.Items.{entries_of}
use Rattle.shop_core.specs.declared.items.Item.{Item}
use Rattle.shop_core.specs.declared.items.Item.TheVariants as item
use Rattle.shop_core.specs.declared.waiting.Waiting.{Waiting}
use Rattle.agency_port.specs.Reply.{Replied}
use Rattle.agency_port.specs.Ledger.{Ledger, Names, Submits}
use Rattle.agency_port.specs.Practice.{is_reply_to}
use Rattle.agency_port.specs.Sessions.{named_reply}
use Rattle.agency_port.specs.declared.answers.ReplyLine.TheVariants.{First}
use Rattle.agency_port.specs.declared.answers.Seen.{Seen}
use Rattle.agency_port.specs.declared.answers.AgencyFault.TheVariants as agency
use Rattle.agency_port.specs.declared.messages.Message.{Message}
use Rattle.agency_port.specs.declared.messages.Message.TheVariants.{Begun, Submitted, Consulted}
use Rattle.agency_port.specs.declared.turns.Evidence.{Evidence}
use Rattle.agency_port.specs.declared.turns.Told.{Told}
use Rattle.agency_port.specs.declared.turns.Told.TheVariants as told
use Rattle.agency_port.proofs.Replies.{decides}
use Rattle.once_world.specs.Outbox.{Sight, Grows, AddsOwn, StopsHere, NotedBy, ShowsWaiting, notes_behind, history_of}
use Rattle.sender.specs.declared.answers.Turn.{Turn}
use Rattle.sender.specs.declared.answers.Turn.TheVariants.{Idle, WaitUntil, Noted, Cleared, Doubt}
use Rattle.sender.specs.declared.answers.SendFault.{SendFault}
use Rattle.sender.specs.declared.answers.SendFault.TheVariants.{LinkFault, Contradiction, Store, NoMemory}
use Rattle.sender.specs.Draining.{told_in, list_of, told_list, GoesOn, moment_after}
use Rattle.sender.specs.Evidence.{Shows}
use Rattle.sender.specs.Sending.{Sending}
use Rattle.sender.specs.Turning.{Deed, Nothing, Asked, Handed, AgencyKind, AgencyState, Dealt, RestEnds, SeenEnds, ReplyEnds, Replies}
use Rattle.sender.specs.Turning.{Ends}
use Rattle.sender.proofs.Ending.{as_many}
use Rattle.sender.proofs.Growing.{Growth}
use Rattle.sender_session.specs.Steps.{Step, Waits, Says, LacksMemory, Standing, line_in, message_in, after_steps}
use Rattle.sender_session.specs.Steps.{after_message, handing, with_reply, next_batch, count_waiting, AreAllNew, IsStep}
use Rattle.sender_session.specs.Steps.{AreSteps, IsSubmissionLine, noted_in, doubt_behind, IsSeenLine, IsReplyLine, fault_line}
use Rattle.sender_session.specs.Steps.{ShowsHere, EndsContrary}
use Rattle.sender_session.proofs.Entries.{entries_both}
use Rattle.sender_session.proofs.Places.{all_contained}

-- the shop at the end, each item of which from this place on is the outbox's own
module _ (final : Sight) (base : ℕ) (mine : (n : ℕ) → base ≤ n → n < length final.items → Contains final.own n) where
  -- what is seen is no more where no more is its own
  pub quiet_same : (a b : Sight) → Growth a b → Growth b final → b.own ≡ a.own → AllByRecursion (λ (p : ℕ). p < length a.items)
      a.own → base ≤ length a.items → b.items ≡ a.items
  quiet_same a b g h same high long = by_items g.items g.items_is
    where
      by_items : (xs : List Item) → b.items ≡ a.items ++ xs → b.items ≡ a.items
      by_items [] e = e ∙ append-nil a.items
      by_items (x ∷ xs) e =
          let n : ℕ = length a.items in
          let len = ap length e in
          let app = length-append a.items (x ∷ xs) in
          let end = ap length h.items_is in
          let app_end = length-append b.items h.items in
          let there : Contains (b.own ++ h.own) n = subst (λ (o : List ℕ). Contains o n) h.own_is (mine n long (omega arith)) in
          absurd (elim (Contains-append_cases b.own h.own n there) [
            | inl c ↦ (let l = all_contained (λ (p : ℕ). p < length a.items) a.own n high (subst (λ (o : List ℕ). Contains o n)
                same c) in omega arith)
            | inr c ↦ (let l = all_contained (λ (p : ℕ). length b.items ≤ p) h.own n h.low c in omega arith)
          ])

  -- nor does anything stand between what is seen and what it adds
  pub none_between : (a b : Sight) (thing : List Item → Item) → Growth b final → AllByRecursion (λ (p : ℕ). p < length a.items)
      a.own → base ≤ length a.items → (o : AddsOwn a b thing) → o.others ≡ []
  none_between a b thing h high long o = by_others o.others o.items o.own
    where
      by_others : (xs : List Item) → b.items ≡ (a.items ++ xs) ++ thing (a.items ++ xs) ∷ [] →
          b.own ≡ a.own ++ length (a.items ++ xs) ∷ [] → xs ≡ []
      by_others [] e own = refl
      by_others (x ∷ xs) e own =
          let n : ℕ = length a.items in
          let p : ℕ = length (a.items ++ x ∷ xs) in
          let last : List Item = thing (a.items ++ x ∷ xs) ∷ [] in
          let len = ap length e in
          let app = length-append (a.items ++ x ∷ xs) last in
          let app_more = length-append a.items (x ∷ xs) in
          let end = ap length h.items_is in
          let app_end = length-append b.items h.items in
          let there : Contains ((a.own ++ p ∷ []) ++ h.own) n = subst (λ (o : List ℕ). Contains (o ++ h.own) n) own
          (subst (λ (o : List ℕ). Contains o n) h.own_is (mine n long (omega arith))) in
          absurd (elim (Contains-append_cases (a.own ++ p ∷ []) h.own n there) [
            | inl c ↦ elim (Contains-append_cases a.own (p ∷ []) n c) [
              | inl d ↦ (let l = all_contained (λ (q : ℕ). q < length a.items) a.own n high d in omega arith)
              | inr d ↦ (let l = all_contained (λ (q : ℕ). n < q) (p ∷ []) n ((omega arith, tt)) d in omega arith)
            ]
            | inr c ↦ (let l = all_contained (λ (q : ℕ). length b.items ≤ q) h.own n h.low c in omega arith)
          ])

one_entry : (e : Entry) → entries_of (item.Entry e ∷ []) ≡ e ∷ []
one_entry e = refl

-- the history after one item of its own
pub own_items : (look after : Sight) (thing : List Item → Item) → (a : AddsOwn look after thing) → a.others ≡ [] →
    after.items ≡ look.items ++ thing look.items ∷ []
own_items look after thing a none =
    let same : look.items ++ a.others ≡ look.items = ap (λ (o : List Item). look.items ++ o) none ∙ append-nil look.items in
    a.items ∙ ap (λ (l : List Item). l ++ thing l ∷ []) same

pub noted_history : (look after : Sight) (lines : List Line) →
    (a : AddsOwn look after (λ (items : List Item). item.Entry (notes_behind items lines))) → a.others ≡ [] →
    history_of after ≡ history_of look ++ notes_of (length (noted (history_of look))) lines ∷ []
noted_history look after lines a none = ap entries_of (own_items look after _ a none) ∙ entries_both look.items
    (item.Entry (notes_behind look.items lines) ∷ [])

pub stopped_history : (look after : Sight) (lines : List Line) → (a : StopsHere look after lines) → a.adds.others ≡ [] →
    history_of after ≡ history_of look
stopped_history look after lines a none =
    ap entries_of (own_items look after _ a.adds none) ∙ entries_both look.items
    (item.Stop a.faults (notes_behind look.items lines) ∷ []) ∙ append-nil (history_of look)

pub noted_count : (es : List Entry) (first : ℕ) (lines : List Line) → length (noted (es ++ notes_of first lines ∷ [])) ≡ length
    (noted es) + length lines
noted_count es first lines =
    ap (λ (ls : List Line). length ls) (flat_map-append lines_in es (notes_of first lines ∷ []) ∙
    ap (λ (ls : List Line). noted es ++ ls) (append-nil lines)) ∙ length-append (noted es) lines

pub noted_records : (es : List Entry) (first : ℕ) (lines : List Line) → recs (es ++ notes_of first lines ∷ []) ≡ recs es
noted_records es first lines = ap (λ (rs : List Row). map (λ (r : Row). r.sealed) rs)
    (filter_map-append row_in es (notes_of first lines ∷ []) ∙ append-nil (rows es))

when_true : (t : Bool) (reply : Replied) → t ≡ true → when t reply ≡ Some reply
when_true true reply e = refl
when_true false reply e = absurd cc

when_false : (t : Bool) (reply : Replied) → (t ≡ true → ⊥) → when t reply ≡ None
when_false true reply never = absurd (never refl)
when_false false reply never = refl

named_is : (reply : Replied) (batch : List Sealed) → Names reply batch → named_reply batch (Ok reply) ≡ Some reply
named_is reply batch names = when_true (is_reply_to reply batch) reply ((decides reply batch).1 names)

stale_is : (reply : Replied) (batch : List Sealed) → (Names reply batch → ⊥) → named_reply batch (Ok reply) ≡ None
stale_is reply batch never = when_false (is_reply_to reply batch) reply (λ t. never ((decides reply batch).0 t))

-- the turns go on after this answer, or one more may follow
abbrev pub Lasts : Result Turn SendFault → Type 0
Lasts (Ok turn) = Unit {0}
Lasts (Err LinkFault) = Unit {0}
Lasts _ = ⊥

pub lasts : (answer : Result Turn SendFault) → GoesOn answer → Lasts answer
lasts (Ok turn) on = tt
lasts (Err LinkFault) on = tt
lasts (Err (Contradiction evidence)) on = absurd on
lasts (Err (Store fault)) on = absurd on
lasts (Err NoMemory) on = absurd on

-- what a turn with this answer did, and that K holds of the history after it
pub record DidBy (K : List Entry → Type 0) (tells exact : Bool) (records : List Sealed) (st : Standing)
    (said said_then : List Message) (after : Sight) (new : Sending) (answer : Result Turn SendFault) : Type 0 where
  pub steps : List Step
  pub one : length steps ≤ 1
  pub are : AreSteps exact records st steps
  pub lines : map line_in steps ≡ told_list answer
  pub messages : IsTrue tells → said_then ≡ said ++ filter_map message_in steps
  pub records_are : K (history_of after)
  pub noted_is : length (noted (history_of after)) ≡ (after_steps st steps).noted
  pub doubt : Lasts answer → new.doubt ≡ (after_steps st steps).doubt
  pub pace : Lasts answer → IsTrue exact → new.pace ≡ (after_steps st steps).pace
  pub kept : Lasts answer → new.said ≡ (after_steps st steps).said
  pub moment : moment_after st.moment answer ≡ (after_steps st steps).moment
  pub contrary : (evidence : Evidence) → answer ≡ Err (Contradiction evidence) → EndsContrary st steps evidence

-- the same of a shop to which nobody else adds
abbrev pub Did : Bool → Bool → List Sealed → Standing → List Message → List Message → Sight → Sending → Result Turn SendFault →
    Type 0
Did tells exact records st said said_then after new answer =
    DidBy (λ (es : List Entry). recs es ≡ records) tells exact records st said said_then after new answer

-- what stands at a look
pub record Stands (exact : Bool) (records : List Sealed) (st : Standing) (look : Sight) (shown : Waiting) (old : Sending)
    (now : ℕ) : Type 0 where
  pub records_are : recs (history_of look) ≡ records
  pub noted_is : length (noted (history_of look)) ≡ st.noted
  pub shows : ShowsWaiting look 1000 shown
  pub doubt : old.doubt ≡ st.doubt
  pub pace : IsTrue exact → old.pace ≡ st.pace
  pub kept : old.said ≡ st.said
  pub now_is : IsTrue exact → now ≡ st.moment

module _ (K : List Entry → Type 0) (tells exact : Bool) (records : List Sealed) (st : Standing) (said said_then : List Message)
    (look after : Sight) (shown : Waiting) (old new : Sending) (now : ℕ) (h : Stands exact records st look shown old now)
    (here : K (history_of look)) where
  shown_noted : shown.noted ≡ st.noted
  shown_noted = h.shows.noted_count ∙ h.noted_is

  shown_records : shown.records ≡ length records
  shown_records = h.shows.records_count ∙ ap length h.records_are

  shown_list : shown.list ≡ next_batch records st
  shown_list = h.shows.first ∙ ap (λ (rs : List Sealed). take 1000 (drop (length (noted (history_of look))) rs)) h.records_are ∙
      ap (λ (n : ℕ). take 1000 (drop n records)) h.noted_is

  shown_waiting : shown.records - shown.noted ≡ count_waiting records st
  shown_waiting = ap (λ (n : ℕ). n - shown.noted) shown_records ∙ ap (λ (n : ℕ). length records - n) shown_noted

  abbrev Done : Result Turn SendFault → Type 0
  Done answer = DidBy K tells exact records st said said_then after new answer

  -- this many lines more are noted than at the look
  abbrev pub Left : ℕ → Type 0
  Left n = (length (noted (history_of after)) ≡ st.noted + n) × K (history_of after)

  stays : after ≡ look → Left 0
  stays there = (
    (let same = ap (λ (s : Sight). length (noted (history_of s))) there in let base = h.noted_is in omega (arith, same, base)),
    subst (λ (s : Sight). K (history_of s)) (sym there) here,
  )

  doubt_here : (b : Bool) → old.doubt ≡ b → st.doubt ≡ b
  doubt_here b is = sym h.doubt ∙ is

  some_wait : shown.noted < shown.records → st.noted < length records
  some_wait l = omega (arith, l, shown_noted, shown_records)

  is_due_here : (b : Bool) → is_due old.pace now (shown.records - shown.noted) ≡ b → IsTrue exact →
      is_due st.pace st.moment (count_waiting records st) ≡ b
  is_due_here b due e =
      sym (ap (λ (p : Pace). is_due p now (shown.records - shown.noted)) (h.pace e) ∙
      ap (λ (t : ℕ). is_due st.pace t (shown.records - shown.noted)) (h.now_is e) ∙ ap (λ (n : ℕ). is_due st.pace st.moment n)
      shown_waiting) ∙ due

  -- there was no memory, and nothing was said
  lacked : after ≡ look → (IsTrue tells → said_then ≡ said) → Done (Err NoMemory)
  lacked there quietly = record {
    steps = LacksMemory ∷ [];
    one = omega arith;
    are = (tt, tt);
    lines = refl;
    messages = λ t. quietly t ∙ sym (append-nil said);
    records_are = (stays there).1;
    noted_is = ap (λ (s : Sight). length (noted (history_of s))) there ∙ h.noted_is;
    doubt = λ on. absurd on;
    pace = λ on. absurd on;
    kept = λ on. absurd on;
    moment = refl;
    contrary = λ evidence e. absurd cc;
  }

  -- nothing was said
  rested : (answer : Result Turn SendFault) → RestEnds old now shown answer → new ≡ old → after ≡ look →
      (IsTrue tells → said_then ≡ said) → Done answer
  rested (Ok (Idle count)) ends same there silent = record {
    steps = [];
    one = omega arith;
    are = tt;
    lines = refl;
    messages = λ t. silent t ∙ sym (append-nil said);
    records_are = (stays there).1;
    noted_is = ap (λ (s : Sight). length (noted (history_of s))) there ∙ h.noted_is;
    doubt = λ on. ap (λ (s : Sending). s.doubt) same ∙ h.doubt;
    pace = λ on e. ap (λ (s : Sending). s.pace) same ∙ h.pace e;
    kept = λ on. ap (λ (s : Sending). s.said) same ∙ h.kept;
    moment = refl;
    contrary = λ evidence e. absurd cc;
  }
  rested (Ok (WaitUntil at)) ends same there silent = record {
    steps = Waits at ∷ [];
    one = omega arith;
    are = ((doubt_here false ends.1, some_wait ends.0, λ e. (is_due_here false ends.2 e, ends.3 ∙ ap due_at (h.pace e))), tt);
    lines = refl;
    messages = λ t. silent t ∙ sym (append-nil said);
    records_are = (stays there).1;
    noted_is = ap (λ (s : Sight). length (noted (history_of s))) there ∙ h.noted_is;
    doubt = λ on. ap (λ (s : Sending). s.doubt) same ∙ h.doubt;
    pace = λ on e. ap (λ (s : Sending). s.pace) same ∙ h.pace e;
    kept = λ on. ap (λ (s : Sending). s.said) same ∙ h.kept;
    moment = refl;
    contrary = λ evidence e. absurd cc;
  }
  rested (Ok (Noted n)) ends same there silent = absurd ends
  rested (Ok Cleared) ends same there silent = absurd ends
  rested (Ok (Doubt place)) ends same there silent = absurd ends
  rested (Err LinkFault) ends same there silent = absurd ends
  rested (Err (Contradiction evidence)) ends same there silent = absurd ends
  rested (Err (Store fault)) ends same there silent = absurd ends
  rested (Err NoMemory) ends same there silent = lacked there silent

  reply_noted : (o : Option Replied) → (with_reply (handing st) o).noted ≡ st.noted
  reply_noted None = refl
  reply_noted (Some reply) = refl

  reply_moment : (o : Option Replied) → (with_reply (handing st) o).moment ≡ st.moment
  reply_moment None = refl
  reply_moment (Some reply) = refl

  reply_doubt : (o : Option Replied) → (with_reply (handing st) o).doubt ≡ true
  reply_doubt None = refl
  reply_doubt (Some reply) = refl

  message_noted : (m : Message) → (after_message st m).noted ≡ st.noted
  message_noted (Begun plan pairs) = refl
  message_noted (Submitted batch answer) = reply_noted (named_reply batch answer)
  message_noted (Consulted asked (Ok seen)) = refl
  message_noted (Consulted asked (Err why)) = refl

  message_moment : (m : Message) → (after_message st m).moment ≡ st.moment
  message_moment (Begun plan pairs) = refl
  message_moment (Submitted batch answer) = reply_moment (named_reply batch answer)
  message_moment (Consulted asked (Ok seen)) = refl
  message_moment (Consulted asked (Err why)) = refl

  -- a message was said, and this line stands for it
  spoke : (answer : Result Turn SendFault) (m : Message) (line : Told) → told_in answer ≡ Some line →
      moment_after st.moment answer ≡ st.moment → IsStep exact records st (Says m line) →
      (IsTrue tells → said_then ≡ said ++ m ∷ []) →
      Left (noted_in line) →
      (Lasts answer → new.doubt ≡ doubt_behind (after_message st m).doubt line) →
      (Lasts answer → IsTrue exact → new.pace ≡ (after_message st m).pace) →
      (Lasts answer → new.said ≡ (after_message st m).said) →
      ((evidence : Evidence) → answer ≡ Err (Contradiction evidence) → EndsContrary st (Says m line ∷ []) evidence) → Done answer
  spoke answer m line is still step messages left doubt pace kept contrary = record {
    steps = Says m line ∷ [];
    one = omega arith;
    are = (step, tt);
    lines = sym (ap list_of is);
    messages = messages;
    records_are = left.1;
    noted_is = left.0 ∙ ap (λ (n : ℕ). n + noted_in line) (sym (message_noted m));
    doubt = doubt;
    pace = pace;
    kept = kept;
    moment = still ∙ sym (message_moment m);
    contrary = contrary;
  }

  -- and nothing was noted
  spoke_quietly : (answer : Result Turn SendFault) (m : Message) (line : Told) → told_in answer ≡ Some line →
      moment_after st.moment answer ≡ st.moment → noted_in line ≡ 0 → IsStep exact records st (Says m line) →
      (IsTrue tells → said_then ≡ said ++ m ∷ []) → Left 0 →
      (Lasts answer → new.doubt ≡ doubt_behind (after_message st m).doubt line) →
      (Lasts answer → IsTrue exact → new.pace ≡ (after_message st m).pace) →
      (Lasts answer → new.said ≡ (after_message st m).said) →
      ((evidence : Evidence) → answer ≡ Err (Contradiction evidence) → EndsContrary st (Says m line ∷ []) evidence) → Done answer
  spoke_quietly answer m line is still zero step messages left doubt pace kept contrary =
      spoke answer m line is still step messages (subst (λ (n : ℕ). Left n) (sym zero) left) doubt pace kept contrary

  -- and these lines were
  spoke_noting : (n : ℕ) (m : Message) (lines : List Line) → n ≡ length lines → IsStep exact records st (Says m (told.Noted n)) →
      (IsTrue tells → said_then ≡ said ++ m ∷ []) →
      Left (length lines) →
      new.doubt ≡ false → (IsTrue exact → new.pace ≡ (after_message st m).pace) → new.said ≡ (after_message st m).said →
      Done (Ok (Noted n))
  spoke_noting n m lines many step messages left doubt pace kept =
      spoke (Ok (Noted n)) m (told.Noted n) refl refl step messages (subst (λ (k : ℕ). Left k) (sym many) left)
      (λ on. doubt) (λ on. pace) (λ on. kept) (λ evidence e. absurd cc)

  module _ (quiet : Grows look after → after.own ≡ look.own → Left 0) (own : (lines : List Line) →
      AddsOwn look after (λ (items : List Item). item.Entry (notes_behind items lines)) → Left (length lines))
      (stop : (lines : List Line) → StopsHere look after lines → Left 0) where
    fault_left : (lines : List Line) (fault : StoreFault) → Grows look after → NotedBy look after lines (Err fault) → Left 0
    fault_left lines store.DiskFault g a = stop lines a
    fault_left lines (store.Stopped faults) g a = quiet g a.own
    fault_left lines store.NoMemory g a = quiet g a

    fault_told : (fault : StoreFault) → told_in (Err (Store fault)) ≡ Some (fault_line fault)
    fault_told store.DiskFault = refl
    fault_told (store.Stopped faults) = refl
    fault_told store.NoMemory = refl

    fault_notes : (fault : StoreFault) → noted_in (fault_line fault) ≡ 0
    fault_notes store.DiskFault = refl
    fault_notes (store.Stopped faults) = refl
    fault_notes store.NoMemory = refl

    shown_here : (seen : List Seen) (r : Result (List Line) _) → Shows old.said (shown.noted + 1) (huellas_of shown.list) seen r →
        ShowsHere st (huellas_of shown.list) seen r
    shown_here seen r s =
        subst (λ (o : Option Replied). Shows o (st.noted + 1) (huellas_of shown.list) seen r) h.kept
        (subst (λ (n : ℕ). Shows old.said (n + 1) (huellas_of shown.list) seen r) shown_noted s)

    contrary_by : (seen : List Seen) (a b : Evidence) → ◌≡◌ {A = Result Turn SendFault} (Err (Contradiction b))
        (Err (Contradiction a)) → ShowsHere st (huellas_of shown.list) seen (Err b) →
        EndsContrary st (Says (Consulted (named_of shown.list) (Ok seen)) told.Contradiction ∷ []) a
    contrary_by seen a b e s = record {
      named = named_of shown.list;
      seen = seen;
      is = refl;
      shows = subst (λ (x : Evidence). ShowsHere st (huellas_of shown.list) seen (Err x)) (let same : b ≡ a = cc in same) s;
    }

    seen_fault : (seen : List Seen) (f : StoreFault) (lines : List Line) → ShowsHere st (huellas_of shown.list) seen (Ok lines) →
        1 ≤ length lines → IsSeenLine st (huellas_of shown.list) seen (fault_line f)
    seen_fault seen store.DiskFault lines s some = record { lines = lines; shown = s; some = some }
    seen_fault seen (store.Stopped faults) lines s some = record { lines = lines; shown = s; some = some }
    seen_fault seen store.NoMemory lines s some = tt

    -- a consultation was answered
    seen_did : (seen : List Seen) (answer : Result Turn SendFault) → st.doubt ≡ true →
        (IsTrue tells → said_then ≡ said ++ Consulted (named_of shown.list) (Ok seen) ∷ []) → new.pace ≡ old.pace →
        new.said ≡ None →
        SeenEnds old.said shown seen look after answer new.doubt → Done answer
    seen_did seen (Ok (Noted n)) doubt messages pace kept ends =
        let lines = ends.0.lines in
        let many = ends.0.count_is in
        spoke_noting n (Consulted (named_of shown.list) (Ok seen)) lines many (
          doubt,
          ap named_of shown_list,
          (
            lines,
            shown_here seen (Ok lines) ends.0.are,
            many,
            (let some = ends.0.some in
                omega (arith, some, many)),
          ),
        ) messages
        (own lines ends.0.noted) ends.1 (λ e. pace ∙ h.pace e) kept
    seen_did seen (Ok Cleared) doubt messages pace kept ends =
        spoke_quietly (Ok Cleared) (Consulted (named_of shown.list) (Ok seen)) told.Cleared refl refl refl
        (doubt, ap named_of shown_list, shown_here seen (Ok []) ends.0) messages (stays ends.1) (λ on. ends.2)
        (λ on e. pace ∙ h.pace e) (λ on. kept) (λ evidence e. absurd cc)
    seen_did seen (Err (Contradiction evidence)) doubt messages pace kept ends =
        spoke_quietly (Err (Contradiction evidence)) (Consulted (named_of shown.list) (Ok seen)) told.Contradiction refl refl
        refl (doubt, ap named_of shown_list, (evidence, shown_here seen (Err evidence) ends.0)) messages
        (stays ends.1) (λ on. absurd on) (λ on. absurd on) (λ on. absurd on) (λ shown_evidence e. contrary_by seen shown_evidence evidence e
        (shown_here seen (Err evidence) ends.0))
    seen_did seen (Err (Store fault)) doubt messages pace kept ends =
        let lines = ends.0.1.lines in
        spoke_quietly (Err (Store fault)) (Consulted (named_of shown.list) (Ok seen)) (fault_line fault) (fault_told fault) refl
        (fault_notes fault) (
          doubt,
          ap named_of shown_list,
          seen_fault seen fault lines (shown_here seen (Ok lines) ends.0.1.are) ends.0.1.some,
        ) messages
        (fault_left lines fault ends.0.1.grows ends.0.1.noted) (λ on. absurd on) (λ on. absurd on) (λ on. absurd on)
        (λ evidence e. absurd cc)
    seen_did seen (Err NoMemory) doubt messages pace kept ends =
        spoke_quietly (Err NoMemory) (Consulted (named_of shown.list) (Ok seen)) told.Memory refl refl refl
        (doubt, ap named_of shown_list, tt) messages (stays ends.0) (λ on. absurd on) (λ on. absurd on)
        (λ on. absurd on) (λ evidence e. absurd cc)
    seen_did seen _ doubt messages pace kept ends = absurd ends

    -- a batch was handed over, out of doubt and when one was due
    abbrev MayHand : Type 0
    MayHand = (st.doubt ≡ false) × (is_due old.pace now (shown.records - shown.noted) ≡ true)

    handed : (answer : Result Replied _) (printed : Told) → MayHand → IsSubmissionLine st shown.list answer printed →
        IsStep exact records st (Says (Submitted shown.list answer) printed)
    handed answer printed may is = (may.0, shown_list, is_due_here true may.1, is)

    unanswered_pace : IsTrue exact → new.pace ≡ record { last = now; wait = old.pace.wait } → new.pace ≡ (handing st).pace
    unanswered_pace e is = is ∙ ap (λ (t : ℕ). record { last = t; wait = old.pace.wait }) (h.now_is e) ∙
        ap (λ (p : Pace). record { last = st.moment; wait = p.wait }) (h.pace e)

    -- a reply named it
    reply_did : (reply : Replied) (answer : Result Turn SendFault) → MayHand →
        (IsTrue tells → said_then ≡ said ++ Submitted shown.list (Ok reply) ∷ []) →
        Replies now shown look after reply answer new → Done answer
    reply_did reply answer may messages r = by_answer answer r.ends
      where
        names : Names reply shown.list
        names = r.names

        m : Message
        m = Submitted shown.list (Ok reply)

        after_is : after_message st m ≡ with_reply (handing st) (Some reply)
        after_is = ap (λ (o : Option Replied). with_reply (handing st) o) (named_is reply shown.list names)

        pace : IsTrue exact → new.pace ≡ (after_message st m).pace
        pace e = r.pace ∙ ap (λ (t : ℕ). record { last = t; wait = reply.wait }) (h.now_is e) ∙
            sym (ap (λ (s : Standing). s.pace) after_is)

        kept : new.said ≡ (after_message st m).said
        kept = r.said ∙ sym (ap (λ (s : Standing). s.said) after_is)

        all_new : (lines : List Line) → reply.lines ≡ map First lines → AreAllNew shown.list reply
        all_new lines first = record {
          names = names;
          lines = lines;
          first = first;
          each = as_many reply shown.list lines names
              r.matched first;
        }

        by_fault : (f : StoreFault) (lines : List Line) → reply.lines ≡ map First lines → IsReplyLine st shown.list reply
            (fault_line f)
        by_fault store.DiskFault lines first = all_new lines first
        by_fault (store.Stopped faults) lines first = all_new lines first
        by_fault store.NoMemory lines first = names

        by_answer : (a : Result Turn SendFault) → ReplyEnds shown reply look after a new.doubt → Done a
        by_answer (Ok (Noted n)) ends =
            let lines = ends.0.lines in
            let many = ends.0.count_is in
            spoke_noting n m lines many (handed (Ok reply) (told.Noted n) may (
              all_new lines ends.0.are,
              many ∙
                  as_many reply shown.list lines names r.matched ends.0.are,
            )) messages
            (own lines ends.0.noted) ends.1 pace kept
        by_answer (Ok (Doubt place)) ends =
            spoke_quietly (Ok (Doubt place)) m (told.Doubt place) refl refl refl
            (handed (Ok reply) (told.Doubt place) may (record {
              names = names;
              index = ends.0.index;
              again = ends.0.again;
              place_is = ends.0.is ∙ ap (λ (n : ℕ). n + 1 + ends.0.index) shown_noted;
            })) messages
            (stays ends.1) (λ on. ends.2 ∙ sym (reply_doubt (named_reply shown.list (Ok reply)))) (λ on. pace)
            (λ on. kept) (λ evidence e. absurd cc)
        by_answer (Err (Store fault)) ends =
            let lines = ends.0.1.lines in
            spoke_quietly (Err (Store fault)) m (fault_line fault) (fault_told fault) refl (fault_notes fault)
            (handed (Ok reply) (fault_line fault) may (by_fault fault lines ends.0.1.are)) messages
            (fault_left lines fault ends.0.1.grows ends.0.1.noted) (λ on. absurd on) (λ on. absurd on) (λ on. absurd on)
            (λ evidence e. absurd cc)
        by_answer (Err NoMemory) ends = spoke_quietly (Err NoMemory) m told.Memory refl refl refl (handed (Ok reply) told.Memory
            may names) messages (stays ends.0) (λ on. absurd on) (λ on. absurd on) (λ on. absurd on)
            (λ evidence e. absurd cc)
        by_answer _ ends = absurd ends

    -- one turn after its look
    pub ends_did : (kind : AgencyKind) (agency_state agency_state_then : AgencyState) (deed : Deed) (answer : Result Turn SendFault) → tells ≡ kind.tells →
        said ≡ agency_state.ledger.messages → said_then ≡ agency_state_then.ledger.messages →
        Dealt kind agency_state agency_state_then shown deed → Ends old now shown look after deed answer new → Done answer
    ends_did kind agency_state agency_state_then deed answer tells_is said_is then_is dealt ends = by_deed deed dealt ends
      where
        says : (m : Message) → (IsTrue kind.tells → agency_state_then.ledger.messages ≡ agency_state.ledger.messages ++ m ∷ []) → IsTrue tells →
            said_then ≡ said ++ m ∷ []
        says m more t = then_is ∙ more (subst (λ (b : Bool). IsTrue b) tells_is t) ∙ ap (λ (ms : List Message). ms ++ m ∷ [])
            (sym said_is)

        silent : (IsTrue kind.tells → agency_state_then.ledger.messages ≡ agency_state.ledger.messages) → IsTrue tells → said_then ≡ said
        silent same t = then_is ∙ same (subst (λ (b : Bool). IsTrue b) tells_is t) ∙ sym said_is

        same_after : (a : Result Turn SendFault) → answer ≡ a → Done a → Done answer
        same_after a e d = subst (λ (r : Result Turn SendFault). Done r) (sym e) d

        handed_lacking : MayHand → after ≡ look →
            (IsTrue kind.tells → Submits agency_state.ledger agency_state_then.ledger shown.list (Err agency.NoMemory)) → (b : Bool) →
            kind.tells ≡ b → Done (Err NoMemory)
        handed_lacking may there submits false e = lacked there
            (silent (λ t. absurd (let f = subst (λ (c : Bool). IsTrue c) e t in cc)))
        handed_lacking may there submits true e = elim (submits (let f : IsTrue true = refl in
            subst (λ (c : Bool). IsTrue c) (sym e) f)) [
              | inl s ↦ lacked there (silent (λ t. s.messages))
              | inr s ↦ spoke_quietly (Err NoMemory) (Submitted shown.list (Err agency.NoMemory)) told.Memory refl refl refl
                  (handed (Err agency.NoMemory) told.Memory may refl) (says _ (λ t. s.messages)) (stays there)
                  (λ on. absurd on) (λ on. absurd on) (λ on. absurd on) (λ evidence e. absurd cc)
            ]

        by_deed : (d : Deed) → Dealt kind agency_state agency_state_then shown d → Ends old now shown look after d answer new → Done answer
        by_deed Nothing dealt ends = rested answer ends.0 ends.1 ends.2 (silent (λ t. ap (λ (k : AgencyState). k.ledger.messages) dealt))
        by_deed (Asked (Ok seen)) dealt ends = seen_did seen answer (doubt_here true ends.1)
            (says _ (λ t. (dealt.1 t).messages)) ends.2.1 ends.2.2 ends.2.3
        by_deed (Asked (Err agency.Failed)) dealt ends = same_after (Err LinkFault) ends.2.0
            (spoke_quietly (Err LinkFault) (Consulted (named_of shown.list) (Err agency.Failed)) told.Link refl refl refl
            (doubt_here true ends.1, ap named_of shown_list, refl) (says _ (λ t. (dealt.1 t).messages))
            (stays ends.2.2) (λ on. ap (λ (s : Sending). s.doubt) ends.2.1 ∙ h.doubt)
            (λ on e. ap (λ (s : Sending). s.pace) ends.2.1 ∙ h.pace e) (λ on. ap (λ (s : Sending). s.said) ends.2.1 ∙ h.kept)
            (λ evidence e. absurd cc))
        by_deed (Asked (Err agency.NoMemory)) dealt ends = same_after (Err NoMemory) ends.2.0
            (lacked ends.2.2 (silent (λ t. ap (λ (l : Ledger). l.messages) (dealt.1 t))))
        by_deed (Handed (Ok reply)) dealt ends = elim ends.3 [
          | inl r ↦ reply_did reply answer (doubt_here false ends.1, ends.2) (says _ (λ t. (dealt.2 t).messages)) r
          | inr r ↦ (let stale : after_message st (Submitted shown.list (Ok reply)) ≡ handing st =
              ap (λ (o : Option Replied). with_reply (handing st) o) (stale_is reply shown.list r.names_not) in
              same_after (Err LinkFault) r.result_is (spoke_quietly (Err LinkFault) (Submitted shown.list (Ok reply)) told.Link
              refl refl refl (handed (Ok reply) told.Link (doubt_here false ends.1, ends.2) r.names_not)
              (says _ (λ t. (dealt.2 t).messages)) (stays r.after_is)
              (λ on. ap (λ (s : Sending). s.doubt) r.new_is ∙ sym (ap (λ (s : Standing). s.doubt) stale))
              (λ on e. unanswered_pace e (ap (λ (s : Sending). s.pace) r.new_is) ∙ sym (ap (λ (s : Standing). s.pace) stale))
              (λ on. ap (λ (s : Sending). s.said) r.new_is ∙ h.kept ∙ sym (ap (λ (s : Standing). s.said) stale))
              (λ evidence e. absurd cc)))
        ]
        by_deed (Handed (Err agency.Failed)) dealt ends = same_after (Err LinkFault) ends.3.0
            (spoke_quietly (Err LinkFault) (Submitted shown.list (Err agency.Failed)) told.Link refl refl refl
            (handed (Err agency.Failed) told.Link (doubt_here false ends.1, ends.2) refl) (says _ (λ t. (dealt.2 t).messages))
            (stays ends.3.2) (λ on. ap (λ (s : Sending). s.doubt) ends.3.1)
            (λ on e. unanswered_pace e (ap (λ (s : Sending). s.pace) ends.3.1)) (λ on. ap (λ (s : Sending). s.said) ends.3.1 ∙
            h.kept) (λ evidence e. absurd cc))
        by_deed (Handed (Err agency.NoMemory)) dealt ends = same_after (Err NoMemory) ends.3.0 (handed_lacking (doubt_here false ends.1, ends.2)
            ends.3.2 dealt.2 kind.tells refl)
