-- What a turn notes are the lines that its message says.
use Rattle.std.proofs.Common.{◌≡◌, inl, inr, ℕ, ◌≤◌, zero, suc, List, [], ◌∷◌, ◌++◌, length, map, take, drop, filter_map, refl}
use Rattle.std.proofs.Common.{sym, ◌∙◌, ap, subst, append_assoc, append-nil, Bool, true, false, arith, IsTrue, Option, Result}
use Rattle.std.proofs.Common.{Ok, Err}
use Rattle.std.specs.Prelude.{not, ◌&&◌, if◌then◌else◌}
use Rattle.std.specs.List.{list_any}
use Rattle.std.proofs.lemmas.Grind.{flat_map-append}
use Rattle.std.proofs.lemmas.List.{length-map, take-append-drop}
use Rattle.record_fields.specs.declared.records.Sealed.{Sealed}
use Rattle.record_fields.specs.declared.lines.Line.{Line}
use Rattle.record_codec.specs.declared.entry.Entry.{Entry}
use Rattle.journal.specs.declared.faults.StoreFault.{StoreFault}
use Rattle.journal.specs.declared.faults.StoreFault.TheVariants as store
use Rattle.batches.specs.Batches.{Named, huellas_of, named_of}
use Rattle.shop_core.specs.History.{recs, noted, lines_in}
use Rattle.shop_core.specs.Items.{entries_of}
use Rattle.shop_core.specs.declared.items.Item.{Item}
use Rattle.shop_core.specs.declared.items.Item.TheVariants as item
use Rattle.shop_core.specs.declared.waiting.Waiting.{Waiting}
use Rattle.agency_replies.specs.Sorting.{IsFirstAgain}
use Rattle.agency_port.specs.Reply.{Replied}
use Rattle.agency_port.specs.Ledger.{Ledger, Names}
use Rattle.agency_port.specs.Practice.{is_reply_to}
use Rattle.agency_port.specs.declared.answers.ReplyLine.{ReplyLine}
use Rattle.agency_port.specs.declared.answers.ReplyLine.TheVariants.{First, Duplicado}
use Rattle.agency_port.specs.declared.answers.Seen.{Seen}
use Rattle.agency_port.specs.declared.answers.Seen.TheVariants.{NotSeen, Was}
use Rattle.agency_port.specs.declared.answers.AgencyFault.TheVariants as agency
use Rattle.agency_port.specs.declared.messages.Message.{Message}
use Rattle.agency_port.specs.declared.messages.Message.TheVariants.{Submitted, Consulted}
use Rattle.agency_port.proofs.Replies.{decides}
use Rattle.consultation.specs.Sorting.{IsFront, unseen_ones}
use Rattle.shop_core.specs.Prefix.{IsPrefix}
use Rattle.once_world.specs.Looks.{lines_in_front}
use Rattle.once_world.specs.Outbox.{Sight, Grows, AddsOwn, NotedBy, ShowsWaiting, GainsOwnNotes, history_of, notes_behind}
use Rattle.once_world.specs.Laws.{CameBesideOwn, CameQuietly}
use Rattle.sender.specs.declared.answers.Turn.{Turn}
use Rattle.sender.specs.declared.answers.Turn.TheVariants.{Idle, WaitUntil, Noted, Cleared, Doubt}
use Rattle.sender.specs.declared.answers.SendFault.{SendFault}
use Rattle.sender.specs.declared.answers.SendFault.TheVariants as send
use Rattle.sender.specs.declared.answers.DrainFault.{DrainFault}
use Rattle.sender.specs.declared.answers.DrainFault.TheVariants as drain
use Rattle.sender.specs.Sending.{Sending}
use Rattle.sender.specs.Turning.{Deed, Nothing, Asked, Handed, AgencyKind, AgencyState, Dealt, RestEnds, NotesEnd, SeenEnds, ReplyEnds}
use Rattle.sender.specs.Turning.{Ends, Turned, turn_call}
use Rattle.sender.proofs.Histories.{grown, stays}
use Rattle.sender.proofs.Keeping.{noted_same}
use Rattle.sender_session.specs.Session.{sending_end}
use Rattle.sender_session.specs.Noting.{AreNoted, AsksForFirst, IsOfFirst, MissesLast, NotesSaid, all_said, count_named, is_again, lines_said}
use Rattle.sender_session.specs.Noting.{new_line}
use Rattle.sender_session.proofs.Entries.{entries_both}
use Rattle.sender_session.proofs.Contrary.{drop_front, recs_both}

-- the lines in front of those that weren't seen
front_lines : (lines : List Line) (rest : ℕ) → lines_in_front (map Was lines ++ unseen_ones rest) ≡ lines
front_lines [] zero = refl
front_lines [] (suc rest) = refl
front_lines (line ∷ lines) rest = ap (λ (ls : List Line). line ∷ ls) (front_lines lines rest)

pub front_said : (asked : Named) (seen : List Seen) (lines : List Line) → IsFront seen lines →
    lines_said (Consulted asked (Ok seen)) ≡ lines
front_said asked seen lines f = ap lines_in_front f.is ∙ front_lines lines f.rest

new_lines : (lines : List Line) → filter_map new_line (map First lines) ≡ lines
new_lines [] = refl
new_lines (line ∷ lines) = ap (λ (ls : List Line). line ∷ ls) (new_lines lines)

none_again : (lines : List Line) → list_any is_again (map First lines) ≡ false
none_again [] = refl
none_again (line ∷ lines) = none_again lines

some_again : (before : List Line) (rest : List ReplyLine) (again : ReplyLine) → is_again again ≡ true →
    list_any is_again (map First before ++ again ∷ rest) ≡ true
some_again [] rest (First line) e = absurd (let f = e in cc)
some_again [] rest (Duplicado state) e = refl
some_again (line ∷ before) rest again e = some_again before rest again e

chosen : (names again : Bool) (lines : List Line) → names ≡ true → again ≡ false →
    (if names && not again then lines else []) ≡ lines
chosen true false lines a b = refl
chosen true true lines a b = absurd (let e = b in cc)
chosen false again lines a b = absurd (let e = a in cc)

of_other : (names again : Bool) (lines : List Line) → (names ≡ true → ⊥) → ◌≡◌ {A = List Line}
    (if names && not again then lines else []) []
of_other true again lines never = absurd (never refl)
of_other false again lines never = refl

of_again : (names again : Bool) (lines : List Line) → again ≡ true → ◌≡◌ {A = List Line}
    (if names && not again then lines else []) []
of_again true true lines e = refl
of_again true false lines e = absurd (let f = e in cc)
of_again false again lines e = refl

pub reply_said : (batch : List Sealed) (reply : Replied) (lines : List Line) → Names reply batch → reply.lines ≡ map First lines →
    lines_said (Submitted batch (Ok reply)) ≡ lines
reply_said batch reply lines names first =
    chosen (is_reply_to reply batch) (list_any is_again reply.lines) (filter_map new_line reply.lines)
    ((decides reply batch).1 names) (ap (λ (ls : List ReplyLine). list_any is_again ls) first ∙ none_again lines)
    ∙ ap (λ (ls : List ReplyLine). filter_map new_line ls) first ∙ new_lines lines

stale_said : (batch : List Sealed) (reply : Replied) → (Names reply batch → ⊥) → lines_said (Submitted batch (Ok reply)) ≡ []
stale_said batch reply never =
    of_other (is_reply_to reply batch) (list_any is_again reply.lines) (filter_map new_line reply.lines)
    (λ t. never ((decides reply batch).0 t))

doubt_said : (batch : List Sealed) (reply : Replied) (index : ℕ) → IsFirstAgain reply.lines index →
    lines_said (Submitted batch (Ok reply)) ≡ []
doubt_said batch reply index a =
    of_again (is_reply_to reply batch) (list_any is_again reply.lines) (filter_map new_line reply.lines)
    (ap (λ (ls : List ReplyLine). list_any is_again ls) a.is ∙ some_again a.before a.after (Duplicado a.state) refl)

-- no more lines are said than records are named
front_few : (seen : List Seen) → length (lines_in_front seen) ≤ length seen
front_few [] = omega arith
front_few (NotSeen ∷ seen) = omega arith
front_few (Was line ∷ seen) = let few = front_few seen in omega (arith, few)

few_seen : (records : List Sealed) (seen : List Seen) → length seen ≡ length records →
    length (lines_in_front seen) ≤ length (huellas_of records)
few_seen records seen each =
    let few = front_few seen in
    let named = length-map records (λ (s : Sealed). s.huella) in
    omega (arith, few, named, each)

new_few : (lines : List ReplyLine) → length (filter_map new_line lines) ≤ length lines
new_few [] = omega arith
new_few (First line ∷ lines) = let few = new_few lines in omega (arith, few)
new_few (Duplicado state ∷ lines) = let few = new_few lines in omega (arith, few)

chosen_few : (names again : Bool) (lines : List Line) → length (if names && not again then lines else []) ≤ length lines
chosen_few true false lines = omega arith
chosen_few true true lines = omega arith
chosen_few false again lines = omega arith

few_replied : (batch : List Sealed) (reply : Replied) → Names reply batch → length reply.lines ≡ length reply.huellas →
    length (lines_said (Submitted batch (Ok reply))) ≤ length batch
few_replied batch reply names each =
    let few = chosen_few (is_reply_to reply batch) (list_any is_again reply.lines) (filter_map new_line reply.lines) in
    let some = new_few reply.lines in
    let same = ap (λ (hs : List (List ℕ)). length hs) names in
    let named = length-map batch (λ (s : Sealed). s.huella) in
    omega (arith, few, some, each, same, named)

few_none : (m : Message) → lines_said m ≡ [] → length (lines_said m) ≤ count_named m
few_none m none = let e = ap (λ (ls : List Line). length ls) none in omega (arith, e)

-- what is asked for at a look, by the records after it
of_first : (shown now later more : List Sealed) (n k : ℕ) → shown ≡ take 1000 (drop n now) → later ≡ now ++ more → n ≡ k →
    IsPrefix shown (drop k later)
of_first shown now later more n k first is same =
    let front : IsPrefix (drop n now) (drop n (now ++ more)) = drop_front n now more in
    let here : drop n now ≡ shown ++ drop 1000 (drop n now) = sym (take-append-drop 1000 (drop n now)) ∙
    ap (λ (xs : List Sealed). xs ++ drop 1000 (drop n now)) (sym first) in
    let there : IsPrefix shown (drop n (now ++ more)) = record {
      rest = drop 1000 (drop n now) ++ front.rest;
      is = front.is ∙ ap (λ (xs : List Sealed). xs ++ front.rest) here ∙
          append_assoc shown (drop 1000 (drop n now)) front.rest;
    } in
    subst (λ (c : ℕ). IsPrefix shown (drop c later)) same
    (subst (λ (rs : List Sealed). IsPrefix shown (drop n rs)) (sym is) there)

-- the message of a turn is of the first records that wait, and these lines are noted
record Spoken (before look after : Sight) (message : Message) (answer : Result (Unit {0}) DrainFault) : Type 0 where
  at_look : noted (history_of look) ≡ noted (history_of before)
  more : List Sealed
  records : recs (history_of after) ≡ recs (history_of look) ++ more
  lines : AreNoted (noted (history_of before)) (noted (history_of after)) (message ∷ []) answer

module _ (quiet : CameQuietly) (beside : CameBesideOwn) (before look after : Sight) (g : Grows before look)
    (own : look.own ≡ before.own) (gains : GainsOwnNotes before after) where
  -- records alone came, and then these lines were noted
  pub record Came (lines : List Line) : Type 0 where
    pub at_look : noted (history_of look) ≡ noted (history_of before)
    pub more : List Sealed
    pub records : recs (history_of after) ≡ recs (history_of look) ++ more
    pub are : noted (history_of after) ≡ noted (history_of before) ++ lines

  pub came_none : Grows look after → after.own ≡ look.own → Came []
  came_none h same =
      let came = quiet before look after g own h same gains in
      let there : noted (history_of look) ≡ noted (history_of before) = ap noted (grown before look g) ∙
      noted_same (history_of before) (entries_of g.items.rest) came.0 in
      record {
        at_look = there;
        more = recs (entries_of h.items.rest);
        records = ap recs (grown look after h) ∙ recs_both (history_of look) (entries_of h.items.rest);
        are = ap noted (grown look after h) ∙ noted_same (history_of look) (entries_of h.items.rest) came.1 ∙ there ∙
            sym (append-nil (noted (history_of before)));
      }

  came_stays : after ≡ look → Came []
  came_stays e = came_none (stays look after g.legal e) (ap (λ (s : Sight). s.own) e)

  pub came_lines : (lines : List Line) → AddsOwn look after (λ (items : List Item). item.Entry (notes_behind items lines)) → Came
      lines
  came_lines lines a =
      let came = beside before look after (λ (items : List Item). item.Entry (notes_behind items lines)) g own a gains in
      let now = history_of look in
      let more = entries_of a.others in
      let entry : Entry = notes_behind (look.items ++ a.others) lines in
      let is : history_of after ≡ (now ++ more) ++ entry ∷ [] = ap entries_of a.items ∙
      entries_both (look.items ++ a.others) (item.Entry entry ∷ []) ∙
      ap (λ (es : List Entry). es ++ entry ∷ []) (entries_both look.items a.others) in
      let there : noted now ≡ noted (history_of before) = ap noted (grown before look g) ∙
      noted_same (history_of before) (entries_of g.items.rest) came.0 in
      record {
        at_look = there;
        more = recs more;
        records = ap recs is ∙ recs_both (now ++ more) (entry ∷ []) ∙ append-nil (recs (now ++ more)) ∙ recs_both now more;
        are = ap noted is ∙ flat_map-append lines_in (now ++ more) (entry ∷ []) ∙
            ap (λ (ls : List Line). noted (now ++ more) ++ ls) (append-nil lines) ∙
            ap (λ (ls : List Line). ls ++ lines) (noted_same now more came.1 ∙ there);
      }

  pub came_stop : (faults : ℕ) (lines : List Line) → AddsOwn look after (λ (items : List Item). item.Stop faults
      (notes_behind items lines)) → Came []
  came_stop faults lines a =
      let came = beside before look after (λ (items : List Item). item.Stop faults (notes_behind items lines)) g own a gains
      in
      let now = history_of look in
      let more = entries_of a.others in
      let is : history_of after ≡ now ++ more = ap entries_of a.items ∙
      entries_both (look.items ++ a.others) (item.Stop faults (notes_behind (look.items ++ a.others) lines) ∷ []) ∙
      append-nil (entries_of (look.items ++ a.others)) ∙ entries_both look.items a.others in
      let there : noted now ≡ noted (history_of before) = ap noted (grown before look g) ∙
      noted_same (history_of before) (entries_of g.items.rest) came.0 in
      record {
        at_look = there;
        more = recs more;
        records = ap recs is ∙ recs_both now more;
        are = ap noted is ∙ noted_same now more came.1 ∙ there ∙ sym (append-nil (noted (history_of before)));
      }

  came_fault : (lines : List Line) (fault : StoreFault) → Grows look after → NotedBy look after lines (Err fault) → Came []
  came_fault lines store.DiskFault h n = came_stop n.faults lines n.adds
  came_fault lines (store.Stopped faults) h n = came_none h n.own
  came_fault lines store.NoMemory h n = came_none h n

  -- they are what the message says
  all_is : (m : Message) (lines : List Line) → Came lines → lines_said m ≡ lines → noted (history_of after) ≡
      noted (history_of before) ++ all_said (m ∷ [])
  all_is m lines c said = c.are ∙ ap (λ (ls : List Line). noted (history_of before) ++ ls) (sym said ∙
      sym (append-nil (lines_said m)))

  missed : (m : Message) → Came [] → MissesLast (noted (history_of before)) (noted (history_of after)) (m ∷ [])
  missed m c = record { front = []; last = m; is = refl; noted = c.are }

  spoken : (m : Message) (lines : List Line) (answer : Result (Unit {0}) DrainFault) → Came lines →
      AreNoted (noted (history_of before)) (noted (history_of after)) (m ∷ []) answer → Spoken before look after m answer
  spoken m lines answer c are = record { at_look = c.at_look; more = c.more; records = c.records; lines = are }

  notes_end : (m : Message) (P : List Line → Type 0) (result : Result Turn SendFault) (doubt : Bool) →
      ((lines : List Line) → P lines → lines_said m ≡ lines) → NotesEnd P look after result doubt →
      Spoken before look after m (sending_end result)
  notes_end m P (Ok (Noted n)) doubt said ends =
      let c = came_lines ends.0.lines ends.0.noted in
      spoken m ends.0.lines (Ok tt) c (all_is m ends.0.lines c (said ends.0.lines ends.0.are))
  notes_end m P (Err (send.Store fault)) doubt said ends =
      let c = came_fault ends.0.1.lines fault ends.0.1.grows ends.0.1.noted in
      spoken m [] (Err (drain.Store fault)) c (missed m c)
  notes_end m P (Err send.NoMemory) doubt said ends =
      let c = came_stays ends.0 in
      spoken m [] (Err drain.NoMemory) c (inr (missed m c))
  notes_end m P _ doubt said ends = absurd ends

  -- a message that says no lines
  says_none : (m : Message) (result : Result Turn SendFault) → result ≡ Err send.LinkFault → lines_said m ≡ [] → after ≡ look →
      Spoken before look after m (sending_end result)
  says_none m result is said same =
      let c = came_stays same in
      subst (λ (r : Result Turn SendFault). Spoken before look after m (sending_end r)) (sym is)
      (spoken m [] (Ok tt) c (all_is m [] c said))

  lacks_memory : (m : Message) (result : Result Turn SendFault) → result ≡ Err send.NoMemory → after ≡ look →
      Spoken before look after m (sending_end result)
  lacks_memory m result is same =
      let c = came_stays same in
      subst (λ (r : Result Turn SendFault). Spoken before look after m (sending_end r)) (sym is)
      (spoken m [] (Err drain.NoMemory) c (inr (missed m c)))

  seen_end : (said : Option Replied) (shown : Waiting) (seen : List Seen) (result : Result Turn SendFault) (doubt : Bool) →
      SeenEnds said shown seen look after result doubt →
      Spoken before look after (Consulted (named_of shown.list) (Ok seen)) (sending_end result)
  seen_end said shown seen (Ok Cleared) doubt ends =
      let m = Consulted (named_of shown.list) (Ok seen) in
      let c = came_stays ends.1 in
      spoken m [] (Ok tt) c (all_is m [] c (front_said (named_of shown.list) seen [] ends.0.0))
  seen_end said shown seen (Err (send.Contradiction evidence)) doubt ends =
      let m = Consulted (named_of shown.list) (Ok seen) in
      let c = came_stays ends.1 in
      spoken m [] (Err (drain.Contradiction evidence)) c (missed m c)
  seen_end said shown seen (Ok (Noted n)) doubt ends =
      notes_end (Consulted (named_of shown.list) (Ok seen)) _ (Ok (Noted n)) doubt
      (λ lines is. front_said (named_of shown.list) seen lines is.0) ends
  seen_end said shown seen (Err (send.Store fault)) doubt ends =
      notes_end (Consulted (named_of shown.list) (Ok seen)) _ (Err (send.Store fault)) doubt
      (λ lines is. front_said (named_of shown.list) seen lines is.0) ends
  seen_end said shown seen (Err send.NoMemory) doubt ends =
      lacks_memory (Consulted (named_of shown.list) (Ok seen)) (Err send.NoMemory) refl ends.0
  seen_end said shown seen _ doubt ends = absurd ends

  reply_end : (shown : Waiting) (reply : Replied) (result : Result Turn SendFault) (doubt : Bool) → Names reply shown.list →
      ReplyEnds shown reply look after result doubt →
      Spoken before look after (Submitted shown.list (Ok reply)) (sending_end result)
  reply_end shown reply (Ok (Doubt place)) doubt names ends =
      let m = Submitted shown.list (Ok reply) in
      let c = came_stays ends.1 in
      spoken m [] (Ok tt) c (all_is m [] c (doubt_said shown.list reply ends.0.index ends.0.again))
  reply_end shown reply (Ok (Noted n)) doubt names ends =
      notes_end (Submitted shown.list (Ok reply)) _ (Ok (Noted n)) doubt
      (λ lines is. reply_said shown.list reply lines names is) ends
  reply_end shown reply (Err (send.Store fault)) doubt names ends =
      notes_end (Submitted shown.list (Ok reply)) _ (Err (send.Store fault)) doubt
      (λ lines is. reply_said shown.list reply lines names is) ends
  reply_end shown reply (Err send.NoMemory) doubt names ends =
      lacks_memory (Submitted shown.list (Ok reply)) (Err send.NoMemory) refl ends.0
  reply_end shown reply _ doubt names ends = absurd ends

  -- one message was said
  one_said : (m : Message) (old new : List Message) (answer : Result (Unit {0}) DrainFault) → new ≡ old ++ m ∷ [] →
      (s : Spoken before look after m answer) → IsOfFirst (drop (length (noted (history_of before))) (recs (history_of after))) m →
      length (lines_said m) ≤ count_named m → NotesSaid (history_of before) (history_of after) old new answer
  one_said m old new answer is s first few = record {
    session = m ∷ [];
    is = is;
    of_waiting = (first, few, tt);
    lines = s.lines;
  }

  -- nothing was said
  silent : (old new : List Message) (result : Result Turn SendFault) → new ≡ old → after ≡ look →
      AreNoted (noted (history_of before)) (noted (history_of before)) [] (sending_end result) →
      NotesSaid (history_of before) (history_of after) old new (sending_end result)
  silent old new result same stays are = record {
    session = [];
    is = same ∙ sym (append-nil old);
    of_waiting = tt;
    lines = subst (λ (ls : List Line). AreNoted (noted (history_of before)) ls [] (sending_end result))
        (sym ((came_stays stays).are ∙ append-nil (noted (history_of before)))) are;
  }

  rest_noted : (old : Sending) (now : ℕ) (shown : Waiting) (ls : List Line) (result : Result Turn SendFault) →
      RestEnds old now shown result → AreNoted ls ls [] (sending_end result)
  rest_noted old now shown ls (Ok (Idle records)) ends = sym (append-nil ls)
  rest_noted old now shown ls (Ok (WaitUntil at)) ends = sym (append-nil ls)
  rest_noted old now shown ls (Err send.NoMemory) ends = inl (sym (append-nil ls))
  rest_noted old now shown ls _ ends = absurd ends

  module _ (shown : Waiting) (shows : ShowsWaiting look 1000 shown) where
    batch_first : (m : Message) (answer : Result (Unit {0}) DrainFault) → Spoken before look after m answer →
        IsPrefix shown.list (drop (length (noted (history_of before))) (recs (history_of after)))
    batch_first m answer s = of_first shown.list (recs (history_of look)) (recs (history_of after)) s.more
        (length (noted (history_of look))) (length (noted (history_of before))) shows.first s.records
        (ap (λ (ls : List Line). length ls) s.at_look)

    asked_first : (m : Message) (answer : Result (Unit {0}) DrainFault) → Spoken before look after m answer →
        AsksForFirst (drop (length (noted (history_of before))) (recs (history_of after))) (named_of shown.list)
    asked_first m answer s = record { batch = shown.list; first = batch_first m answer s; is = refl }

    deed_notes : (kind : AgencyKind) (agency_state agency_state_then : AgencyState) (old new : Sending) (now : ℕ) (result : Result Turn SendFault)
        (deed : Deed) → IsTrue kind.tells → Dealt kind agency_state agency_state_then shown deed →
        Ends old now shown look after deed result new →
        NotesSaid (history_of before) (history_of after) agency_state.ledger.messages agency_state_then.ledger.messages (sending_end result)
    deed_notes kind agency_state agency_state_then old new now result Nothing tells dealt ends =
        silent agency_state.ledger.messages agency_state_then.ledger.messages result (ap (λ (d : AgencyState). d.ledger.messages) dealt) ends.2
        (rest_noted old now shown (noted (history_of before)) result ends.0)
    deed_notes kind agency_state agency_state_then old new now result (Asked (Ok seen)) tells dealt ends =
        let m = Consulted (named_of shown.list) (Ok seen) in
        let s = seen_end old.said shown seen result new.doubt ends.2.3 in
        one_said m agency_state.ledger.messages agency_state_then.ledger.messages (sending_end result) (dealt.1 tells).messages s
        (asked_first m (sending_end result) s) (few_seen shown.list seen ends.2.0)
    deed_notes kind agency_state agency_state_then old new now result (Asked (Err agency.Failed)) tells dealt ends =
        let m = Consulted (named_of shown.list) (Err agency.Failed) in
        let s = says_none m result ends.2.0 refl ends.2.2 in
        one_said m agency_state.ledger.messages agency_state_then.ledger.messages (sending_end result) (dealt.1 tells).messages s
        (asked_first m (sending_end result) s) (few_none m refl)
    deed_notes kind agency_state agency_state_then old new now result (Asked (Err agency.NoMemory)) tells dealt ends =
        silent agency_state.ledger.messages agency_state_then.ledger.messages result (ap (λ (l : Ledger). l.messages) (dealt.1 tells)) ends.2.2
        (subst (λ (r : Result Turn SendFault). AreNoted (noted (history_of before)) (noted (history_of before)) [] (sending_end
        r)) (sym ends.2.0) (inl (sym (append-nil (noted (history_of before))))))
    deed_notes kind agency_state agency_state_then old new now result (Handed (Ok reply)) tells dealt ends =
        let m = Submitted shown.list (Ok reply) in
        elim ends.3 [
          | inl r ↦ (let s = reply_end shown reply result new.doubt r.names r.ends in
              one_said m agency_state.ledger.messages agency_state_then.ledger.messages (sending_end result) (dealt.2 tells).messages s
              (batch_first m (sending_end result) s) (few_replied shown.list reply r.names r.matched))
          | inr r ↦ (let s = says_none m result r.result_is (stale_said shown.list reply r.names_not) r.after_is in
              one_said m agency_state.ledger.messages agency_state_then.ledger.messages (sending_end result) (dealt.2 tells).messages s
              (batch_first m (sending_end result) s) (few_none m (stale_said shown.list reply r.names_not)))
        ]
    deed_notes kind agency_state agency_state_then old new now result (Handed (Err agency.Failed)) tells dealt ends =
        let m = Submitted shown.list (Err agency.Failed) in
        let s = says_none m result ends.3.0 refl ends.3.2 in
        one_said m agency_state.ledger.messages agency_state_then.ledger.messages (sending_end result) (dealt.2 tells).messages s
        (batch_first m (sending_end result) s) (few_none m refl)
    deed_notes kind agency_state agency_state_then old new now result (Handed (Err agency.NoMemory)) tells dealt ends =
        let m = Submitted shown.list (Err agency.NoMemory) in
        elim (dealt.2 tells) [
          | inl none ↦ silent agency_state.ledger.messages agency_state_then.ledger.messages result none.messages ends.3.2
              (subst (λ (r : Result Turn SendFault). AreNoted (noted (history_of before)) (noted (history_of before)) []
              (sending_end r)) (sym ends.3.0) (inl (sym (append-nil (noted (history_of before))))))
          | inr over ↦ (let s = lacks_memory m result ends.3.0 ends.3.2 in
              one_said m agency_state.ledger.messages agency_state_then.ledger.messages (sending_end result) over.messages s
              (batch_first m (sending_end result) s) (few_none m refl))
        ]

-- what a turn notes, where the shop gained no notes but its own
pub turn_notes : CameQuietly → CameBesideOwn → (kind : AgencyKind) (agency_state agency_state_then : AgencyState) (before after : Sight) (old new : Sending) (now : ℕ)
    (result : Result Turn SendFault) → Turned (turn_call kind agency_state agency_state_then before after old new now result) → IsTrue kind.tells →
    GainsOwnNotes before after →
    NotesSaid (history_of before) (history_of after) agency_state.ledger.messages agency_state_then.ledger.messages (sending_end result)
turn_notes quiet beside kind agency_state agency_state_then before after old new now result t tells gains =
    deed_notes quiet beside before t.look after t.grows t.own gains t.shown t.shows kind agency_state agency_state_then old new now result t.deals.deed tells
    t.deals.dealt t.deals.ends
