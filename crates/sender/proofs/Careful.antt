-- A turn hands no record over in the dark.
use Rattle.std.proofs.Common.{◌≡◌, inl, inr, ℕ, zero, ◌+◌, List, [], ◌∷◌, ◌++◌, sym, ◌∙◌, ap, subst, length, length-append, map}
use Rattle.std.proofs.Common.{take, drop, ◌≤◌, arith, append_assoc, append-nil, Option, Result, Ok, Err, true, false, Bool}
use Rattle.std.proofs.Common.{IsTrue}
use Rattle.std.proofs.lemmas.List.{map-append, length-take, length-map, length-replicate, take-append-drop}
use Rattle.std.proofs.lemmas.List.Elements.{filter_map-append}
use Rattle.std.proofs.lemmas.Grind.{flat_map-append}
use Rattle.record_fields.specs.declared.versions.Version.{Version}
use Rattle.record_fields.specs.declared.records.Sealed.{Sealed}
use Rattle.record_fields.specs.declared.lines.Line.{Line}
use Rattle.huella.specs.Linked.{Linked}
use Rattle.record_codec.specs.declared.entry.Entry.{Entry}
use Rattle.shop_core.specs.History.{Row, recs, rows, noted, waiting, row_in, lines_in}
use Rattle.shop_core.specs.Items.{entries_of}
use Rattle.shop_core.specs.declared.items.Item.{Item}
use Rattle.shop_core.specs.declared.items.Item.TheVariants as recorded
use Rattle.shop_core.specs.Legal.{Legal}
use Rattle.shop_core.specs.declared.waiting.Waiting.{Waiting}
use Rattle.batches.specs.Batches.{Named, huellas_of, named_of}
use Rattle.agency_port.specs.Reply.{Replied}
use Rattle.agency_port.specs.Messages.{batch_in, batches_in}
use Rattle.agency_port.specs.Ledger.{Ledger}
use Rattle.agency_port.specs.declared.messages.Message.{Message}
use Rattle.agency_port.specs.declared.messages.Message.TheVariants.{Submitted, Consulted}
use Rattle.agency_port.specs.declared.answers.Seen.{Seen}
use Rattle.agency_port.specs.declared.answers.Seen.TheVariants.{NotSeen, Was}
use Rattle.agency_port.specs.declared.answers.AgencyFault.{AgencyFault}
use Rattle.agency_port.specs.declared.answers.AgencyFault.TheVariants as agency
use Rattle.consultation.specs.Sorting.{unseen_ones, IsFront}
use Rattle.once_world.specs.Outbox.{Sight, Grows, ShowsWaiting, AddsOwn, history_of, notes_behind}
use Rattle.sender.specs.declared.answers.Turn.{Turn}
use Rattle.sender.specs.declared.answers.Turn.TheVariants.{Noted, Cleared, Doubt}
use Rattle.sender.specs.declared.answers.SendFault.{SendFault}
use Rattle.sender.specs.declared.answers.SendFault.TheVariants.{Contradiction, Store, NoMemory}
use Rattle.sender.specs.Sending.{Sending}
use Rattle.sender.specs.Turning.{Deed, Nothing, Asked, Handed, AgencyKind, AgencyState, Dealt, SeenEnds, ReplyEnds, Ends, Turned, turn_call}
use Rattle.sender.specs.Dark.{AreLight, NoneInTheDark, IsRunBy, AreRunsBy}
use Rattle.sender.specs.Agreeing.{IsCareful}
use Rattle.sender.proofs.Lists.{all_take, all_drop_later}
use Rattle.sender.proofs.Histories.{grown, entries_both, stays}
use Rattle.sender.proofs.Ending.{as_many}
use Rattle.sender.proofs.Darkness.{AreDistinct, none_more, runs_more, light_grows, light_handed, light_looked, runs_handed}

abbrev pub AreLinked : Type 0
AreLinked = (version : Version) (issuer : List ℕ) (entries : List Entry) → Legal version issuer entries →
    Linked issuer (recs entries)

distinct : AreLinked → (version : Version) (issuer : List ℕ) (entries : List Entry) → Legal version issuer entries →
    AreDistinct (recs entries)
distinct linked version issuer entries legal before after s e = (linked version issuer entries legal before after s e).new

pub recs_both : (xs ys : List Entry) → recs (xs ++ ys) ≡ recs xs ++ recs ys
recs_both xs ys = ap (λ (rs : List Row). map (λ (r : Row). r.sealed) rs) (filter_map-append row_in xs ys) ∙
    map-append (λ (r : Row). r.sealed) (rows xs) (rows ys)

noted_both : (xs ys : List Entry) → noted (xs ++ ys) ≡ noted xs ++ noted ys
noted_both xs ys = flat_map-append lines_in xs ys

-- what a shop that grew gained
record Gained (before after : Sight) : Type 0 where
  more : List Sealed
  records : recs (history_of after) ≡ recs (history_of before) ++ more
  noted_more : length (noted (history_of before)) ≤ length (noted (history_of after))

gained : (before after : Sight) → Grows before after → Gained before after
gained before after g =
    let rest = entries_of g.items.rest in
    let is : history_of after ≡ history_of before ++ rest = grown before after g in
    let n = ap (λ (es : List Entry). length (noted es)) is ∙ ap length (noted_both (history_of before) rest) ∙
    length-append (noted (history_of before)) (noted rest) in
    record { more = recs rest; records = ap recs is ∙ recs_both (history_of before) rest; noted_more = omega arith }

abbrev AreRunsAt : Sight → List Message → Type 0
AreRunsAt s messages = AreRunsBy (recs (history_of s)) (length (noted (history_of s)) + 1000) (batches_in messages)

runs_later : (before after : Sight) (messages : List Message) → Grows before after → AreRunsAt before messages →
    AreRunsAt after messages
runs_later before after messages g runs =
    let m = gained before after g in
    let le = m.noted_more in
    subst (λ (xs : List Sealed). AreRunsBy xs (length (noted (history_of after)) + 1000) (batches_in messages)) (sym m.records)
    (runs_more (recs (history_of before)) m.more (length (noted (history_of before)) + 1000) (length (noted (history_of after)) +
    1000) (batches_in messages) (omega arith) runs)

light_later : AreLinked → (before after : Sight) (messages : List Message) (j : ℕ) → Grows before after →
    AreRunsAt before messages → j ≤ length (noted (history_of after)) → AreLight messages (drop j (recs (history_of before))) →
    AreLight messages (waiting (history_of after))
light_later linked before after messages j g runs le light =
    let m = gained before after g in
    let whole : AreDistinct (recs (history_of before) ++ m.more) = subst (λ (xs : List Sealed). AreDistinct xs) m.records
    (distinct linked after.version after.issuer (history_of after) g.legal) in
    subst (λ (xs : List Sealed). AreLight messages (drop (length (noted (history_of after))) xs)) (sym m.records)
    (light_grows (recs (history_of before)) m.more (length (noted (history_of before)) + 1000) j
    (length (noted (history_of after))) messages whole runs le light)

-- the end of a turn, by what is known at its look
careful_after : AreLinked → (past : List Message) (look after : Sight) (messages : List Message) (new : Sending)
    (session : List Message) (j : ℕ) → messages ≡ past ++ session → NoneInTheDark past session → AreRunsAt look messages →
    Grows look after →
    (new.doubt ≡ false → (j ≤ length (noted (history_of after))) × AreLight messages (drop j (recs (history_of look)))) →
    IsCareful past after messages new
careful_after linked past look after messages new session j is never runs g light = record {
  session = session;
  is = is;
  never = never;
  legal = g.legal;
  runs = runs_later look after messages g runs;
  light = λ e. light_later linked look after messages j g runs (light e).0 (light e).1;
}

pub in_doubt : {P : Type 0} (b : Bool) → b ≡ true → b ≡ false → P
in_doubt b t f = absurd (let q : true ≡ false = sym t ∙ f in cc)

-- at the look
record AtLook (past : List Message) (look : Sight) (messages : List Message) (old : Sending) : Type 0 where
  session : List Message
  is : messages ≡ past ++ session
  never : NoneInTheDark past session
  runs : AreRunsAt look messages
  light : old.doubt ≡ false → AreLight messages (waiting (history_of look))

at_look : AreLinked → (past : List Message) (before look : Sight) (messages : List Message) (old : Sending) → Grows before look →
    IsCareful past before messages old → AtLook past look messages old
at_look linked past before look messages old g care = record {
  session = care.session;
  is = care.is;
  never = care.never;
  runs = runs_later before look messages g care.runs;
  light = λ e. light_later linked before look messages (length (noted (history_of before))) g care.runs
      (gained before look g).noted_more (care.light e);
}

-- one message more, which hands nothing over
runs_asked : (look : Sight) (messages : List Message) (asked : Named) (answer : Result (List Seen) AgencyFault) →
    AreRunsAt look messages → AreRunsAt look (messages ++ Consulted asked answer ∷ [])
runs_asked look messages asked answer runs =
    subst (λ (bs : List (List Sealed)). AreRunsBy (recs (history_of look)) (length (noted (history_of look)) + 1000) bs)
    (sym (filter_map-append batch_in messages (Consulted asked answer ∷ []) ∙ append-nil (batches_in messages))) runs

one_more : (past messages session : List Message) (m : Message) → messages ≡ past ++ session → messages ++ m ∷ [] ≡ past ++
    (session ++ m ∷ [])
one_more past messages session m is = ap (λ (ms : List Message). ms ++ m ∷ []) is ∙ append_assoc past session (m ∷ [])

asked_after : AreLinked → (past : List Message) (look after : Sight) (messages : List Message) (old new : Sending)
    (asked : Named) (answer : Result (List Seen) AgencyFault) (j : ℕ) → AtLook past look messages old →
    Grows look after →
    (new.doubt ≡ false → (j ≤ length (noted (history_of after))) × AreLight (messages ++ Consulted asked answer ∷ [])
    (drop j (recs (history_of look)))) → IsCareful past after (messages ++ Consulted asked answer ∷ []) new
asked_after linked past look after messages old new asked answer j a g light =
    careful_after linked past look after (messages ++ Consulted asked answer ∷ []) new (a.session ++ Consulted asked answer ∷
    []) j (one_more past messages a.session (Consulted asked answer) a.is)
    (none_more past a.session (Consulted asked answer) a.never tt) (runs_asked look messages asked answer a.runs) g light

silent_after : AreLinked → (past : List Message) (look after : Sight) (messages : List Message) (old new : Sending) →
    AtLook past look messages old → Grows look after → new.doubt ≡ true → IsCareful past after messages new
silent_after linked past look after messages old new a g doubt = careful_after linked past look after messages new a.session zero
    a.is a.never a.runs g (λ e. in_doubt new.doubt doubt e)

-- what the notes of a turn add to what is noted
pub noted_by : (look after : Sight) (lines : List Line) → AddsOwn look after (λ (items : List Item). recorded.Entry
    (notes_behind items lines)) → length (noted (history_of look)) + length lines ≤ length (noted (history_of after))
noted_by look after lines a =
    let notes : Entry = notes_behind (look.items ++ a.others) lines in
    let is : history_of after ≡ (history_of look ++ entries_of a.others) ++ notes ∷ [] =
    ap entries_of a.items ∙ entries_both (look.items ++ a.others) (recorded.Entry notes ∷ []) ∙
    ap (λ (es : List Entry). es ++ notes ∷ []) (entries_both look.items a.others) in
    let n = ap (λ (es : List Entry). length (noted es)) is ∙ ap length (noted_both (history_of look ++ entries_of a.others)
    (notes ∷ []) ∙ ap (λ (ls : List Line). ls ++ noted (notes ∷ [])) (noted_both (history_of look) (entries_of a.others))) in
    let own : noted (notes ∷ []) ≡ lines = append-nil lines in
    let o = ap length own in
    omega (
      arith,
      n,
      o,
      length-append (noted (history_of look) ++ noted (entries_of a.others)) (noted (notes ∷ [])),
      length-append (noted (history_of look)) (noted (entries_of a.others)),
    )

-- what a consultation of all that is shown clears
looked_light : AreLinked → (look : Sight) (shown : Waiting) (messages : List Message) (seen : List Seen) (lines : List Line) →
    Legal look.version look.issuer (history_of look) → ShowsWaiting look 1000 shown → AreRunsAt look messages →
    length seen ≡ length shown.list
    → IsFront seen lines →
    AreLight (messages ++ Consulted (named_of shown.list) (Ok seen) ∷ [])
    (drop (length (noted (history_of look)) + length lines) (recs (history_of look)))
looked_light linked look shown messages seen lines legal shows runs count front =
    let records = recs (history_of look) in
    let k = length (noted (history_of look)) in
    let first = take 1000 (drop k records) in
    let e : length first ≡ length lines + front.rest =
    (let a = ap length shows.first in let b = ap length front.is in
    omega (
      arith,
      a,
      b,
      count,
      length-append (map Was lines) (unseen_ones front.rest),
      length-map lines Was,
      length-replicate
          front.rest NotSeen,
    )) in
    let l = light_looked records k 1000 messages lines front.rest (distinct linked look.version look.issuer
    (history_of look) legal) runs e in
    subst (λ (xs : List Sealed). AreLight (messages ++ Consulted (named_of xs) (Ok seen) ∷ [])
    (drop (k + length lines) records)) (sym shows.first)
    (subst (λ (xs : List Seen). AreLight (messages ++ Consulted (named_of first) (Ok xs) ∷ [])
    (drop (k + length lines) records)) (sym front.is) l)

seen_after : AreLinked → (past : List Message) (look after : Sight) (shown : Waiting) (messages : List Message)
    (old new : Sending) (said : Option Replied) (seen : List Seen) (result : Result Turn SendFault) →
    Legal look.version look.issuer (history_of look) → ShowsWaiting look 1000 shown → AtLook past look messages old →
    length seen ≡ length shown.list → SeenEnds said shown seen look after result new.doubt →
    IsCareful past after (messages ++ Consulted (named_of shown.list) (Ok seen) ∷ []) new
seen_after linked past look after shown messages old new said seen (Ok (Noted n)) legal shows a count ends =
    let notes = ends.0 in
    asked_after linked past look after messages old new (named_of shown.list) (Ok seen) (length (noted (history_of look)) +
    length notes.lines) a notes.grows
    (λ e. (
      noted_by look after notes.lines notes.noted,
      looked_light linked look shown messages seen notes.lines legal shows
          a.runs count notes.are.0,
    ))
seen_after linked past look after shown messages old new said seen (Ok Cleared) legal shows a count ends =
    let h : history_of after ≡ history_of look = ap history_of ends.1 in
    let n = ap (λ (es : List Entry). length (noted es)) h in
    asked_after linked past look after messages old new (named_of shown.list) (Ok seen) (length (noted (history_of look)) +
    length {A = Line} []) a (stays look after legal ends.1)
    (λ e. (omega (arith, n), looked_light linked look shown messages seen [] legal shows a.runs count ends.0.0))
seen_after linked past look after shown messages old new said seen (Err (Contradiction evidence)) legal shows a count ends =
    asked_after linked past look after messages old new (named_of shown.list) (Ok seen) zero a (stays look after legal ends.1)
    (λ e. in_doubt new.doubt ends.2 e)
seen_after linked past look after shown messages old new said seen (Err (Store fault)) legal shows a count ends =
    asked_after linked past look after messages old new (named_of shown.list) (Ok seen) zero a ends.0.1.grows
    (λ e. in_doubt new.doubt ends.1 e)
seen_after linked past look after shown messages old new said seen (Err NoMemory) legal shows a count ends =
    asked_after linked past look after messages old new (named_of shown.list) (Ok seen) zero a (stays look after legal ends.0)
    (λ e. in_doubt new.doubt ends.1 e)
seen_after linked past look after shown messages old new said seen _ legal shows a count ends = absurd ends

-- all that is shown is a run that ends so far past the noted ones
shown_run : (look : Sight) (shown : Waiting) (to : ℕ) → ShowsWaiting look 1000 shown → length (noted (history_of look)) + length
    shown.list ≤ to → IsRunBy (recs (history_of look)) shown.list to
shown_run look shown to shows le =
    let records = recs (history_of look) in
    let k = length (noted (history_of look)) in
    let split : records ≡ take k records ++ (take 1000 (drop k records) ++ drop 1000 (drop k records)) =
    sym (take-append-drop k records) ∙ ap (λ (xs : List Sealed). take k records ++ xs)
    (sym (take-append-drop 1000 (drop k records))) in
    record {
      before = take k records;
      after = drop 1000 (drop k records);
      run = split ∙ ap (λ (xs : List Sealed). take k records ++ (xs ++ drop 1000 (drop k records))) (sym shows.first);
      ends = omega (arith, length-take k records);
    }

handed_after : AreLinked → (past : List Message) (look after : Sight) (shown : Waiting) (messages : List Message)
    (old new : Sending) (answer : Result Replied AgencyFault) (j : ℕ) → ShowsWaiting look 1000 shown →
    AtLook past look messages old → old.doubt ≡ false → Grows look after →
    (new.doubt ≡ false → (j ≤ length (noted (history_of after))) × AreLight (messages ++ Submitted shown.list answer ∷ [])
    (drop j (recs (history_of look)))) → IsCareful past after (messages ++ Submitted shown.list answer ∷ []) new
handed_after linked past look after shown messages old new answer j shows a doubt g light =
    let batch = shown.list in
    let few : length batch ≤ 1000 = (let e = ap length shows.first in
    omega (arith, e, length-take 1000 (waiting (history_of look)))) in
    let light_batch : AreLight messages batch = subst (λ (xs : List Sealed). AreLight messages xs) (sym shows.first)
    (all_take _ 1000 (waiting (history_of look)) (a.light doubt)) in
    let run = shown_run look shown (length (noted (history_of look)) + 1000) shows (omega arith) in
    careful_after linked past look after (messages ++ Submitted batch answer ∷ []) new (a.session ++ Submitted batch answer ∷ [])
    j (one_more past messages a.session (Submitted batch answer) a.is)
    (none_more past a.session (Submitted batch answer) a.never (subst (λ (ms : List Message). AreLight ms batch) a.is
    light_batch))
    (runs_handed (recs (history_of look)) (length (noted (history_of look)) + 1000) messages batch answer a.runs run) g light

replied_light : AreLinked → (look : Sight) (shown : Waiting) (messages : List Message) (answer : Result Replied AgencyFault)
    (n : ℕ) → Legal look.version look.issuer (history_of look) → ShowsWaiting look 1000 shown → n ≡ length shown.list →
    AreLight messages (waiting (history_of look)) →
    AreLight (messages ++ Submitted shown.list answer ∷ []) (drop (length (noted (history_of look)) + n) (recs (history_of look)))
replied_light linked look shown messages answer n legal shows count light =
    let k = length (noted (history_of look)) in
    light_handed (recs (history_of look)) shown.list (k + n) messages answer
    (distinct linked look.version look.issuer (history_of look) legal)
    (shown_run look shown (k + n) shows (omega arith))
    (all_drop_later _ k (k + n) (recs (history_of look)) (omega arith) light)

reply_after : AreLinked → (past : List Message) (look after : Sight) (shown : Waiting) (messages : List Message)
    (old new : Sending) (reply : Replied) (result : Result Turn SendFault) →
    Legal look.version look.issuer (history_of look) → ShowsWaiting look 1000 shown → AtLook past look messages old →
    old.doubt ≡ false →
    (reply.huellas ≡ huellas_of shown.list) → length reply.lines ≡ length reply.huellas → ReplyEnds shown reply look after
    result new.doubt →
    IsCareful past after (messages ++ Submitted shown.list (Ok reply) ∷ []) new
reply_after linked past look after shown messages old new reply (Ok (Noted n)) legal shows a doubt names matched ends =
    let notes = ends.0 in
    let many = as_many reply shown.list notes.lines names matched notes.are in
    handed_after linked past look after shown messages old new (Ok reply) (length (noted (history_of look)) + length notes.lines)
    shows a doubt notes.grows
    (λ e. (
      noted_by look after notes.lines notes.noted,
      replied_light linked look shown messages (Ok reply) (length notes.lines)
          legal shows many (a.light doubt),
    ))
reply_after linked past look after shown messages old new reply (Ok (Doubt place)) legal shows a doubt names matched ends =
    handed_after linked past look after shown messages old new (Ok reply) zero shows a doubt (stays look after legal ends.1)
    (λ e. in_doubt new.doubt ends.2 e)
reply_after linked past look after shown messages old new reply (Err (Store fault)) legal shows a doubt names matched ends =
    handed_after linked past look after shown messages old new (Ok reply) zero shows a doubt ends.0.1.grows
    (λ e. in_doubt new.doubt ends.1 e)
reply_after linked past look after shown messages old new reply (Err NoMemory) legal shows a doubt names matched ends =
    handed_after linked past look after shown messages old new (Ok reply) zero shows a doubt (stays look after legal ends.0)
    (λ e. in_doubt new.doubt ends.1 e)
reply_after linked past look after shown messages old new reply _ legal shows a doubt names matched ends = absurd ends

with_messages : (past : List Message) (after : Sight) (messages then : List Message) (new : Sending) → then ≡ messages →
    IsCareful past after messages new → IsCareful past after then new
with_messages past after messages then new e care = subst (λ (ms : List Message). IsCareful past after ms new) (sym e) care

deed_careful : AreLinked → (past : List Message) (kind : AgencyKind) (agency_state agency_state_then : AgencyState) (before look after : Sight)
    (shown : Waiting) (old new : Sending) (now : ℕ) (result : Result Turn SendFault) (deed : Deed) → IsTrue kind.tells →
    Grows before look → ShowsWaiting look 1000 shown → IsCareful past before agency_state.ledger.messages old →
    Dealt kind agency_state agency_state_then shown deed → Ends old now shown look after deed result new →
    IsCareful past after agency_state_then.ledger.messages new
deed_careful linked past kind agency_state agency_state_then before look after shown old new now result Nothing tells g shows care dealt ends =
    let a = at_look linked past before look agency_state.ledger.messages old g care in
    let h : history_of after ≡ history_of look = ap history_of ends.2 in
    let n = ap (λ (es : List Entry). length (noted es)) h in
    with_messages past after agency_state.ledger.messages agency_state_then.ledger.messages new (ap (λ (d : AgencyState). d.ledger.messages) dealt)
    (careful_after linked past look after agency_state.ledger.messages new a.session (length (noted (history_of look))) a.is a.never
    a.runs (stays look after g.legal ends.2)
    (λ e. (omega (arith, n), a.light (ap (λ (s : Sending). s.doubt) (sym ends.1) ∙ e))))
deed_careful linked past kind agency_state agency_state_then before look after shown old new now result (Asked (Ok seen)) tells g shows care dealt
    ends =
    let a = at_look linked past before look agency_state.ledger.messages old g care in
    let e = ends.2 in
    with_messages past after (agency_state.ledger.messages ++ Consulted (named_of shown.list) (Ok seen) ∷ []) agency_state_then.ledger.messages
    new (dealt.1 tells).messages
    (seen_after linked past look after shown agency_state.ledger.messages old new old.said seen result g.legal shows a e.0 e.3)
deed_careful linked past kind agency_state agency_state_then before look after shown old new now result (Asked (Err agency.Failed)) tells g shows
    care dealt ends =
    let a = at_look linked past before look agency_state.ledger.messages old g care in
    let e = ends.2 in
    let doubt : new.doubt ≡ true = ap (λ (s : Sending). s.doubt) e.1 ∙ ends.1 in
    with_messages past after (agency_state.ledger.messages ++ Consulted (named_of shown.list) (Err agency.Failed) ∷ [])
    agency_state_then.ledger.messages new (dealt.1 tells).messages
    (asked_after linked past look after agency_state.ledger.messages old new (named_of shown.list) (Err agency.Failed) zero a
    (stays look after g.legal e.2) (λ f. in_doubt new.doubt doubt f))
deed_careful linked past kind agency_state agency_state_then before look after shown old new now result (Asked (Err agency.NoMemory)) tells g
    shows care dealt ends =
    let a = at_look linked past before look agency_state.ledger.messages old g care in
    let e = ends.2 in
    let doubt : new.doubt ≡ true = ap (λ (s : Sending). s.doubt) e.1 ∙ ends.1 in
    with_messages past after agency_state.ledger.messages agency_state_then.ledger.messages new (ap (λ (l : Ledger). l.messages) (dealt.1 tells))
    (silent_after linked past look after agency_state.ledger.messages old new a (stays look after g.legal e.2) doubt)
deed_careful linked past kind agency_state agency_state_then before look after shown old new now result (Handed (Ok reply)) tells g shows care
    dealt ends =
    let a = at_look linked past before look agency_state.ledger.messages old g care in
    with_messages past after (agency_state.ledger.messages ++ Submitted shown.list (Ok reply) ∷ []) agency_state_then.ledger.messages new
    (dealt.2 tells).messages
    (elim ends.3 [
      | inl r ↦ reply_after linked past look after shown agency_state.ledger.messages old new reply result g.legal shows a ends.1 r.names
          r.matched r.ends
      | inr r ↦ handed_after linked past look after shown agency_state.ledger.messages old new (Ok reply) zero shows a ends.1
          (stays look after g.legal r.after_is) (λ f. in_doubt new.doubt (ap (λ (s : Sending). s.doubt) r.new_is) f)
    ])
deed_careful linked past kind agency_state agency_state_then before look after shown old new now result (Handed (Err agency.Failed)) tells g shows
    care dealt ends =
    let a = at_look linked past before look agency_state.ledger.messages old g care in
    let e = ends.3 in
    with_messages past after (agency_state.ledger.messages ++ Submitted shown.list (Err agency.Failed) ∷ []) agency_state_then.ledger.messages new
    (dealt.2 tells).messages
    (handed_after linked past look after shown agency_state.ledger.messages old new (Err agency.Failed) zero shows a ends.1
    (stays look after g.legal e.2) (λ f. in_doubt new.doubt (ap (λ (s : Sending). s.doubt) e.1) f))
deed_careful linked past kind agency_state agency_state_then before look after shown old new now result (Handed (Err agency.NoMemory)) tells g
    shows care dealt ends =
    let a = at_look linked past before look agency_state.ledger.messages old g care in
    let e = ends.3 in
    let doubt : new.doubt ≡ true = ap (λ (s : Sending). s.doubt) e.1 in
    elim (dealt.2 tells) [
      | inl s ↦ with_messages past after agency_state.ledger.messages agency_state_then.ledger.messages new s.messages
          (silent_after linked past look after agency_state.ledger.messages old new a (stays look after g.legal e.2) doubt)
      | inr s ↦ with_messages past after (agency_state.ledger.messages ++ Submitted shown.list (Err agency.NoMemory) ∷ [])
          agency_state_then.ledger.messages new s.messages
          (handed_after linked past look after shown agency_state.ledger.messages old new (Err agency.NoMemory) zero shows a ends.1
          (stays look after g.legal e.2) (λ f. in_doubt new.doubt doubt f))
    ]

pub turn_careful : AreLinked → (past : List Message) (kind : AgencyKind) (agency_state agency_state_then : AgencyState) (before after : Sight)
    (old new : Sending) (now : ℕ) (result : Result Turn SendFault) → Turned (turn_call kind agency_state agency_state_then before after old new now result) →
    IsTrue kind.tells → IsCareful past before agency_state.ledger.messages old → IsCareful past after agency_state_then.ledger.messages new
turn_careful linked past kind agency_state agency_state_then before after old new now result t tells care =
    deed_careful linked past kind agency_state agency_state_then before t.look after t.shown old new now result t.deals.deed tells t.grows t.shows
    care t.deals.dealt t.deals.ends
