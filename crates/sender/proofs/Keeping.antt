-- A turn with an agency that keeps its rules keeps agreement.
use Rattle.std.proofs.Common.{◌≡◌, ◌⊎◌, inl, inr, ℕ, List, [], ◌∷◌, ◌++◌, refl, sym, ◌∙◌, ap, subst, length, map, take, ◌≤◌}
use Rattle.std.proofs.Common.{arith, append-nil, Option, Some, None, Result, Ok, Err, Bool, IsTrue}
use Rattle.std.proofs.lemmas.Grind.{flat_map-append}
use Rattle.record_fields.specs.declared.records.Sealed.{Sealed}
use Rattle.record_fields.specs.declared.lines.Line.{Line}
use Rattle.record_codec.specs.declared.entry.Entry.{Entry}
use Rattle.record_codec.specs.declared.entry.Entry.TheVariants.{Rec, Notes as notes_of}
use Rattle.journal.specs.declared.faults.StoreFault.{StoreFault}
use Rattle.journal.specs.declared.faults.StoreFault.TheVariants as store
use Rattle.shop_core.specs.History.{noted, waiting, lines_in}
use Rattle.shop_core.specs.Items.{entries_of}
use Rattle.shop_core.specs.declared.items.Item.{Item}
use Rattle.shop_core.specs.declared.items.Item.TheVariants as recorded
use Rattle.shop_core.specs.Legal.{Legal}
use Rattle.shop_core.specs.declared.waiting.Waiting.{Waiting}
use Rattle.batches.specs.Batches.{huellas_of, named_of}
use Rattle.agency_port.specs.Reply.{Replied}
use Rattle.agency_port.specs.Ledger.{Ledger, Submits, Consults}
use Rattle.agency_port.specs.Rules.{SubmitKeeps, ConsultKeeps}
use Rattle.agency_port.specs.declared.answers.Seen.{Seen}
use Rattle.agency_port.specs.declared.answers.ReplyLine.TheVariants.{First}
use Rattle.agency_port.specs.declared.answers.AgencyFault.{AgencyFault}
use Rattle.agency_port.specs.declared.answers.AgencyFault.TheVariants as agency
use Rattle.shop_core.specs.Prefix.{IsPrefix}
use Rattle.once_world.specs.Agreement.{Agree, AreNextLines, lines_of}
use Rattle.once_world.specs.Laws.{AreRecords}
use Rattle.once_world.specs.Outbox.{Sight, Grows, ShowsWaiting, AddsOwn, NotedBy, history_of, notes_behind, GainsOwnNotes}
use Rattle.sender.specs.declared.answers.Turn.{Turn}
use Rattle.sender.specs.declared.answers.Turn.TheVariants.{Idle, WaitUntil, Noted, Cleared, Doubt}
use Rattle.sender.specs.declared.answers.SendFault.{SendFault}
use Rattle.sender.specs.declared.answers.SendFault.TheVariants.{LinkFault, Contradiction, Store, NoMemory}
use Rattle.sender.specs.Answers.{of_agency}
use Rattle.sender.specs.Evidence.{Shows}
use Rattle.sender.specs.Sending.{Sending}
use Rattle.sender.specs.Turning.{Deed, Nothing, Asked, Handed, AgencyKind, AgencyState, Dealt, RestEnds, NotesEnd, SeenEnds, ReplyEnds, Ends}
use Rattle.sender.specs.Turning.{Turned, turn_call, first_place}
use Rattle.sender.specs.Agreeing.{InOneSession, AreSeen, MayBeTorn, Gains, KeepsAgreement}
use Rattle.sender.specs.Known.{Known}
use Rattle.sender.proofs.Histories.{entries_both, grown, stays}
use Rattle.sender.proofs.Seens.{nothing_shown, seen_kept}
use Rattle.sender.proofs.Dealings.{Dealing, SentBy, Looked, Told, nothing_said, consulted, consult_sent, looked_at, submitted}
use Rattle.sender.proofs.Dealings.{submit_sent, told_by}

-- records note nothing
none_noted : (more : List Entry) → AreRecords more → noted more ≡ []
none_noted [] are = refl
none_noted (Rec till serial sealed ∷ more) are = none_noted more are.1
none_noted (notes_of first lines ∷ more) are = absurd (let h = are.0 in cc)

pub noted_same : (entries more : List Entry) → AreRecords more → noted (entries ++ more) ≡ noted entries
noted_same entries more are = flat_map-append lines_in entries more ∙ ap (λ (ls : List Line). noted entries ++ ls)
    (none_noted more are) ∙ append-nil (noted entries)

-- the history at the look
abbrev pub at_look : (before look : Sight) → Grows before look → List Entry
at_look before look g = history_of before ++ entries_of g.items.rest

-- What is known of a turn that notes these lines, before they are.
pub record Middle (entries : List Entry) (old new : Ledger) (said : Option Replied) (lines : List Line) : Type 0 where
  pub dealing : Dealing entries old new
  pub sent : SentBy old new (take 1000 (waiting entries))
  pub next : AreNextLines entries new.processed lines
  pub seen : AreSeen new.processed said

-- the same of one that notes none
pub record Quiet (entries : List Entry) (old new : Ledger) (said : Option Replied) : Type 0 where
  pub dealing : Dealing entries old new
  pub sent : SentBy old new (take 1000 (waiting entries))
  pub seen : AreSeen new.processed said

with_lines : (entries : List Entry) (old new : Ledger) (said : Option Replied) (lines : List Line) → Quiet entries old new said →
    IsPrefix (noted entries ++ lines) (lines_of new.processed) → 1 ≤ length lines → length lines ≤ 1000 →
    Middle entries old new said lines
with_lines entries old new said lines quiet run some few = record {
  dealing = quiet.dealing;
  sent = quiet.sent;
  next = record { run = run; some = some; few = few };
  seen = quiet.seen;
}

same_history : (before look after : Sight) (g : Grows before look) → after ≡ look → history_of after ≡ at_look before look g
same_history before look after g e = ap history_of e ∙ grown before look g

pub quiet_keeps : Known → (before look after : Sight) (old new : Ledger) (said : Option Replied) (result : Result Turn SendFault)
    (g : Grows before look) → look.own ≡ before.own → after ≡ look → GainsOwnNotes before after →
    (AreRecords (entries_of g.items.rest) → Quiet (at_look before look g) old new said) →
    (history_of after ≡ at_look before look g → Gains (at_look before look g) new.processed new.sent after result) →
    KeepsAgreement before after old new said result
quiet_keeps known before look after old new said result g own e gains middle ends =
    let are = (known.quiet before look after g own (stays look after g.legal e) (ap (λ (s : Sight). s.own) e) gains).0 in
    let m = middle are in
    let same = same_history before look after g e in
    record {
      records = entries_of g.items.rest;
      are_records = are;
      sent = m.sent;
      verdicts = m.dealing.verdicts;
      delivers = m.dealing.delivers;
      begins = m.dealing.begins;
      gains = ends same;
      session = record {
        agree = subst (λ (es : List Entry). Agree es new.processed new.sent) (sym same) m.dealing.agree;
        said_seen = m.seen;
      };
    }

-- the notes after more records
behind_same : (entries : List Entry) (look : Sight) (others : List Item) (lines : List Line) → history_of look ≡ entries →
    AreRecords (entries_of others) →
    notes_behind (look.items ++ others) lines ≡ notes_of (length (noted entries)) lines
behind_same entries look others lines e are =
    ap (λ (es : List Entry). notes_of (length (noted es)) lines) (entries_both look.items others ∙
    ap (λ (es : List Entry). es ++ entries_of others) e)
    ∙ ap (λ (ls : List Line). notes_of (length ls) lines) (noted_same entries (entries_of others) are)

-- with the notes too they agree
agree_with_notes : Known → (entries more : List Entry) (processed : List (Sealed × Line)) (sent : List (List Sealed))
    (lines : List Line) → Agree entries processed sent → AreNextLines entries processed lines → AreRecords more →
    Agree ((entries ++ more) ++ notes_of (length (noted entries)) lines ∷ []) processed sent
agree_with_notes known entries more processed sent lines agree next are =
    subst (λ (ls : List Line). Agree ((entries ++ more) ++ notes_of (length ls) lines ∷ []) processed sent)
    (noted_same entries more are)
    (known.noting (entries ++ more) processed sent lines (known.records entries more processed sent agree are)
    (known.next_lines entries more processed lines next are))

pub noted_keeps : Known → (before look after : Sight) (old new : Ledger) (said : Option Replied) (lines : List Line) (n : ℕ)
    (g : Grows before look) → look.own ≡ before.own → n ≡ length lines →
    AddsOwn look after (λ (items : List Item). recorded.Entry (notes_behind items lines)) → GainsOwnNotes before after →
    (AreRecords (entries_of g.items.rest) → Middle (at_look before look g) old new said lines) → KeepsAgreement before after old
    new said (Ok (Noted n))
noted_keeps known before look after old new said lines n g own count a gains middle =
    let came = known.own before look after (λ (items : List Item). recorded.Entry (notes_behind items lines)) g own a gains in
    let m = middle came.0 in
    let entries = at_look before look g in
    let more = entries_of a.others in
    let notes : Entry = notes_of (length (noted entries)) lines in
    let there : history_of look ≡ entries = grown before look g in
    let is : history_of after ≡ (entries ++ more) ++ notes ∷ [] =
    ap entries_of a.items ∙ entries_both (look.items ++ a.others) (recorded.Entry (notes_behind (look.items ++ a.others) lines) ∷
    [])
    ∙ ap (λ (es : List Entry). es ++ notes_behind (look.items ++ a.others) lines ∷ []) (entries_both look.items a.others ∙
    ap (λ (es : List Entry). es ++ more) there)
    ∙ ap (λ (e : Entry). (entries ++ more) ++ e ∷ []) (behind_same entries look a.others lines there came.1) in
    record {
      records = entries_of g.items.rest;
      are_records = came.0;
      sent = m.sent;
      verdicts = m.dealing.verdicts;
      delivers = m.dealing.delivers;
      begins = m.dealing.begins;
      gains = record { more = more; are_records = came.1; lines = lines; next = m.next; count_is = count; is = is };
      session = record {
        agree = subst (λ (es : List Entry). Agree es new.processed new.sent) (sym is)
            (agree_with_notes known entries more new.processed new.sent lines m.dealing.agree m.next came.1);
        said_seen = m.seen;
      };
    }

-- records came, and no notes
came_keeps : Known → (before look after : Sight) (old new : Ledger) (said : Option Replied) (lines : List Line)
    (fault : StoreFault) (g : Grows before look) (more : List Entry) → history_of after ≡ at_look before look g ++ more →
    AreRecords (entries_of g.items.rest) → AreRecords more → Middle (at_look before look g) old new said lines →
    MayBeTorn (at_look before look g) more new.processed new.sent after lines fault → KeepsAgreement before after old new said
    (Err (Store fault))
came_keeps known before look after old new said lines fault g more is are are_more m torn = record {
  records = entries_of g.items.rest;
  are_records = are;
  sent = m.sent;
  verdicts = m.dealing.verdicts;
  delivers = m.dealing.delivers;
  begins = m.dealing.begins;
  gains = record { more = more; are_records = are_more; lines = lines; next = m.next; is = is; torn = torn };
  session = record {
    agree = subst (λ (es : List Entry). Agree es new.processed new.sent) (sym is)
        (known.records (at_look before look g) more new.processed new.sent m.dealing.agree are_more);
    said_seen = m.seen;
  };
}

grown_twice : (before look after : Sight) (g : Grows before look) (h : Grows look after) → history_of after ≡ at_look before look
    g ++ entries_of h.items.rest
grown_twice before look after g h = grown look after h ∙ ap (λ (es : List Entry). es ++ entries_of h.items.rest)
    (grown before look g)

pub store_keeps : Known → (before look after : Sight) (old new : Ledger) (said : Option Replied) (lines : List Line)
    (fault : StoreFault) (g : Grows before look) → look.own ≡ before.own → Grows look after →
    NotedBy look after lines (Err fault) → GainsOwnNotes before after →
    (AreRecords (entries_of g.items.rest) → Middle (at_look before look g) old new said lines) → KeepsAgreement before after old
    new said (Err (Store fault))
store_keeps known before look after old new said lines store.DiskFault g own h stops gains middle =
    let a = stops.adds in
    let came = known.own before look after (λ (items : List Item). recorded.Stop stops.faults (notes_behind items lines)) g own a
    gains in
    let m = middle came.0 in
    let entries = at_look before look g in
    let more = entries_of a.others in
    let there : history_of look ≡ entries = grown before look g in
    let is : history_of after ≡ entries ++ more =
    ap entries_of a.items ∙ entries_both (look.items ++ a.others)
    (recorded.Stop stops.faults (notes_behind (look.items ++ a.others) lines) ∷ []) ∙
    append-nil (entries_of (look.items ++ a.others))
    ∙ entries_both look.items a.others ∙ ap (λ (es : List Entry). es ++ more) there in
    let last : after.items ≡ (look.items ++ a.others) ++ recorded.Stop stops.faults (notes_of (length (noted entries)) lines) ∷ []
    =
    a.items ∙ ap (λ (e : Entry). (look.items ++ a.others) ++ recorded.Stop stops.faults e ∷ []) (behind_same entries look a.others
    lines there came.1) in
    came_keeps known before look after old new said lines store.DiskFault g more is came.0 came.1 m (
      (look.items ++ a.others, (stops.faults, last)),
      agree_with_notes known entries more new.processed new.sent lines
          m.dealing.agree m.next came.1,
    )
store_keeps known before look after old new said lines (store.Stopped faults) g own h stopped gains middle =
    let came = known.quiet before look after g own h stopped.own gains in
    came_keeps known before look after old new said lines (store.Stopped faults) g (entries_of h.items.rest)
    (grown_twice before look after g h) came.0 came.1 (middle came.0) tt
store_keeps known before look after old new said lines store.NoMemory g own h same gains middle =
    let came = known.quiet before look after g own h same gains in
    came_keeps known before look after old new said lines store.NoMemory g (entries_of h.items.rest)
    (grown_twice before look after g h) came.0 came.1 (middle came.0) tt

-- where nothing was asked of the agency
rest_gains : (old : Sending) (now : ℕ) (shown : Waiting) (entries : List Entry) (processed : List (Sealed × Line))
    (sent : List (List Sealed)) (after : Sight) (result : Result Turn SendFault) →
    RestEnds old now shown result → history_of after ≡ entries → Gains entries processed sent after result
rest_gains old now shown entries processed sent after (Ok (Idle records)) ends e = e
rest_gains old now shown entries processed sent after (Ok (WaitUntil at)) ends e = e
rest_gains old now shown entries processed sent after (Err NoMemory) ends e = e
rest_gains old now shown entries processed sent after _ ends e = absurd ends

-- where the agency failed
failed_gains : (entries : List Entry) (processed : List (Sealed × Line)) (sent : List (List Sealed)) (after : Sight)
    (why : AgencyFault) → history_of after ≡ entries → Gains entries processed sent after (Err (of_agency why))
failed_gains entries processed sent after agency.Failed e = e
failed_gains entries processed sent after agency.NoMemory e = e

-- What each part of a turn begins with.
pub record Start (before look : Sight) (g : Grows before look) (shown : Waiting) (old : Ledger) : Type 0 where
  pub legal : Legal look.version look.issuer (at_look before look g)
  pub agree : Agree (at_look before look g) old.processed old.sent
  pub shown_is : shown.list ≡ take 1000 (waiting (at_look before look g))

pub start : Known → (before look : Sight) (g : Grows before look) (shown : Waiting) (old : Ledger) → ShowsWaiting look 1000 shown
    → Agree (history_of before) old.processed old.sent → AreRecords (entries_of g.items.rest) →
    Start before look g shown old
start known before look g shown old shows agree are = record {
  legal = subst (λ (es : List Entry). Legal look.version look.issuer es) (grown before look g) g.legal;
  agree = known.records (history_of before) (entries_of g.items.rest) old.processed old.sent agree are;
  shown_is = shows.first ∙ ap (λ (es : List Entry). take 1000 (waiting es)) (grown before look g);
}

-- the agency was asked
asked : Known → (before look : Sight) (g : Grows before look) (shown : Waiting) (old new : Ledger)
    (answer : Result (List Seen) AgencyFault) → Start before look g shown old →
    Consults old new (named_of shown.list) answer → ConsultKeeps old new (huellas_of shown.list) answer →
    Dealing (at_look before look g) old new
asked known before look g shown old new answer s consults keeps =
    consulted known look.version look.issuer (at_look before look g) old new
    (named_of shown.list) answer s.legal s.agree consults keeps

pub looked_there : Known → (before look : Sight) (g : Grows before look) (shown : Waiting) (old new : Ledger)
    (said : Option Replied) (seen : List Seen) → Start before look g shown old → AreSeen old.processed said →
    ConsultKeeps old new (huellas_of shown.list) (Ok seen) → Looked (at_look before look g) old new said (huellas_of shown.list)
    seen
looked_there known before look g shown old new said seen s there keeps =
    let first = take 1000 (waiting (at_look before look g)) in
    let l = subst (λ (xs : List Sealed). ConsultKeeps old new (huellas_of xs) (Ok seen)) s.shown_is keeps in
    subst (λ (xs : List Sealed). Looked (at_look before look g) old new said (huellas_of xs) seen) (sym s.shown_is)
    (looked_at known look.version look.issuer (at_look before look g) 1000 old new said seen s.legal s.agree there l.answered)

-- the sender keeps nothing of a reply, or what was said before
asked_quiet : Known → (before look : Sight) (g : Grows before look) (shown : Waiting) (old new : Ledger)
    (said said_then : Option Replied) (answer : Result (List Seen) AgencyFault) → ShowsWaiting look 1000 shown →
    Agree (history_of before) old.processed old.sent → AreSeen old.processed said → (said_then ≡ said) ⊎ (said_then ≡ None) →
    Consults old new (named_of shown.list) answer → ConsultKeeps old new (huellas_of shown.list) answer →
    AreRecords (entries_of g.items.rest) → Quiet (at_look before look g) old new said_then
asked_quiet known before look g shown old new said said_then answer shows agree there same consults keeps are =
    let s = start known before look g shown old shows agree are in
    let d = asked known before look g shown old new answer s consults keeps in
    record {
      dealing = d;
      sent = inl (consult_sent old new (named_of shown.list) answer consults);
      seen = elim same [
        | inl e ↦ subst (λ (o : Option Replied). AreSeen new.processed o) (sym e) (seen_later known old new said keeps there)
        | inr e ↦ subst (λ (o : Option Replied). AreSeen new.processed o) (sym e) tt
      ];
    }
  where
    seen_later : Known → (old new : Ledger) (said : Option Replied) → ConsultKeeps old new (huellas_of shown.list) answer →
        AreSeen old.processed said → AreSeen new.processed said
    seen_later known old new said keeps there =
        subst (λ (p : List (Sealed × Line)). AreSeen p said) (sym keeps.delivers.is) (seen_kept known.stays old.verdicts
        old.processed keeps.delivers.batches said there)

-- lines were handed to the shop, or there was no memory
notes_keep : Known → (P : List Line → Type 0) (before look after : Sight) (g : Grows before look) (old new : Ledger)
    (said : Option Replied) (result : Result Turn SendFault) (doubt : Bool) → look.own ≡ before.own →
    GainsOwnNotes before after → (AreRecords (entries_of g.items.rest) → Quiet (at_look before look g) old new said) →
    ((lines : List Line) → P lines → AreRecords (entries_of g.items.rest) →
    IsPrefix (noted (at_look before look g) ++ lines) (lines_of new.processed)) → NotesEnd P look after result doubt →
    KeepsAgreement before after old new said result
notes_keep known P before look after g old new said (Ok (Noted n)) doubt own gains quiet run ends =
    let notes = ends.0 in
    noted_keeps known before look after old new said notes.lines n g own notes.count_is notes.noted gains
    (λ are. with_lines (at_look before look g) old new said notes.lines (quiet are) (run notes.lines notes.are are) notes.some
    notes.few)
notes_keep known P before look after g old new said (Err (Store fault)) doubt own gains quiet run ends =
    let notes = ends.0.1 in
    store_keeps known before look after old new said notes.lines fault g own notes.grows notes.noted gains
    (λ are. with_lines (at_look before look g) old new said notes.lines (quiet are) (run notes.lines notes.are are) notes.some
    notes.few)
notes_keep known P before look after g old new said (Err NoMemory) doubt own gains quiet run ends =
    quiet_keeps known before look after old new said (Err NoMemory) g own ends.0 gains quiet (λ e. e)
notes_keep known P before look after g old new said _ doubt own gains quiet run ends = absurd ends

-- a consultation that was answered
seen_ends : Known → (before look after : Sight) (g : Grows before look) (shown : Waiting) (old new : Ledger)
    (said : Option Replied) (seen : List Seen) (result : Result Turn SendFault) (doubt : Bool) → look.own ≡ before.own →
    ShowsWaiting look 1000 shown →
    Agree (history_of before) old.processed old.sent → AreSeen old.processed said → Consults old new (named_of shown.list)
    (Ok seen) → ConsultKeeps old new (huellas_of shown.list) (Ok seen) →
    GainsOwnNotes before after → SeenEnds said shown seen look after result doubt → KeepsAgreement before after old new None
    result
seen_ends known before look after g shown old new said seen (Ok Cleared) doubt own shows agree there consults keeps gains ends =
    quiet_keeps known before look after old new None (Ok Cleared) g own ends.1 gains (λ are. asked_quiet known before look g shown
    old new said None (Ok seen) shows agree there (inr refl) consults keeps are) (λ e. e)
seen_ends known before look after g shown old new said seen (Err (Contradiction evidence)) doubt own shows agree there consults
    keeps gains ends =
    let are = (known.quiet before look after g own (stays look after g.legal ends.1) (ap (λ (s : Sight). s.own) ends.1) gains).0
    in
    let l = looked_there known before look g shown old new said seen (start known before look g shown old shows agree are) there
    keeps in
    absurd (nothing_shown l.then said (first_place shown) (huellas_of shown.list) seen evidence l.is l.whole l.there ends.0)
seen_ends known before look after g shown old new said seen result doubt own shows agree there consults keeps gains ends =
    notes_keep known (λ (lines : List Line). Shows said (first_place shown) (huellas_of shown.list) seen (Ok lines)) before look
    after g old new None result doubt own gains
    (λ are. asked_quiet known before look g shown old new said None (Ok seen) shows agree there (inr refl) consults keeps are)
    (λ lines front are. (looked_there known before look g shown old new said seen (start known before look g shown old shows agree
    are) there keeps).lines lines front.0) ends

-- a batch was handed over
handed_quiet : Known → (before look : Sight) (g : Grows before look) (shown : Waiting) (old new : Ledger) (said : Option Replied)
    (answer : Result Replied AgencyFault) → ShowsWaiting look 1000 shown →
    Agree (history_of before) old.processed old.sent → AreSeen old.processed said → Submits old new shown.list answer →
    SubmitKeeps old new shown.list answer → AreRecords (entries_of g.items.rest) →
    Quiet (at_look before look g) old new said
handed_quiet known before look g shown old new said answer shows agree there submits keeps are =
    let s = start known before look g shown old shows agree are in
    let submits_first = subst (λ (xs : List Sealed). Submits old new xs answer) s.shown_is submits in
    let keeps_first = subst (λ (xs : List Sealed). SubmitKeeps old new xs answer) s.shown_is keeps in
    record {
      dealing = submitted known look.version look.issuer (at_look before look g) 1000 old new answer (omega arith) s.legal s.agree
          submits_first keeps_first;
      sent = submit_sent old new (take 1000 (waiting (at_look before look g))) answer submits_first;
      seen = subst (λ (p : List (Sealed × Line)). AreSeen p said) (sym keeps.delivers.is) (seen_kept known.stays old.verdicts
          old.processed keeps.delivers.batches said there);
    }

told_there : Known → (before look : Sight) (g : Grows before look) (shown : Waiting) (old new : Ledger) (reply : Replied) →
    ShowsWaiting look 1000 shown → Agree (history_of before) old.processed old.sent →
    Submits old new shown.list (Ok reply) → SubmitKeeps old new shown.list (Ok reply) → (reply.huellas ≡ huellas_of shown.list) →
    AreRecords (entries_of g.items.rest) → Told (at_look before look g) new reply
told_there known before look g shown old new reply shows agree submits keeps names are =
    let s = start known before look g shown old shows agree are in
    told_by known look.version look.issuer (at_look before look g) 1000 old new reply (omega arith) s.legal s.agree
    (subst (λ (xs : List Sealed). Submits old new xs (Ok reply)) s.shown_is submits)
    (subst (λ (xs : List Sealed). SubmitKeeps old new xs (Ok reply)) s.shown_is keeps)
    (names ∙ ap huellas_of s.shown_is)

replied_quiet : Known → (before look : Sight) (g : Grows before look) (shown : Waiting) (old new : Ledger) (reply : Replied) →
    ShowsWaiting look 1000 shown → Agree (history_of before) old.processed old.sent →
    Submits old new shown.list (Ok reply) → SubmitKeeps old new shown.list (Ok reply) → (reply.huellas ≡ huellas_of shown.list) →
    AreRecords (entries_of g.items.rest) → Quiet (at_look before look g) old new (Some reply)
replied_quiet known before look g shown old new reply shows agree submits keeps names are =
    let q = handed_quiet known before look g shown old new None (Ok reply) shows agree tt submits keeps are in
    record {
      dealing = q.dealing;
      sent = q.sent;
      seen = (told_there known before look g shown old new reply shows agree submits
          keeps names are).there;
    }

reply_ends : Known → (before look after : Sight) (g : Grows before look) (shown : Waiting) (old new : Ledger) (reply : Replied)
    (result : Result Turn SendFault) (doubt : Bool) → look.own ≡ before.own → ShowsWaiting look 1000 shown →
    Agree (history_of before) old.processed old.sent → Submits old new shown.list (Ok reply) → SubmitKeeps old new shown.list
    (Ok reply) → (reply.huellas ≡ huellas_of shown.list) →
    GainsOwnNotes before after → ReplyEnds shown reply look after result doubt → KeepsAgreement before after old new (Some reply)
    result
reply_ends known before look after g shown old new reply (Ok (Doubt place)) doubt own shows agree submits keeps names gains ends =
    quiet_keeps known before look after old new (Some reply) (Ok (Doubt place)) g own ends.1 gains
    (λ are. replied_quiet known before look g shown old new reply shows agree submits keeps names are) (λ e. e)
reply_ends known before look after g shown old new reply result doubt own shows agree submits keeps names gains ends =
    notes_keep known (λ (lines : List Line). reply.lines ≡ map First lines) before look after g old new (Some reply) result doubt
    own gains (λ are. replied_quiet known before look g shown old new reply shows agree submits keeps names are)
    (λ lines all are. (told_there known before look g shown old new reply shows agree submits keeps names are).lines lines all)
    ends

-- by what was asked
deed_keeps : Known → (kind : AgencyKind) (agency_state agency_state_then : AgencyState) (before look after : Sight) (g : Grows before look) (shown : Waiting)
    (old new : Sending) (now : ℕ) (result : Result Turn SendFault) (deed : Deed) →
    IsTrue kind.tells → IsTrue kind.keeps_rules → look.own ≡ before.own → ShowsWaiting look 1000 shown →
    Agree (history_of before) agency_state.ledger.processed agency_state.ledger.sent → AreSeen agency_state.ledger.processed old.said →
    GainsOwnNotes before after →
    Dealt kind agency_state agency_state_then shown deed → Ends old now shown look after deed result new → KeepsAgreement before after agency_state.ledger
    agency_state_then.ledger new.said result
deed_keeps known kind agency_state agency_state_then before look after g shown old new now result Nothing tells keeps own shows agree there gains
    dealt ends =
    let said : new.said ≡ old.said = ap (λ (s : Sending). s.said) ends.1 in
    let same : agency_state_then.ledger ≡ agency_state.ledger = ap (λ (d : AgencyState). d.ledger) dealt in
    quiet_keeps known before look after agency_state.ledger agency_state_then.ledger new.said result g own ends.2 gains
    (λ are. record {
      dealing = nothing_said (at_look before look g) agency_state.ledger agency_state_then.ledger same known.adds
          (known.records (history_of before) (entries_of g.items.rest) agency_state.ledger.processed agency_state.ledger.sent agree are);
      sent = inl (ap (λ (l : Ledger). l.sent) same);
      seen = subst (λ (o : Option Replied). AreSeen agency_state_then.ledger.processed o) (sym said)
          (subst (λ (l : Ledger). AreSeen l.processed old.said) (sym same) there);
    })
    (λ e. rest_gains old now shown (at_look before look g) agency_state_then.ledger.processed agency_state_then.ledger.sent after result ends.0 e)
deed_keeps known kind agency_state agency_state_then before look after g shown old new now result (Asked (Ok seen)) tells keeps own shows agree
    there gains dealt ends =
    let e = ends.2 in
    subst (λ (o : Option Replied). KeepsAgreement before after agency_state.ledger agency_state_then.ledger o result) (sym e.2)
    (seen_ends known before look after g shown agency_state.ledger agency_state_then.ledger old.said seen result new.doubt own shows agree there
    (dealt.1 tells) (dealt.2 keeps) gains e.3)
deed_keeps known kind agency_state agency_state_then before look after g shown old new now result (Asked (Err why)) tells keeps own shows agree
    there gains dealt ends =
    let e = ends.2 in
    subst (λ (r : Result Turn SendFault). KeepsAgreement before after agency_state.ledger agency_state_then.ledger new.said r) (sym e.0)
    (quiet_keeps known before look after agency_state.ledger agency_state_then.ledger new.said (Err (of_agency why)) g own e.2 gains
    (λ are. asked_quiet known before look g shown agency_state.ledger agency_state_then.ledger old.said new.said (Err why) shows agree there
    (inl (ap (λ (s : Sending). s.said) e.1)) (dealt.1 tells) (dealt.2 keeps) are)
    (failed_gains (at_look before look g) agency_state_then.ledger.processed agency_state_then.ledger.sent after why))
deed_keeps known kind agency_state agency_state_then before look after g shown old new now result (Handed (Ok reply)) tells keeps own shows agree
    there gains dealt ends =
    elim ends.3 [
      | inl r ↦ subst (λ (o : Option Replied). KeepsAgreement before after agency_state.ledger agency_state_then.ledger o result) (sym r.said)
          (reply_ends known before look after g shown agency_state.ledger agency_state_then.ledger reply result new.doubt own shows agree
          (dealt.2 tells) (dealt.3 keeps) r.names gains r.ends)
      | inr r ↦ subst (λ (x : Result Turn SendFault). KeepsAgreement before after agency_state.ledger agency_state_then.ledger new.said x)
          (sym r.result_is)
          (quiet_keeps known before look after agency_state.ledger agency_state_then.ledger new.said (Err LinkFault) g own r.after_is gains
          (λ are. subst (λ (o : Option Replied). Quiet (at_look before look g) agency_state.ledger agency_state_then.ledger o)
          (sym (ap (λ (s : Sending). s.said) r.new_is))
          (handed_quiet known before look g shown agency_state.ledger agency_state_then.ledger old.said (Ok reply) shows agree there
          (dealt.2 tells) (dealt.3 keeps) are)) (λ h. h))
    ]
deed_keeps known kind agency_state agency_state_then before look after g shown old new now result (Handed (Err why)) tells keeps own shows agree
    there gains dealt ends =
    let e = ends.3 in
    subst (λ (x : Result Turn SendFault). KeepsAgreement before after agency_state.ledger agency_state_then.ledger new.said x) (sym e.0)
    (quiet_keeps known before look after agency_state.ledger agency_state_then.ledger new.said (Err (of_agency why)) g own e.2 gains
    (λ are. subst (λ (o : Option Replied). Quiet (at_look before look g) agency_state.ledger agency_state_then.ledger o)
    (sym (ap (λ (s : Sending). s.said) e.1))
    (handed_quiet known before look g shown agency_state.ledger agency_state_then.ledger old.said (Err why) shows agree there (dealt.2 tells)
    (dealt.3 keeps) are))
    (failed_gains (at_look before look g) agency_state_then.ledger.processed agency_state_then.ledger.sent after why))

-- the whole turn
pub turn_keeps : Known → (kind : AgencyKind) (agency_state agency_state_then : AgencyState) (before after : Sight) (old new : Sending) (now : ℕ)
    (result : Result Turn SendFault) → Turned (turn_call kind agency_state agency_state_then before after old new now result) →
    (IsTrue kind.keeps_rules → IsTrue kind.tells) →
    InOneSession kind.keeps_rules before after agency_state.ledger old.said
    (KeepsAgreement before after agency_state.ledger agency_state_then.ledger new.said result)
turn_keeps known kind agency_state agency_state_then before after old new now result t tells keeps session gains =
    deed_keeps known kind agency_state agency_state_then before t.look after t.grows t.shown old new now result t.deals.deed (tells keeps) keeps
    t.own t.shows session.agree session.said_seen gains t.deals.dealt t.deals.ends
