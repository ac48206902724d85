-- How the parts of a turn make a turn.
use Rattle.std.proofs.Common.{◌≡◌, ◌≢◌, ℕ, ◌<◌, List, [], ◌∷◌, refl, sym, ◌∙◌, ap, subst, length, length-append, map, ◌≤◌, arith}
use Rattle.std.proofs.Common.{Option, Some, None, Result, Ok, Err, true, false, Bool, IsTrue, ◌==◌, inl, inr}
use Rattle.std.proofs.lemmas.Bool.{eqb-true, eqb-false}
use Rattle.std.proofs.lemmas.List.{length-map}
use Rattle.agency_replies.specs.Sorting.{IsFirstAgain}
use Rattle.consultation.specs.Sorting.{IsFront, unseen_ones}
use Rattle.agency_port.specs.declared.answers.Seen.TheVariants.{Was}
use Rattle.record_fields.specs.declared.records.Sealed.{Sealed}
use Rattle.record_fields.specs.declared.lines.Line.{Line}
use Rattle.pacing.specs.Pace.{is_due}
use Rattle.pacing.specs.declared.pace.Pace.{Pace}
use Rattle.shop_core.specs.declared.waiting.Waiting.{Waiting}
use Rattle.batches.specs.Batches.{Named, huellas_of, named_of}
use Rattle.agency_port.specs.Reply.{Replied}
use Rattle.agency_port.specs.Ledger.{HasCause, Names, StaleShows, Submits, Consults}
use Rattle.agency_port.specs.Rules.{SubmitKeeps, ConsultKeeps}
use Rattle.agency_port.specs.declared.answers.Seen.{Seen}
use Rattle.agency_port.specs.declared.answers.ReplyLine.{ReplyLine}
use Rattle.agency_port.specs.declared.answers.ReplyLine.TheVariants.{First, Duplicado}
use Rattle.agency_port.specs.declared.answers.AgencyFault.{AgencyFault}
use Rattle.once_world.specs.Outbox.{Sight}
use Rattle.sender.specs.declared.answers.Turn.{Turn}
use Rattle.sender.specs.declared.answers.Turn.TheVariants.{Cleared, Doubt}
use Rattle.sender.specs.declared.answers.SendFault.{SendFault}
use Rattle.sender.specs.declared.answers.SendFault.TheVariants.{LinkFault, Contradiction, NoMemory}
use Rattle.sender.specs.Evidence.{Shows, Learns}
use Rattle.sender.specs.Sending.{Sending}
use Rattle.sender.specs.Turning.{Asked, Handed, AgencyKind, AgencyState, NotesEnd, SeenEnds, ReplyEnds, AskedEnds, HandedEnds, NoteEnds}
use Rattle.sender.specs.Turning.{IsLook, Deals, Replies, IsStale, unanswered, first_place, count_waiting, turn_call}

pub asked_deal : (kind : AgencyKind) (agency_state agency_state_then : AgencyState) (look after : Sight) (shown : Waiting) (old new : Sending) (now : ℕ)
    (result : Result Turn SendFault) (asked : Named) (got answer : Result (List Seen) AgencyFault) →
    IsLook look shown → old.doubt ≡ true → asked ≡ named_of shown.list → got ≡ answer → HasCause agency_state.faults agency_state_then.faults
    got →
    (IsTrue kind.tells → Consults agency_state.ledger agency_state_then.ledger asked got) →
    (IsTrue kind.keeps_rules → ConsultKeeps agency_state.ledger agency_state_then.ledger asked.huellas got) →
    AskedEnds old shown look after answer result new → Deals (turn_call kind agency_state agency_state_then look after old new now result) shown
asked_deal kind agency_state agency_state_then look after shown old new now result asked got answer is_look doubt hs is cause lists rules ends =
    record {
      deed = Asked answer;
      dealt = (
        subst (λ (r : Result (List Seen) AgencyFault). HasCause agency_state.faults agency_state_then.faults r) is cause,
        λ tells. subst (λ (r : Result (List Seen) AgencyFault). Consults agency_state.ledger agency_state_then.ledger (named_of shown.list) r)
            is
            (subst (λ (h : Named). Consults agency_state.ledger agency_state_then.ledger h got) hs (lists tells)),
        λ keeps. subst (λ (r : Result (List Seen) AgencyFault). ConsultKeeps agency_state.ledger agency_state_then.ledger (huellas_of shown.list)
            r)
            is (subst (λ (h : Named). ConsultKeeps agency_state.ledger agency_state_then.ledger h.huellas got) hs (rules keeps)),
      );
      ends = (is_look.some, doubt, ends);
    }

-- nothing was learnt
learn_none : (said : Option Replied) (shown : Waiting) (seen : List Seen) (look : Sight) (doubt : Bool) (fault : SendFault) →
    doubt ≡ true → Learns said (first_place shown) (huellas_of shown.list) seen (Err fault) →
    SeenEnds said shown seen look look (Err fault) doubt
learn_none said shown seen look doubt (Contradiction evidence) e learns = (learns, refl, e)
learn_none said shown seen look doubt NoMemory e learns = (refl, e)
learn_none said shown seen look doubt _ e learns = absurd learns

-- what was learnt, by the names that the code has for it
pub same_learns : (said said_then : Option Replied) (first : ℕ) (records records_then : List Sealed) (seen seen_then : List Seen)
    (result : Result (List Line) SendFault) → said ≡ said_then → records ≡ records_then → seen ≡ seen_then →
    Learns said first (huellas_of records) seen result → Learns said_then first (huellas_of records_then) seen_then result
same_learns said said_then first records records_then seen seen_then result a b e learns =
    subst (λ (o : Option Replied). Learns o first (huellas_of records_then) seen_then result) a
    (subst (λ (xs : List Sealed). Learns said first (huellas_of xs) seen_then result) b
    (subst (λ (xs : List Seen). Learns said first (huellas_of records) xs result) e learns))

pub seen_none : (old new : Sending) (shown : Waiting) (seen : List Seen) (look : Sight) (fault : SendFault) →
    length seen ≡ length shown.list → new.pace ≡ old.pace → new.said ≡ None → new.doubt ≡ true →
    Learns old.said (first_place shown) (huellas_of shown.list) seen (Err fault) → AskedEnds old shown look look (Ok seen)
    (Err fault) new
seen_none old new shown seen look fault count pace said doubt learns = (
  count,
  pace,
  said,
  learn_none old.said shown seen look
      new.doubt fault doubt learns,
)

zero_length : (lines : List Line) → length lines ≡ 0 → lines ≡ []
zero_length [] e = refl
zero_length (line ∷ lines) e = absurd (omega arith)

pub no_lines : (lines : List Line) (b : Bool) → b ≡ (length lines == 0) → b ≡ true → lines ≡ []
no_lines lines b e t = zero_length lines (eqb-true (length lines) 0 (sym e ∙ t))

pub some_lines : (lines : List Line) (b : Bool) → b ≡ (length lines == 0) → b ≡ false → 1 ≤ length lines
some_lines lines b e t = let h : length lines ≢ 0 = eqb-false (length lines) 0 (sym e ∙ t) in omega arith

pub seen_cleared : (old new : Sending) (shown : Waiting) (seen : List Seen) (look : Sight) (lines : List Line) →
    length seen ≡ length shown.list → new.pace ≡ old.pace → new.said ≡ None → new.doubt ≡ false → lines ≡ [] →
    Learns old.said (first_place shown) (huellas_of shown.list) seen (Ok lines) → AskedEnds old shown look look (Ok seen)
    (Ok Cleared) new
seen_cleared old new shown seen look lines count pace said doubt none learns = (
  count,
  pace,
  said,
  (
    subst (λ (ls : List Line). Learns old.said (first_place shown) (huellas_of shown.list) seen (Ok ls)) none
        learns,
    refl,
    doubt,
  ),
)

-- lines that were handed to the shop
noted_end : (P : List Line → Type 0) (look after : Sight) (lines : List Line) (result : Result Turn SendFault)
    (mid new : Sending) → 1 ≤ length lines → length lines ≤ 1000 → mid.doubt ≡ true → P lines →
    NoteEnds look after lines result mid new → NotesEnd P look after result new.doubt
noted_end P look after lines result mid new some few doubt are e = elim e.1 [
  | inl n ↦ subst (λ (r : Result Turn SendFault). NotesEnd P look after r new.doubt) (sym n.0) (
    record { lines = lines; are = are; some = some; few = few; count_is = refl; grows = e.0; noted = n.1 },
    ap (λ (s : Sending). s.doubt) n.2,
  )
  | inr n ↦ subst (λ (r : Result Turn SendFault). NotesEnd P look after r new.doubt) (sym n.1) (
    (length lines, record { lines = lines; are = are; some = some; few = few; count_is = refl; grows = e.0; noted = n.2 }),
    ap (λ (s : Sending). s.doubt) n.3 ∙ doubt,
  )
]

as_seen : (said : Option Replied) (shown : Waiting) (seen : List Seen) (look after : Sight) (result : Result Turn SendFault)
    (doubt : Bool) →
    NotesEnd (λ (lines : List Line). Shows said (first_place shown) (huellas_of shown.list) seen (Ok lines)) look after result
    doubt → SeenEnds said shown seen look after result doubt
as_seen said shown seen look after (Ok Cleared) doubt e = absurd e
as_seen said shown seen look after (Err (Contradiction evidence)) doubt e = absurd e
as_seen said shown seen look after result doubt e = e

as_reply : (shown : Waiting) (reply : Replied) (look after : Sight) (result : Result Turn SendFault) (doubt : Bool) →
    NotesEnd (λ (lines : List Line). reply.lines ≡ map First lines) look after result doubt →
    ReplyEnds shown reply look after result doubt
as_reply shown reply look after (Ok (Doubt place)) doubt e = absurd e
as_reply shown reply look after result doubt e = e

-- noting changes nothing of the sender but its doubt
note_keeps_pace : (look after : Sight) (lines : List Line) (result : Result Turn SendFault) (mid new : Sending) →
    NoteEnds look after lines result mid new → (new.pace ≡ mid.pace) × (new.said ≡ mid.said)
note_keeps_pace look after lines result mid new e = elim e.1 [
  | inl n ↦ (ap (λ (s : Sending). s.pace) n.2, ap (λ (s : Sending). s.said) n.2)
  | inr n ↦ (ap (λ (s : Sending). s.pace) n.3, ap (λ (s : Sending). s.said) n.3)
]

pub seen_noted : (old mid new : Sending) (shown : Waiting) (seen : List Seen) (look after : Sight) (lines : List Line)
    (result : Result Turn SendFault) → length seen ≡ length shown.list → mid.pace ≡ old.pace → mid.said ≡ None →
    mid.doubt ≡ true →
    1 ≤ length lines → length lines ≤ 1000 → Learns old.said (first_place shown) (huellas_of shown.list) seen (Ok lines) →
    NoteEnds look after lines result mid new → AskedEnds old shown look after (Ok seen) result new
seen_noted old mid new shown seen look after lines result count pace said doubt some few learns e =
    let k = note_keeps_pace look after lines result mid new e in (
      count,
      k.0 ∙ pace,
      k.1 ∙ said,
      as_seen old.said shown seen look after result new.doubt
          (noted_end (λ (ls : List Line). Shows old.said (first_place shown) (huellas_of shown.list) seen (Ok ls)) look after
          lines result mid new some few doubt learns e),
    )

pub handed_deal : (kind : AgencyKind) (agency_state agency_state_then : AgencyState) (look after : Sight) (shown : Waiting) (old new : Sending) (now : ℕ)
    (result : Result Turn SendFault) (batch : List Sealed) (got answer : Result Replied AgencyFault) →
    IsLook look shown → old.doubt ≡ false → is_due old.pace now (count_waiting shown) ≡ true → batch ≡ shown.list → got ≡ answer →
    HasCause agency_state.faults agency_state_then.faults got → StaleShows agency_state.faults agency_state_then.faults batch got →
    (IsTrue kind.tells → Submits agency_state.ledger agency_state_then.ledger batch got) →
    (IsTrue kind.keeps_rules → SubmitKeeps agency_state.ledger agency_state_then.ledger batch got) →
    HandedEnds old now shown look after answer result new → Deals (turn_call kind agency_state agency_state_then look after old new now result) shown
handed_deal kind agency_state agency_state_then look after shown old new now result batch got answer is_look doubt due bs is cause stale lists
    rules ends = record {
      deed = Handed answer;
      dealt = (
        subst (λ (r : Result Replied AgencyFault). HasCause agency_state.faults agency_state_then.faults r) is cause,
        subst (λ (r : Result Replied AgencyFault). StaleShows agency_state.faults agency_state_then.faults shown.list r) is
            (subst (λ (b : List Sealed). StaleShows agency_state.faults agency_state_then.faults b got) bs stale),
        λ tells. subst (λ (r : Result Replied AgencyFault). Submits agency_state.ledger agency_state_then.ledger shown.list r) is
            (subst (λ (b : List Sealed). Submits agency_state.ledger agency_state_then.ledger b got) bs (lists tells)),
        λ keeps. subst (λ (r : Result Replied AgencyFault). SubmitKeeps agency_state.ledger agency_state_then.ledger shown.list r) is
            (subst (λ (b : List Sealed). SubmitKeeps agency_state.ledger agency_state_then.ledger b got) bs (rules keeps)),
      );
      ends = (is_look.some, doubt, due, ends);
    }

pub reply_noted : (mid new : Sending) (now : ℕ) (shown : Waiting) (reply : Replied) (look after : Sight) (lines : List Line)
    (result : Result Turn SendFault) → Names reply shown.list → length reply.lines ≡ length reply.huellas →
    mid.pace ≡ record { last = now; wait = reply.wait } → mid.said ≡ Some reply → mid.doubt ≡ true → 1 ≤ length lines →
    length lines ≤ 1000 → reply.lines ≡ map First lines → NoteEnds look after lines result mid new →
    Replies now shown look after reply result new
reply_noted mid new now shown reply look after lines result names matched pace said doubt some few all e =
    let k = note_keeps_pace look after lines result mid new e in
    record {
      names = names;
      matched = matched;
      pace = k.0 ∙ pace;
      said = k.1 ∙ said;
      ends = as_reply shown reply look after result new.doubt
          (noted_end (λ (ls : List Line). reply.lines ≡ map First ls) look after lines result mid new some few doubt all e);
    }

-- a record that came before is one of them
pub again_within : (lines : List ReplyLine) (index : ℕ) → IsFirstAgain lines index → index < length lines
again_within lines index a =
    let e = ap length a.is in
    let p = a.place in
    omega (arith, e, length-append (map First a.before) (Duplicado a.state ∷ a.after), length-map a.before First)

-- as many lines as records
pub as_many : (reply : Replied) (batch : List Sealed) (lines : List Line) → Names reply batch → length reply.lines ≡ length
    reply.huellas → reply.lines ≡ map First lines → length lines ≡ length batch
as_many reply batch lines names matched all =
    let a = ap length all in
    let b = ap length names in
    omega (arith, a, b, matched, length-map lines First, length-map batch (λ (s : Sealed). s.huella))

-- no more lines are learnt than records were asked for
pub learnt_few : (lines : List Line) (seen : List Seen) → IsFront seen lines → length lines ≤ length seen
learnt_few lines seen front =
    let e = ap length front.is in
    omega (arith, e, length-append (map Was lines) (unseen_ones front.rest), length-map lines Was)

pub learns_then : (said : Option Replied) (first : ℕ) (huellas : List (List ℕ)) (seen : List Seen) (lines lines_then : List Line)
    → lines ≡ lines_then → Learns said first huellas seen (Ok lines) → Learns said first huellas seen (Ok lines_then)
learns_then said first huellas seen lines lines_then e learns = subst (λ (ls : List Line). Learns said first huellas seen (Ok ls))
    e learns

-- the sender after a submission at this second
pub unanswered_is : (old : Sending) (now : ℕ) (at_pace pace : Pace) (said : Option Replied) → at_pace ≡ old.pace →
    pace ≡ record { last = now; wait = at_pace.wait } → said ≡ old.said →
    record { doubt = true; pace = pace; said = said } ≡ unanswered old now
unanswered_is old now at_pace pace said a p s =
    let same : pace ≡ record { last = now; wait = old.pace.wait } = p ∙ ap (λ (q : Pace). record { last = now; wait = q.wait }) a
    in
    ap (λ (q : Pace). record { doubt = true; pace = q; said = said }) same
    ∙ ap (λ (o : Option Replied). record { doubt = true; pace = record { last = now; wait = old.pace.wait }; said = o }) s

pub stale_ends : (old : Sending) (now : ℕ) (shown : Waiting) (look : Sight) (reply : Replied) (new : Sending)
    (huellas : List (List ℕ)) (records batch : List Sealed) (b : Bool) → b ≡ false → huellas ≡ reply.huellas → records ≡ batch →
    batch ≡ shown.list →
    (huellas ≡ huellas_of records → IsTrue b) → new ≡ unanswered old now → IsStale old now shown look look reply (Err LinkFault)
    new
stale_ends old now shown look reply new huellas records batch b false_is hs rs bs names same = record {
  names_not = λ n. let h = names (hs ∙ n ∙ ap huellas_of (sym (rs ∙ bs))) in (let q : b ≡ true = h in absurd cc);
  result_is = refl;
  new_is = same;
  after_is = refl;
}
