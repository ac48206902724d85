-- Each turn of a drain uses up what it may take.
use Rattle.std.proofs.Common.{◌≡◌, inl, inr, ℕ, ◌+◌, ◌-◌, ◌*◌, ◌<◌, ◌≤◌, List, [], ◌∷◌, ◌++◌, refl, sym, ◌∙◌, ap, subst, length}
use Rattle.std.proofs.Common.{length-append, take, arith, Option, Some, None, Result, Ok, Err, true, false, Bool, IsTrue}
use Rattle.std.specs.Prelude.{OnOk, count_by, filter_map}
use Rattle.std.proofs.lemmas.List.{length-take, length-drop}
use Rattle.std.proofs.lemmas.List.Elements.{filter_map-append}
use Rattle.std.proofs.lemmas.List.Sums.{sum_by-append}
use Rattle.std.proofs.Common.{cond}
use Rattle.agency_port.specs.declared.turns.Told.{Told}
use Rattle.sender.specs.declared.answers.DrainFault.{DrainFault}
use Rattle.record_fields.specs.declared.records.Sealed.{Sealed}
use Rattle.record_fields.specs.declared.lines.Line.{Line}
use Rattle.record_codec.specs.declared.entry.Entry.{Entry}
use Rattle.shop_core.specs.History.{recs, noted, waiting}
use Rattle.shop_core.specs.declared.waiting.Waiting.{Waiting}
use Rattle.pacing.specs.Pace.{due_at}
use Rattle.batches.specs.Batches.{huellas_of}
use Rattle.agency_port.specs.Reply.{Replied}
use Rattle.agency_port.specs.Answers.{looked}
use Rattle.agency_port.specs.declared.answers.Seen.{Seen}
use Rattle.agency_port.specs.declared.answers.AgencyFault.TheVariants as agency
use Rattle.consultation.specs.Sorting.{IsFront}
use Rattle.once_world.specs.Agreement.{Agree}
use Rattle.once_world.specs.Outbox.{Sight, Grows, ShowsWaiting, history_of, GainsOwnNotes}
use Rattle.sender.specs.declared.answers.Turn.{Turn}
use Rattle.sender.specs.declared.answers.Turn.TheVariants.{Idle, WaitUntil, Noted, Cleared, Doubt}
use Rattle.sender.specs.declared.answers.SendFault.{SendFault}
use Rattle.sender.specs.declared.answers.SendFault.TheVariants.{LinkFault, NoMemory}
use Rattle.sender.specs.Sending.{Sending}
use Rattle.sender.specs.Turning.{Deed, Nothing, Asked, Handed, AgencyKind, AgencyState, Dealt, RestEnds, SeenEnds, ReplyEnds, Ends}
use Rattle.sender.specs.Turning.{count_waiting}
use Rattle.sender.specs.Agreeing.{InSession, InOneSession, AreSeen}
use Rattle.sender.specs.Draining.{Scene, Turns, none, more, IsTurn, GoesOn, links_with, moment_after, told_in, list_of, told_list}
use Rattle.sender.specs.Draining.{is_link, IsBounded, Drained}
use Rattle.sender.specs.Known.{Known}
use Rattle.sender.proofs.Drains.{one_listed, told_split}
use Rattle.sender.proofs.Keeping.{start, looked_there}
use Rattle.sender.proofs.Careful.{noted_by, in_doubt}
use Rattle.sender.proofs.Ending.{as_many}
use Rattle.sender.proofs.Growing.{ends_growth, gains_each}
use Rattle.sender.proofs.Sessions.{is_turn_growth, turns_growth, turns_keep}
use Rattle.sender.proofs.Standing.{IsSure, Stand, over, rested, waited, unsure, sure, sure_last, some_left, stand_first, SameShop}
use Rattle.sender.proofs.Standing.{same_shop, recs_grow, never_waits, few_wait, sure_all}

-- where a turn leads that goes on: it is one of those that were left, and a link fault gives three more
pub record Steps (entries : List Entry) (sending : Sending) (moment left : ℕ) (answer : Result Turn SendFault) : Type 0 where
  pub then : ℕ
  pub is : then + 1 ≡ left + 3 * links_with 0 answer
  pub stand : Stand entries sending moment then

-- the count that waits after a turn that asked or noted nothing
same_wait : (before look after : Sight) (shown : Waiting) (g : Grows before look) → SameShop before look after shown g →
    after ≡ look → waiting (history_of after) ≡ waiting (history_of before)
same_wait before look after shown g w e = ap (λ (s : Sight). waiting (history_of s)) e ∙ w.waiting_is

-- after one that noted lines
fewer_wait : (before look after : Sight) (shown : Waiting) (g : Grows before look) (lines : List Line) →
    SameShop before look after shown g → length (noted (history_of look)) + length lines ≤ length (noted (history_of after)) →
    length (waiting (history_of after)) ≤ length (waiting (history_of before)) - length lines
fewer_wait before look after shown g lines w le =
    let e = ap length w.waiting_is in
    let m = w.as_many in
    omega (
      arith,
      e,
      length-drop (length (noted (history_of look))) (recs (history_of look)),
      length-drop (length (noted (history_of after))) (recs (history_of after)),
    )

sure_same : (entries then : List Entry) (old new : Sending) → waiting then ≡ waiting entries → new.said ≡ old.said →
    IsSure entries old → IsSure then new
sure_same entries then old new w said s = record {
  reply = s.reply;
  said = said ∙ s.said;
  names = s.names ∙ ap (λ (xs : List Sealed). huellas_of (take 1000 xs)) (sym w);
}

rest_step : (before look after : Sight) (shown : Waiting) (g : Grows before look) (old new : Sending) (moment now left : ℕ)
    (result : Result Turn SendFault) → SameShop before look after shown g → moment ≤ now → after ≡ look → new ≡ old →
    RestEnds old now shown result → GoesOn result →
    Stand (history_of before) old moment left → Steps (history_of after) new (moment_after moment result) left result
rest_step before look after shown g old new moment now left (Ok (WaitUntil at)) w later e same ends on (over empty l) =
    absurd (let c = w.count in let s = ends.0 in omega arith)
rest_step before look after shown g old new moment now left (Ok (WaitUntil at)) w later e same ends on (rested b le d l) =
    let wait = ap length (same_wait before look after shown g w e) in
    let few = few_wait old.pace now (count_waiting shown) ends.2 in
    let c = w.count in
    let pace = ap (λ (s : Sending). due_at s.pace) same in
    let at_is = ends.3 in
    record {
      then = left - 1;
      is = omega arith;
      stand = waited b (omega arith) (omega arith) (ap (λ (s : Sending). s.doubt) same ∙
          d) (omega arith) (omega arith);
    }
rest_step before look after shown g old new moment now left (Ok (WaitUntil at)) w later e same ends on (waited b le f d due l) =
    absurd (never_waits old.pace now (count_waiting shown) (omega arith) ends.2)
rest_step before look after shown g old new moment now left (Ok (WaitUntil at)) w later e same ends on (unsure b le d l) =
    in_doubt old.doubt d ends.1
rest_step before look after shown g old new moment now left (Ok (WaitUntil at)) w later e same ends on (sure b le d s l) =
    in_doubt old.doubt d ends.1
rest_step before look after shown g old new moment now left (Ok (WaitUntil at)) w later e same ends on (sure_last le d s l) =
    in_doubt old.doubt d ends.1
rest_step before look after shown g old new moment now left (Ok (Idle records)) w later e same ends on st = absurd on
rest_step before look after shown g old new moment now left (Err NoMemory) w later e same ends on st = absurd on
rest_step before look after shown g old new moment now left _ w later e same ends on st = absurd ends

-- a consultation that noted lines
looked_step : (before look after : Sight) (shown : Waiting) (g : Grows before look) (old new : Sending) (moment left n : ℕ)
    (lines : List Line) → SameShop before look after shown g → shown.noted < shown.records → old.doubt ≡ true →
    new.doubt ≡ false →
    length (waiting (history_of after)) ≤ length (waiting (history_of before)) - length lines → (IsSure (history_of before) old →
    length lines ≡ length (take 1000 (waiting (history_of before)))) →
    Stand (history_of before) old moment left → Steps (history_of after) new moment left (Ok (Noted n))
looked_step before look after shown g old new moment left n lines w some doubt out fewer whole (over empty l) =
    absurd (let c = w.count in omega arith)
looked_step before look after shown g old new moment left n lines w some doubt out fewer whole (rested b le d l) =
    in_doubt old.doubt doubt d
looked_step before look after shown g old new moment left n lines w some doubt out fewer whole (waited b le f d due l) =
    in_doubt old.doubt doubt d
looked_step before look after shown g old new moment left n lines w some doubt out fewer whole (unsure b le d l) =
    record { then = left - 1; is = omega arith; stand = rested b (omega arith) out (omega arith) }
looked_step before look after shown g old new moment left n lines w some doubt out fewer whole (sure b le d s l) =
    let all = whole s in
    let t = length-take 1000 (waiting (history_of before)) in
    let c = w.count in
    record { then = left - 1; is = omega arith; stand = rested (b - 1) (omega arith) out (omega arith) }
looked_step before look after shown g old new moment left n lines w some doubt out fewer whole (sure_last le d s l) =
    let all = whole s in
    let t = length-take 1000 (waiting (history_of before)) in
    record { then = left - 1; is = omega arith; stand = over (omega arith) (omega arith) }

-- one that found nothing seen
cleared_step : (before look after : Sight) (shown : Waiting) (g : Grows before look) (old new : Sending) (moment left : ℕ) →
    SameShop before look after shown g → shown.noted < shown.records → old.doubt ≡ true → new.doubt ≡ false →
    waiting (history_of after) ≡ waiting (history_of before) → (IsSure (history_of before) old →
    0 ≡ length (take 1000 (waiting (history_of before)))) →
    Stand (history_of before) old moment left → Steps (history_of after) new moment left (Ok Cleared)
cleared_step before look after shown g old new moment left w some doubt out same whole (over empty l) = absurd (let c = w.count in
    omega arith)
cleared_step before look after shown g old new moment left w some doubt out same whole (rested b le d l) = in_doubt old.doubt
    doubt d
cleared_step before look after shown g old new moment left w some doubt out same whole (waited b le f d due l) =
    in_doubt old.doubt doubt d
cleared_step before look after shown g old new moment left w some doubt out same whole (unsure b le d l) =
    let e = ap length same in
    record { then = left - 1; is = omega arith; stand = rested b (omega arith) out (omega arith) }
cleared_step before look after shown g old new moment left w some doubt out same whole (sure b le d s l) =
    absurd (let z = whole s in let t = length-take 1000 (waiting (history_of before)) in let c = w.count in omega arith)
cleared_step before look after shown g old new moment left w some doubt out same whole (sure_last le d s l) =
    absurd (let z = whole s in let t = length-take 1000 (waiting (history_of before)) in let c = w.count in omega arith)

-- one that failed
unasked_step : (before look after : Sight) (shown : Waiting) (g : Grows before look) (old new : Sending) (moment left : ℕ) →
    SameShop before look after shown g → shown.noted < shown.records → old.doubt ≡ true → new ≡ old →
    waiting (history_of after) ≡ waiting (history_of before) → Stand (history_of before) old moment left →
    Steps (history_of after) new moment left (Err LinkFault)
unasked_step before look after shown g old new moment left w some doubt same wait (over empty l) = absurd (let c = w.count in
    omega arith)
unasked_step before look after shown g old new moment left w some doubt same wait (rested b le d l) = in_doubt old.doubt doubt d
unasked_step before look after shown g old new moment left w some doubt same wait (waited b le f d due l) = in_doubt old.doubt
    doubt d
unasked_step before look after shown g old new moment left w some doubt same wait (unsure b le d l) =
    let e = ap length wait in record {
      then = left + 2;
      is = omega arith;
      stand = unsure b (omega arith) (ap (λ (s : Sending). s.doubt) same ∙ d) (omega arith);
    }
unasked_step before look after shown g old new moment left w some doubt same wait (sure b le d s l) =
    let e = ap length wait in record {
      then = left + 2;
      is = omega arith;
      stand = unsure b (omega arith) (ap (λ (s : Sending). s.doubt) same ∙ d) (omega arith);
    }
unasked_step before look after shown g old new moment left w some doubt same wait (sure_last le d s l) =
    let e = ap length wait in
    record {
      then = left + 2;
      is = omega arith;
      stand = sure_last (omega arith) (ap (λ (s : Sending). s.doubt) same ∙ d)
          (sure_same (history_of before) (history_of after) old new wait (ap (λ (s : Sending). s.said) same) s) (omega arith);
    }

seen_step : (before look after : Sight) (shown : Waiting) (g : Grows before look) (old new : Sending) (moment left : ℕ)
    (seen : List Seen) (result : Result Turn SendFault) → SameShop before look after shown g → shown.noted < shown.records →
    old.doubt ≡ true →
    ((lines : List Line) → IsFront seen lines → IsSure (history_of before) old →
    length lines ≡ length (take 1000 (waiting (history_of before)))) → SeenEnds old.said shown seen look after result
    new.doubt → GoesOn result →
    Stand (history_of before) old moment left → Steps (history_of after) new (moment_after moment result) left result
seen_step before look after shown g old new moment left seen (Ok (Noted n)) w some doubt whole ends on st =
    let notes = ends.0 in
    looked_step before look after shown g old new moment left n notes.lines w some doubt ends.1
    (fewer_wait before look after shown g notes.lines w (noted_by look after notes.lines notes.noted))
    (λ s. whole notes.lines notes.are.0 s) st
seen_step before look after shown g old new moment left seen (Ok Cleared) w some doubt whole ends on st =
    cleared_step before look after shown g old new moment left w some doubt ends.2 (same_wait before look after shown g w ends.1)
    (λ s. whole [] ends.0.0 s) st
seen_step before look after shown g old new moment left seen (Ok turn) w some doubt whole ends on st = absurd ends
seen_step before look after shown g old new moment left seen (Err LinkFault) w some doubt whole ends on st = absurd ends
seen_step before look after shown g old new moment left seen _ w some doubt whole ends on st = absurd on

-- a batch that was noted
handed_step : (before look after : Sight) (shown : Waiting) (g : Grows before look) (old new : Sending) (moment left n : ℕ)
    (lines : List Line) → SameShop before look after shown g → shown.noted < shown.records → old.doubt ≡ false →
    new.doubt ≡ false →
    length (waiting (history_of after)) ≤ length (waiting (history_of before)) - length lines → length lines ≡ length shown.list →
    Stand (history_of before) old moment left → Steps (history_of after) new moment left (Ok (Noted n))
handed_step before look after shown g old new moment left n lines w some doubt out fewer many (over empty l) =
    absurd (let c = w.count in omega arith)
handed_step before look after shown g old new moment left n lines w some doubt out fewer many (rested b le d l) =
    let f = ap length w.first in
    let t = length-take 1000 (waiting (history_of before)) in
    let c = w.count in
    record { then = left - 1; is = omega arith; stand = rested (b - 1) (omega arith) out (omega arith) }
handed_step before look after shown g old new moment left n lines w some doubt out fewer many (waited b le few d due l) =
    let f = ap length w.first in
    let t = length-take 1000 (waiting (history_of before)) in
    let c = w.count in
    record { then = left - 1; is = omega arith; stand = over (omega arith) (omega arith) }
handed_step before look after shown g old new moment left n lines w some doubt out fewer many (unsure b le d l) =
    in_doubt old.doubt d doubt
handed_step before look after shown g old new moment left n lines w some doubt out fewer many (sure b le d s l) =
    in_doubt old.doubt d doubt
handed_step before look after shown g old new moment left n lines w some doubt out fewer many (sure_last le d s l) =
    in_doubt old.doubt d doubt

-- one of which some record came before
doubt_step : (before look after : Sight) (shown : Waiting) (g : Grows before look) (old new : Sending) (moment left place : ℕ)
    (reply : Replied) → SameShop before look after shown g → shown.noted < shown.records → old.doubt ≡ false → new.doubt ≡ true →
    waiting (history_of after) ≡ waiting (history_of before) → new.said ≡ Some reply → reply.huellas ≡ huellas_of shown.list →
    Stand (history_of before) old moment left → Steps (history_of after) new moment left (Ok (Doubt place))
doubt_step before look after shown g old new moment left place reply w some doubt into same said names (over empty l) =
    absurd (let c = w.count in omega arith)
doubt_step before look after shown g old new moment left place reply w some doubt into same said names (rested b le d l) =
    let e = ap length same in
    record {
      then = left - 1;
      is = omega arith;
      stand = sure b (omega arith) into (record {
        reply = reply;
        said = said;
        names = names ∙ ap huellas_of w.first ∙
            ap (λ (xs : List Sealed). huellas_of (take 1000 xs)) (sym same);
      }) (omega arith);
    }
doubt_step before look after shown g old new moment left place reply w some doubt into same said names (waited b le few d due l) =
    let e = ap length same in
    let c = w.count in
    record {
      then = left - 1;
      is = omega arith;
      stand = sure_last (omega arith) into (record {
        reply = reply;
        said = said;
        names = names ∙ ap huellas_of w.first ∙
            ap (λ (xs : List Sealed). huellas_of (take 1000 xs)) (sym same);
      }) (omega arith);
    }
doubt_step before look after shown g old new moment left place reply w some doubt into same said names (unsure b le d l) =
    in_doubt old.doubt d doubt
doubt_step before look after shown g old new moment left place reply w some doubt into same said names (sure b le d s l) =
    in_doubt old.doubt d doubt
doubt_step before look after shown g old new moment left place reply w some doubt into same said names (sure_last le d s l) =
    in_doubt old.doubt d doubt

-- one that got no reply of its own
lost_step : (before look after : Sight) (shown : Waiting) (g : Grows before look) (old new : Sending) (moment left : ℕ) →
    SameShop before look after shown g → shown.noted < shown.records → old.doubt ≡ false → new.doubt ≡ true →
    waiting (history_of after) ≡ waiting (history_of before) → Stand (history_of before) old moment left →
    Steps (history_of after) new moment left (Err LinkFault)
lost_step before look after shown g old new moment left w some doubt into same (over empty l) = absurd (let c = w.count in
    omega arith)
lost_step before look after shown g old new moment left w some doubt into same (rested b le d l) =
    let e = ap length same in record { then = left + 2; is = omega arith; stand = unsure b (omega arith) into (omega arith) }
lost_step before look after shown g old new moment left w some doubt into same (waited b le few d due l) =
    let e = ap length same in record { then = left + 2; is = omega arith; stand = unsure b (omega arith) into (omega arith) }
lost_step before look after shown g old new moment left w some doubt into same (unsure b le d l) = in_doubt old.doubt d doubt
lost_step before look after shown g old new moment left w some doubt into same (sure b le d s l) = in_doubt old.doubt d doubt
lost_step before look after shown g old new moment left w some doubt into same (sure_last le d s l) = in_doubt old.doubt d doubt

reply_step : (before look after : Sight) (shown : Waiting) (g : Grows before look) (old new : Sending) (moment left : ℕ)
    (reply : Replied) (result : Result Turn SendFault) → SameShop before look after shown g → shown.noted < shown.records →
    old.doubt ≡ false →
    reply.huellas ≡ huellas_of shown.list → length reply.lines ≡ length reply.huellas → new.said ≡ Some reply →
    ReplyEnds shown reply look after result new.doubt → GoesOn result →
    Stand (history_of before) old moment left → Steps (history_of after) new (moment_after moment result) left result
reply_step before look after shown g old new moment left reply (Ok (Noted n)) w some doubt names matched said ends on st =
    let notes = ends.0 in
    handed_step before look after shown g old new moment left n notes.lines w some doubt ends.1
    (fewer_wait before look after shown g notes.lines w (noted_by look after notes.lines notes.noted))
    (as_many reply shown.list notes.lines names matched notes.are) st
reply_step before look after shown g old new moment left reply (Ok (Doubt place)) w some doubt names matched said ends on st =
    doubt_step before look after shown g old new moment left place reply w some doubt ends.2 (same_wait before look after shown g
    w ends.1) said names st
reply_step before look after shown g old new moment left reply (Ok turn) w some doubt names matched said ends on st = absurd ends
reply_step before look after shown g old new moment left reply (Err LinkFault) w some doubt names matched said ends on st =
    absurd ends
reply_step before look after shown g old new moment left reply _ w some doubt names matched said ends on st = absurd on

-- by what was asked
deed_step : Known → (kind : AgencyKind) (agency_state agency_state_then : AgencyState) (before look after : Sight) (g : Grows before look) (shown : Waiting)
    (old new : Sending) (moment now left : ℕ) (result : Result Turn SendFault) (deed : Deed) → IsTrue kind.keeps_rules →
    ShowsWaiting look 1000 shown → Agree (history_of before) agency_state.ledger.processed agency_state.ledger.sent →
    AreSeen agency_state.ledger.processed old.said → SameShop before look after shown g → moment ≤ now →
    Dealt kind agency_state agency_state_then shown deed → Ends old now shown look after deed result new → GoesOn result →
    Stand (history_of before) old moment left → Steps (history_of after) new (moment_after moment result) left result
deed_step known kind agency_state agency_state_then before look after g shown old new moment now left result Nothing keeps shows agree there w
    later dealt ends on st =
    rest_step before look after shown g old new moment now left result w later ends.2 ends.1 ends.0 on st
deed_step known kind agency_state agency_state_then before look after g shown old new moment now left result (Asked (Ok seen)) keeps shows agree
    there w later dealt ends on st =
    let l = looked_there known before look g shown agency_state.ledger agency_state_then.ledger old.said seen (start known before look g shown
    agency_state.ledger shows agree w.are) there (dealt.2 keeps) in
    seen_step before look after shown g old new moment left seen result w ends.0 ends.1
    (λ lines front s. sure_all l.then (history_of before) old seen lines s l.there
    (l.is ∙ ap (λ (xs : List Sealed). looked l.then (huellas_of xs)) w.first) front) ends.2.3 on st
deed_step known kind agency_state agency_state_then before look after g shown old new moment now left result (Asked (Err agency.Failed)) keeps
    shows agree there w later dealt ends on st =
    let e = ends.2 in
    subst (λ (r : Result Turn SendFault). Steps (history_of after) new (moment_after moment r) left r) (sym e.0)
    (unasked_step before look after shown g old new moment left w ends.0 ends.1 e.1 (same_wait before look after shown g w e.2)
    st)
deed_step known kind agency_state agency_state_then before look after g shown old new moment now left result (Asked (Err agency.NoMemory)) keeps
    shows agree there w later dealt ends on st =
    absurd (subst (λ (r : Result Turn SendFault). GoesOn r) ends.2.0 on)
deed_step known kind agency_state agency_state_then before look after g shown old new moment now left result (Handed (Ok reply)) keeps shows agree
    there w later dealt ends on st = elim ends.3 [
      | inl r ↦ reply_step before look after shown g old new moment left reply result w ends.0 ends.1 r.names r.matched r.said
          r.ends
          on st
      | inr r ↦ subst (λ (x : Result Turn SendFault). Steps (history_of after) new (moment_after moment x) left x)
          (sym r.result_is)
          (lost_step before look after shown g old new moment left w ends.0 ends.1 (ap (λ (s : Sending). s.doubt) r.new_is)
          (same_wait before look after shown g w r.after_is) st)
    ]
deed_step known kind agency_state agency_state_then before look after g shown old new moment now left result (Handed (Err agency.Failed)) keeps
    shows agree there w later dealt ends on st =
    let e = ends.3 in
    subst (λ (r : Result Turn SendFault). Steps (history_of after) new (moment_after moment r) left r) (sym e.0)
    (lost_step before look after shown g old new moment left w ends.0 ends.1 (ap (λ (s : Sending). s.doubt) e.1)
    (same_wait before look after shown g w e.2) st)
deed_step known kind agency_state agency_state_then before look after g shown old new moment now left result (Handed (Err agency.NoMemory)) keeps
    shows agree there w later dealt ends on st =
    absurd (subst (λ (r : Result Turn SendFault). GoesOn r) ends.3.0 on)

turn_step : Known → (kind : AgencyKind) (exact : Bool) (before after : Scene) (answer : Result Turn SendFault) (left : ℕ) →
    IsTrue kind.keeps_rules → Agree (history_of before.sight) before.agency_state.ledger.processed before.agency_state.ledger.sent →
    AreSeen before.agency_state.ledger.processed before.sending.said →
    GainsOwnNotes before.sight after.sight → length (recs (history_of after.sight)) ≤ length (recs (history_of before.sight)) →
    IsTurn kind exact before after answer → GoesOn answer → Stand (history_of before.sight) before.sending before.moment left
    →
    Steps (history_of after.sight) after.sending after.moment left answer
turn_step known kind exact before after answer left keeps agree there gains few t on st =
    let u = t.turned in
    let w = same_shop known before.sight u.look after.sight u.shown u.grows u.own (ends_growth before.sending t.now u.shown u.look
    after.sight u.deals.deed answer after.sending u.deals.ends) u.shows gains few in
    subst (λ (m : ℕ). Steps (history_of after.sight) after.sending m left answer) (sym t.moment)
    (deed_step known kind before.agency_state after.agency_state before.sight u.look after.sight u.grows u.shown before.sending after.sending
    before.moment t.now left answer u.deals.deed keeps u.shows agree there w t.later u.deals.dealt u.deals.ends on st)

links_more : (links : ℕ) (answer : Result Turn SendFault) → links_with links answer ≡ links + links_with 0 answer
links_more links (Err LinkFault) = omega arith
links_more links _ = omega arith

-- what is left after turns
pub record LeftAfter (batches links : ℕ) (answers : List (Result Turn SendFault)) (scene : Scene) : Type 0 where
  pub left : ℕ
  pub spent : length answers + left ≤ 2 * batches + 3 * links + 3
  pub stand : Stand (history_of scene.sight) scene.sending scene.moment left

pub turns_left : Known → (kind : AgencyKind) (exact : Bool) (begin : Scene) (answers : List (Result Turn SendFault)) (links : ℕ)
    (scene : Scene) (batches : ℕ) → (IsTrue kind.keeps_rules → IsTrue kind.tells) → IsTrue kind.keeps_rules →
    InSession begin.sight begin.agency_state.ledger begin.sending.said → length (waiting (history_of begin.sight)) ≤ 1000 * batches →
    Turns kind exact begin answers links scene → GainsOwnNotes begin.sight scene.sight → length (recs (history_of scene.sight)) ≤
    length (recs (history_of begin.sight)) → LeftAfter batches links answers scene
turns_left known kind exact begin answers links scene batches tells keeps session le none gains few =
    record {
      left = 2 * batches + 3;
      spent = omega arith;
      stand = stand_first (history_of begin.sight) begin.sending begin.moment
          batches le;
    }
turns_left known kind exact begin answers links scene batches tells keeps session le (more before_answers before_links mid
    answer then t turn on below) gains few =
    let first = turns_growth kind exact begin before_answers before_links mid t in
    let second = is_turn_growth kind exact mid then answer turn in
    let each = gains_each begin.sight mid.sight then.sight first second gains in
    let a = recs_grow begin.sight mid.sight first in
    let b = recs_grow mid.sight then.sight second in
    let k = turns_keep known kind exact begin before_answers before_links mid tells t keeps session each.0 in
    let l = turns_left known kind exact begin before_answers before_links mid batches tells keeps session le t each.0
    (omega arith) in
    let s = turn_step known kind exact mid then answer l.left keeps k.session.agree k.session.said_seen each.1 (omega arith) turn
    on l.stand in
    let spent = l.spent in
    let is = s.is in
    record {
      left = s.then;
      spent = omega (arith, links_more before_links answer, length-append before_answers (answer ∷ []));
      stand = s.stand;
    }

links_told : (answer : Result Turn SendFault) → GoesOn answer → count_by is_link (told_list answer) ≡ links_with 0 answer
links_told (Ok (WaitUntil at)) on = refl
links_told (Ok (Noted n)) on = refl
links_told (Ok Cleared) on = refl
links_told (Ok (Doubt place)) on = refl
links_told (Err LinkFault) on = refl
links_told _ on = absurd on

count_append : (xs ys : List Told) → count_by is_link (xs ++ ys) ≡ count_by is_link xs + count_by is_link ys
count_append xs ys = sum_by-append (λ (x : Told). cond (is_link x) 1 0) xs ys

-- as many link faults are told as there were
turns_links : (kind : AgencyKind) (exact : Bool) (begin : Scene) (answers : List (Result Turn SendFault)) (links : ℕ) (scene : Scene) →
    Turns kind exact begin answers links scene → count_by is_link (filter_map told_in answers) ≡ links
turns_links kind exact begin answers links scene none = refl
turns_links kind exact begin answers links scene (more before_answers before_links mid answer then t turn on below) =
    let rec = turns_links kind exact begin before_answers before_links mid t in
    ap (λ (ts : List Told). count_by is_link ts) (told_split before_answers answer)
    ∙ count_append (filter_map told_in before_answers) (told_list answer)
    ∙ ap (λ (k : ℕ). k + count_by is_link (told_list answer)) rec ∙ ap (λ (k : ℕ). before_links + k) (links_told answer on) ∙
    sym (links_more before_links answer)

listed_short : {A : Type 0} (o : Option A) → length (list_of o) ≤ 1
listed_short None = omega arith
listed_short (Some x) = omega arith

told_short : (answers : List (Result Turn SendFault)) → length (filter_map told_in answers) ≤ length answers
told_short [] = omega arith
told_short (answer ∷ answers) =
    let e : filter_map told_in (answer ∷ answers) ≡ filter_map told_in (answer ∷ []) ++ filter_map told_in answers =
    filter_map-append told_in (answer ∷ []) answers in
    let f = ap length (e ∙ ap (λ (ts : List Told). ts ++ filter_map told_in answers) (one_listed answer (told_in answer) refl)) in
    let s = listed_short (told_in answer) in
    let r = told_short answers in
    omega (arith, f, length-append (told_list answer) (filter_map told_in answers))

pub drained_bounded : Known → (kind : AgencyKind) (exact : Bool) (begin then : Scene) (old new : List Told)
    (result : Result (Unit {0}) DrainFault) → Drained kind exact begin then old new result →
    (IsTrue kind.keeps_rules → IsTrue kind.tells) →
    InOneSession kind.keeps_rules begin.sight then.sight begin.agency_state.ledger begin.sending.said
    (length (recs (history_of then.sight)) ≤ length (recs (history_of begin.sight)) →
    (batches : ℕ) → length (waiting (history_of begin.sight)) ≤ 1000 * batches → IsBounded batches old new)
drained_bounded known kind exact begin then old new result d tells keeps session gains few batches le =
    let first = turns_growth kind exact begin d.answers d.links d.scene d.made in
    let second = is_turn_growth kind exact d.scene then d.answer d.turn in
    let each = gains_each begin.sight d.scene.sight then.sight first second gains in
    let a = recs_grow d.scene.sight then.sight second in
    let l = turns_left known kind exact begin d.answers d.links d.scene batches tells keeps session le
    d.made each.0 (omega arith) in
    let spent = l.spent in
    let o = some_left (history_of d.scene.sight) d.scene.sending d.scene.moment l.left l.stand in
    let links = turns_links kind exact begin d.answers d.links d.scene d.made in
    let short = told_short d.answers in
    elim d.ends [
      | inl p ↦ record {
        added = filter_map told_in (d.answers ++ d.answer ∷ []);
        is = p.0;
        within = (let e = ap length (told_split d.answers d.answer) in
            let c = ap (λ (ts : List Told). count_by is_link ts) (told_split d.answers d.answer) ∙
            count_append (filter_map told_in d.answers) (told_list d.answer) in
            let s = listed_short (told_in d.answer) in
            omega (arith, e, c, length-append (filter_map told_in d.answers) (told_list d.answer)));
      }
      | inr p ↦ record { added = filter_map told_in d.answers; is = p.1; within = omega arith }
    ]

-- a drain that found nothing waiting
over_delivered : (kind : AgencyKind) (exact : Bool) (before after : Scene) (answer : Result Turn SendFault) (records : ℕ) →
    IsTurn kind exact before after answer → answer ≡ Ok (Idle records) → length (noted (history_of after.sight)) ≡ length
    (recs (history_of after.sight))
over_delivered kind exact before after answer records t e =
    let u = t.turned in
    let ends = subst (λ (r : Result Turn SendFault). Ends before.sending t.now u.shown u.look after.sight u.deals.deed r
    after.sending) e u.deals.ends in
    idle_counts before.sending t.now u.shown u.look after.sight u.deals.deed records after.sending u.shows ends
  where
    idle_counts : (old : Sending) (now : ℕ) (shown : Waiting) (look after : Sight) (deed : Deed) (records : ℕ) (new : Sending) →
        ShowsWaiting look 1000 shown → Ends old now shown look after deed (Ok (Idle records)) new →
        length (noted (history_of after)) ≡ length (recs (history_of after))
    idle_counts old now shown look after Nothing records new shows ends =
        subst (λ (s : Sight). length (noted (history_of s)) ≡ length (recs (history_of s))) (sym ends.2) (sym shows.noted_count ∙
        ends.0.0 ∙ shows.records_count)
    idle_counts old now shown look after (Asked (Ok seen)) records new shows ends = absurd ends.2.3
    idle_counts old now shown look after (Asked (Err agency.Failed)) records new shows ends = (let e = ends.2.0 in absurd cc)
    idle_counts old now shown look after (Asked (Err agency.NoMemory)) records new shows ends = (let e = ends.2.0 in absurd cc)
    idle_counts old now shown look after (Handed (Ok reply)) records new shows ends = elim ends.3 [
      | inl r ↦ absurd r.ends
      | inr r ↦ (let e = r.result_is in absurd cc)
    ]
    idle_counts old now shown look after (Handed (Err agency.Failed)) records new shows ends = (let e = ends.3.0 in absurd cc)
    idle_counts old now shown look after (Handed (Err agency.NoMemory)) records new shows ends = (let e = ends.3.0 in absurd cc)

pub drained_delivered : (kind : AgencyKind) (exact : Bool) (begin then : Scene) (old new : List Told)
    (result : Result (Unit {0}) DrainFault) → Drained kind exact begin then old new result →
    OnOk result (length (noted (history_of then.sight)) ≡ length (recs (history_of then.sight)))
drained_delivered kind exact begin then old new (Ok done) d = elim d.ends [
  | inl p ↦ over_delivered kind exact d.scene then d.answer p.1.0 d.turn p.1.1
  | inr p ↦ (let e = p.0 in absurd cc)
]
drained_delivered kind exact begin then old new (Err fault) d = tt
