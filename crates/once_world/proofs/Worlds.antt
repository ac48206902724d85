-- Every event keeps agreement.
use Rattle.std.proofs.Common.{◌≡◌, ℕ, List, [], ◌∷◌, ◌++◌, refl, sym, ◌∙◌, ap, subst, Option, Some, None, IfSome, Bool, true}
use Rattle.std.proofs.Common.{false, cond, ◌&&◌, length, take, ◌≤◌, ◌<◌, ◌+◌, arith, slice_get, get_or}
use Rattle.std.proofs.lemmas.List.{map-append, take_more}
use Rattle.std.proofs.lemmas.Option.{slice_get_within, get_or_from_slice_get}
use Rattle.std.specs.List.{Contains}
use Rattle.record_fields.specs.declared.versions.Version.{Version}
use Rattle.record_fields.specs.declared.records.Sealed.{Sealed}
use Rattle.record_fields.specs.declared.lines.Line.{Line}
use Rattle.record_codec.specs.declared.entry.Entry.{Entry}
use Rattle.shop_core.specs.Answer.Plans.{answer, MakesRecords}
use Rattle.shop_core.specs.Answer.Requests.{Asked}
use Rattle.shop_core.specs.History.{recs, noted, is_record, waiting}
use Rattle.shop_core.specs.Legal.{AreNext}
use Rattle.shop_core.specs.declared.answer.Planned.{Planned}
use Rattle.shop_core.specs.declared.answer.Planned.TheVariants.{Again, Refused, Made}
use Rattle.agency_rules.specs.Pairs.{delivered}
use Rattle.agency_rules.specs.declared.plans.Plan.{Plan}
use Rattle.shop_core.specs.Prefix.{IsPrefix}
use Rattle.once_world.specs.Agreement.{Agree, IsLearnt, HasNoRefusedSale, is_sale_refused, lines_of}
use Rattle.once_world.specs.Looks.{answers_for, lines_in_front}
use Rattle.once_world.specs.World.{empty, appended, torn, may_send, after_send, after_delivery, learnt_lines, after_look}
use Rattle.once_world.specs.World.{after_note, torn_note, reopened, happens, happen, world}
use Rattle.once_world.specs.declared.events.Event.{Event}
use Rattle.once_world.specs.declared.events.Event.TheVariants as event
use Rattle.once_world.specs.declared.world.World.{World}
use Rattle.once_world.proofs.Lists.{all_both, prefix_more, prefix_none}
use Rattle.once_world.proofs.Deliveries.{IsChain, Extends}
use Rattle.once_world.proofs.Agreements.{agree_record, next_record, agree_noted, agree_sent, agree_extended, batch_delivered}
use Rattle.once_world.proofs.Agreements.{lines_fit}
use Rattle.once_world.proofs.Sending.{sendable}
use Rattle.once_world.proofs.Looking.{look_next, looked_few}

-- what holds of every world
pub record Holds (entries : List Entry) (processed : List (Sealed × Line)) (sent : List (List Sealed))
    (learnt : Option (List Line)) : Type 0 where
  pub agree : Agree entries processed sent
  pub learnt_next : IsLearnt entries processed learnt
  pub no_refused_sale : HasNoRefusedSale processed

abbrev pub HoldsOf : World → Type 0
HoldsOf w = Holds w.state.entries w.processed w.sent w.learnt

learnt_record : (entries : List Entry) (entry : Entry) (processed : List (Sealed × Line)) (learnt : Option (List Line)) →
    is_record entry ≡ true → IsLearnt entries processed learnt → IsLearnt (entries ++ entry ∷ []) processed learnt
learnt_record entries entry processed None is l = tt
learnt_record entries entry processed (Some lines) is l = next_record entries entry processed lines is l

holds_record : (entries : List Entry) (entry : Entry) (processed : List (Sealed × Line)) (sent : List (List Sealed))
    (learnt : Option (List Line)) → is_record entry ≡ true →
    Holds entries processed sent learnt → Holds (entries ++ entry ∷ []) processed sent learnt
holds_record entries entry processed sent learnt is h = record {
  agree = agree_record entries entry processed sent h.agree is;
  learnt_next = learnt_record entries entry processed learnt is h.learnt_next;
  no_refused_sale = h.no_refused_sale;
}

-- the learnt lines are noted
holds_notes : (w : World) (lines : List Line) → Holds w.state.entries w.processed w.sent (Some lines) →
    HoldsOf (after_note w (Some lines))
holds_notes w lines h = record {
  agree = agree_noted w.state.entries w.processed w.sent lines h.agree h.learnt_next;
  learnt_next = tt;
  no_refused_sale = h.no_refused_sale;
}

learnt_grows : (entries : List Entry) (processed added : List (Sealed × Line)) (learnt : Option (List Line)) →
    IsLearnt entries processed learnt → IsLearnt entries (processed ++ added) learnt
learnt_grows entries processed added None l = tt
learnt_grows entries processed added (Some lines) l =
    record {
      run = subst (λ (ls : List Line). IsPrefix (noted entries ++ lines) ls)
          (sym (map-append (λ (p : Sealed × Line). p.1) processed added)) (prefix_more (noted entries ++ lines)
          (lines_of processed)
          (lines_of added) l.run);
      some = l.some;
      few = l.few;
    }

holds_extended : (entries : List Entry) (processed new : List (Sealed × Line)) (sent : List (List Sealed))
    (learnt : Option (List Line)) → Extends (recs entries) processed new →
    Holds entries processed sent learnt → Holds entries new sent learnt
holds_extended entries processed new sent learnt d h = record {
  agree = agree_extended entries processed new sent d h.agree;
  learnt_next = subst (λ (ps : List (Sealed × Line)). IsLearnt entries ps learnt) (sym d.adds.is) (learnt_grows entries processed
      d.adds.added learnt h.learnt_next);
  no_refused_sale = subst (λ (ps : List (Sealed × Line)). HasNoRefusedSale ps) (sym d.adds.is)
      (all_both (λ (p : Sealed × Line). is_sale_refused p ≡ false) processed d.adds.added h.no_refused_sale d.adds.none);
}

contained : (sent : List (List Sealed)) (index : ℕ) (batch : List Sealed) → slice_get sent index ≡ Some batch →
    Contains sent batch
contained sent index batch e = (index, slice_get_within sent index batch e, get_or_from_slice_get sent index batch batch e)

holds_coming : (plan : Plan) (w : World) (index : ℕ) (found : Option (List Sealed)) → slice_get w.sent index ≡ found →
    IsChain (recs w.state.entries) → HoldsOf w → HoldsOf (after_delivery plan w found)
holds_coming plan w index None e chain h = h
holds_coming plan w index (Some batch) e chain h =
    holds_extended w.state.entries w.processed (delivered plan.verdicts w.processed batch) w.sent w.learnt
    (batch_delivered plan.verdicts w.state.entries w.processed w.sent batch chain h.agree (contained w.sent index batch e)) h

holds_sent : (w : World) (count : ℕ) → count ≤ 1000 → HoldsOf w → HoldsOf (after_send w count)
holds_sent w count few h = record {
  agree = agree_sent w.state.entries w.processed w.sent count h.agree few;
  learnt_next = h.learnt_next;
  no_refused_sale = h.no_refused_sale;
}

learnt_is : (entries : List Entry) (processed : List (Sealed × Line)) (lines : List Line) → IsPrefix (noted entries ++ lines)
    (lines_of processed) → length lines ≤ 1000 → IsLearnt entries processed (learnt_lines lines)
learnt_is entries processed [] prefix few = tt
learnt_is entries processed (line ∷ lines) prefix few = record { run = prefix; some = omega arith; few = few }

holds_look : (w : World) → IsChain (recs w.state.entries) → HoldsOf w → HoldsOf (after_look w)
holds_look w chain h = record {
  agree = h.agree;
  learnt_next = learnt_is w.state.entries w.processed (lines_in_front
      (answers_for w.processed (take 1000 (waiting w.state.entries))))
      (look_next w.state.entries w.processed w.sent 1000 chain h.agree)
      (looked_few w.processed 1000 (waiting w.state.entries));
  no_refused_sale = h.no_refused_sale;
}

holds_forgotten : (entries : List Entry) (processed : List (Sealed × Line)) (sent : List (List Sealed))
    (learnt : Option (List Line)) → Holds entries processed sent learnt → Holds entries processed sent None
holds_forgotten entries processed sent learnt h = record {
  agree = h.agree;
  learnt_next = tt;
  no_refused_sale = h.no_refused_sale;
}

holds_appended : MakesRecords → (w : World) (ask : Asked) (seconds : ℕ) (planned : Planned) →
    answer w.state.version w.state.issuer w.state.entries ask seconds ≡ planned → HoldsOf w → HoldsOf (appended w planned)
holds_appended made w ask seconds (Made entry) e h = holds_record w.state.entries entry w.processed w.sent w.learnt
    (made w.state.version w.state.issuer w.state.entries ask seconds entry e) h
holds_appended made w ask seconds (Again receipt) e h = h
holds_appended made w ask seconds (Refused why) e h = h

holds_torn : MakesRecords → (w : World) (kept : Bool) (ask : Asked) (seconds : ℕ) (planned : Planned) →
    answer w.state.version w.state.issuer w.state.entries ask seconds ≡ planned → HoldsOf w → HoldsOf (torn w kept planned)
holds_torn made w true ask seconds (Made entry) e h = holds_record w.state.entries entry w.processed w.sent w.learnt
    (made w.state.version w.state.issuer w.state.entries ask seconds entry e) h
holds_torn made w false ask seconds (Made entry) e h = h
holds_torn made w kept ask seconds (Again receipt) e h = h
holds_torn made w kept ask seconds (Refused why) e h = h

holds_note : (w : World) (learnt : Option (List Line)) → w.learnt ≡ learnt → HoldsOf w → HoldsOf (after_note w learnt)
holds_note w None e h = h
holds_note w (Some lines) e h = holds_notes w lines (subst (λ (l : Option (List Line)). Holds w.state.entries w.processed w.sent
    l) e h)

holds_torn_note : (w : World) (kept : Bool) (learnt : Option (List Line)) → w.learnt ≡ learnt → HoldsOf w →
    HoldsOf (torn_note w kept learnt)
holds_torn_note w kept None e h = h
holds_torn_note w true (Some lines) e h = holds_notes w lines
    (subst (λ (l : Option (List Line)). Holds w.state.entries w.processed w.sent l) e h)
holds_torn_note w false (Some lines) e h = holds_forgotten w.state.entries w.processed w.sent w.learnt h

either : (b : Bool) (v w : World) → (b ≡ true → HoldsOf v) → HoldsOf w → HoldsOf (cond b v w)
either true v w h k = h refl
either false v w h k = k

-- each event keeps what holds
pub holds_then : MakesRecords → (plan : Plan) (w : World) (e : Event) → IsChain (recs w.state.entries) → HoldsOf w →
    HoldsOf (happens plan w e)
holds_then made plan w (event.Append ask seconds) chain h =
    let planned = answer w.state.version w.state.issuer w.state.entries ask seconds in
    either w.up (appended w planned) w (λ up. holds_appended made w ask seconds planned refl h) h
holds_then made plan w (event.Send count) chain h =
    either (may_send w count) (after_send w count) w
    (λ may. holds_sent w count (sendable w count may).few h) h
holds_then made plan w (event.Deliver index) chain h = holds_coming plan w index (slice_get w.sent index) refl chain h
holds_then made plan w event.Look chain h = either (w.up && w.doubt) (after_look w) w (λ may. holds_look w chain h) h
holds_then made plan w event.Note chain h = either w.up (after_note w w.learnt) w (λ up. holds_note w w.learnt refl h) h
holds_then made plan w (event.Tear ask seconds kept) chain h =
    let planned = answer w.state.version w.state.issuer w.state.entries ask seconds in
    either w.up (torn w kept planned) w (λ up. holds_torn made w kept ask seconds planned refl h) h
holds_then made plan w (event.TearNote kept) chain h = either w.up (torn_note w kept w.learnt) w
    (λ up. holds_torn_note w kept w.learnt refl h) h
holds_then made plan w event.Reopen chain h = either w.up w (reopened w) (λ up. h) (holds_forgotten w.state.entries w.processed
    w.sent w.learnt h)

-- no event changes the issuer or the version
abbrev whose : World → List ℕ × Version
whose w = (w.state.issuer, w.state.version)

same_either : (b : Bool) (v w : World) (own : List ℕ × Version) → whose v ≡ own → whose w ≡ own →
    whose (cond b v w) ≡ own
same_either true v w own h k = h
same_either false v w own h k = k

same_appended : (w : World) (planned : Planned) → whose (appended w planned) ≡ whose w
same_appended w (Made entry) = refl
same_appended w (Again receipt) = refl
same_appended w (Refused why) = refl

same_torn : (w : World) (kept : Bool) (planned : Planned) → whose (torn w kept planned) ≡ whose w
same_torn w true (Made entry) = refl
same_torn w false (Made entry) = refl
same_torn w kept (Again receipt) = refl
same_torn w kept (Refused why) = refl

same_delivery : (plan : Plan) (w : World) (found : Option (List Sealed)) → whose (after_delivery plan w found) ≡
    whose w
same_delivery plan w None = refl
same_delivery plan w (Some batch) = refl

same_note : (w : World) (learnt : Option (List Line)) → whose (after_note w learnt) ≡ whose w
same_note w None = refl
same_note w (Some lines) = refl

same_torn_note : (w : World) (kept : Bool) (learnt : Option (List Line)) → whose (torn_note w kept learnt) ≡ whose w
same_torn_note w kept None = refl
same_torn_note w true (Some lines) = refl
same_torn_note w false (Some lines) = refl

same_own : (plan : Plan) (w : World) (e : Event) → whose (happens plan w e) ≡ whose w
same_own plan w (event.Append ask seconds) =
    let planned = answer w.state.version w.state.issuer w.state.entries ask seconds in
    same_either w.up (appended w planned) w (whose w) (same_appended w planned) refl
same_own plan w (event.Send count) = same_either (may_send w count) (after_send w count) w (whose w) refl refl
same_own plan w (event.Deliver index) = same_delivery plan w (slice_get w.sent index)
same_own plan w event.Look = same_either (w.up && w.doubt) (after_look w) w (whose w) refl refl
same_own plan w event.Note = same_either w.up (after_note w w.learnt) w (whose w) (same_note w w.learnt) refl
same_own plan w (event.Tear ask seconds kept) =
    let planned = answer w.state.version w.state.issuer w.state.entries ask seconds in
    same_either w.up (torn w kept planned) w (whose w) (same_torn w kept planned) refl
same_own plan w (event.TearNote kept) = same_either w.up (torn_note w kept w.learnt) w (whose w)
    (same_torn_note w kept w.learnt) refl
same_own plan w event.Reopen = same_either w.up w (reopened w) (whose w) refl refl

pub same_issuer : (plan : Plan) (w : World) (e : Event) → (happens plan w e).state.issuer ≡ w.state.issuer
same_issuer plan w e = ap (λ (p : List ℕ × Version). p.0) (same_own plan w e)

pub same_version : (plan : Plan) (w : World) (e : Event) → (happens plan w e).state.version ≡ w.state.version
same_version plan w e = ap (λ (p : List ℕ × Version). p.1) (same_own plan w e)

pub holds_first : (issuer : List ℕ) → HoldsOf (empty issuer)
holds_first issuer = record {
  agree = record { records = prefix_none []; lines = prefix_none []; batches = tt };
  learnt_next = tt;
  no_refused_sale = tt;
}

-- what was learnt can be noted
pub learnt_fits : (w : World) → HoldsOf w → IfSome w.learnt (AreNext w.state.entries (length (noted w.state.entries)))
learnt_fits w h = fits w.state.entries w.processed w.sent w.learnt h
  where
    fits : (entries : List Entry) (processed : List (Sealed × Line)) (sent : List (List Sealed)) (learnt : Option (List Line)) →
        Holds entries processed sent learnt →
        IfSome learnt (AreNext entries (length (noted entries)))
    fits entries processed sent None h = tt
    fits entries processed sent (Some lines) h = lines_fit entries processed sent lines h.agree h.learnt_next

happen_more : (plan : Plan) (w : World) (events : List Event) (e : Event) → happen plan w (events ++ e ∷ []) ≡ happens plan
    (happen plan w events) e
happen_more plan w [] e = refl
happen_more plan w (x ∷ events) e = happen_more plan (happens plan w x) events e

-- one event more
pub world_more : (issuer : List ℕ) (plan : Plan) (events : List Event) (i : ℕ) (e : Event) (old new : World) → i < length events →
    e ≡ get_or events i e →
    old ≡ world issuer plan (take i events) → new ≡ happens plan old e → new ≡ world issuer plan (take (i + 1) events)
world_more issuer plan events i e old new h at was is =
    is ∙ ap (λ (w : World). happens plan w e) was ∙ sym (happen_more plan (empty issuer) (take i events) e)
    ∙ ap (λ (es : List Event). world issuer plan es) (ap (λ (x : Event). take i events ++ x ∷ []) at ∙
    sym (take_more events i e h))
