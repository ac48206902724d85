-- What one call of an agency that keeps its rules leaves, where shop and agency agreed.
use Rattle.std.proofs.Common.{◌≡◌, ◌⊎◌, inl, inr, ℕ, List, [], ◌∷◌, ◌++◌, refl, sym, ◌∙◌, ap, subst, map, take, ◌≤◌, append_assoc}
use Rattle.std.proofs.Common.{Option, Some, Result, Ok, Err}
use Rattle.std.proofs.lemmas.List.{map-append}
use Rattle.std.specs.Prelude.{IsSome}
use Rattle.std.specs.List.{AllByRecursion}
use Rattle.record_fields.specs.declared.versions.Version.{Version}
use Rattle.record_fields.specs.declared.records.Sealed.{Sealed}
use Rattle.record_fields.specs.declared.lines.Line.{Line}
use Rattle.record_codec.specs.declared.entry.Entry.{Entry}
use Rattle.shop_core.specs.History.{noted, waiting}
use Rattle.shop_core.specs.Legal.{Legal}
use Rattle.agency_rules.specs.Pairs.{line_of, delivered, delivered_all}
use Rattle.agency_rules.specs.declared.plans.PlannedVerdict.{PlannedVerdict}
use Rattle.batches.specs.Batches.{Named, huellas_of}
use Rattle.agency_port.specs.Reply.{Replied}
use Rattle.agency_port.specs.Answers.{looked}
use Rattle.agency_port.specs.Ledger.{Ledger, Names, Submits, Consults}
use Rattle.agency_port.specs.Rules.{Delivers, LooksUp, SubmitKeeps, ConsultKeeps}
use Rattle.agency_port.specs.declared.answers.ReplyLine.TheVariants.{First}
use Rattle.agency_port.specs.declared.answers.Seen.{Seen}
use Rattle.agency_port.specs.declared.answers.AgencyFault.{AgencyFault}
use Rattle.agency_port.specs.declared.answers.AgencyFault.TheVariants as agency
use Rattle.consultation.specs.Sorting.{IsFront}
use Rattle.shop_core.specs.Prefix.{IsPrefix}
use Rattle.once_world.specs.Agreement.{Agree, lines_of}
use Rattle.once_world.specs.Laws.{DeliveriesOnlyAdd}
use Rattle.once_world.specs.Looks.{answers_for, lines_in_front, HasNoHole}
use Rattle.sender.specs.Agreeing.{AreSeen}
use Rattle.sender.specs.Known.{Known}
use Rattle.sender.proofs.Seens.{front_is, seen_kept}

pub all_delivered : (verdicts : List PlannedVerdict) (processed : List (Sealed × Line)) (xs ys : List (List Sealed)) →
    delivered_all verdicts processed (xs ++ ys) ≡ delivered_all verdicts (delivered_all verdicts processed xs) ys
all_delivered verdicts processed [] ys = refl
all_delivered verdicts processed (x ∷ xs) ys = all_delivered verdicts (delivered verdicts processed x) xs ys

-- what stands in front of the lines of a list stands in front of those of a longer one
pub lines_longer : (lines : List Line) (old new : List (Sealed × Line)) → IsPrefix lines (lines_of old) → IsPrefix old new →
    IsPrefix lines (lines_of new)
lines_longer lines old new p q = record {
  rest = p.rest ++ lines_of q.rest;
  is = ap lines_of q.is ∙ map-append (λ (x : Sealed × Line). x.1) old q.rest ∙ ap (λ (xs : List Line). xs ++ lines_of q.rest) p.is
      ∙ append_assoc lines p.rest (lines_of q.rest);
}

-- the agency afterwards
pub record Dealing (entries : List Entry) (old new : Ledger) : Type 0 where
  pub agree : Agree entries new.processed new.sent
  pub begins : IsPrefix old.processed new.processed
  pub delivers : Delivers old.verdicts new.sent old.processed new.processed
  pub verdicts : new.verdicts ≡ old.verdicts

pub consult_sent : (old new : Ledger) (asked : Named) (answer : Result (List Seen) AgencyFault) →
    Consults old new asked answer → new.sent ≡ old.sent
consult_sent old new asked (Ok seen) c = c.sent
consult_sent old new asked (Err agency.Failed) c = c.sent
consult_sent old new asked (Err agency.NoMemory) c = ap (λ (l : Ledger). l.sent) c

pub nothing_said : (entries : List Entry) (old new : Ledger) → new ≡ old → DeliveriesOnlyAdd → Agree entries old.processed
    old.sent → Dealing entries old new
nothing_said entries old new e adds agree = subst (λ (l : Ledger). Dealing entries old l) (sym e) (record {
  agree = agree;
  begins = adds old.verdicts old.processed [];
  delivers = record { batches = []; among = tt; is = refl };
  verdicts = refl;
})

pub consulted : Known → (version : Version) (issuer : List ℕ) (entries : List Entry) (old new : Ledger) (asked : Named)
    (answer : Result (List Seen) AgencyFault) → Legal version issuer entries →
    Agree entries old.processed old.sent → Consults old new asked answer → ConsultKeeps old new asked.huellas answer →
    Dealing entries old new
consulted known version issuer entries old new asked answer legal agree consults keeps =
    let sent : new.sent ≡ old.sent = consult_sent old new asked answer consults in
    let d = keeps.delivers in
    let then : Agree entries (delivered_all old.verdicts old.processed d.batches) old.sent =
    known.deliveries version issuer old.verdicts
    entries old.processed old.sent d.batches legal agree d.among in
    record {
      agree = subst (λ (s : List (List Sealed)). Agree entries new.processed s) (sym sent)
          (subst (λ (p : List (Sealed × Line)). Agree entries p old.sent) (sym d.is) then);
      begins = subst (λ (p : List (Sealed × Line)). IsPrefix old.processed p) (sym d.is) (known.adds old.verdicts old.processed
          d.batches);
      delivers = subst (λ (s : List (List Sealed)). Delivers old.verdicts s old.processed new.processed) (sym sent) d;
      verdicts = keeps.verdicts;
    }

-- what a consultation of the first waiting records that is answered shows
pub record Looked (entries : List Entry) (old new : Ledger) (said : Option Replied) (huellas : List (List ℕ)) (seen : List Seen) :
    Type 0 where
  pub then : List (Sealed × Line)
  pub is : seen ≡ looked then huellas
  pub whole : HasNoHole seen
  pub there : AreSeen then said
  pub lines : (lines : List Line) → IsFront seen lines → IsPrefix (noted entries ++ lines) (lines_of new.processed)

pub looked_at : Known → (version : Version) (issuer : List ℕ) (entries : List Entry) (count : ℕ) (old new : Ledger)
    (said : Option Replied)
    (seen : List Seen) → Legal version issuer entries → Agree entries old.processed old.sent → AreSeen old.processed said →
    LooksUp old.verdicts old.sent old.processed new.processed (huellas_of (take count (waiting entries))) seen →
    Looked entries old new said (huellas_of (take count (waiting entries))) seen
looked_at known version issuer entries count old new said seen legal agree there l =
    let first : List Sealed = take count (waiting entries) in
    let then : List (Sealed × Line) = delivered_all old.verdicts old.processed l.before in
    let agree_then : Agree entries then old.sent = known.deliveries version issuer old.verdicts entries old.processed old.sent
    l.before
    legal agree l.among_before in
    let later : IsPrefix then new.processed =
    subst (λ (p : List (Sealed × Line)). IsPrefix then p) (sym (l.is ∙ all_delivered old.verdicts old.processed l.before l.after))
    (known.adds old.verdicts then l.after) in
    record {
      then = then;
      is = l.said;
      whole = subst (λ (xs : List Seen). HasNoHole xs) (sym l.said) (known.whole version issuer entries then old.sent count legal
          agree_then);
      there = seen_kept known.stays old.verdicts old.processed l.before said there;
      lines = λ lines front.
          let same : lines_in_front (answers_for then first) ≡ lines = ap lines_in_front (sym l.said) ∙ front_is seen lines front
          in
          lines_longer (noted entries ++ lines) then new.processed
          (subst (λ (ls : List Line). IsPrefix (noted entries ++ ls) (lines_of then)) same
          (known.looked version issuer entries then
          old.sent count legal agree_then)) later;
    }

-- the batch counts as handed over, or not
abbrev pub SentBy : Ledger → Ledger → List Sealed → Type 0
SentBy old new batch = (new.sent ≡ old.sent) ⊎ (new.sent ≡ old.sent ++ batch ∷ [])

pub submit_sent : (old new : Ledger) (batch : List Sealed) (answer : Result Replied AgencyFault) → Submits old new batch answer →
    SentBy old new batch
submit_sent old new batch (Ok reply) s = inr s.sent
submit_sent old new batch (Err agency.Failed) s = inr s.sent
submit_sent old new batch (Err agency.NoMemory) s = elim s [ inl q ↦ inl q.sent | inr h ↦ inr h.sent ]

agree_handed : Known → (entries : List Entry) (count : ℕ) (old new : Ledger) → count ≤ 1000 → Agree entries old.processed old.sent
    → SentBy old new (take count (waiting entries)) → Agree entries old.processed new.sent
agree_handed known entries count old new few agree (inl e) = subst (λ (s : List (List Sealed)). Agree entries old.processed s)
    (sym e) agree
agree_handed known entries count old new few agree (inr e) =
    subst (λ (s : List (List Sealed)). Agree entries old.processed s) (sym e) (known.sending entries old.processed old.sent count
    agree few)

pub submitted : Known → (version : Version) (issuer : List ℕ) (entries : List Entry) (count : ℕ) (old new : Ledger)
    (answer : Result Replied AgencyFault) → count ≤ 1000 → Legal version issuer entries → Agree entries old.processed old.sent →
    Submits old new (take count (waiting entries)) answer → SubmitKeeps old new (take count (waiting entries)) answer →
    Dealing entries old new
submitted known version issuer entries count old new answer few legal agree submits keeps =
    let d = keeps.delivers in
    let handed : Agree entries old.processed new.sent = agree_handed known entries count old new few agree
    (submit_sent old new (take count (waiting entries)) answer submits) in
    let then : Agree entries (delivered_all old.verdicts old.processed d.batches) new.sent =
    known.deliveries version issuer old.verdicts
    entries old.processed new.sent d.batches legal handed d.among in
    record {
      agree = subst (λ (p : List (Sealed × Line)). Agree entries p new.sent) (sym d.is) then;
      begins = subst (λ (p : List (Sealed × Line)). IsPrefix old.processed p) (sym d.is) (known.adds old.verdicts old.processed
          d.batches);
      delivers = d;
      verdicts = keeps.verdicts;
    }

all_named : (processed : List (Sealed × Line)) (batch : List Sealed) →
    AllByRecursion (λ (s : Sealed). IsSome (line_of processed s.huella)) batch →
    AllByRecursion (λ (h : List ℕ). IsSome (line_of processed h)) (huellas_of batch)
all_named processed [] all = tt
all_named processed (s ∷ batch) all = (all.0, all_named processed batch all.1)

-- what a reply that names the batch says
pub record Told (entries : List Entry) (new : Ledger) (reply : Replied) : Type 0 where
  pub there : AreSeen new.processed (Some reply)
  pub lines : (lines : List Line) → reply.lines ≡ map First lines → IsPrefix (noted entries ++ lines) (lines_of new.processed)

pub told_by : Known → (version : Version) (issuer : List ℕ) (entries : List Entry) (count : ℕ) (old new : Ledger)
    (reply : Replied) → count ≤ 1000 →
    Legal version issuer entries → Agree entries old.processed old.sent →
    Submits old new (take count (waiting entries)) (Ok reply) → SubmitKeeps old new (take count (waiting entries)) (Ok reply) →
    Names reply (take count (waiting entries)) → Told entries new reply
told_by known version issuer entries count old new reply few legal agree submits keeps names =
    let batch : List Sealed = take count (waiting entries) in
    let d = keeps.answered names in
    let handed : Agree entries old.processed new.sent = agree_handed known entries count old new few agree (inr submits.sent) in
    let then : List (Sealed × Line) = delivered_all old.verdicts old.processed d.before in
    let agree_then : Agree entries then new.sent = known.deliveries version issuer old.verdicts entries old.processed new.sent
    d.before
    legal handed d.among_before in
    let came : List (Sealed × Line) = delivered old.verdicts then batch in
    let is : new.processed ≡ delivered_all old.verdicts came d.after = d.is ∙ all_delivered old.verdicts old.processed d.before
    (batch ∷ d.after) in
    let later : IsPrefix came new.processed = subst (λ (p : List (Sealed × Line)). IsPrefix came p) (sym is)
    (known.adds old.verdicts came d.after) in
    let seen : AreSeen came (Some reply) =
    subst (λ (hs : List (List ℕ)). AllByRecursion (λ (h : List ℕ). IsSome (line_of came h)) hs) (sym names)
    (all_named came batch (known.delivered_seen old.verdicts then batch)) in
    record {
      there = subst (λ (p : List (Sealed × Line)). AreSeen p (Some reply)) (sym is) (seen_kept known.stays old.verdicts came
          d.after (Some reply) seen);
      lines = λ lines e. lines_longer (noted entries ++ lines) came new.processed
          (known.first version issuer old.verdicts entries then
          new.sent count lines legal agree_then (sym d.said ∙ e)) later;
    }
