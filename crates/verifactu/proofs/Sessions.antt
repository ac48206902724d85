-- What a run leaves of its agency.
use Rattle.std.proofs.Common.{◌≡◌, ◌⊎◌, inl, inr, ℕ, ◌+◌, List, [], ◌∷◌, ◌++◌, append-nil, append_assoc, length}
use Rattle.std.proofs.Common.{refl, sym, ◌∙◌, ap, subst, arith, Bool, IsTrue, Option, Result}
use Rattle.std.proofs.lemmas.List.{length-append}
use Rattle.std.proofs.lemmas.List.Elements.{filter_map-append}
use Rattle.record_fields.specs.declared.records.Sealed.{Sealed}
use Rattle.record_fields.specs.declared.lines.Line.{Line}
use Rattle.record_codec.specs.declared.entry.Entry.{Entry}
use Rattle.agency_rules.specs.declared.plans.Plan.{Plan}
use Rattle.agency_port.specs.Ledger.{Ledger}
use Rattle.agency_port.specs.Messages.{batch_in, batches_in}
use Rattle.agency_port.specs.declared.messages.Message.{Message}
use Rattle.agency_port.specs.declared.messages.Message.TheVariants.{Begun}
use Rattle.shop_core.specs.Prefix.{IsPrefix}
use Rattle.once_world.specs.Agreement.{Agree}
use Rattle.sender.specs.Dark.{AreRunsBy}
use Rattle.sender.specs.Turning.{AgencyState}
use Rattle.sender.specs.declared.answers.DrainFault.{DrainFault}
use Rattle.shop_core.specs.History.{noted, recs}
use Rattle.shop_drain.specs.Opening.{IsUnbegun}
use Rattle.shop_core.specs.Answer.Requests.{Asked}
use Rattle.shop_commands.specs.Day.{ItsAgency, Outcome as DayOutcome, day_with}
use Rattle.sender_beside.specs.Days.{torn_of}
use Rattle.shop_drain.specs.Devices.{Agencies, Around}
use Rattle.sender_session.specs.Session.{AreOfChain, SaysNothingBlindly}
use Rattle.shop_drain.specs.Draining.{IsSession, IsUnopened, OpensSession, Outcome, spanning}
use Rattle.sender_session.specs.Noting.{NotesSaid, NotesWhatIsSaid}
use Rattle.verifactu.specs.AgencyPromise.{AgencyKept, BatchesKept, StaysOfChain}
use Rattle.verifactu.specs.AgencyPromise.AgencyKept.{silent, in_session}
use Rattle.sender_session.proofs.Batches.{runs_more}
use Rattle.sender_session.proofs.Contrary.{recs_both}
use Rattle.shop_drain.proofs.Saying.{first_said, noted_both}

-- so do its messages
no_batch : (plan : Plan) (count : ℕ) (old : List Message) → batches_in (old ++ Begun plan count ∷ []) ≡ batches_in old
no_batch plan count old = filter_map-append batch_in old (Begun plan count ∷ []) ∙ append-nil (batches_in old)

-- what is of a chain is of each that it begins
pub stays_of_chain : StaysOfChain
stays_of_chain end next messages begins runs =
    let lines = ap (λ (es : List Entry). length (noted es)) begins.is
    ∙ ap (λ (ls : List Line). length ls) (noted_both end begins.rest) in
    let more = length-append (noted end) (noted begins.rest) in
    runs_more (recs next) (recs end) (recs begins.rest) (length (noted end) + 1000) (length (noted next) + 1000)
    (batches_in messages) (ap (λ (es : List Entry). recs es) begins.is ∙ recs_both end begins.rest)
    (omega (arith, lines, more)) runs

module _ {G : Type 0} (a : Agencies G) where
  abbrev Old : Ledger
  Old = a.before.ledger

  abbrev New : Ledger
  New = a.after.ledger

  -- the agency wasn't called
  pub left_agency : a.after ≡ a.before → (start end torn : List Entry) → noted end ≡ noted start → AgencyKept start end torn a
  left_agency same start end torn none = silent (λ tells. ap (λ (agency_state : AgencyState). agency_state.ledger) same) none

  -- an opening hands no batch over
  of_opened : (plan : Plan) (start : List Entry) (opened : AgencyState) →
      OpensSession a.kind a.begun plan start a.before opened → IsTrue a.kind.tells →
      AreOfChain start Old.messages → AreOfChain start opened.ledger.messages
  of_opened plan start opened opens tells runs =
      let batches : List (List Sealed) → Type 0 = AreRunsBy (recs start) (length (noted start) + 1000) in
      subst (λ (m : List Message). batches (batches_in m)) (sym (opens.lists tells).messages)
      (subst batches (sym (no_batch plan (length (noted start)) Old.messages)) runs)

  -- what was handed over, where nothing was said
  pub batches_silent : (start end : List Entry) → IsPrefix start end → (IsTrue a.kind.tells → New ≡ Old) →
      BatchesKept start end a
  batches_silent start end begins same tells runs =
      subst (λ (l : Ledger). AreOfChain end l.messages) (sym (same tells)) (stays_of_chain start end Old.messages begins runs)

  -- where a session was opened, by no more than that
  pub batches_not_served : (plan : Plan) (start : List Entry) → IsUnbegun a.kind a.before a.after
      ⊎ OpensSession a.kind a.begun plan start a.before a.after → BatchesKept start start a
  batches_not_served plan start (inl none) tells runs =
      batches_silent start start (record { rest = []; is = sym (append-nil start) }) none.lists tells runs
  batches_not_served plan start (inr opens) tells runs = of_opened plan start a.after opens tells runs

  pub batches_of_drain : (plan : Plan) (start : List Entry) (exact : Bool) (moment : ℕ) (o : Outcome) → IsPrefix start o.end →
      IsUnopened (spanning start a.kind a.before a.after exact moment o)
      ⊎ IsSession a.begun plan (spanning start a.kind a.before a.after exact moment o) →
      BatchesKept start o.end a
  batches_of_drain plan start exact moment o begins (inl none) tells runs =
      batches_silent start o.end begins none.lists tells runs
  batches_of_drain plan start exact moment o begins (inr h) tells runs = h.sends.runs tells
      (of_opened plan start h.opened h.opens tells runs)

  -- said since the session was opened is said since before
  pub since_opening : (plan : Plan) (start : List Entry) (opened : AgencyState) →
      OpensSession a.kind a.begun plan start a.before opened →
      (IsTrue a.kind.tells → AreOfChain start opened.ledger.messages →
      SaysNothingBlindly opened.ledger.messages New.messages) →
      IsTrue a.kind.tells → AreOfChain start Old.messages → SaysNothingBlindly Old.messages New.messages
  since_opening plan start opened opens careful tells runs =
      let count = length (noted start) in
      let first = (opens.lists tells).messages in
      let later = careful tells (of_opened plan start opened opens tells runs) in
      let said = subst (λ (m : List Message). SaysNothingBlindly m New.messages) first later in
      record {
        session = Begun plan count ∷ said.session;
        is = said.is ∙ append_assoc Old.messages (Begun plan count ∷ []) said.session;
        never = (tt, said.never);
      }

  -- the same of the lines that were noted
  pub said_since : (plan : Plan) (start end : List Entry) (opened : AgencyState) (answer : Result (Unit {0}) DrainFault) →
      OpensSession a.kind a.begun plan start a.before opened →
      (IsTrue a.kind.tells → NotesSaid start end opened.ledger.messages New.messages answer) →
      IsTrue a.kind.tells → NotesWhatIsSaid start end Old.messages New.messages
  said_since plan start end opened answer opens lines tells =
      let count = length (noted start) in
      let first = (opens.lists tells).messages in
      let h = lines tells in
      record {
        since = Begun plan count ∷ h.session;
        is = h.is ∙ ap (λ (ms : List Message). ms ++ h.session) first
            ∙ append_assoc Old.messages (Begun plan count ∷ []) h.session;
        lines = first_said (noted start) (noted end) h.session answer h.lines;
      }

  -- a session was opened, and no more was said
  pub opened_only : (plan : Plan) (start : List Entry) → (IsTrue a.kind.keeps_rules → IsTrue a.kind.tells) →
      OpensSession a.kind a.begun plan start a.before a.after → AgencyKept start start [] a
  opened_only plan start rules opens = in_session (record {
    careful = since_opening plan start a.after opens
        (λ tells runs. record { session = []; is = sym (append-nil New.messages); never = tt });
    said = λ tells. record {
      since = Begun plan (length (noted start)) ∷ [];
      is = (opens.lists tells).messages;
      lines = record { rest = []; is = refl };
    };
    agrees = λ keeps agree.
        let now : Agree start New.processed New.sent =
        subst (λ (sent : List (List Sealed)). Agree start New.processed sent) (sym (opens.lists (rules keeps)).sent)
        (subst (λ (p : List (Sealed × Line)). Agree start p Old.sent) (sym (opens.rules keeps)) agree) in (
          now,
          subst (λ (es : List Entry). Agree es New.processed New.sent) (sym (append-nil start)) now,
        );
  })

  -- no session was opened in a day, or one was
  pub not_served : (plan : Plan) (start : List Entry) → (IsTrue a.kind.keeps_rules → IsTrue a.kind.tells) →
      IsUnbegun a.kind a.before a.after
      ⊎ OpensSession a.kind a.begun plan start a.before a.after → AgencyKept start start [] a
  not_served plan start rules (inl none) = silent none.lists refl
  not_served plan start rules (inr opens) = opened_only plan start rules opens

  -- a drain's session
  pub of_drain : (plan : Plan) (start : List Entry) (exact : Bool) (moment : ℕ) (o : Outcome) →
      IsUnopened (spanning start a.kind a.before a.after exact moment o)
      ⊎ IsSession a.begun plan (spanning start a.kind a.before a.after exact moment o) →
      AgencyKept start o.end o.torn a
  of_drain plan start exact moment o (inl none) = silent none.lists (ap (λ (es : List Entry). noted es) none.end)
  of_drain plan start exact moment o (inr h) = in_session (record {
    careful = since_opening plan start h.opened h.opens h.sends.careful;
    said = said_since plan start o.end h.opened o.answer h.opens h.sends.lines;
    agrees = λ keeps agree. let still = h.agreement keeps agree in (still.whole, still.torn);
  })

-- a day's session
module _ {D C Z G : Type 0} (issuer : List ℕ) (asks : List Asked) (plan : Plan) (line : Option (ℕ × ℕ)) (drains : Bool)
    (c : Around D C Z G) (o : DayOutcome) (h : ItsAgency (day_with issuer asks line drains c o) plan c.agency c.disk) where
  pub of_day : AgencyKept o.start o.end (torn_of o.stop) c.agency
  of_day = in_session (record {
    careful = since_opening c.agency plan o.start o.opened h.opens h.sends.careful;
    said = said_since c.agency plan o.start o.end o.opened o.answer h.opens h.sends.lines;
    agrees = λ keeps agree. let still = h.agreement keeps agree in (still.whole, still.torn);
  })

  pub batches_of_day : BatchesKept o.start o.end c.agency
  batches_of_day tells runs = h.sends.runs tells (of_opened c.agency plan o.start o.opened h.opens tells runs)
