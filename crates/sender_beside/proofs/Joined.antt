-- What a sender that ran with tills leaves, once its shop is closed.
use Rattle.std.proofs.Common.{◌≡◌, ◌∙◌, ◌⊎◌, inl, inr, ℕ, ◌+◌, ◌-◌, List, [], length, map, sym, ap, subst, refl, append-nil}
use Rattle.std.proofs.Common.{Bool, true, IsTrue, Option, Result, Err, length-append, length-drop, arith}
use Rattle.std.specs.Prelude.{IsErrOf, OnOk}
use Rattle.record_fields.specs.declared.lines.Line.{Line}
use Rattle.record_fields.specs.declared.records.Sealed.{Sealed}
use Rattle.chain_disk.specs.OnDisk.{OnDisk}
use Rattle.chain_lock.specs.Known.{Known}
use Rattle.record_codec.specs.declared.entry.Entry.{Entry}
use Rattle.shop_core.specs.History.{recs, noted, waiting}
use Rattle.shop_core.specs.Legal.{Legal}
use Rattle.shop_core.specs.declared.items.Item.{Item}
use Rattle.shop_core.specs.declared.items.Item.TheVariants as item
use Rattle.agency_port.specs.Messages.{batches_in}
use Rattle.agency_port.specs.Sessions.{kept_reply}
use Rattle.agency_port.specs.declared.turns.Evidence.{Evidence}
use Rattle.once_world.specs.Agreement.{Agree}
use Rattle.once_world.specs.Laws.{CameBesideOwn, CameQuietly, RecordsKeepAgreement}
use Rattle.once_world.specs.Outbox.{GainsOwnNotes, Sight, history_of}
use Rattle.till_calls.specs.Mark.{sight_by}
use Rattle.till_calls.specs.Root.{Parts, Root, items_in}
use Rattle.till_calls.specs.Sound.{IsSound}
use Rattle.sender.specs.Agreeing.{BeginsCareful, BeginsInSession, InSession, IsCareful, KeepsReply}
use Rattle.sender.specs.Draining.{Scene, scene_of}
use Rattle.sender.specs.Evidence.{Shows}
use Rattle.sender.proofs.Growing.{Growth}
use Rattle.shop_core.specs.Prefix.{IsPrefix}
use Rattle.sender.specs.Sending.{Sending, fresh}
use Rattle.sender.specs.Turning.{AgencyState, AgencyKind}
use Rattle.sender.specs.declared.answers.DrainFault.{DrainFault}
use Rattle.sender.specs.declared.answers.DrainFault.TheVariants as drain
use Rattle.shop_core.specs.Answer.Requests.{Asked}
use Rattle.sender_session.specs.Sessions.{SessionSteps, StepsBeside}
use Rattle.sender_beside.specs.Behind.{SendsBehind}
use Rattle.sender_beside.specs.Beside.{CountsWithin, SendsBeside, StaysAgreed}
use Rattle.sender_session.specs.Session.{SendsOn, AreOfChain, SaysNothingBlindly}
use Rattle.sender_session.specs.Contradictions.{ShowsLast}
use Rattle.sender_beside.specs.Days.{Day, TillReplies, shop_day}
use Rattle.sender_beside.proofs.StartAndStop.{agree_new, sight_new, with_stop}
use Rattle.sender_session.proofs.Entries.{entries_back}
use Rattle.sender_session.specs.Noting.{NotesSaid}
use Rattle.sender_session.proofs.Batches.{runs_more}
use Rattle.sender_session.proofs.Clear.{nothing_before}
use Rattle.sender_session.proofs.Contrary.{asked_of_more, none_yet, one_shown}
use Rattle.sender_session.proofs.NotingTurns.{at_end_noted}
use Rattle.sender_beside.proofs.ClosedShop.{GivenStore, Shared, agreed, agreed_torn, gains, more_records, seen_first, still_waits}
use Rattle.sender_beside.proofs.ClosedShop.{torn_said}
use Rattle.sender_beside.proofs.Sessions.{session_steps}

module _ {D C : Type 0} (tells : Bool) (on_disk : D → OnDisk) (faults : D → ℕ) (coming shop_clock : C → ℕ → Option ℕ) (p : Parts D C)
    (root : Root C) (base : List Item) (tills : List (Known Item (Root C))) (seat then : Known Item (Root C))
    (h : Shared base (items_in p) root tills seat then)
    (sound : IsSound tells on_disk faults shop_clock root p) (is : base ≡ map item.Entry root.history)
    (legal : Legal root.version root.issuer root.history) (asks : List Asked) (told_all : List TillReplies)
    (kind : AgencyKind) (old new : AgencyState) (drains : Bool) (sending : Sending) (answer : Result (Unit {0}) DrainFault)
    (sends : SendsOn kind (sight_by seat) (sight_by then) old new fresh sending answer) where
  abbrev day : Day
  day = shop_day coming asks root p told_all kind old new drains answer

  kept : GivenStore base (items_in p) root tills seat then h root.history p.state.entries p.stopped p.torn
  kept = record { base_is = is; log_is = refl; begins = sound.begins }

  begun : history_of (sight_by seat) ≡ root.history
  begun = ap history_of (sight_new base root seat h.fresh is) ∙ entries_back root.history

  still : RecordsKeepAgreement → BeginsInSession → IsTrue kind.keeps_rules → Agree root.history old.ledger.processed
      old.ledger.sent → StaysAgreed day
  still records session keeps agree =
      let own = gains base (items_in p) root tills seat then h in
      let in_it : InSession (sight_by seat) old.ledger fresh.said = session (sight_by seat) old.ledger
      (agree_new base root seat old.ledger.processed old.ledger.sent h.fresh is agree) in
      let k = sends.shop.session keeps in_it own in
      let t = sends.shop.torn keeps in_it own in
      record {
        whole = agreed base (items_in p) root tills seat then h root.history p.state.entries p.stopped p.torn kept records
            new.ledger k.session.agree;
        torn = subst (λ (es : List Entry). Agree es new.ledger.processed new.ledger.sent) (with_stop p.state.entries p.stopped
            p.torn)
            (agreed_torn base (items_in p) root tills seat then h root.history p.state.entries p.stopped p.torn kept records
            new.ledger k.session.agree t);
        no_contradiction = sends.shop.no_contradiction keeps in_it own;
      }

  careful_then : BeginsCareful → IsTrue kind.tells → AreOfChain root.history old.ledger.messages →
      IsCareful old.ledger.messages (sight_by then) new.ledger.messages sending
  careful_then careful says runs =
      let there = subst (λ (s : Sight). Legal s.version s.issuer (history_of (sight_by seat)))
      (sym (sight_new base root seat h.fresh is))
      (subst (λ (es : List Entry). Legal root.version root.issuer es) (sym begun) legal) in
      let start = careful old.ledger.messages (sight_by seat) there
      (subst (λ (es : List Entry). AreOfChain es old.ledger.messages) (sym begun) runs) in
      sends.messages.careful says old.ledger.messages start

  nothing_blindly : BeginsCareful → IsTrue kind.tells → AreOfChain root.history old.ledger.messages →
      SaysNothingBlindly old.ledger.messages new.ledger.messages
  nothing_blindly careful says runs =
      let ends = careful_then careful says runs in
      record { session = ends.session; is = ends.is; never = ends.never }

  -- the batches are runs of what the seat saw, and so of the whole
  still_runs : BeginsCareful → IsTrue kind.tells → AreOfChain root.history old.ledger.messages →
      AreOfChain p.state.entries new.ledger.messages
  still_runs careful says runs =
      let ends = careful_then careful says runs in
      let seen = history_of (sight_by then) in
      let more = more_records base (items_in p) root tills seat then h root.history p.state.entries p.stopped p.torn kept in
      let lines : noted p.state.entries ≡ noted seen = (still_waits base (items_in p) root tills seat then h root.history
      p.state.entries p.stopped p.torn kept).0 in
      let count = ap (λ (ls : List Line). length ls) lines in
      runs_more (recs p.state.entries) (recs seen) more.0 (length (noted seen) + 1000) (length (noted p.state.entries) + 1000)
      (batches_in new.ledger.messages) more.1 (omega (arith, count)) ends.runs

  begins : KeepsReply old.ledger.messages old.ledger.messages fresh.said
  begins = record { session = []; is = sym (append-nil old.ledger.messages); kept = refl }

  -- what the last message shows of the history that the seat saw it shows of the whole
  at_end : (evidence : Evidence) → ShowsLast (history_of (sight_by then)) old.ledger.messages new.ledger.messages evidence →
      ShowsLast p.state.entries old.ledger.messages new.ledger.messages evidence
  at_end evidence s =
      let waits = still_waits base (items_in p) root tills seat then h root.history p.state.entries p.stopped p.torn kept in
      record {
        before = s.before;
        named = s.named;
        seen = s.seen;
        is = s.is;
        asked = asked_of_more s.named.huellas (waiting (history_of (sight_by then))) (waiting p.state.entries) s.asked waits.1;
        shows = subst (λ (ls : List Line). Shows (kept_reply s.before) (length ls + 1) s.named.huellas s.seen (Err evidence))
            (sym waits.0) s.shows;
      }

  only_shown : IsTrue kind.tells → (evidence : Evidence) → IsErrOf answer (drain.Contradiction evidence) →
      ShowsLast p.state.entries old.ledger.messages new.ledger.messages evidence
  only_shown says evidence is = at_end evidence (sends.messages.contrary says old.ledger.messages begins evidence is)

  each_shown : IsTrue kind.tells → (evidence : Evidence) → ShowsLast p.state.entries old.ledger.messages new.ledger.messages
      evidence → IsErrOf answer (drain.Contradiction evidence) ⊎ (answer ≡ Err drain.NoMemory)
  each_shown says evidence s = elim (sends.messages.shown says old.ledger.messages begins (none_yet old.ledger.messages) p.state.entries
      evidence s) [
        | inl c ↦ inl (subst (λ (e : Evidence). IsErrOf answer (drain.Contradiction e)) (one_shown p.state.entries
            old.ledger.messages new.ledger.messages c.0 evidence (only_shown says c.0 c.1) s) c.1)
        | inr m ↦ inr m
      ]

  -- the counts of the last sight, with the records that came after it
  counts_within : (n r : ℕ) → IsErrOf answer (drain.Undelivered n r) → CountsWithin p.state.entries n r
  counts_within n r is =
      let c = sends.ends.counts n r is in
      let waits = still_waits base (items_in p) root tills seat then h root.history p.state.entries p.stopped p.torn kept in
      let seen = history_of (sight_by then) in
      let lines : length (noted p.state.entries) ≡ length (noted seen) = ap (λ (ls : List Line). length ls) waits.0 in
      let more : length (waiting p.state.entries) ≡ length (waiting seen) + length waits.1.rest =
      ap (λ (rs : List Sealed). length rs) waits.1.is ∙ length-append (waiting seen) waits.1.rest in
      let few : length (waiting seen) ≡ length (recs seen) - length (noted seen) = length-drop (length (noted seen)) (recs seen) in
      let many : length (waiting p.state.entries) ≡ length (recs p.state.entries) - length (noted p.state.entries) =
      length-drop (length (noted p.state.entries)) (recs p.state.entries) in
      record { noted_is = c.noted_is ∙ sym lines; within = omega arith; some = c.some }

  -- the lines that were noted by the end are those that the seat noted
  all_said : IsTrue kind.tells → NotesSaid root.history p.state.entries old.ledger.messages new.ledger.messages answer
  all_said says =
      let seen = history_of (sight_by then) in
      let more = more_records base (items_in p) root tills seat then h root.history p.state.entries p.stopped p.torn kept in
      let lines : noted p.state.entries ≡ noted seen = (still_waits base (items_in p) root tills seat then h root.history
      p.state.entries p.stopped p.torn kept).0 in
      at_end_noted root.history seen p.state.entries old.ledger.messages new.ledger.messages answer more.0 more.1 lines
      (subst (λ (es : List Entry). NotesSaid es seen old.ledger.messages new.ledger.messages answer) begun
      (sends.messages.lines says (gains base (items_in p) root tills seat then h)))

  pub sends_beside : RecordsKeepAgreement → BeginsInSession → BeginsCareful → SendsBeside day
  sends_beside records session careful = record {
    agreement = still records session;
    careful = nothing_blindly careful;
    runs = still_runs careful;
    says = sends.messages.says;
    contrary = only_shown;
    shown = each_shown;
    none_before = λ says. sends.messages.none_before says old.ledger.messages begins (none_yet old.ledger.messages)
        (nothing_before old.ledger.messages);
    lines = all_said;
    torn_lines = λ says. torn_said base (items_in p) root tills seat then h root.history p.state.entries p.stopped p.torn kept
        new.ledger.messages (sends.messages.torn_lines says);
    later = sends.ends.later;
    counts = counts_within;
    undelivered = sends.ends.undelivered;
    gives_up = sends.ends.gives_up;
    gave_up = sends.ends.gave_up;
  }

  -- the session by its steps, from the scene at the tills' end and that at its own
  pub whole_session : CameQuietly → CameBesideOwn → (exact : Bool) (moment : ℕ) (met left : Scene)
      (beside : Result (Unit {0}) DrainFault) → SendsBehind kind exact drains old new met left beside answer →
      StepsBeside kind exact (scene_of old (sight_by seat) fresh moment) met beside → Growth (sight_by seat) met.sight →
      left.sight ≡ sight_by then →
      (drains ≡ true → OnOk answer (length (noted (history_of left.sight)) ≡ length (recs (history_of left.sight)))) →
      SessionSteps kind.tells exact drains moment root.history p.state.entries old new answer
  whole_session quiet own_law exact moment met left beside behind steps to_met same delivered =
      let first = seen_first base (items_in p) root tills seat then h root.history p.state.entries p.stopped p.torn kept in
      subst (λ (es : List Entry). SessionSteps kind.tells exact drains moment es p.state.entries old new answer) begun
      (session_steps quiet own_law kind exact met left answer drains moment (sight_by seat) p.state.entries old new beside behind steps
      to_met (subst (λ (s : Sight). GainsOwnNotes (sight_by seat) s) (sym same) (gains base (items_in p) root tills seat then h)) delivered
      (subst (λ (s : Sight). IsPrefix (history_of s) p.state.entries) (sym same) first.0)
      (first.1 ∙ ap (λ (s : Sight). length (noted (history_of s))) (sym same)))
