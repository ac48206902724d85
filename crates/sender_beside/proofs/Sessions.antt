-- A whole session by its steps.
use Rattle.std.proofs.Common.{◌≡◌, ◌∙◌, ℕ, ◌+◌, ◌-◌, ◌^◌, ◌<◌, ◌≤◌, List, [], ◌++◌, length, filter_map, refl, sym, ap, subst}
use Rattle.std.proofs.Common.{arith, append_assoc, append-nil, Bool, true, false, IsTrue, Result, Ok, Err}
use Rattle.std.specs.Prelude.{OnErr, OnOk}
use Rattle.record_codec.specs.declared.entry.Entry.{Entry}
use Rattle.shop_core.specs.History.{recs, noted}
use Rattle.shop_core.specs.Prefix.{IsPrefix}
use Rattle.agency_port.specs.declared.messages.Message.{Message}
use Rattle.once_world.specs.Laws.{CameBesideOwn, CameQuietly}
use Rattle.once_world.specs.Outbox.{GainsOwnNotes, Sight, history_of}
use Rattle.sender.specs.Draining.{Scene, scene_of}
use Rattle.sender.specs.Sending.{fresh}
use Rattle.sender.specs.Turning.{AgencyKind, AgencyState}
use Rattle.sender.specs.declared.answers.DrainFault.{DrainFault}
use Rattle.sender.proofs.Growing.{Growth, gains_each, growth_then, no_growth}
use Rattle.sender.proofs.Sessions.{is_turn_growth, turns_growth}
use Rattle.sender_session.specs.Session.{DrainsTo}
use Rattle.sender_session.specs.Sessions.{Closes, EndsBeside, Part, SendsSteps, SessionSteps, StandsAt, Stepped, StepsBeside}
use Rattle.sender_session.specs.Sessions.{after_all, all_of, links_in, steps_in}
use Rattle.sender_session.specs.Steps.{Standing, at_start, message_in}
use Rattle.sender_session.proofs.Asking.{asks_first, beside_tills, noted_behind}
use Rattle.sender_session.proofs.Closings.{drain_takes, none_in}
use Rattle.sender_session.proofs.Stepping.{links_both, messages_both, stepped_then}
use Rattle.sender_beside.specs.Behind.{SendsBehind}

drained_growth : (kind : AgencyKind) (exact : Bool) (met left : Scene) (answer : Result (Unit {0}) DrainFault) →
    DrainsTo kind exact met left answer → Growth met.sight left.sight
drained_growth kind exact met left answer d =
    growth_then met.sight d.drained.scene.sight left.sight
    (turns_growth kind exact met d.drained.answers d.drained.links d.drained.scene d.drained.made)
    (is_turn_growth kind exact d.drained.scene left d.drained.answer d.drained.turn)

module _ (quiet : CameQuietly) (own_law : CameBesideOwn) (kind : AgencyKind) (exact : Bool) (met left : Scene)
    (answer : Result (Unit {0}) DrainFault) where
  abbrev Drains : Bool → Result (Unit {0}) DrainFault → Type 0
  Drains d r = d ≡ true → OnOk r (DrainsTo kind exact met left answer)

  abbrev Stays : Result (Unit {0}) DrainFault → Type 0
  Stays r = (answer ≡ r) × (left ≡ met)

  growth_by : (d : Bool) (r : Result (Unit {0}) DrainFault) → Drains d r → OnErr r (Stays r) → (d ≡ false → Stays r) →
      Growth met.sight left.sight
  growth_by true (Ok done) drains failed ends = drained_growth kind exact met left answer (drains refl)
  growth_by true (Err fault) drains failed ends = subst (λ (s : Scene). Growth met.sight s.sight) (sym failed.1) (no_growth met.sight)
  growth_by false r drains failed ends = subst (λ (s : Scene). Growth met.sight s.sight) (sym (ends refl).1) (no_growth met.sight)

  -- what follows the tills, from this standing
  record Closing (d : Bool) (r : Result (Unit {0}) DrainFault) (st : Standing) : Type 0 where
    part : Part exact false (history_of met.sight) st (history_of left.sight)
    closes : Closes d r part answer
    messages : IsTrue kind.tells → left.agency_state.ledger.messages
        ≡ met.agency_state.ledger.messages ++ filter_map message_in (steps_in (all_of part))
    links : left.agency_state.faults < 2 ^ 64 - 1 → links_in (all_of part) + met.agency_state.faults ≤ left.agency_state.faults

  no_part : (st : Standing) → length (noted (history_of met.sight)) ≡ st.noted → left ≡ met →
      Part exact false (history_of met.sight) st (history_of left.sight)
  no_part st count same = record {
    going = [];
    last = [];
    one = omega arith;
    are = subst (λ (s : Scene). IsPrefix (history_of met.sight) (history_of s.sight) × (length (noted (history_of s.sight)) ≡ st.noted))
        (sym same) (record { rest = []; is = sym (append-nil (history_of met.sight)) }, count);
    go_on = tt;
  }

  no_messages : left ≡ met → IsTrue kind.tells → left.agency_state.ledger.messages ≡ met.agency_state.ledger.messages ++ []
  no_messages same tells = ap (λ (s : Scene). s.agency_state.ledger.messages) same ∙ sym (append-nil met.agency_state.ledger.messages)

  no_links : left ≡ met → 0 + met.agency_state.faults ≤ left.agency_state.faults
  no_links same = let e = ap (λ (s : Scene). s.agency_state.faults) same in omega (arith, e)

  closing_by : (d : Bool) (r : Result (Unit {0}) DrainFault) (st : Standing) → Drains d r → OnErr r (Stays r) → (d ≡ false → Stays r) →
      length (noted (history_of met.sight)) ≡ st.noted → (r ≡ Ok tt → StandsAt exact met st) →
      GainsOwnNotes met.sight left.sight →
      (d ≡ true → OnOk answer (length (noted (history_of left.sight)) ≡ length (recs (history_of left.sight)))) → Closing d r st
  unfolding no_part
  closing_by true (Ok done) st drains failed ends count stands gains delivered =
      let e = drains refl in
      let t = drain_takes quiet own_law kind exact met left st [] e.turns answer (stands refl) e.drained gains (delivered refl) in
      record { part = t.steps.part; closes = t.ends; messages = t.steps.messages; links = t.steps.links }
  closing_by true (Err fault) st drains failed ends count stands gains delivered = record {
    part = no_part st count failed.1;
    closes = (refl, failed.0);
    messages = no_messages failed.1;
    links = λ below. no_links failed.1;
  }
  closing_by false r st drains failed ends count stands gains delivered = record {
    part = no_part st count (ends refl).1;
    closes = (refl, (ends refl).0);
    messages = no_messages (ends refl).1;
    links = λ below. no_links (ends refl).1;
  }

  module _ (drains : Bool) (moment : ℕ) (sight : Sight) (end : List Entry) (opened after : AgencyState)
      (beside : Result (Unit {0}) DrainFault) (b : SendsBehind kind exact drains opened after met left beside answer)
      (steps : StepsBeside kind exact (scene_of opened sight fresh moment) met beside) (to_met : Growth sight met.sight)
      (gains : GainsOwnNotes sight left.sight)
      (delivered : drains ≡ true → OnOk answer (length (noted (history_of left.sight)) ≡ length (recs (history_of left.sight))))
      (begins : IsPrefix (history_of left.sight) end) (no_more : length (noted end) ≡ length (noted (history_of left.sight))) where
    start : Standing
    start = at_start (length (noted (history_of sight))) moment

    each : GainsOwnNotes sight met.sight × GainsOwnNotes met.sight left.sight
    each = gains_each sight met.sight left.sight to_met (growth_by drains beside b.drains_to b.failed b.ends) gains

    x : SendsSteps kind exact (scene_of opened sight fresh moment) met (at_start (length (noted (history_of sight))) moment) beside
    x = steps (at_start (length (noted (history_of sight))) moment) (record {
      noted_is = refl;
      doubt = refl;
      pace = λ e. refl;
      kept = refl;
      moment = refl;
    }) each.0

    abbrev going : List Stepped
    going = x.steps.part.going

    abbrev all : List Stepped
    all = x.steps.part.going ++ x.steps.part.last

    abbrev first : Standing
    first = at_start (length (noted (history_of sight))) moment

    well : beside ≡ Ok tt → all ≡ going
    well e = ap (λ (ss : List Stepped). going ++ ss) (none_in x.steps.part.last (subst (λ (r : Result (Unit {0}) DrainFault).
        EndsBeside (after_all first going) (steps_in x.steps.part.last) r) e x.ends)) ∙ append-nil going

    c : Closing drains beside (after_all first all)
    c = closing_by drains beside (after_all first all) b.drains_to b.failed b.ends
        (noted_behind exact true (history_of sight) first all (history_of met.sight) x.steps.part.are)
        (λ e. subst (λ (ss : List Stepped). StandsAt exact met (after_all first ss)) (sym (well e)) (x.stands e)) each.1 delivered

    abbrev more : List Stepped
    more = c.part.going ++ c.part.last

    pub session_steps : SessionSteps kind.tells exact drains moment (history_of sight) end opened after answer
    session_steps = record {
      met = history_of met.sight;
      left = history_of left.sight;
      beside = x.steps.part;
      stopped = beside;
      stops = x.ends;
      closing = c.part;
      closes = c.closes;
      begins = begins;
      no_more = no_more;
      messages = λ tells. ap (λ (k : AgencyState). k.ledger.messages) (sym b.agency_state) ∙ c.messages tells ∙
          ap (λ (ms : List Message). ms ++ filter_map message_in (steps_in more)) (x.steps.messages tells) ∙
          append_assoc opened.ledger.messages (filter_map message_in (steps_in all)) (filter_map message_in (steps_in more)) ∙
          ap (λ (ms : List Message). opened.ledger.messages ++ ms) (sym (messages_both all more));
      asks_first = asks_first exact true (history_of sight) first (all ++ more) (history_of left.sight) refl
          (stepped_then exact true (history_of sight) (history_of met.sight) (history_of left.sight) first all more x.steps.part.are
          (beside_tills exact (history_of met.sight) (after_all first all) more (history_of left.sight) c.part.are));
      links = λ below.
          let same = ap (λ (k : AgencyState). k.faults) b.agency_state in
          let late = c.links (omega (arith, same, below)) in
          let early = x.steps.links (omega (arith, same, late, below)) in
          let both = links_both all more in
          omega (arith, same, late, early, both);
    }
