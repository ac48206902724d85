-- What a drain did, and how it ended, by its steps.
use Rattle.std.proofs.Common.{◌≡◌, inl, inr, ℕ, ◌<◌, ◌≤◌, List, [], ◌∷◌, ◌++◌, length, map, filter_map, refl, sym, ◌∙◌, ap}
use Rattle.std.proofs.Common.{subst, arith, append_assoc, Bool, Result, Ok, Err, OnOk}
use Rattle.std.specs.Prelude.{Contains, count_by}
use Rattle.std.specs.List.{AllByRecursion}
use Rattle.std.proofs.lemmas.List.{map-append}
use Rattle.std.proofs.lemmas.List.Elements.{filter_map-append}
use Rattle.std.proofs.lemmas.List.Sums.{sum_by-append}
use Rattle.record_fields.specs.declared.records.Sealed.{Sealed}
use Rattle.journal.specs.declared.faults.StoreFault.TheVariants as store
use Rattle.shop_core.specs.History.{recs, noted}
use Rattle.agency_port.specs.declared.messages.Message.{Message}
use Rattle.agency_port.specs.declared.turns.Told.{Told}
use Rattle.agency_port.specs.declared.turns.Told.TheVariants as told
use Rattle.once_world.specs.Outbox.{Sight, history_of}
use Rattle.sender.specs.declared.answers.Turn.{Turn}
use Rattle.sender.specs.declared.answers.Turn.TheVariants.{Idle}
use Rattle.sender.specs.declared.answers.SendFault.{SendFault}
use Rattle.sender.specs.declared.answers.SendFault.TheVariants as send
use Rattle.sender.specs.declared.answers.DrainFault.{DrainFault}
use Rattle.sender.specs.declared.answers.DrainFault.TheVariants as drain
use Rattle.sender.specs.Draining.{Scene, Drained, EndsWith, told_in, told_list, is_link}
use Rattle.sender.specs.Sending.{fresh}
use Rattle.sender.specs.Turning.{AgencyKind, AgencyState}
use Rattle.sender.proofs.Drains.{told_split}
use Rattle.sender.proofs.Growing.{no_growth}
use Rattle.sender.proofs.Sessions.{is_turn_growth}
use Rattle.shop_drain.specs.Draining.{TearsLast}
use Rattle.sender_session.specs.Steps.{Step, Standing, Steps, at_start, line_in, message_in}
use Rattle.sender_session.specs.Steps.{after_steps, EndsBy, AreTold}
use Rattle.sender_session.proofs.Closings.{ends_by, said_one}
use Rattle.sender_session.proofs.Standing.{Did}
use Rattle.sender_session.proofs.Stops.{answers_fault}
use Rattle.sender_session.proofs.Walking.{At, Walked, walked, turn_did, are_then, link_count, risen_more, steps_then}

module _ (kind : AgencyKind) (exact : Bool) (records : List Sealed) (agency_state : AgencyState) (sight : Sight) (moment : ℕ) (then : Scene)
    (old new : List Told) (answer : Result (Unit {0}) DrainFault) where
  abbrev begin : Scene
  begin = record { agency_state = agency_state; sight = sight; sending = fresh; moment = moment }

  -- the steps, whose last line is the disk's fault where that is the last turn's answer
  pub record StepsTold (d : Drained kind exact begin then old new answer) : Type 0 where
    pub steps : Steps kind.tells exact records (length (noted (history_of sight))) (length (noted (history_of then.sight))) moment
        agency_state then.agency_state new answer
    pub tears : d.answer ≡ Err (send.Store store.DiskFault) → TearsLast steps.going steps.last new answer

  pub drained_steps : (d : Drained kind exact (record { agency_state = agency_state; sight = sight; sending = fresh; moment = moment }) then old
      new answer) → recs (history_of sight) ≡ records → sight.own ≡ [] → old ≡ [] →
      ((n : ℕ) → length sight.items ≤ n → n < length then.sight.items → Contains then.sight.own n) →
      OnOk answer (length (noted (history_of then.sight)) ≡ length (recs (history_of then.sight))) →
      StepsTold d
  drained_steps d records_are none empty mine delivered = record {
    steps = record {
      going = w.steps;
      last = x.steps;
      one = x.one;
      are = are_then exact records st w.steps x.steps w.are x.are;
      go_on = w.go_on;
      told = told_so;
      messages = λ tells. x.messages tells ∙ ap (λ (ms : List Message). ms ++ filter_map message_in x.steps) (w.messages tells) ∙
          append_assoc agency_state.ledger.messages (filter_map message_in w.steps) (filter_map message_in x.steps)
          ∙ ap (λ (ms : List Message). agency_state.ledger.messages ++ ms) (sym (filter_map-append message_in w.steps x.steps));
      noted = x.noted_is ∙ ap (λ (s : Standing). s.noted) (sym (steps_then st w.steps x.steps));
      few = let a = w.counted in let b = w.few in omega (arith, a, b);
      links = λ below.
          let split = ap (λ (ls : List Told). count_by is_link ls) (map-append line_in w.steps x.steps) ∙
          sum_by-append _ (map line_in w.steps) (map line_in x.steps) in
          let one = link_count d.links d.answer in
          let same = ap (λ (ls : List Told). count_by is_link ls) x.lines in
          let so_far = w.counted in
          let risen = risen_more kind exact records then.sight (length sight.items) mine begin d.scene then d.links d.answer d.turn
          w.risen below in
          omega (arith, split, one, same, so_far, risen);
      ends = elim d.ends [
        | inl p ↦ ends_by records (after_steps st w.steps) (count_by is_link (map line_in w.steps)) then.sight x.steps d.answer answer
            x.lines records_then x.contrary (subst (λ (n : ℕ). EndsWith n then.sight d.answer answer) w.counted p.1) delivered
        | inr p ↦ subst (λ (a : Result (Unit {0}) DrainFault). EndsBy records (after_steps st w.steps)
            (count_by is_link (map line_in w.steps)) (length (noted (history_of then.sight))) x.steps a) (sym p.0) tt
      ];
    };
    tears = λ e. record {
      line = said_one x.steps told.Disk ((λ at q. absurd cc), (λ q. absurd cc)) (lines_of (Err (send.Store store.DiskFault)) e);
      printed = elim d.ends [
        | inl p ↦ inl (answers_fault d.links then.sight d.answer answer p.1 e, told_whole p.0)
        | inr p ↦ inr (p.0, told_but_last p.1)
      ];
    };
  }
    where
      st : Standing
      st = at_start (length (noted (history_of sight))) moment

      at : At exact records (length sight.items) begin st
      at = record {
        records_are = records_are;
        noted_is = refl;
        doubt = refl;
        pace = λ e. refl;
        kept = refl;
        moment = refl;
        high = subst (λ (o : List ℕ). AllByRecursion (λ (p : ℕ). p < length sight.items) o) (sym none) tt;
        long = omega arith;
      }

      w : Walked kind exact records then.sight (length sight.items) mine begin d.scene st d.answers d.links
      w = walked kind exact records then.sight (length sight.items) mine begin st d.answers d.links d.scene at d.made
          (is_turn_growth kind exact d.scene then d.answer d.turn)

      x : Did kind.tells exact records (after_steps st w.steps) d.scene.agency_state.ledger.messages then.agency_state.ledger.messages then.sight
          then.sending d.answer
      x = turn_did kind exact records then.sight (length sight.items) mine d.scene then (after_steps st w.steps) d.answer w.here
          d.turn (no_growth then.sight)

      lines_are : filter_map told_in (d.answers ++ d.answer ∷ []) ≡ map line_in (w.steps ++ x.steps)
      lines_are = told_split d.answers d.answer ∙ ap (λ (ls : List Told). ls ++ told_list d.answer) (sym w.lines) ∙
          ap (λ (ls : List Told). map line_in w.steps ++ ls) (sym x.lines) ∙ sym (map-append line_in w.steps x.steps)

      told_whole : new ≡ old ++ filter_map told_in (d.answers ++ d.answer ∷ []) → new ≡ map line_in (w.steps ++ x.steps)
      told_whole e = e ∙ ap (λ (ls : List Told). ls ++ filter_map told_in (d.answers ++ d.answer ∷ [])) empty ∙ lines_are

      told_but_last : new ≡ old ++ filter_map told_in d.answers → new ≡ map line_in w.steps
      told_but_last e = e ∙ ap (λ (ls : List Told). ls ++ filter_map told_in d.answers) empty ∙ sym w.lines

      told_so : AreTold new w.steps x.steps answer
      told_so = elim d.ends [
        | inl p ↦ inl (told_whole p.0)
        | inr p ↦ inr (p.0, told_but_last p.1)
      ]

      lines_of : (a : Result Turn SendFault) → d.answer ≡ a → map line_in x.steps ≡ told_list a
      lines_of a e = x.lines ∙ ap told_list e

      records_then : length (recs (history_of then.sight)) ≡ length records
      records_then = ap length x.records_are
