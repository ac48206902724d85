-- How turns end by their steps: those beside tills, and a drain.
use Rattle.std.proofs.Common.{◌≡◌, inl, inr, ℕ, ◌+◌, ◌-◌, ◌^◌, ◌<◌, ◌≤◌, List, [], ◌∷◌, ◌++◌, length, map, filter_map, refl, sym, ◌∙◌, ap}
use Rattle.std.proofs.Common.{subst, arith, append_assoc, append-nil, Bool, true, false, IsTrue, ◌⊎◌, Result, Ok, Err, OnOk}
use Rattle.std.specs.Prelude.{count_by}
use Rattle.std.specs.List.{AllByRecursion}
use Rattle.record_fields.specs.declared.records.Sealed.{Sealed}
use Rattle.record_codec.specs.declared.entry.Entry.{Entry}
use Rattle.journal.specs.declared.faults.StoreFault.TheVariants as store
use Rattle.shop_core.specs.History.{recs, noted}
use Rattle.shop_core.specs.Prefix.{IsPrefix}
use Rattle.agency_port.specs.declared.messages.Message.{Message}
use Rattle.agency_port.specs.declared.turns.Evidence.{Evidence}
use Rattle.agency_port.specs.declared.turns.Told.{Told}
use Rattle.agency_port.specs.declared.turns.Told.TheVariants as told
use Rattle.once_world.specs.Laws.{CameBesideOwn, CameQuietly}
use Rattle.once_world.specs.Outbox.{GainsOwnNotes, Sight, history_of}
use Rattle.sender.specs.declared.answers.Turn.{Turn}
use Rattle.sender.specs.declared.answers.Turn.TheVariants.{Idle, WaitUntil, Noted, Cleared, Doubt}
use Rattle.sender.specs.declared.answers.SendFault.{SendFault}
use Rattle.sender.specs.declared.answers.SendFault.TheVariants as send
use Rattle.sender.specs.declared.answers.DrainFault.{DrainFault}
use Rattle.sender.specs.declared.answers.DrainFault.TheVariants as drain
use Rattle.sender.specs.declared.draining.TheConstants.{MAX_LINK_FAULTS}
use Rattle.sender.specs.Draining.{Scene, Turns, none as no_turn, more as one_turn, Drained, EndsWith, told_in, told_list}
use Rattle.sender.specs.Draining.{is_link, turn_between}
use Rattle.sender.specs.Turning.{AgencyKind, Turned}
use Rattle.sender.proofs.Growing.{Growth, gains_each}
use Rattle.sender.proofs.Sessions.{is_turn_growth, turns_growth}
use Rattle.sender_session.specs.Session.{sending_end}
use Rattle.sender_session.specs.Sessions.{AreStepped, EndsAsDrain, EndsBeside, SendsSteps, StandsAt, Stepped, StepsBeside, TakesSteps, after_all}
use Rattle.sender_session.specs.Sessions.{RestsTo, links_in, steps_in}
use Rattle.sender_session.specs.Steps.{Step, Waits, Says, LacksMemory, Standing, line_in, message_in, EndsBy, EndsContrary, EndsSaying}
use Rattle.sender_session.specs.Steps.{GoesOnBehind}
use Rattle.sender_session.proofs.Lists.{each_append}
use Rattle.sender_session.proofs.Standing.{Lasts, lasts}
use Rattle.sender_session.proofs.Stepping.{TurnSteps, all_then, links_both, messages_both, stepped_then, steps_both, turn_steps}
use Rattle.sender_session.proofs.Walking.{goes_lines, link_count}

pub no_steps : (steps : List Step) → map line_in steps ≡ [] → steps ≡ []
no_steps [] e = refl
no_steps (s ∷ steps) e = absurd cc

-- a line that is neither a wait nor lack of memory stands for a message
abbrev pub IsOfMessage : Told → Type 0
IsOfMessage printed = ((at : ℕ) → printed ≡ told.Wait at → ⊥) × (printed ≡ told.Memory → ⊥)

pub said_one : (steps : List Step) (printed : Told) → IsOfMessage printed → map line_in steps ≡ printed ∷ [] →
    EndsSaying steps printed
said_one [] printed of e = absurd cc
said_one (Waits at ∷ []) printed of e = absurd (of.0 at (let f : printed ≡ told.Wait at = cc in f))
said_one (LacksMemory ∷ []) printed of e = absurd (of.1 (let f : printed ≡ told.Memory = cc in f))
said_one (Says m l ∷ []) printed of e = record {
  message = m;
  is = ap (λ (x : Told). Says m x ∷ []) (let f : l ≡ printed = cc in
      f);
}
said_one (s ∷ (t ∷ steps)) printed of e = absurd cc

-- how a drain ends by the steps of its last turn
pub ends_by : (records : List Sealed) (st : Standing) (links : ℕ) (after : Sight) (steps : List Step) (last : Result Turn SendFault)
    (a : Result (Unit {0}) DrainFault) → map line_in steps ≡ told_list last → length (recs (history_of after)) ≡ length records →
    ((evidence : Evidence) → last ≡ Err (send.Contradiction evidence) → EndsContrary st steps evidence) → EndsWith links after last a →
    OnOk a (length (noted (history_of after)) ≡ length (recs (history_of after))) →
    EndsBy records st links (length (noted (history_of after))) steps a
ends_by records st links after steps last (Ok done) lines same contrary e all =
    (no_steps steps (lines ∙ ap told_list e.1), all ∙ same)
ends_by records st links after steps last (Err (drain.Undelivered noted_count records_count)) lines same contrary e all =
    let c = e.2.noted_is in
    let f = e.2.some in
    let k = e.2.records_is in (
      said_one steps told.Link ((λ at q. absurd cc), (λ q. absurd cc)) (lines ∙ ap told_list e.0),
      e.1,
      c,
      k ∙ same,
      omega (arith, c, f, k, same),
    )
ends_by records st links after steps last (Err (drain.Contradiction evidence)) lines same contrary e all = contrary evidence e
ends_by records st links after steps last (Err (drain.Store store.DiskFault)) lines same contrary e all =
    said_one steps told.Disk ((λ at q. absurd cc), (λ q. absurd cc)) (lines ∙ ap told_list e)
ends_by records st links after steps last (Err (drain.Store (store.Stopped faults))) lines same contrary e all =
    said_one steps (told.Stopped faults) ((λ at q. absurd cc), (λ q. absurd cc)) (lines ∙ ap told_list e)
ends_by records st links after steps last (Err (drain.Store store.NoMemory)) lines same contrary e all = tt
ends_by records st links after steps last (Err drain.NoMemory) lines same contrary e all = tt

-- how turns beside tills end by the steps of the last one
ends_beside : (st : Standing) (steps : List Step) (answer : Result Turn SendFault) → (Lasts answer → ⊥) →
    map line_in steps ≡ told_list answer →
    ((evidence : Evidence) → answer ≡ Err (send.Contradiction evidence) → EndsContrary st steps evidence) →
    EndsBeside st steps (sending_end answer)
ends_beside st steps (Ok turn) never lines contrary = absurd (never tt)
ends_beside st steps (Err send.LinkFault) never lines contrary = absurd (never tt)
ends_beside st steps (Err (send.Contradiction evidence)) never lines contrary = contrary evidence refl
ends_beside st steps (Err (send.Store store.DiskFault)) never lines contrary =
    said_one steps told.Disk ((λ at q. absurd cc), (λ q. absurd cc)) lines
ends_beside st steps (Err (send.Store (store.Stopped faults))) never lines contrary =
    said_one steps (told.Stopped faults) ((λ at q. absurd cc), (λ q. absurd cc)) lines
ends_beside st steps (Err (send.Store store.NoMemory)) never lines contrary = tt
ends_beside st steps (Err send.NoMemory) never lines contrary = tt

lasts_or : (answer : Result Turn SendFault) → Lasts answer ⊎ ((Lasts answer → ⊥) × (sending_end answer ≡ Ok tt → ⊥))
lasts_or (Ok turn) = inl tt
lasts_or (Err send.LinkFault) = inl tt
lasts_or (Err (send.Contradiction evidence)) = inr ((λ on. on), (λ e. absurd cc))
lasts_or (Err (send.Store fault)) = inr ((λ on. on), (λ e. absurd cc))
lasts_or (Err send.NoMemory) = inr ((λ on. on), (λ e. absurd cc))

lasting_end : (answer : Result Turn SendFault) → Lasts answer → sending_end answer ≡ Ok tt
lasting_end (Ok turn) on = refl
lasting_end (Err send.LinkFault) on = refl
lasting_end (Err (send.Contradiction evidence)) on = absurd on
lasting_end (Err (send.Store fault)) on = absurd on
lasting_end (Err send.NoMemory) on = absurd on

lasting_lines : (answer : Result Turn SendFault) → Lasts answer → AllByRecursion GoesOnBehind (told_list answer)
lasting_lines (Ok (Idle count)) on = tt
lasting_lines (Ok (WaitUntil at)) on = (tt, tt)
lasting_lines (Ok (Noted n)) on = (tt, tt)
lasting_lines (Ok Cleared) on = (tt, tt)
lasting_lines (Ok (Doubt place)) on = (tt, tt)
lasting_lines (Err send.LinkFault) on = (tt, tt)
lasting_lines (Err (send.Contradiction evidence)) on = absurd on
lasting_lines (Err (send.Store fault)) on = absurd on
lasting_lines (Err send.NoMemory) on = absurd on

lines_go : (steps : List Step) → AllByRecursion GoesOnBehind (map line_in steps) →
    AllByRecursion (λ (s : Step). GoesOnBehind (line_in s)) steps
lines_go [] h = tt
lines_go (s ∷ steps) h = (h.0, lines_go steps h.1)

pub none_in : (xs : List Stepped) → steps_in xs ≡ [] → xs ≡ []
none_in [] e = refl
none_in (x ∷ xs) e = absurd cc

no_prefix : (es : List Entry) → IsPrefix es es
no_prefix es = record { rest = []; is = sym (append-nil es) }

module _ (kind : AgencyKind) (exact : Bool) where
  -- one turn beside tills
  pub turn_sends : (before then : Scene) (st : Standing) (answer : Result Turn SendFault) →
      TurnSteps kind exact true before then st answer → SendsSteps kind exact before then st (sending_end answer)
  turn_sends before then st answer x = elim (lasts_or answer) [
    | inl on ↦ record {
      steps = record {
        part = record {
          going = x.steps;
          last = [];
          one = omega arith;
          are = subst (λ (ss : List Stepped). AreStepped exact true (history_of before.sight) st ss
              (history_of then.sight)) (sym (append-nil x.steps)) x.are;
          go_on = lines_go (steps_in x.steps) (subst (λ (ls : List Told). AllByRecursion GoesOnBehind ls) (sym x.lines)
              (lasting_lines answer on));
        };
        messages = λ tells. subst (λ (ss : List Stepped). then.agency_state.ledger.messages
            ≡ before.agency_state.ledger.messages ++ filter_map message_in (steps_in ss)) (sym (append-nil x.steps)) (x.messages tells);
        links = λ below. subst (λ (ss : List Stepped). links_in ss + before.agency_state.faults ≤ then.agency_state.faults)
            (sym (append-nil x.steps)) (x.links below);
      };
      ends = subst (λ (r : Result (Unit {0}) DrainFault). EndsBeside (after_all st x.steps) [] r) (sym (lasting_end answer on)) refl;
      stands = λ e. x.stands on;
    }
    | inr never ↦ record {
      steps = record {
        part = record { going = []; last = x.steps; one = x.one; are = x.are; go_on = tt };
        messages = x.messages;
        links = x.links;
      };
      ends = ends_beside st (steps_in x.steps) answer never.0 x.lines x.contrary;
      stands = λ e. absurd (never.1 e);
    }
  ]

  -- no turn yet
  pub sends_no_steps : (scene : Scene) (st : Standing) → StandsAt exact scene st → SendsSteps kind exact scene scene st (Ok tt)
  sends_no_steps scene st s = record {
    steps = record {
      part = record { going = []; last = []; one = omega arith; are = (no_prefix (history_of scene.sight), s.noted_is); go_on = tt };
      messages = λ tells. sym (append-nil scene.agency_state.ledger.messages);
      links = λ below. omega arith;
    };
    ends = refl;
    stands = λ e. s;
  }

  -- turns that go on, and more of them
  module _ (a b c : Scene) (st : Standing) (answer : Result (Unit {0}) DrainFault) (x : SendsSteps kind exact a b st (Ok tt))
      (y : SendsSteps kind exact b c (after_all st x.steps.part.going) answer) where
    abbrev xg : List Stepped
    xg = x.steps.part.going

    abbrev yg : List Stepped
    yg = y.steps.part.going

    abbrev yl : List Stepped
    yl = y.steps.part.last

    first : xg ++ x.steps.part.last ≡ xg
    first = ap (λ (ss : List Stepped). xg ++ ss) (none_in x.steps.part.last x.ends) ∙ append-nil xg

    whole : (xg ++ yg) ++ yl ≡ xg ++ (yg ++ yl)
    whole = append_assoc xg yg yl

    pub sends_steps_then : SendsSteps kind exact a c st answer
    sends_steps_then = record {
      steps = record {
        part = record {
          going = xg ++ yg;
          last = yl;
          one = y.steps.part.one;
          are = subst (λ (ss : List Stepped). AreStepped exact true (history_of a.sight) st ss (history_of c.sight))
              (sym whole) (stepped_then exact true (history_of a.sight) (history_of b.sight) (history_of c.sight) st xg
              (yg ++ yl) (subst (λ (ss : List Stepped). AreStepped exact true (history_of a.sight) st ss
              (history_of b.sight)) first x.steps.part.are) y.steps.part.are);
          go_on = subst (λ (ss : List Step). AllByRecursion (λ (s : Step). GoesOnBehind (line_in s)) ss) (sym (steps_both xg yg))
              (each_append (λ (s : Step). GoesOnBehind (line_in s)) (steps_in xg) (steps_in yg) x.steps.part.go_on y.steps.part.go_on);
        };
        messages = λ tells.
            let early = subst (λ (ss : List Stepped). b.agency_state.ledger.messages
            ≡ a.agency_state.ledger.messages ++ filter_map message_in (steps_in ss)) first (x.steps.messages tells) in
            y.steps.messages tells ∙ ap (λ (ms : List Message). ms ++ filter_map message_in (steps_in (yg ++ yl))) early ∙
            append_assoc a.agency_state.ledger.messages (filter_map message_in (steps_in xg)) (filter_map message_in (steps_in (yg ++ yl)))
            ∙ ap (λ (ms : List Message). a.agency_state.ledger.messages ++ ms) (sym (messages_both xg (yg ++ yl)) ∙
            ap (λ (ss : List Stepped). filter_map message_in (steps_in ss)) (sym whole));
        links = λ below.
            let late = y.steps.links below in
            let early = x.steps.links (omega (arith, late, below)) in
            let same = ap links_in first in
            let both = ap links_in whole ∙ links_both xg (yg ++ yl) in
            omega (arith, late, early, same, both);
      };
      ends = subst (λ (s : Standing). EndsBeside s (steps_in yl) answer) (sym (all_then st xg yg)) y.ends;
      stands = λ e. subst (λ (s : Standing). StandsAt exact c s) (sym (all_then st xg yg)) (y.stands e);
    }

  pub steps_none : (scene : Scene) → StepsBeside kind exact scene scene (Ok tt)
  steps_none scene st s gains = sends_no_steps scene st s

  -- the same, where the answer of the last turn is that of all
  pub steps_after : (a b c : Scene) (last answer : Result (Unit {0}) DrainFault) → last ≡ answer → Growth a.sight b.sight →
      Growth b.sight c.sight → StepsBeside kind exact a b (Ok tt) → StepsBeside kind exact b c last → StepsBeside kind exact a c answer
  steps_after a b c last answer is to from x y st s gains =
      let each = gains_each a.sight b.sight c.sight to from gains in
      let first = x st s each.0 in
      subst (λ (r : Result (Unit {0}) DrainFault). SendsSteps kind exact a c st r) is
      (sends_steps_then a b c st last first (y (after_all st first.steps.part.going) (first.stands refl) each.1))

module _ (quiet : CameQuietly) (own_law : CameBesideOwn) (kind : AgencyKind) (exact : Bool) where
  -- the steps of the turns after which a drain goes on
  record Walk (start scene : Scene) (st : Standing) (links : ℕ) : Type 0 where
    going : List Stepped
    are : AreStepped exact false (history_of start.sight) st going (history_of scene.sight)
    here : StandsAt exact scene (after_all st going)
    go_on : AllByRecursion (λ (s : Step). GoesOnBehind (line_in s)) (steps_in going)
    messages : IsTrue kind.tells → scene.agency_state.ledger.messages
        ≡ start.agency_state.ledger.messages ++ filter_map message_in (steps_in going)
    counted : links ≡ links_in going
    few : links < MAX_LINK_FAULTS
    rise : scene.agency_state.faults < 2 ^ 64 - 1 → links_in going + start.agency_state.faults ≤ scene.agency_state.faults

  walk : (start : Scene) (st : Standing) (answers : List (Result Turn SendFault)) (links : ℕ) (scene : Scene) → StandsAt exact start st →
      Turns kind exact start answers links scene → GainsOwnNotes start.sight scene.sight → Walk start scene st links
  walk start st answers links scene s no_turn gains = record {
    going = [];
    are = (no_prefix (history_of start.sight), s.noted_is);
    here = s;
    go_on = tt;
    messages = λ tells. sym (append-nil start.agency_state.ledger.messages);
    counted = refl;
    few = omega arith;
    rise = λ below. omega arith;
  }
  walk start st answers links scene s (one_turn before_answers before_links mid answer then t turn on few) gains =
      let to_mid = turns_growth kind exact start before_answers before_links mid t in
      let from_mid = is_turn_growth kind exact mid then answer turn in
      let each = gains_each start.sight mid.sight then.sight to_mid from_mid gains in
      let w = walk start st before_answers before_links mid s t each.0 in
      let d = turn_steps quiet own_law kind exact false mid then turn.now (after_all st w.going) answer turn.told turn.turned
      (inl turn.moment) each.1 w.here in
      record {
        going = w.going ++ d.steps;
        are = stepped_then exact false (history_of start.sight) (history_of mid.sight) (history_of then.sight) st w.going d.steps w.are d.are;
        here = subst (λ (x : Standing). StandsAt exact then x) (sym (all_then st w.going d.steps)) (d.stands (lasts answer on));
        go_on = subst (λ (ss : List Step). AllByRecursion (λ (s : Step). GoesOnBehind (line_in s)) ss) (sym (steps_both w.going d.steps))
            (each_append (λ (s : Step). GoesOnBehind (line_in s)) (steps_in w.going) (steps_in d.steps) w.go_on (lines_go (steps_in d.steps)
            (subst (λ (ls : List Told). AllByRecursion GoesOnBehind ls) (sym d.lines) (goes_lines answer on (told_in answer) refl))));
        messages = λ tells. d.messages tells ∙ ap (λ (ms : List Message). ms ++ filter_map message_in (steps_in d.steps)) (w.messages tells)
            ∙ append_assoc start.agency_state.ledger.messages (filter_map message_in (steps_in w.going)) (filter_map message_in (steps_in d.steps))
            ∙ ap (λ (ms : List Message). start.agency_state.ledger.messages ++ ms) (sym (messages_both w.going d.steps));
        counted =
            let one = link_count before_links answer in
            let same = ap (λ (ls : List Told). count_by is_link ls) d.lines in
            let so_far = w.counted in
            let both = links_both w.going d.steps in
            omega (arith, one, same, so_far, both);
        few = few;
        rise = λ below.
            let late = d.links below in
            let early = w.rise (omega (arith, late, below)) in
            let both = links_both w.going d.steps in
            omega (arith, late, early, both);
      }

  -- a drain by its steps
  pub record DrainTakes (before after : Scene) (st : Standing) (answer : Result (Unit {0}) DrainFault) : Type 0 where
    pub steps : TakesSteps kind exact false before after st
    pub ends : EndsAsDrain steps.part answer

  pub drain_takes : (before after : Scene) (st : Standing) (old new : List Told) (answer : Result (Unit {0}) DrainFault) →
      StandsAt exact before st → Drained kind exact before after old new answer → GainsOwnNotes before.sight after.sight →
      OnOk answer (length (noted (history_of after.sight)) ≡ length (recs (history_of after.sight))) →
      DrainTakes before after st answer
  drain_takes before after st old new answer s d gains delivered =
      let to_mid = turns_growth kind exact before d.answers d.links d.scene d.made in
      let from_mid = is_turn_growth kind exact d.scene after d.answer d.turn in
      let each = gains_each before.sight d.scene.sight after.sight to_mid from_mid gains in
      let w = walk before st d.answers d.links d.scene s d.made each.0 in
      let x = turn_steps quiet own_law kind exact false d.scene after d.turn.now (after_all st w.going) d.answer d.turn.told d.turn.turned
      (inl d.turn.moment) each.1 w.here in
      record {
        steps = record {
          part = record {
            going = w.going;
            last = x.steps;
            one = x.one;
            are = stepped_then exact false (history_of before.sight) (history_of d.scene.sight) (history_of after.sight) st w.going x.steps
                w.are x.are;
            go_on = w.go_on;
          };
          messages = λ tells. x.messages tells ∙ ap (λ (ms : List Message). ms ++ filter_map message_in (steps_in x.steps)) (w.messages tells)
              ∙ append_assoc before.agency_state.ledger.messages (filter_map message_in (steps_in w.going)) (filter_map message_in
              (steps_in x.steps)) ∙ ap (λ (ms : List Message). before.agency_state.ledger.messages ++ ms) (sym (messages_both w.going x.steps));
          links = λ below.
              let late = x.links below in
              let early = w.rise (omega (arith, late, below)) in
              let both = links_both w.going x.steps in
              omega (arith, late, early, both);
        };
        ends = record {
          few = (let a = w.counted in let b = w.few in omega (arith, a, b));
          ends = elim d.ends [
            | inl p ↦ ends_by (recs (history_of after.sight)) (after_all st w.going) (links_in w.going) after.sight (steps_in x.steps) d.answer
                answer x.lines refl x.contrary (subst (λ (n : ℕ). EndsWith n after.sight d.answer answer) w.counted p.1) delivered
            | inr p ↦ subst (λ (a : Result (Unit {0}) DrainFault). EndsBy (recs (history_of after.sight)) (after_all st w.going)
                (links_in w.going) (length (noted (history_of after.sight))) (steps_in x.steps) a) (sym p.0) tt
          ];
        };
      }

-- one turn beside tills, at the sleeper's second, after which it rested
pub one_steps : CameQuietly → CameBesideOwn → (kind : AgencyKind) (exact : Bool) (before then : Scene) (now : ℕ)
    (answer : Result Turn SendFault) → (IsTrue exact → now ≡ before.moment) → Turned (turn_between kind before then now answer) →
    RestsTo before.moment then.moment answer → StepsBeside kind exact before then (sending_end answer)
one_steps quiet own_law kind exact before then now answer told turned rests st s gains =
    turn_sends kind exact before then st answer (turn_steps quiet own_law kind exact true before then now st answer told turned
    (elim rests [ inl e ↦ inl e | inr e ↦ inr (refl, e) ]) gains s)
