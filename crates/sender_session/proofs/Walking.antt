-- The steps of a drain over a shop to which nobody else adds.
use Rattle.std.proofs.Common.{◌≡◌, ℕ, ◌+◌, ◌-◌, ◌^◌, ◌<◌, ◌≤◌, List, [], ◌∷◌, ◌++◌, length, length-append, map, filter_map}
use Rattle.std.proofs.Common.{refl, sym, ◌∙◌, ap, subst, arith, append_assoc, append-nil, Bool, IsTrue, Option, Result, Ok, Err}
use Rattle.std.specs.Prelude.{Contains, count_by}
use Rattle.std.specs.List.{AllByRecursion}
use Rattle.std.proofs.lemmas.List.{map-append}
use Rattle.std.proofs.lemmas.List.Elements.{filter_map-append}
use Rattle.std.proofs.lemmas.List.Sums.{sum_by-append}
use Rattle.record_fields.specs.declared.records.Sealed.{Sealed}
use Rattle.journal.specs.declared.faults.StoreFault.TheVariants as store
use Rattle.record_codec.specs.declared.entry.Entry.{Entry}
use Rattle.shop_core.specs.History.{recs, noted}
use Rattle.shop_core.specs.Items.{entries_of}
use Rattle.shop_core.specs.declared.items.Item.{Item}
use Rattle.agency_port.specs.declared.messages.Message.{Message}
use Rattle.agency_port.specs.declared.turns.Told.{Told}
use Rattle.once_world.specs.Outbox.{AddsOwn, Sight, history_of}
use Rattle.sender.specs.declared.answers.Turn.{Turn}
use Rattle.sender.specs.declared.answers.Turn.TheVariants.{Idle, WaitUntil, Noted, Cleared, Doubt}
use Rattle.sender.specs.declared.answers.SendFault.{SendFault}
use Rattle.sender.specs.declared.answers.SendFault.TheVariants.{LinkFault, Contradiction, Store, NoMemory}
use Rattle.sender.specs.declared.draining.TheConstants.{MAX_LINK_FAULTS}
use Rattle.sender.specs.Draining.{Scene, Turns, none, more, IsTurn, GoesOn, told_in, list_of, told_list, links_with, is_link}
use Rattle.sender.specs.Draining.{moment_after}
use Rattle.sender.specs.Turning.{AgencyKind}
use Rattle.sender.proofs.Causes.{turn_later, turn_link}
use Rattle.sender.proofs.Drains.{told_split}
use Rattle.sender.proofs.Growing.{Growth, growth_then, quiet_growth, ends_growth}
use Rattle.sender.proofs.Sessions.{is_turn_growth}
use Rattle.sender_session.specs.Steps.{Step, Standing, line_in, message_in, after_step, after_steps, AreSteps, GoesOnBehind}
use Rattle.sender_session.proofs.Standing.{Did, Stands, ends_did, lasts, none_between, noted_count, noted_history, noted_records}
use Rattle.sender_session.proofs.Standing.{quiet_same, stopped_history}

pub steps_then : (st : Standing) (xs ys : List Step) → after_steps st (xs ++ ys) ≡ after_steps (after_steps st xs) ys
steps_then st [] ys = refl
steps_then st (x ∷ xs) ys = steps_then (after_step st x) xs ys

pub are_then : (exact : Bool) (records : List Sealed) (st : Standing) (xs ys : List Step) → AreSteps exact records st xs →
    AreSteps exact records (after_steps st xs) ys → AreSteps exact records st (xs ++ ys)
are_then exact records st [] ys a b = b
are_then exact records st (x ∷ xs) ys a b = (a.0, are_then exact records (after_step st x) xs ys a.1 b)

grown_high : (a b : Sight) → Growth a b → AllByRecursion (λ (p : ℕ). p < length a.items) a.own →
    AllByRecursion (λ (p : ℕ). p < length b.items) b.own
grown_high a b g high = subst (λ (o : List ℕ). AllByRecursion (λ (p : ℕ). p < length b.items) o) (sym g.own_is)
    (both a.own g.own high g.high)
  where
    longer : length a.items ≤ length b.items
    longer = let len = ap length g.items_is in let app = length-append a.items g.items in omega arith

    both : (xs ys : List ℕ) → AllByRecursion (λ (p : ℕ). p < length a.items) xs → AllByRecursion (λ (p : ℕ). p < length b.items)
        ys → AllByRecursion (λ (p : ℕ). p < length b.items) (xs ++ ys)
    both [] ys h k = k
    both (x ∷ xs) ys h k = (let low = h.0 in omega (arith, low, longer), both xs ys h.1 k)

-- where a drain stands amid its turns
pub record At (exact : Bool) (records : List Sealed) (base : ℕ) (scene : Scene) (st : Standing) : Type 0 where
  pub records_are : recs (history_of scene.sight) ≡ records
  pub noted_is : length (noted (history_of scene.sight)) ≡ st.noted
  pub doubt : scene.sending.doubt ≡ st.doubt
  pub pace : IsTrue exact → scene.sending.pace ≡ st.pace
  pub kept : scene.sending.said ≡ st.said
  pub moment : scene.moment ≡ st.moment
  pub high : AllByRecursion (λ (p : ℕ). p < length scene.sight.items) scene.sight.own
  pub long : base ≤ length scene.sight.items

pub goes_lines : (answer : Result Turn SendFault) → GoesOn answer → (o : Option Told) → told_in answer ≡ o →
    AllByRecursion GoesOnBehind (list_of o)
goes_lines (Ok (Idle count)) on o e = absurd on
goes_lines (Ok (WaitUntil at)) on o e = subst (λ (p : Option Told). AllByRecursion GoesOnBehind (list_of p)) e (tt, tt)
goes_lines (Ok (Noted n)) on o e = subst (λ (p : Option Told). AllByRecursion GoesOnBehind (list_of p)) e (tt, tt)
goes_lines (Ok Cleared) on o e = subst (λ (p : Option Told). AllByRecursion GoesOnBehind (list_of p)) e (tt, tt)
goes_lines (Ok (Doubt place)) on o e = subst (λ (p : Option Told). AllByRecursion GoesOnBehind (list_of p)) e (tt, tt)
goes_lines (Err LinkFault) on o e = subst (λ (p : Option Told). AllByRecursion GoesOnBehind (list_of p)) e (tt, tt)
goes_lines _ on o e = absurd on

-- the count of link faults, by the line
pub link_count : (links : ℕ) (answer : Result Turn SendFault) → links_with links answer ≡ links + count_by is_link
    (told_list answer)
link_count links (Ok (Idle count)) = omega arith
link_count links (Ok (WaitUntil at)) = omega arith
link_count links (Ok (Noted n)) = omega arith
link_count links (Ok Cleared) = omega arith
link_count links (Ok (Doubt place)) = omega arith
link_count links (Err LinkFault) = omega arith
link_count links (Err (Contradiction evidence)) = omega arith
link_count links (Err (Store store.DiskFault)) = omega arith
link_count links (Err (Store (store.Stopped faults))) = omega arith
link_count links (Err (Store store.NoMemory)) = omega arith
link_count links (Err NoMemory) = omega arith

lines_go : (steps : List Step) → AllByRecursion GoesOnBehind (map line_in steps) →
    AllByRecursion (λ (s : Step). GoesOnBehind (line_in s)) steps
lines_go [] h = tt
lines_go (s ∷ steps) h = (h.0, lines_go steps h.1)

both_go : (P : Step → Type 0) (xs ys : List Step) → AllByRecursion P xs → AllByRecursion P ys → AllByRecursion P (xs ++ ys)
both_go P [] ys a b = b
both_go P (x ∷ xs) ys a b = (a.0, both_go P xs ys a.1 b)

module _ (kind : AgencyKind) (exact : Bool) (records : List Sealed) (final : Sight) (base : ℕ) (mine : (n : ℕ) → base ≤ n →
    n < length final.items → Contains final.own n) where
  -- one turn
  pub turn_did : (scene then : Scene) (st : Standing) (answer : Result Turn SendFault) → At exact records base scene st →
      IsTurn kind exact scene then answer → Growth then.sight final →
      Did kind.tells exact records st scene.agency_state.ledger.messages then.agency_state.ledger.messages then.sight then.sending answer
  turn_did scene then st answer at turn rest =
      let t = turn.turned in
      let to_look = quiet_growth scene.sight t.look t.grows t.own in
      let from_look = ends_growth scene.sending turn.now t.shown t.look then.sight t.deals.deed answer then.sending t.deals.ends
      in
      let look_final = growth_then t.look then.sight final from_look rest in
      let same : t.look.items ≡ scene.sight.items = quiet_same final base mine scene.sight t.look to_look look_final t.own at.high
      at.long in
      let high = grown_high scene.sight t.look to_look at.high in
      let long : base ≤ length t.look.items = subst (λ (l : List Item). base ≤ length l) (sym same) at.long in
      let stands : Stands exact records st t.look t.shown scene.sending turn.now = record {
        records_are = ap (λ (l : List Item). recs (entries_of l)) same ∙ at.records_are;
        noted_is = ap (λ (l : List Item). length (noted (entries_of l))) same ∙ at.noted_is;
        shows = t.shows;
        doubt = at.doubt;
        pace = at.pace;
        kept = at.kept;
        now_is = λ e. turn.told e ∙ at.moment;
      } in
      let between = λ (thing : List Item → Item) (o : AddsOwn t.look then.sight thing). none_between final base mine t.look then.sight
      thing rest high long o in
      let same_left : history_of then.sight ≡ history_of t.look → (length (noted (history_of then.sight)) ≡ st.noted + 0)
      × (recs (history_of then.sight) ≡ records) = λ there. (
        (let count = ap (λ (es : List Entry). length (noted es)) there in let base_count = stands.noted_is in
            omega (arith, count, base_count)),
        ap recs there ∙ stands.records_are,
      ) in
      ends_did (λ (es : List Entry). recs es ≡ records) kind.tells exact records st scene.agency_state.ledger.messages
      then.agency_state.ledger.messages t.look then.sight t.shown scene.sending then.sending turn.now stands stands.records_are
      (λ grows own. same_left (ap entries_of (quiet_same final base mine t.look then.sight (quiet_growth t.look then.sight grows own)
      rest own high long)))
      (λ lines a. (
        (let there = noted_history t.look then.sight lines a (between _ a) in
            let count = ap (λ (es : List Entry). length (noted es)) there ∙ noted_count (history_of t.look)
            (length (noted (history_of t.look))) lines in let base_count = stands.noted_is in omega (arith, count, base_count)),
        ap recs (noted_history t.look then.sight lines a (between _ a)) ∙ noted_records (history_of t.look)
            (length (noted (history_of t.look))) lines ∙ stands.records_are,
      ))
      (λ lines a. same_left (stopped_history t.look then.sight lines a (between _ a.adds)))
      kind scene.agency_state then.agency_state t.deals.deed answer refl refl refl t.deals.dealt t.deals.ends

  -- and where the drain stands after it
  pub at_next : (scene then : Scene) (st : Standing) (answer : Result Turn SendFault) → At exact records base scene st →
      (turn : IsTurn kind exact scene then answer) →
      (d : Did kind.tells exact records st scene.agency_state.ledger.messages then.agency_state.ledger.messages then.sight then.sending answer) →
      GoesOn answer → At exact records base then (after_steps st d.steps)
  at_next scene then st answer at turn d on =
      let g = is_turn_growth kind exact scene then answer turn in
      record {
        records_are = d.records_are;
        noted_is = d.noted_is;
        doubt = d.doubt (lasts answer on);
        pace = d.pace (lasts answer on);
        kept = d.kept (lasts answer on);
        moment = turn.moment ∙ ap (λ (m : ℕ). moment_after m answer) at.moment ∙ d.moment;
        high = grown_high scene.sight then.sight g at.high;
        long = let len = ap length g.items_is in let app = length-append scene.sight.items g.items in let low = at.long in
            omega (arith, len, app, low);
      }

  -- the steps of the turns after which a drain goes on
  pub record Walked (start scene : Scene) (st : Standing) (answers : List (Result Turn SendFault)) (links : ℕ) : Type 0 where
    pub steps : List Step
    pub are : AreSteps exact records st steps
    pub here : At exact records base scene (after_steps st steps)
    pub lines : map line_in steps ≡ filter_map told_in answers
    pub go_on : AllByRecursion (λ (s : Step). GoesOnBehind (line_in s)) steps
    pub messages : IsTrue kind.tells → scene.agency_state.ledger.messages ≡ start.agency_state.ledger.messages ++ filter_map message_in steps
    pub counted : links ≡ count_by is_link (map line_in steps)
    pub few : links < MAX_LINK_FAULTS
    pub risen : scene.agency_state.faults < 2 ^ 64 - 1 → links + start.agency_state.faults ≤ scene.agency_state.faults

  faults_rise : (scene then : Scene) (links : ℕ) (answer : Result Turn SendFault) → IsTurn kind exact scene then answer →
      then.agency_state.faults < 2 ^ 64 - 1 → links_with links answer + scene.agency_state.faults ≤ links + then.agency_state.faults
  faults_rise scene then links (Ok turn) t below = let l = turn_later kind scene.agency_state then.agency_state scene.sight then.sight
      scene.sending then.sending t.now (Ok turn) t.turned in omega (arith, l)
  faults_rise scene then links (Err LinkFault) t below = let r = turn_link kind scene.agency_state then.agency_state scene.sight then.sight
      scene.sending then.sending t.now (Err LinkFault) t.turned refl below in omega (arith, r)
  faults_rise scene then links (Err (Contradiction evidence)) t below = let l = turn_later kind scene.agency_state then.agency_state scene.sight
      then.sight scene.sending then.sending t.now (Err (Contradiction evidence)) t.turned in omega (arith, l)
  faults_rise scene then links (Err (Store fault)) t below = let l = turn_later kind scene.agency_state then.agency_state scene.sight then.sight
      scene.sending then.sending t.now (Err (Store fault)) t.turned in omega (arith, l)
  faults_rise scene then links (Err NoMemory) t below = let l = turn_later kind scene.agency_state then.agency_state scene.sight then.sight
      scene.sending then.sending t.now (Err NoMemory) t.turned in omega (arith, l)

  -- the faults after a turn, by those before it
  pub risen_more : (start scene then : Scene) (links : ℕ) (answer : Result Turn SendFault) → IsTurn kind exact scene then answer →
      (scene.agency_state.faults < 2 ^ 64 - 1 → links + start.agency_state.faults ≤ scene.agency_state.faults) → then.agency_state.faults < 2 ^ 64 - 1 →
      links_with links answer + start.agency_state.faults ≤ then.agency_state.faults
  risen_more start scene then links answer turn risen below =
      let l = turn_later kind scene.agency_state then.agency_state scene.sight then.sight scene.sending then.sending turn.now answer turn.turned
      in
      let a = risen (omega (arith, l, below)) in
      let b = faults_rise scene then links answer turn below in
      omega (arith, a, b)

  pub walked : (start : Scene) (st : Standing) (answers : List (Result Turn SendFault)) (links : ℕ) (scene : Scene) →
      At exact records base start st → Turns kind exact start answers links scene → Growth scene.sight final →
      Walked start scene st answers links
  walked start st answers links scene at none rest = record {
    steps = [];
    are = tt;
    here = at;
    lines = refl;
    go_on = tt;
    messages = λ t. sym (append-nil start.agency_state.ledger.messages);
    counted = refl;
    few = omega arith;
    risen = λ below. omega arith;
  }
  walked start st answers links scene at (more before_answers before_links mid answer then t turn on few) rest =
      let mid_final = growth_then mid.sight then.sight final (is_turn_growth kind exact mid then answer turn) rest in
      let w = walked start st before_answers before_links mid at t mid_final in
      let here = after_steps st w.steps in
      let d = turn_did mid then here answer w.here turn rest in
      let lines : map line_in (w.steps ++ d.steps) ≡ filter_map told_in (before_answers ++ answer ∷ []) =
      map-append line_in w.steps d.steps ∙ ap (λ (ls : List Told). ls ++ map line_in d.steps) w.lines ∙
      ap (λ (ls : List Told). filter_map told_in before_answers ++ ls) d.lines ∙ sym (told_split before_answers answer) in
      record {
        steps = w.steps ++ d.steps;
        are = are_then exact records st w.steps d.steps w.are d.are;
        here = subst (λ (s : Standing). At exact records base then s) (sym (steps_then st w.steps d.steps))
            (at_next mid then here answer w.here turn d on);
        lines = lines;
        go_on = both_go (λ (s : Step). GoesOnBehind (line_in s)) w.steps d.steps w.go_on
            (lines_go d.steps (subst (λ (ls : List Told). AllByRecursion GoesOnBehind ls) (sym d.lines)
            (goes_lines answer on (told_in answer) refl)));
        messages = λ tells. d.messages tells ∙ ap (λ (ms : List Message). ms ++ filter_map message_in d.steps) (w.messages tells)
            ∙ append_assoc start.agency_state.ledger.messages (filter_map message_in w.steps) (filter_map message_in d.steps)
            ∙ ap (λ (ms : List Message). start.agency_state.ledger.messages ++ ms) (sym (filter_map-append message_in w.steps d.steps));
        counted =
            let split = ap (λ (ls : List Told). count_by is_link ls) (map-append line_in w.steps d.steps) ∙
            sum_by-append _ (map line_in w.steps) (map line_in d.steps) in
            let one = link_count before_links answer in
            let same = ap (λ (ls : List Told). count_by is_link ls) d.lines in
            let so_far = w.counted in
            omega (arith, split, one, same, so_far);
        few = few;
        risen = risen_more start mid then before_links answer turn w.risen;
      }
