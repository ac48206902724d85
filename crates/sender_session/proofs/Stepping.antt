-- What a turn did by its step, while others add records to its shop, and turns one after another.
use Rattle.std.proofs.Common.{◌≡◌, ◌⊎◌, inl, inr, ℕ, suc, ◌+◌, ◌-◌, ◌^◌, ◌<◌, ◌≤◌, List, [], ◌∷◌, ◌++◌, length, length-append, map}
use Rattle.std.proofs.Common.{filter_map, refl, sym, ◌∙◌, ap, subst, arith, append_assoc, Bool, true, IsTrue}
use Rattle.std.proofs.Common.{Option, Some, None, Result, Ok, Err}
use Rattle.std.specs.Prelude.{count_by}
use Rattle.std.proofs.lemmas.List.{map-append}
use Rattle.std.proofs.lemmas.List.Elements.{filter_map-append}
use Rattle.std.proofs.lemmas.List.Sums.{sum_by-append}
use Rattle.record_fields.specs.declared.records.Sealed.{Sealed}
use Rattle.record_fields.specs.declared.lines.Line.{Line}
use Rattle.record_codec.specs.declared.entry.Entry.{Entry}
use Rattle.journal.specs.declared.faults.StoreFault.TheVariants as store
use Rattle.shop_core.specs.History.{recs, noted}
use Rattle.shop_core.specs.Items.{entries_of}
use Rattle.shop_core.specs.Prefix.{IsPrefix}
use Rattle.agency_port.specs.Reply.{Replied}
use Rattle.agency_port.specs.Sessions.{named_reply}
use Rattle.agency_port.specs.declared.messages.Message.{Message}
use Rattle.agency_port.specs.declared.messages.Message.TheVariants.{Begun, Submitted, Consulted}
use Rattle.agency_port.specs.declared.turns.Evidence.{Evidence}
use Rattle.agency_port.specs.declared.turns.Told.{Told}
use Rattle.once_world.specs.Laws.{CameBesideOwn, CameQuietly}
use Rattle.once_world.specs.Outbox.{GainsOwnNotes, Sight, history_of}
use Rattle.sender.specs.declared.answers.Turn.{Turn}
use Rattle.sender.specs.declared.answers.Turn.TheVariants.{Idle, WaitUntil, Noted, Cleared, Doubt}
use Rattle.sender.specs.declared.answers.SendFault.{SendFault}
use Rattle.sender.specs.declared.answers.SendFault.TheVariants.{LinkFault, Contradiction, Store, NoMemory}
use Rattle.sender.specs.Draining.{Scene, told_list, is_link, moment_after, turn_between}
use Rattle.sender.specs.Turning.{AgencyKind, Turned}
use Rattle.sender.proofs.Causes.{turn_later, turn_link}
use Rattle.sender.proofs.Growing.{Growth, ends_growth, gains_each, quiet_growth}
use Rattle.sender.proofs.Histories.{stays}
use Rattle.sender_session.specs.Steps.{Step, Waits, Says, LacksMemory, Standing, line_in, message_in, after_message, after_step}
use Rattle.sender_session.specs.Steps.{after_steps, handing, with_reply, AreSteps, EndsContrary}
use Rattle.sender_session.specs.Sessions.{AreStepped, IsMomentAfter, StandsAt, Stepped, after_all, after_stepped}
use Rattle.sender_session.specs.Sessions.{at_moment, links_in, steps_in}
use Rattle.sender_session.proofs.Entries.{entries_both}
use Rattle.sender_session.proofs.Noting.{Came, came_lines, came_none, came_stop}
use Rattle.sender_session.proofs.Standing.{DidBy, Lasts, Stands, ends_did}

prefix_then : (a b c : List Entry) → IsPrefix a b → IsPrefix b c → IsPrefix a c
prefix_then a b c p q = record {
  rest = p.rest ++ q.rest;
  is = q.is ∙ ap (λ (es : List Entry). es ++ q.rest) p.is ∙ append_assoc a p.rest q.rest;
}

growth_prefix : (a b : Sight) → Growth a b → IsPrefix (history_of a) (history_of b)
growth_prefix a b g = record { rest = entries_of g.items; is = ap entries_of g.items_is ∙ entries_both a.items g.items }

pub all_then : (st : Standing) (xs ys : List Stepped) → after_all st (xs ++ ys) ≡ after_all (after_all st xs) ys
all_then st [] ys = refl
all_then st (x ∷ xs) ys = all_then (after_stepped st x) xs ys

stepped_from : (exact beside : Bool) (a b : List Entry) (st : Standing) (xs : List Stepped) (end : List Entry) → IsPrefix a b →
    AreStepped exact beside b st xs end → AreStepped exact beside a st xs end
stepped_from exact beside a b st [] end p h = (prefix_then a b end p h.0, h.1)
stepped_from exact beside a b st (x ∷ xs) end p h = (prefix_then a b x.look p h.0, h.1, h.2, h.3, h.4)

pub stepped_then : (exact beside : Bool) (a b c : List Entry) (st : Standing) (xs ys : List Stepped) →
    AreStepped exact beside a st xs b → AreStepped exact beside b (after_all st xs) ys c →
    AreStepped exact beside a st (xs ++ ys) c
stepped_then exact beside a b c st [] ys h k = stepped_from exact beside a b st ys c h.0 k
stepped_then exact beside a b c st (x ∷ xs) ys h k =
    (h.0, h.1, h.2, h.3, stepped_then exact beside x.look b c (after_stepped st x) xs ys h.4 k)

pub steps_both : (xs ys : List Stepped) → steps_in (xs ++ ys) ≡ steps_in xs ++ steps_in ys
steps_both xs ys = map-append (λ (s : Stepped). s.step) xs ys

pub messages_both : (xs ys : List Stepped) → filter_map message_in (steps_in (xs ++ ys)) ≡ filter_map message_in (steps_in xs)
    ++ filter_map message_in (steps_in ys)
messages_both xs ys = ap (λ (ss : List Step). filter_map message_in ss) (steps_both xs ys) ∙ filter_map-append message_in (steps_in xs)
    (steps_in ys)

pub links_both : (xs ys : List Stepped) → links_in (xs ++ ys) ≡ links_in xs + links_in ys
links_both xs ys = ap (λ (ss : List Step). count_by is_link (map line_in ss)) (steps_both xs ys) ∙
    ap (λ (ls : List Told). count_by is_link ls) (map-append line_in (steps_in xs) (steps_in ys)) ∙
    sum_by-append _ (map line_in (steps_in xs)) (map line_in (steps_in ys))

-- steps at one look, which leave this moment
abbrev at_look : List Entry → ℕ → List Step → List Stepped
at_look look moment steps = map (λ (s : Step). record { look = look; step = s; moment = moment }) steps

steps_back : (look : List Entry) (moment : ℕ) (steps : List Step) → steps_in (at_look look moment steps) ≡ steps
steps_back look moment [] = refl
steps_back look moment (s ∷ steps) = ap (λ (ss : List Step). s ∷ ss) (steps_back look moment steps)

reply_moment : (st : Standing) (o : Option Replied) → (with_reply (handing st) o).moment ≡ st.moment
reply_moment st None = refl
reply_moment st (Some reply) = refl

message_moment : (st : Standing) (m : Message) → (after_message st m).moment ≡ st.moment
message_moment st (Begun plan pairs) = refl
message_moment st (Submitted batch answer) = reply_moment st (named_reply batch answer)
message_moment st (Consulted asked (Ok seen)) = refl
message_moment st (Consulted asked (Err why)) = refl

-- the moment after a turn: that which its answer says, or beside tills as it was
abbrev pub MomentIs : Bool → ℕ → ℕ → ℕ → Type 0
MomentIs beside before mid then = (then ≡ mid) ⊎ ((beside ≡ true) × (then ≡ before))

moment_by : (beside : Bool) (st : Standing) (s : Step) (mid then : ℕ) → mid ≡ (after_step st s).moment →
    MomentIs beside st.moment mid then → IsMomentAfter beside st.moment s then
moment_by beside st (Waits at) mid then is (inl e) = inl (e ∙ is)
moment_by beside st (Waits at) mid then is (inr p) = inr p
moment_by beside st (Says m printed) mid then is (inl e) = e ∙ is ∙ message_moment st m
moment_by beside st (Says m printed) mid then is (inr p) = p.1
moment_by beside st LacksMemory mid then is (inl e) = e ∙ is
moment_by beside st LacksMemory mid then is (inr p) = p.1

still_by : (beside : Bool) (st : Standing) (mid then : ℕ) → mid ≡ st.moment → MomentIs beside st.moment mid then → then ≡ st.moment
still_by beside st mid then is (inl e) = e ∙ is
still_by beside st mid then is (inr p) = p.1

-- what a turn did, with the look before its step
pub record TurnSteps (kind : AgencyKind) (exact beside : Bool) (before after : Scene) (st : Standing)
    (answer : Result Turn SendFault) : Type 0 where
  pub steps : List Stepped
  pub one : length steps ≤ 1
  pub are : AreStepped exact beside (history_of before.sight) st steps (history_of after.sight)
  pub lines : map line_in (steps_in steps) ≡ told_list answer
  pub messages : IsTrue kind.tells → after.agency_state.ledger.messages
      ≡ before.agency_state.ledger.messages ++ filter_map message_in (steps_in steps)
  pub links : after.agency_state.faults < 2 ^ 64 - 1 → links_in steps + before.agency_state.faults ≤ after.agency_state.faults
  pub stands : Lasts answer → StandsAt exact after (after_all st steps)
  pub contrary : (evidence : Evidence) → answer ≡ Err (Contradiction evidence) → EndsContrary st (steps_in steps) evidence

-- no more link lines than the agency's faults, of one turn
links_of : (answer : Result Turn SendFault) (old new : ℕ) → old ≤ new → (answer ≡ Err LinkFault → new < 2 ^ 64 - 1 → old < new) →
    new < 2 ^ 64 - 1 → count_by is_link (told_list answer) + old ≤ new
links_of (Ok (Idle count)) old new later rose below = omega (arith, later)
links_of (Ok (WaitUntil at)) old new later rose below = omega (arith, later)
links_of (Ok (Noted n)) old new later rose below = omega (arith, later)
links_of (Ok Cleared) old new later rose below = omega (arith, later)
links_of (Ok (Doubt place)) old new later rose below = omega (arith, later)
links_of (Err LinkFault) old new later rose below = let r = rose refl below in omega (arith, r)
links_of (Err (Contradiction evidence)) old new later rose below = omega (arith, later)
links_of (Err (Store store.DiskFault)) old new later rose below = omega (arith, later)
links_of (Err (Store (store.Stopped faults))) old new later rose below = omega (arith, later)
links_of (Err (Store store.NoMemory)) old new later rose below = omega (arith, later)
links_of (Err NoMemory) old new later rose below = omega (arith, later)

module _ (quiet : CameQuietly) (own_law : CameBesideOwn) (kind : AgencyKind) (exact beside : Bool) (before then : Scene) (now : ℕ)
    (st : Standing) (answer : Result Turn SendFault) (told : IsTrue exact → now ≡ before.moment)
    (t : Turned (turn_between kind before then now answer))
    (moment : MomentIs beside before.moment (moment_after before.moment answer) then.moment)
    (gains : GainsOwnNotes before.sight then.sight) (s : StandsAt exact before st) where
  to_look : Growth before.sight t.look
  to_look = quiet_growth before.sight t.look t.grows t.own

  from_look : Growth t.look then.sight
  from_look = ends_growth before.sending now t.shown t.look then.sight t.deals.deed answer then.sending t.deals.ends

  at_the_look : noted (history_of t.look) ≡ noted (history_of before.sight)
  at_the_look = (came_none quiet own_law before.sight t.look t.look t.grows t.own (gains_each before.sight t.look then.sight to_look
      from_look gains).0 (stays t.look t.look t.grows.legal refl) refl).at_look

  abbrev records : List Sealed
  records = recs (history_of t.look)

  noted_here : length (noted (history_of t.look)) ≡ st.noted
  noted_here = ap (λ (ls : List Line). length ls) at_the_look ∙ s.noted_is

  left : (lines : List Line) → Came quiet own_law before.sight t.look then.sight t.grows t.own gains lines →
      (length (noted (history_of then.sight)) ≡ st.noted + length lines) × Unit {0}
  left lines c = (
    ap (λ (ls : List Line). length ls) c.are ∙ length-append (noted (history_of before.sight)) lines ∙
        ap (λ (n : ℕ). n + length lines) s.noted_is,
    tt,
  )

  stands_here : Stands exact records st t.look t.shown before.sending now
  stands_here = record {
    records_are = refl;
    noted_is = noted_here;
    shows = t.shows;
    doubt = s.doubt;
    pace = s.pace;
    kept = s.kept;
    now_is = λ e. told e ∙ s.moment;
  }

  did : DidBy (λ (es : List Entry). Unit {0}) kind.tells exact records st before.agency_state.ledger.messages
      then.agency_state.ledger.messages then.sight then.sending answer
  did = ends_did (λ (es : List Entry). Unit {0}) kind.tells exact records st before.agency_state.ledger.messages
      then.agency_state.ledger.messages t.look then.sight t.shown before.sending then.sending now stands_here tt
      (λ grows own. left [] (came_none quiet own_law before.sight t.look then.sight t.grows t.own gains grows own))
      (λ lines a. left lines (came_lines quiet own_law before.sight t.look then.sight t.grows t.own gains lines a))
      (λ lines a. left [] (came_stop quiet own_law before.sight t.look then.sight t.grows t.own gains a.faults lines a.adds))
      kind before.agency_state then.agency_state t.deals.deed answer refl refl refl t.deals.dealt t.deals.ends

  mid : ℕ
  mid = moment_after st.moment answer

  moment_here : MomentIs beside st.moment mid then.moment
  unfolding mid
  moment_here = subst (λ (m : ℕ). MomentIs beside m (moment_after m answer) then.moment) s.moment moment

  are_as : (steps : List Step) → length steps ≤ 1 → AreSteps exact records st steps →
      length (noted (history_of then.sight)) ≡ (after_steps st steps).noted → mid ≡ (after_steps st steps).moment →
      AreStepped exact beside (history_of before.sight) st (at_look (history_of t.look) then.moment steps) (history_of then.sight)
  are_as [] one are count is =
      (prefix_then _ _ _ (growth_prefix before.sight t.look to_look) (growth_prefix t.look then.sight from_look), count)
  are_as (x ∷ []) one are count is = (
    growth_prefix before.sight t.look to_look,
    noted_here,
    are.0,
    moment_by beside st x mid then.moment is moment_here,
    (growth_prefix t.look then.sight from_look, count),
  )
  are_as (x ∷ (y ∷ steps)) one are count is = absurd (omega (arith, one))

  after_as : (steps : List Step) → length steps ≤ 1 → mid ≡ (after_steps st steps).moment →
      after_all st (at_look (history_of t.look) then.moment steps) ≡ at_moment (after_steps st steps) then.moment
  after_as [] one is = ap (λ (m : ℕ). at_moment st m) (sym (still_by beside st mid then.moment is moment_here))
  after_as (x ∷ []) one is = refl
  after_as (x ∷ (y ∷ steps)) one is = absurd (omega (arith, one))

  abbrev made : List Stepped
  made = at_look (history_of t.look) then.moment did.steps

  same_steps : steps_in made ≡ did.steps
  same_steps = steps_back (history_of t.look) then.moment did.steps

  same_lines : map line_in (steps_in made) ≡ told_list answer
  same_lines = ap (λ (ss : List Step). map line_in ss) same_steps ∙ did.lines

  same_moment : mid ≡ (after_steps st did.steps).moment
  unfolding mid
  same_moment = did.moment

  pub turn_steps : TurnSteps kind exact beside before then st answer
  turn_steps = record {
    steps = made;
    one = (let n = ap (λ (ss : List Step). length ss) same_steps in let m = length_in made in let o = did.one in omega (arith, n, m, o));
    are = are_as did.steps did.one did.are did.noted_is same_moment;
    lines = same_lines;
    messages = λ tells. did.messages tells ∙ ap (λ (ss : List Step). before.agency_state.ledger.messages ++ filter_map message_in ss)
        (sym same_steps);
    links = λ below.
        let count = ap (λ (ls : List Told). count_by is_link ls) same_lines in
        let later = turn_later kind before.agency_state then.agency_state before.sight then.sight before.sending then.sending now answer t in
        let few = links_of answer before.agency_state.faults then.agency_state.faults later (λ is b. turn_link kind before.agency_state
        then.agency_state before.sight then.sight before.sending then.sending now answer t is b) below in
        omega (arith, count, few);
    stands = λ on. subst (λ (x : Standing). StandsAt exact then x) (sym (after_as did.steps did.one same_moment)) (record {
      noted_is = did.noted_is;
      doubt = did.doubt on;
      pace = did.pace on;
      kept = did.kept on;
      moment = refl;
    });
    contrary = λ evidence is. subst (λ (ss : List Step). EndsContrary st ss evidence) (sym same_steps) (did.contrary evidence is);
  }
    where
      length_in : (xs : List Stepped) → length (steps_in xs) ≡ length xs
      length_in [] = refl
      length_in (x ∷ xs) = ap (λ (n : ℕ). suc n) (length_in xs)
