-- Sessions, and records in the dark.
use Rattle.std.proofs.Common.{◌≡◌, ◌↔◌, ℕ, List, [], ◌∷◌, ◌++◌, refl, sym, ◌∙◌, ap, subst, inl, inr, ◌⊎◌, Result, Ok, Err, Bool}
use Rattle.std.proofs.Common.{true, false, not, ◌&&◌, ◌||◌}
use Rattle.std.proofs.lemmas.Bool.{cases_Bool}
use Rattle.std.proofs.lemmas.List.Folds.{list_any-append}
use Rattle.std.specs.List.{AllByRecursion, list_any}
use Rattle.record_fields.specs.declared.records.Sealed.{Sealed}
use Rattle.agency_rules.specs.declared.plans.Plan.{Plan}
use Rattle.agency_rules.specs.Pairs.{names}
use Rattle.agency_port.specs.Sessions.{is_begin, session_of, hands_over, says_unseen, AnsweredSince, MayGo, dark_after, dark_from}
use Rattle.agency_port.specs.Sessions.{dark}
use Rattle.agency_port.specs.Laws.{SessionFollowsItsBegin, SessionGoesOn, SessionStandsLast, MayGoUnlessDark}
use Rattle.agency_port.specs.declared.answers.Seen.{Seen}
use Rattle.agency_port.specs.declared.messages.Message.{Message}
use Rattle.agency_port.specs.declared.messages.Message.TheVariants.{Begun, Submitted, Consulted}

-- one more after a list
any_then : (messages more : List Message) (a b : Bool) → list_any is_begin messages ≡ a → list_any is_begin more ≡ b →
    list_any is_begin (messages ++ more) ≡ (a || b)
any_then messages more a b e f = rw (list_any-append is_begin messages more, e, f) refl

or_true : (a : Bool) → (a || true) ≡ true
or_true true = refl
or_true false = refl

no_begin : (messages : List Message) → list_any is_begin messages ≡ false → session_of messages ≡ messages
no_begin [] e = refl
no_begin (m ∷ messages) e = rw e refl

pub follows_its_begin : SessionFollowsItsBegin
follows_its_begin [] session plan pairs e = no_begin session e
follows_its_begin (m ∷ past) session plan pairs e =
    let here : list_any is_begin ((m ∷ past) ++ Begun plan pairs ∷ session) ≡ true =
    any_then (m ∷ past) (Begun plan pairs ∷ session) (list_any is_begin (m ∷ past)) true refl refl ∙
    or_true (list_any is_begin (m ∷ past)) in
    rw here (follows_its_begin past session plan pairs e)

one_more : (messages : List Message) (m : Message) (a : Bool) → is_begin m ≡ false → list_any is_begin messages ≡ a →
    list_any is_begin (messages ++ m ∷ []) ≡ a
one_more messages m true n e = any_then messages (m ∷ []) true (list_any is_begin (m ∷ [])) e refl
one_more messages m false n e = any_then messages (m ∷ []) false false e (rw n refl)

pub goes_on : SessionGoesOn
goes_on [] m n = rw n refl
goes_on (x ∷ messages) m n = elim (cases_Bool (list_any is_begin (x ∷ messages))) [
  | inl e ↦ (let f = one_more (x ∷ messages) m true n e in rw (e, f) (goes_on messages m n))
  | inr e ↦ (let f = one_more (x ∷ messages) m false n e in rw (e, f) refl)
]

pub stands_last : SessionStandsLast
stands_last [] = ([], refl)
stands_last (x ∷ messages) = elim (cases_Bool (list_any is_begin (x ∷ messages))) [
  | inl e ↦ (let rest = stands_last messages in (x ∷ rest.0, rw e (ap (λ (ms : List Message). x ∷ ms) rest.1)))
  | inr e ↦ ([], rw e refl)
]

or_false : (a b : Bool) → (a || b) ≡ false → (a ≡ false) × (b ≡ false)
or_false true b h = absurd cc
or_false false b h = (refl, h)

unanswered : (b c : Bool) → c ≡ false → (b && not c) ≡ false → b ≡ false
unanswered true true a e = absurd cc
unanswered true false a e = absurd cc
unanswered false c a e = refl

later : (huella : List ℕ) (m : Message) (messages : List Message) → AnsweredSince huella messages →
    AnsweredSince huella (m ∷ messages)
later huella m messages a = record {
  before = m ∷ a.before;
  asked = a.asked;
  seen = a.seen;
  after = a.after;
  is = ap (λ (ms : List Message). m ∷ ms) a.is;
  unseen = a.unseen;
  since = a.since;
}

-- never handed over among these, by whether it was in the dark before, or answered for since
light_goes : (huella : List ℕ) (b : Bool) (messages : List Message) → dark_from huella b messages ≡ false →
    ((b ≡ false) × AllByRecursion (λ (m : Message). hands_over huella m ≡ false) messages) ⊎ AnsweredSince huella messages
light_goes huella b [] e = inl (e, tt)
light_goes huella b (Begun plan pairs ∷ messages) e = elim (light_goes huella b messages e) [
  | inl p ↦ inl (p.0, (refl, p.1))
  | inr a ↦ inr (later huella (Begun plan pairs) messages a)
]
light_goes huella b (Submitted batch answer ∷ messages) e = elim (light_goes huella (names batch huella || b) messages e) [
  | inl p ↦ (let q = or_false (names batch huella) b p.0 in inl (q.1, (q.0, p.1)))
  | inr a ↦ inr (later huella (Submitted batch answer) messages a)
]
light_goes huella b (Consulted asked (Ok seen) ∷ messages) e =
    elim (light_goes huella (b && not (says_unseen asked.huellas seen huella)) messages e) [
      | inl p ↦ elim (cases_Bool (says_unseen asked.huellas seen huella)) [
        | inl there ↦ inr (record {
          before = [];
          asked = asked;
          seen = seen;
          after = messages;
          is = refl;
          unseen = there;
          since = p.1;
        })
        | inr none ↦ inl (unanswered b (says_unseen asked.huellas seen huella) none p.0, (refl, p.1))
      ]
      | inr a ↦ inr (later huella (Consulted asked (Ok seen)) messages a)
    ]
light_goes huella b (Consulted asked (Err why) ∷ messages) e = elim (light_goes huella b messages e) [
  | inl p ↦ inl (p.0, (refl, p.1))
  | inr a ↦ inr (later huella (Consulted asked (Err why)) messages a)
]

-- what isn't handed over stays out of the dark
and_false : (b : Bool) → (false && b) ≡ false
and_false b = refl

stays_light : (huella : List ℕ) (messages : List Message) → AllByRecursion (λ (m : Message). hands_over huella m ≡ false) messages
    → dark_from huella false messages ≡ false
stays_light huella [] none = refl
stays_light huella (Begun plan pairs ∷ messages) none = stays_light huella messages none.1
stays_light huella (Submitted batch answer ∷ messages) none = rw none.0 (stays_light huella messages none.1)
stays_light huella (Consulted asked (Ok seen) ∷ messages) none = stays_light huella messages none.1
stays_light huella (Consulted asked (Err why) ∷ messages) none = stays_light huella messages none.1

dark_past : (huella : List ℕ) (b : Bool) (before messages : List Message) → dark_from huella b (before ++ messages) ≡ dark_from
    huella (dark_from huella b before) messages
dark_past huella b [] messages = refl
dark_past huella b (m ∷ before) messages = dark_past huella (dark_after huella b m) before messages

answered : (b c : Bool) → c ≡ true → (b && not c) ≡ false
answered true true e = refl
answered true false e = absurd cc
answered false c e = refl

goes_light : (huella : List ℕ) (messages : List Message) → MayGo huella messages → dark messages huella ≡ false
goes_light huella messages (inl never) = stays_light huella messages never
goes_light huella messages (inr a) =
    let before = dark_from huella false a.before in
    ap (λ (ms : List Message). dark_from huella false ms) a.is ∙ dark_past huella false a.before (Consulted a.asked (Ok a.seen)
    ∷ a.after)
    ∙ ap (λ (b : Bool). dark_from huella b a.after) (answered before (says_unseen a.asked.huellas a.seen huella) a.unseen) ∙
    stays_light huella a.after a.since

pub may_go_unless_dark : MayGoUnlessDark
may_go_unless_dark messages huella = (
  λ e. elim (light_goes huella false messages e) [ inl p ↦ inl p.1 | inr a ↦ inr a ],
  goes_light huella messages,
)
