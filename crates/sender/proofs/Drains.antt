-- How a drain goes on, turn by turn.
use Rattle.std.proofs.Common.{◌≡◌, inl, inr, ℕ, ◌<◌, List, [], ◌∷◌, ◌++◌, refl, sym, ◌∙◌, ap, subst, arith, append_assoc}
use Rattle.std.proofs.Common.{append-nil, filter_map, Bool, true, false, Option, Some, None, Result, Ok, Err}
use Rattle.std.proofs.lemmas.List.Elements.{filter_map-append}
use Rattle.agency_port.specs.declared.turns.Told.{Told}
use Rattle.sender.specs.declared.answers.Turn.{Turn}
use Rattle.sender.specs.declared.answers.SendFault.{SendFault}
use Rattle.sender.specs.declared.answers.DrainFault.{DrainFault}
use Rattle.sender.specs.declared.draining.TheConstants.{MAX_LINK_FAULTS}
use Rattle.sender.specs.Turning.{AgencyKind}
use Rattle.sender.specs.Draining.{told_in, list_of, told_list, links_with, Scene, Turns, none, more, Made, Next, Drained}

-- turns that go on, each told
pub record GoingOn (kind : AgencyKind) (exact : Bool) (before now : Scene) (old new : List Told) (links : ℕ) : Type 0 where
  pub answers : List (Result Turn SendFault)
  pub made : Turns kind exact before answers links now
  pub told : new ≡ old ++ filter_map told_in answers
  pub few : links < MAX_LINK_FAULTS

pub one_listed : (answer : Result Turn SendFault) (o : Option Told) → told_in answer ≡ o → filter_map told_in (answer ∷ []) ≡
    list_of o
one_listed answer None e = rw e refl
one_listed answer (Some x) e = rw e refl

pub told_split : (answers : List (Result Turn SendFault)) (answer : Result Turn SendFault) →
    filter_map told_in (answers ++ answer ∷ []) ≡ filter_map told_in answers ++ told_list answer
told_split answers answer = filter_map-append told_in answers (answer ∷ []) ∙ ap (λ (ts : List Told). filter_map told_in answers
    ++ ts) (one_listed answer (told_in answer) refl)

told_all : (old new then : List Told) (answers : List (Result Turn SendFault)) (answer : Result Turn SendFault) →
    new ≡ old ++ filter_map told_in answers → then ≡ new ++ told_list answer → then ≡ old ++ filter_map told_in
    (answers ++ answer ∷ [])
told_all old new then answers answer a b =
    b ∙ ap (λ (ts : List Told). ts ++ told_list answer) a ∙ append_assoc old (filter_map told_in answers) (told_list answer)
    ∙ ap (λ (ts : List Told). old ++ ts) (sym (told_split answers answer))

pub start_going : (kind : AgencyKind) (exact : Bool) (scene : Scene) (told : List Told) → GoingOn kind exact scene scene told told 0
start_going kind exact scene told = record { answers = []; made = none; told = sym (append-nil told); few = omega arith }

pub goes_on : (kind : AgencyKind) (exact : Bool) (before scene then : Scene) (old new told : List Told) (links links_then : ℕ)
    (result : Result Bool DrainFault) (b : Bool) → GoingOn kind exact before scene old new links →
    Made kind exact scene then new told links links_then result → result ≡ Ok b → b ≡ false → GoingOn kind exact before then old
    told links_then
goes_on kind exact before scene then old new told links links_then result b g m is no_more =
    let n = subst (λ (r : Result Bool DrainFault). Next links links_then then.sight new told m.answer r) (is ∙ ap Ok no_more)
    m.next in
    let few : links_with links m.answer < MAX_LINK_FAULTS = subst (λ (k : ℕ). k < MAX_LINK_FAULTS) n.2 n.3 in
    record {
      answers = g.answers ++ m.answer ∷ [];
      made = subst (λ (k : ℕ). Turns kind exact before (g.answers ++ m.answer ∷ []) k then) (sym n.2)
          (more g.answers links scene m.answer then g.made m.turn n.1 few);
      told = told_all old new told g.answers m.answer g.told n.0;
      few = n.3;
    }

pub is_over : (kind : AgencyKind) (exact : Bool) (before scene then : Scene) (old new told : List Told) (links links_then : ℕ)
    (result : Result Bool DrainFault) (b : Bool) → GoingOn kind exact before scene old new links →
    Made kind exact scene then new told links links_then result → result ≡ Ok b → b ≡ true → Drained kind exact before then old
    told (Ok tt)
is_over kind exact before scene then old new told links links_then result b g m is over =
    let n = subst (λ (r : Result Bool DrainFault). Next links links_then then.sight new told m.answer r) (is ∙ ap Ok over) m.next
    in
    record {
      answers = g.answers;
      links = links;
      scene = scene;
      made = g.made;
      answer = m.answer;
      turn = m.turn;
      ends = inl (told_all old new told g.answers m.answer g.told n.0, n.1);
    }

pub stops : (kind : AgencyKind) (exact : Bool) (before scene then : Scene) (old new told : List Told) (links links_then : ℕ)
    (result : Result Bool DrainFault) (fault : DrainFault) → GoingOn kind exact before scene old new links →
    Made kind exact scene then new told links links_then result → result ≡ Err fault → Drained kind exact before then old told
    (Err fault)
stops kind exact before scene then old new told links links_then result fault g m is =
    let n = subst (λ (r : Result Bool DrainFault). Next links links_then then.sight new told m.answer r) is m.next in
    record {
      answers = g.answers;
      links = links;
      scene = scene;
      made = g.made;
      answer = m.answer;
      turn = m.turn;
      ends = elim n [
        | inl p ↦ inl (told_all old new told g.answers m.answer g.told p.0, p.1)
        | inr p ↦ inr (ap Err p.0, p.1 ∙ g.told)
      ];
    }
