-- What a consultation shows of an agency that agrees: no hole, and nothing forgotten.
use Rattle.std.proofs.Common.{◌≡◌, ℕ, zero, suc, ◌+◌, List, [], ◌∷◌, ◌++◌, refl, sym, ◌∙◌, ap, subst, map, Option, Some, None}
use Rattle.std.proofs.Common.{bytes_eq, true, false, append_assoc, replicate, inl, inr, Err, add-one}
use Rattle.std.specs.Prelude.{IsSome}
use Rattle.std.specs.List.{AllByRecursion}
use Rattle.std.proofs.lemmas.Bool.{cases_Bool}
use Rattle.std.proofs.lemmas.Slice.Eq.{bytes_eq-Decides}
use Rattle.record_fields.specs.declared.records.Sealed.{Sealed}
use Rattle.record_fields.specs.declared.lines.Line.{Line}
use Rattle.agency_rules.specs.Pairs.{line_of, delivered_all}
use Rattle.agency_rules.specs.declared.plans.PlannedVerdict.{PlannedVerdict}
use Rattle.agency_port.specs.Reply.{Replied}
use Rattle.agency_port.specs.Answers.{seen_of, looked}
use Rattle.agency_port.specs.declared.answers.ReplyLine.{ReplyLine}
use Rattle.agency_port.specs.declared.answers.Seen.{Seen}
use Rattle.agency_port.specs.declared.answers.Seen.TheVariants.{NotSeen, Was}
use Rattle.agency_port.specs.declared.turns.Evidence.{Evidence}
use Rattle.agency_port.specs.declared.turns.Evidence.TheVariants.{Hole, Forgotten}
use Rattle.consultation.specs.Sorting.{unseen_ones, IsHole, IsFront}
use Rattle.once_world.specs.Laws.{SeenStays}
use Rattle.once_world.specs.Looks.{lines_in_front, HasNoHole}
use Rattle.sender.specs.Evidence.{said_in, forgotten_in, forgotten, Shows}
use Rattle.sender.specs.Agreeing.{AreSeen}

front_of_unseen : (rest : ℕ) → lines_in_front (replicate rest NotSeen) ≡ []
front_of_unseen zero = refl
front_of_unseen (suc rest) = refl

-- the lines in front are those
front_lines : (lines : List Line) (rest : ℕ) → lines_in_front (map Was lines ++ unseen_ones rest) ≡ lines
front_lines [] rest = front_of_unseen rest
front_lines (line ∷ lines) rest = ap (λ (ls : List Line). line ∷ ls) (front_lines lines rest)

pub front_is : (seen : List Seen) (lines : List Line) → IsFront seen lines → lines_in_front seen ≡ lines
front_is seen lines front = ap lines_in_front front.is ∙ front_lines lines front.rest

was_not : (before after : List Seen) (line : Line) → AllByRecursion (λ (answer : Seen). answer ≡ NotSeen)
    (before ++ Was line ∷ after) → ⊥
was_not [] after line all = let h = all.0 in absurd cc
was_not (b ∷ before) after line all = was_not before after line all.1

-- where there is no hole none is found
pub no_hole_found : (seen : List Seen) (i j : ℕ) → HasNoHole seen → IsHole seen i j → ⊥
no_hole_found seen i j whole hole =
    let one : unseen_ones (hole.more + 1) ≡ NotSeen ∷ unseen_ones hole.more = ap unseen_ones (add-one hole.more) in
    let split : seen ≡ map Was hole.before ++ NotSeen ∷ (unseen_ones hole.more ++ Was hole.line ∷ hole.after) =
    hole.is ∙ append_assoc (map Was hole.before) (unseen_ones (hole.more + 1)) (Was hole.line ∷ hole.after)
    ∙ ap (λ (xs : List Seen). map Was hole.before ++ (xs ++ Was hole.line ∷ hole.after)) one in
    was_not (unseen_ones hole.more) hole.after hole.line (whole (map Was hole.before) (unseen_ones hole.more ++ Was hole.line ∷
    hole.after) split)

not_some : IsSome {T = Line} None → ⊥
not_some h = let q : false ≡ true = h in absurd cc

-- what is seen stays so, whatever batches come
some_stays : SeenStays → (verdicts : List PlannedVerdict) (processed : List (Sealed × Line)) (batches : List (List Sealed))
    (huella : List ℕ) (found : Option Line) → line_of processed huella ≡ found →
    IsSome found → IsSome (line_of (delivered_all verdicts processed batches) huella)
some_stays stays verdicts processed batches huella None e some = absurd (not_some some)
some_stays stays verdicts processed batches huella (Some line) e some = subst (λ (o : Option Line). IsSome o)
    (sym (stays verdicts processed batches huella line e)) refl

all_stay : SeenStays → (verdicts : List PlannedVerdict) (processed : List (Sealed × Line)) (batches : List (List Sealed))
    (huellas : List (List ℕ)) →
    AllByRecursion (λ (h : List ℕ). IsSome (line_of processed h)) huellas →
    AllByRecursion (λ (h : List ℕ). IsSome (line_of (delivered_all verdicts processed batches) h)) huellas
all_stay stays verdicts processed batches [] all = tt
all_stay stays verdicts processed batches (h ∷ huellas) all = (
  some_stays stays verdicts processed batches h (line_of processed h) refl all.0,
  all_stay stays verdicts processed batches
      huellas all.1,
)

pub seen_kept : SeenStays → (verdicts : List PlannedVerdict) (processed : List (Sealed × Line)) (batches : List (List Sealed))
    (said : Option Replied) →
    AreSeen processed said → AreSeen (delivered_all verdicts processed batches) said
seen_kept stays verdicts processed batches None seen = tt
seen_kept stays verdicts processed batches (Some reply) seen = all_stay stays verdicts processed batches reply.huellas seen

-- of a record that isn't there nothing was said
not_said : (processed : List (Sealed × Line)) (huellas : List (List ℕ)) (lines : List ReplyLine) (huella : List ℕ) →
    AllByRecursion (λ (h : List ℕ). IsSome (line_of processed h)) huellas →
    line_of processed huella ≡ None → said_in huellas lines huella ≡ None
not_said processed [] lines huella all none = refl
not_said processed (h ∷ huellas) [] huella all none = refl
not_said processed (h ∷ huellas) (line ∷ lines) huella all none = elim (cases_Bool (bytes_eq h huella)) [
  | inl e ↦ absurd (missing (line_of processed h) (ap (λ (g : List ℕ). line_of processed g) ((bytes_eq-Decides h huella).0 e) ∙
      none) all.0)
  | inr e ↦ rw e (not_said processed huellas lines huella all.1 none)
]
  where
    missing : (o : Option Line) → o ≡ None → IsSome o → ⊥
    missing None e some = not_some some
    missing (Some line) e some = absurd cc

-- an agency that has processed what was replied to forgets nothing
none_forgotten : (processed : List (Sealed × Line)) (reply : Replied) (place : ℕ) (huellas : List (List ℕ)) →
    AllByRecursion (λ (h : List ℕ). IsSome (line_of processed h)) reply.huellas →
    forgotten_in reply place huellas (looked processed huellas) ≡ None
none_forgotten processed reply place [] all = refl
none_forgotten processed reply place (h ∷ huellas) all = here (line_of processed h) refl (none_forgotten processed reply
    (place + 1) huellas all)
  where
    here : (o : Option Line) → line_of processed h ≡ o → forgotten_in reply (place + 1) huellas (looked processed huellas) ≡ None
        →
        forgotten_in reply place (h ∷ huellas) (seen_of (line_of processed h) ∷ looked processed huellas) ≡ None
    here None e later = rw e (rw (not_said processed reply.huellas reply.lines h all e) later)
    here (Some line) e later = rw e later

pub nothing_forgotten : (processed : List (Sealed × Line)) (said : Option Replied) (place : ℕ) (huellas : List (List ℕ)) →
    AreSeen processed said → forgotten said place huellas (looked processed huellas) ≡ None
nothing_forgotten processed None place huellas seen = refl
nothing_forgotten processed (Some reply) place huellas seen = none_forgotten processed reply place huellas seen

-- so no evidence is shown
pub nothing_shown : (processed : List (Sealed × Line)) (said : Option Replied) (first : ℕ) (huellas : List (List ℕ))
    (seen : List Seen) (evidence : Evidence) →
    seen ≡ looked processed huellas → HasNoHole seen → AreSeen processed said → Shows said first huellas seen (Err evidence) → ⊥
nothing_shown processed said first huellas seen (Hole unseen at) is whole there shows = no_hole_found seen shows.i shows.j whole
    shows.hole
nothing_shown processed said first huellas seen (Forgotten place line) is whole there shows =
    let none : forgotten said first huellas seen ≡ None = ap (λ (xs : List Seen). forgotten said first huellas xs) is ∙
    nothing_forgotten processed said first huellas there in
    let some = shows.1 in absurd cc
