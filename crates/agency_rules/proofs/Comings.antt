-- What comes again in a delivery, and what is new.
use Rattle.std.proofs.Common.{◌≡◌, ℕ, List, [], ◌∷◌, ◌++◌, refl, sym, ◌∙◌, ap, inl, inr, Option, Some, None, is_some, Bool, true}
use Rattle.std.proofs.Common.{false, ◌||◌, length, map, slice_get, option_map, bytes_eq}
use Rattle.std.proofs.lemmas.Bool.{cases_Bool}
use Rattle.std.proofs.lemmas.Slice.Eq.{bytes_eq-Decides}
use Rattle.std.specs.List.{AllByRecursion, IsDistinct, list_any}
use Rattle.record_fields.specs.declared.records.Sealed.{Sealed}
use Rattle.record_fields.specs.declared.lines.Line.{Line}
use Rattle.agency_rules.specs.declared.plans.PlannedVerdict.{PlannedVerdict}
use Rattle.agency_rules.specs.declared.pairs.Delivered.{Delivered}
use Rattle.agency_rules.specs.declared.pairs.Delivered.TheVariants.{First, Again}
use Rattle.agency_rules.specs.Judging.{judgement}
use Rattle.agency_rules.specs.Pairs.{line_of, met, delivered_record, with_record, after_record, delivered, meetings, names}
use Rattle.agency_rules.specs.Pairs.{has_come, is_again}
use Rattle.agency_rules.specs.Laws.{AgainWhereItCame, AllNewWhereNoneCame, MeetingsJoin}
use Rattle.agency_rules.proofs.Deliveries.{delivered-append}

pub meetings-append : MeetingsJoin
meetings-append verdicts processed [] b = refl
meetings-append verdicts processed (s ∷ a) b =
    ap (λ (ms : List Delivered). delivered_record verdicts processed s ∷ ms)
    (meetings-append verdicts (after_record verdicts processed s) a b)

or_assoc : (a b c : Bool) → ((a || b) || c) ≡ (a || (b || c))
or_assoc true b c = refl
or_assoc false b c = refl

or_false : (a : Bool) → a ≡ (a || false)
or_false true = refl
or_false false = refl

-- one pair more
with_pair : (processed : List (Sealed × Line)) (s : Sealed) (line : Line) (h : List ℕ) →
    is_some (line_of (processed ++ (s, line) ∷ []) h) ≡ (is_some (line_of processed h) || bytes_eq s.huella h)
with_pair [] s line h = elim (cases_Bool (bytes_eq s.huella h)) [
  | inl t ↦ rw t refl
  | inr f ↦ rw f refl
]
with_pair (p ∷ processed) s line h = elim (cases_Bool (bytes_eq p.0.huella h)) [
  | inl t ↦ rw t refl
  | inr f ↦ rw f (with_pair processed s line h)
]

-- a record whose Huella stands there
there_already : (processed : List (Sealed × Line)) (s : Sealed) (line : Line) (h : List ℕ) → line_of processed s.huella ≡ Some
    line →
    is_some (line_of processed h) ≡ (is_some (line_of processed h) || bytes_eq s.huella h)
there_already processed s line h e = elim (cases_Bool (bytes_eq s.huella h)) [
  | inl t ↦
      let same : s.huella ≡ h = (bytes_eq-Decides s.huella h).0 t in
      let stands : is_some (line_of processed h) ≡ true = ap (λ (x : List ℕ). is_some (line_of processed x)) (sym same) ∙
      ap (λ (o : Option Line). is_some o) e in
      rw stands refl
  | inr f ↦ rw f (or_false (is_some (line_of processed h)))
]

after_one : (verdicts : List PlannedVerdict) (processed : List (Sealed × Line)) (s : Sealed) (h : List ℕ) (found : Option Line) →
    line_of processed s.huella ≡ found →
    is_some (line_of (after_record verdicts processed s) h) ≡ (is_some (line_of processed h) || bytes_eq s.huella h)
after_one verdicts processed s h None e =
    ap (λ (o : Option Line). is_some (line_of (with_record processed s (met o (judgement verdicts processed s.body))) h)) e
    ∙ with_pair processed s (judgement verdicts processed s.body) h
after_one verdicts processed s h (Some line) e =
    ap (λ (o : Option Line). is_some (line_of (with_record processed s (met o (judgement verdicts processed s.body))) h)) e
    ∙ there_already processed s line h e

after_these : (verdicts : List PlannedVerdict) (processed : List (Sealed × Line)) (before : List Sealed) (h : List ℕ) →
    is_some (line_of (delivered verdicts processed before) h) ≡ has_come processed before h
after_these verdicts processed [] h = or_false (is_some (line_of processed h))
after_these verdicts processed (s ∷ before) h =
    after_these verdicts (after_record verdicts processed s) before h
    ∙ ap (λ (b : Bool). b || names before h) (after_one verdicts processed s h (line_of processed s.huella) refl)
    ∙ or_assoc (is_some (line_of processed h)) (bytes_eq s.huella h) (names before h)

again_is : (found : Option Line) (line : Line) → is_again (met found line) ≡ is_some found
again_is None line = refl
again_is (Some kept) line = refl

met_there : (verdicts : List PlannedVerdict) (processed : List (Sealed × Line)) (before after : List Sealed) (s : Sealed) →
    slice_get (meetings verdicts processed (before ++ s ∷ after)) (length before) ≡ Some
    (delivered_record verdicts (delivered verdicts processed before) s)
met_there verdicts processed [] after s = refl
met_there verdicts processed (x ∷ before) after s = met_there verdicts (after_record verdicts processed x) before after s

pub again_where_it_came : AgainWhereItCame
again_where_it_came verdicts processed before after s =
    let then = delivered verdicts processed before in
    ap (λ (o : Option Delivered). option_map is_again o) (met_there verdicts processed before after s)
    ∙ ap (λ (b : Bool). Some b) (again_is (line_of then s.huella) (judgement verdicts then s.body) ∙ after_these verdicts
    processed before s.huella)

-- a pair of another Huella changes nothing for this one
still_none : (processed : List (Sealed × Line)) (s : Sealed) (line : Line) (h : List ℕ) → bytes_eq s.huella h ≡ false →
    line_of processed h ≡ None →
    line_of (processed ++ (s, line) ∷ []) h ≡ None
still_none [] s line h differs e = rw differs refl
still_none (p ∷ processed) s line h differs e = elim (cases_Bool (bytes_eq p.0.huella h)) [
  | inl t ↦ let n : Some p.1 ≡ None = rw t at e in absurd cc
  | inr f ↦ rw f (still_none processed s line h differs (rw f at e))
]

none_of : (processed : List (Sealed × Line)) (s : Sealed) (line : Line) (batch : List Sealed) →
    AllByRecursion (λ (h : List ℕ). bytes_eq s.huella h ≡ false) (map (λ (t : Sealed). t.huella) batch) →
    AllByRecursion (λ (t : Sealed). line_of processed t.huella ≡ None) batch →
    AllByRecursion (λ (t : Sealed). line_of (processed ++ (s, line) ∷ []) t.huella ≡ None) batch
none_of processed s line [] differ none = tt
none_of processed s line (t ∷ batch) differ none = (
  still_none processed s line t.huella differ.0 none.0,
  none_of processed s line
      batch differ.1 none.1,
)

pub all_new : AllNewWhereNoneCame
unfolding IsDistinct
all_new verdicts processed [] none distinct = ([], refl)
all_new verdicts processed (s ∷ batch) none distinct =
    let line = judgement verdicts processed s.body in
    let met_first : delivered_record verdicts processed s ≡ First line = ap (λ (o : Option Line). met o line) none.0 in
    let then : after_record verdicts processed s ≡ processed ++ (s, line) ∷ [] = ap (λ (m : Delivered). with_record processed s m)
    met_first in
    let rest = all_new verdicts (processed ++ (s, line) ∷ []) batch (none_of processed s line batch distinct.0 none.1) distinct.1
    in (
      line ∷ rest.0,
      ap (λ (m : Delivered). m ∷ meetings verdicts (after_record verdicts processed s) batch) met_first
          ∙ ap (λ (ps : List (Sealed × Line)). First line ∷ meetings verdicts ps batch) then
          ∙ ap (λ (ms : List Delivered). First line ∷ ms) rest.1,
    )
