-- What a delivery keeps, and a delivery record by record.
use Rattle.std.proofs.Common.{◌≡◌, ℕ, ◌<◌, ◌≤◌, ◌+◌, List, [], ◌∷◌, ◌++◌, refl, sym, ◌∙◌, ap, arith, length, take, drop, get_or}
use Rattle.std.proofs.Common.{length-take, Result, Ok, Err}
use Rattle.std.specs.Prelude.{OnErr}
use Rattle.std.proofs.lemmas.List.{take-append-le, take-append-drop, take_more}
use Rattle.record_fields.specs.declared.lines.Line.{Line}
use Rattle.record_fields.specs.declared.records.Sealed.{Sealed}
use Rattle.agency_rules.specs.declared.plans.PlannedVerdict.{PlannedVerdict}
use Rattle.agency_rules.specs.declared.pairs.Delivered.{Delivered}
use Rattle.agency_rules.specs.declared.pairs.Delivered.TheVariants.{First, Again}
use Rattle.agency_rules.specs.Pairs.{with_record, after_record, delivered, DeliversFront}

pub delivered-append : (verdicts : List PlannedVerdict) (processed : List (Sealed × Line)) (a b : List Sealed) →
    delivered verdicts processed (a ++ b) ≡ delivered verdicts (delivered verdicts processed a) b
delivered-append verdicts processed [] b = refl
delivered-append verdicts processed (s ∷ a) b = delivered-append verdicts (after_record verdicts processed s) a b

-- one record more
pub delivered_more : (verdicts : List PlannedVerdict) (processed now then : List (Sealed × Line)) (batch : List Sealed) (i : ℕ)
    (s : Sealed) →
    i < length batch → s ≡ get_or batch i s → now ≡ delivered verdicts processed (take i batch) → then ≡ after_record verdicts now
    s →
    then ≡ delivered verdicts processed (take (i + 1) batch)
delivered_more verdicts processed now then batch i s within is so_far one =
    one ∙ ap (λ (ps : List (Sealed × Line)). after_record verdicts ps s) so_far
    ∙ sym (delivered-append verdicts processed (take i batch) (s ∷ []))
    ∙ ap (delivered verdicts processed) (ap (λ (x : Sealed). take i batch ++ x ∷ []) is ∙ sym (take_more batch i s within))

-- the front of a list that grew stays
pub front_more : {A : Type 0} (old mid more : List A) → take (length old) mid ≡ old → take (length old) (mid ++ more) ≡ old
front_more old mid more e =
    let n : length old ≤ length mid = omega (arith, ap length e, length-take (length old) mid) in
    take-append-le (length old) mid more n ∙ e

pub front_with : (old mid : List (Sealed × Line)) (s : Sealed) (met : Delivered) → take (length old) mid ≡ old →
    take (length old) (with_record mid s met) ≡ old
front_with old mid s (First line) e = front_more old mid ((s, line) ∷ []) e
front_with old mid s (Again line) e = e

-- the records in front of this place came
pub front_came : {T E : Type 0} (result : Result T E) (verdicts : List PlannedVerdict) (old now then : List (Sealed × Line))
    (batch : List Sealed) (i : ℕ) →
    then ≡ now → now ≡ delivered verdicts old (take i batch) → OnErr result (DeliversFront verdicts old then batch)
front_came (Ok done) verdicts old now then batch i same so_far = tt
front_came (Err why) verdicts old now then batch i same so_far = record {
  front = take i batch;
  rest = drop i batch;
  is = sym (take-append-drop i batch);
  came = same ∙ so_far;
}
