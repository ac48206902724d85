-- A delivery record by record, and batch by batch.
use Rattle.std.proofs.Common.{◌≡◌, ℕ, suc, ◌<◌, ◌≤◌, ◌+◌, List, [], ◌∷◌, ◌++◌, refl, sym, ◌∙◌, ap, arith, length, map, take}
use Rattle.std.proofs.Common.{get_or, length-take}
use Rattle.std.proofs.lemmas.List.{take_more, take-take, map-append, length-map}
use Rattle.record_fields.specs.declared.lines.Line.{Line}
use Rattle.record_fields.specs.declared.records.Sealed.{Sealed}
use Rattle.agency_rules.specs.declared.plans.PlannedVerdict.{PlannedVerdict}
use Rattle.agency_rules.specs.declared.pairs.Delivered.{Delivered}
use Rattle.agency_rules.specs.Pairs.{delivered_record, after_record, delivered, delivered_all, meetings}
use Rattle.agency_rules.proofs.Deliveries.{front_with}
use Rattle.agency_port.specs.Answers.{reply_line, answers}
use Rattle.agency_port.specs.declared.answers.ReplyLine.{ReplyLine}

meetings-append : (verdicts : List PlannedVerdict) (processed : List (Sealed × Line)) (a b : List Sealed) →
    meetings verdicts processed (a ++ b) ≡ meetings verdicts processed a ++ meetings verdicts (delivered verdicts processed a) b
meetings-append verdicts processed [] b = refl
meetings-append verdicts processed (s ∷ a) b =
    ap (λ (ms : List Delivered). delivered_record verdicts processed s ∷ ms)
    (meetings-append verdicts (after_record verdicts processed s) a b)

pub delivered_all-append : (verdicts : List PlannedVerdict) (processed : List (Sealed × Line)) (a b : List (List Sealed)) →
    delivered_all verdicts processed (a ++ b) ≡ delivered_all verdicts (delivered_all verdicts processed a) b
delivered_all-append verdicts processed [] b = refl
delivered_all-append verdicts processed (x ∷ a) b = delivered_all-append verdicts (delivered verdicts processed x) a b

next_of : (batch : List Sealed) (i : ℕ) (s : Sealed) → i < length batch → s ≡ get_or batch i s → take i batch ++ s ∷ [] ≡ take
    (i + 1) batch
next_of batch i s within is = ap (λ (x : Sealed). take i batch ++ x ∷ []) is ∙ sym (take_more batch i s within)

-- one answer more
pub answers_more : (verdicts : List PlannedVerdict) (processed now : List (Sealed × Line)) (batch : List Sealed) (i : ℕ)
    (s : Sealed) (met : Delivered) (lines after : List ReplyLine) →
    i < length batch → s ≡ get_or batch i s → now ≡ delivered verdicts processed (take i batch) →
    lines ≡ answers verdicts processed (take i batch) →
    met ≡ delivered_record verdicts now s → after ≡ lines ++ reply_line met ∷ [] → after ≡ answers verdicts processed
    (take (i + 1) batch)
answers_more verdicts processed now batch i s met lines after within is now_is so_far is_met one =
    let front : List Sealed = take i batch in
    let m : met ≡ delivered_record verdicts (delivered verdicts processed front) s = is_met ∙
    ap (λ (ps : List (Sealed × Line)). delivered_record verdicts ps s) now_is in
    one ∙ ap (λ (ls : List ReplyLine). ls ++ reply_line met ∷ []) so_far
    ∙ ap (λ (d : Delivered). answers verdicts processed front ++ reply_line d ∷ []) m
    ∙ sym (map-append reply_line (meetings verdicts processed front) (meetings verdicts (delivered verdicts processed front)
    (s ∷ [])))
    ∙ sym (ap (map reply_line) (meetings-append verdicts processed front (s ∷ [])))
    ∙ ap (answers verdicts processed) (next_of batch i s within is)

length-meetings : (verdicts : List PlannedVerdict) (processed : List (Sealed × Line)) (batch : List Sealed) →
    length (meetings verdicts processed batch) ≡ length batch
length-meetings verdicts processed [] = refl
length-meetings verdicts processed (s ∷ batch) = ap suc (length-meetings verdicts (after_record verdicts processed s) batch)

pub length-answers : (verdicts : List PlannedVerdict) (processed : List (Sealed × Line)) (batch : List Sealed) →
    length (answers verdicts processed batch) ≡ length batch
length-answers verdicts processed batch = length-map (meetings verdicts processed batch) reply_line ∙ length-meetings verdicts
    processed batch

pub front_after : (verdicts : List PlannedVerdict) (old mid after : List (Sealed × Line)) (s : Sealed) →
    take (length old) mid ≡ old → after ≡ after_record verdicts mid s → take (length old) after ≡ old
front_after verdicts old mid after s e one =
    ap (take (length old)) one ∙ front_with old mid s (delivered_record verdicts mid s) e

pub front_on : (old mid new : List (Sealed × Line)) → take (length old) mid ≡ old → take (length mid) new ≡ mid →
    take (length old) new ≡ old
front_on old mid new a b =
    let n : length old ≤ length mid = omega (arith, ap length a, length-take (length old) mid) in
    sym (take-take (length old) (length mid) new n) ∙ ap (take (length old)) b ∙ a

-- more batches
pub all_more : (verdicts : List PlannedVerdict) (processed now after : List (Sealed × Line)) (a b c : List (List Sealed)) →
    now ≡ delivered_all verdicts processed a → after ≡ delivered_all verdicts now b → c ≡ a ++ b → after ≡ delivered_all verdicts
    processed c
all_more verdicts processed now after a b c so_far one whole =
    one ∙ ap (λ (ps : List (Sealed × Line)). delivered_all verdicts ps b) so_far ∙ sym (delivered_all-append verdicts processed a
    b) ∙ sym (ap (delivered_all verdicts processed) whole)

pub three_parts : (verdicts : List PlannedVerdict) (processed : List (Sealed × Line)) (a b c : List (List Sealed)) →
    delivered_all verdicts (delivered_all verdicts (delivered_all verdicts processed a) b) c ≡ delivered_all verdicts processed
    ((a ++ b) ++ c)
three_parts verdicts processed a b c =
    ap (λ (ps : List (Sealed × Line)). delivered_all verdicts ps c) (sym (delivered_all-append verdicts processed a b)) ∙
    sym (delivered_all-append verdicts processed (a ++ b) c)
