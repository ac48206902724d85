-- What a delivery answers, and what is seen after it.
use Rattle.std.proofs.Common.{◌≡◌, ◌≢◌, ℕ, List, [], ◌∷◌, ◌++◌, refl, sym, ◌∙◌, ap, subst, inl, inr, Option, Some, None, length}
use Rattle.std.proofs.Common.{length-append, map, take, drop, ◌≤◌, arith, append_assoc, append-nil, bytes_eq}
use Rattle.std.proofs.lemmas.Bool.{cases_Bool}
use Rattle.std.proofs.lemmas.List.{map-append, length-take}
use Rattle.std.specs.List.{AllByRecursion}
use Rattle.record_fields.specs.declared.records.Sealed.{Sealed}
use Rattle.record_fields.specs.declared.lines.Line.{Line}
use Rattle.record_codec.specs.declared.entry.Entry.{Entry}
use Rattle.shop_core.specs.History.{recs, noted, waiting}
use Rattle.shop_core.specs.Sales.{SalesAreNew}
use Rattle.agency_rules.specs.declared.plans.PlannedVerdict.{PlannedVerdict}
use Rattle.agency_rules.specs.Judging.{judgement}
use Rattle.agency_rules.specs.Pairs.{line_of, met, delivered_record, after_record, delivered, delivered_all}
use Rattle.agency_port.specs.Answers.{reply_line, answers}
use Rattle.agency_port.specs.declared.answers.ReplyLine.{ReplyLine}
use Rattle.agency_port.specs.declared.answers.ReplyLine.TheVariants.{First}
use Rattle.shop_core.specs.Prefix.{IsPrefix}
use Rattle.once_world.specs.Agreement.{Agree, records_of, lines_of}
use Rattle.once_world.specs.Laws.{FirstLinesAreNext, DeliveriesOnlyAdd, DeliveredAreSeen, SeenStays}
use Rattle.once_world.proofs.Lists.{prefix_length}
use Rattle.once_world.proofs.Agreements.{as_many_lines, as_many_records, waiting_split}
use Rattle.once_world.proofs.Deliveries.{AreLinked, IsChain, IsSeen, chain_of, next_or_in, shift_run, not_seen, seen_next}
use Rattle.once_world.proofs.Deliveries.{seen_there, after_in, after_new}
use Rattle.once_world.proofs.Lists.{bytes_same}

-- what a record is answered
abbrev answer_to : List PlannedVerdict → List (Sealed × Line) → Sealed → ReplyLine
answer_to verdicts processed s = reply_line (delivered_record verdicts processed s)

new_answer : (verdicts : List PlannedVerdict) (processed : List (Sealed × Line)) (s : Sealed) → line_of processed s.huella ≡ None
    → answer_to verdicts processed s ≡ First (judgement verdicts processed s.body)
new_answer verdicts processed s e = ap (λ (o : Option Line). reply_line (met o (judgement verdicts processed s.body))) e

not_first : (verdicts : List PlannedVerdict) (processed : List (Sealed × Line)) (s : Sealed) (kept line : Line) →
    line_of processed s.huella ≡ Some kept → answer_to verdicts processed s ≢ First line
not_first verdicts processed s kept line e h =
    let d : reply_line (met (Some kept) (judgement verdicts processed s.body)) ≡ First line =
    sym (ap (λ (o : Option Line). reply_line (met o (judgement verdicts processed s.body))) e) ∙ h in
    absurd cc

new_lines : (verdicts : List PlannedVerdict) (processed : List (Sealed × Line)) (p : Sealed × Line) (batch : List Sealed)
    (lines : List Line) →
    lines_of (delivered verdicts (processed ++ p ∷ []) batch) ≡ lines_of (processed ++ p ∷ []) ++ lines →
    lines_of (delivered verdicts (processed ++ p ∷ []) batch) ≡ lines_of processed ++ (p.1 ∷ lines)
new_lines verdicts processed p batch lines e =
    e ∙ ap (λ (ls : List Line). ls ++ lines) (map-append (λ (q : Sealed × Line). q.1) processed (p ∷ [])) ∙
    append_assoc (lines_of processed) (p.1 ∷ []) lines

-- where all records of a batch are new, its answers are the lines that are added
all_first : (verdicts : List PlannedVerdict) (records : List Sealed) → IsChain records → (batch before after : List Sealed)
    (processed : List (Sealed × Line)) (lines : List Line) →
    records ≡ before ++ (batch ++ after) → records_of processed ≡ before → answers verdicts processed batch ≡ map First lines →
    lines_of (delivered verdicts processed batch) ≡ lines_of processed ++ lines
all_first verdicts records chain [] before after processed [] run here e = sym (append-nil (lines_of processed))
all_first verdicts records chain [] before after processed (line ∷ lines) run here e = absurd cc
all_first verdicts records chain (s ∷ batch) before after processed [] run here e = absurd cc
all_first verdicts records chain (s ∷ batch) before after processed (line ∷ lines) run here e =
    let fresh = subst (λ (xs : List Sealed). AllByRecursion (λ (t : Sealed). t.huella ≢ s.huella) xs) (sym here)
    (chain.huellas before (batch ++ after) s run) in
    let unseen = not_seen processed s fresh in
    let p : Sealed × Line = (s, judgement verdicts processed s.body) in
    let mid : after_record verdicts processed s ≡ processed ++ p ∷ [] = after_new verdicts processed s unseen in
    let head : answer_to verdicts processed s ≡ First line = cc in
    let tail : answers verdicts (after_record verdicts processed s) batch ≡ map First lines = cc in
    let first : First (judgement verdicts processed s.body) ≡ First line = sym (new_answer verdicts processed s unseen) ∙ head in
    let same : judgement verdicts processed s.body ≡ line = cc in
    let both : records_of (processed ++ p ∷ []) ≡ before ++ s ∷ [] = map-append (λ (q : Sealed × Line). q.0) processed (p ∷ []) ∙
    ap (λ (xs : List Sealed). xs ++ s ∷ []) here in
    let then = all_first verdicts records chain batch (before ++ s ∷ []) after (processed ++ p ∷ []) lines
    (shift_run records before batch after s run) both
    (ap (λ (m : List (Sealed × Line)). answers verdicts m batch) (sym mid) ∙ tail) in
    ap (λ (m : List (Sealed × Line)). lines_of (delivered verdicts m batch)) mid ∙ new_lines verdicts processed p batch lines then
    ∙ ap (λ (l : Line). lines_of processed ++ (l ∷ lines)) same

no_more : {A : Type 0} (xs ys rest : List A) → ys ≡ xs ++ rest → length ys ≤ length xs → xs ≡ ys
no_more xs ys [] e le = sym (e ∙ append-nil xs)
no_more xs ys (x ∷ rest) e le = let a = ap length e in let b = length-append xs (x ∷ rest) in absurd (omega arith)

record IsFirst (r : ReplyLine) : Type 0 where
  line : Line
  is : r ≡ First line

head_first : (r : ReplyLine) (rs : List ReplyLine) (lines : List Line) → r ∷ rs ≡ map First lines → IsFirst r
head_first r rs [] e = absurd cc
head_first r rs (line ∷ lines) e = record { line = line; is = cc }

-- where the first record of a batch is new, the list ends just before it
first_new : (verdicts : List PlannedVerdict) (s : Sealed) (rest before after : List Sealed) (processed : List (Sealed × Line))
    (said : List ReplyLine) (lines : List Line) →
    records_of processed ++ rest ≡ before ++ s ∷ after → length before ≤ length processed →
    answer_to verdicts processed s ∷ said ≡ map First lines → records_of processed ≡ before
first_new verdicts s rest before after processed said lines run le e =
    let as_long = as_many_records processed in
    elim (next_or_in (records_of processed) rest before after s run (omega arith)) [
      | inl here ↦ here
      | inr there ↦
          let seen = seen_there processed before there.more s there.is in
          let f = head_first (answer_to verdicts processed s) said lines e in
          absurd (not_first verdicts processed s seen.line f.line seen.is f.is)
    ]

whole_lines : (verdicts : List PlannedVerdict) (entries : List Entry) (processed : List (Sealed × Line)) (batch : List Sealed)
    (lines : List Line) → noted entries ≡ lines_of processed →
    lines_of (delivered verdicts processed batch) ≡ lines_of processed ++ lines → IsPrefix (noted entries ++ lines)
    (lines_of (delivered verdicts processed batch))
whole_lines verdicts entries processed batch lines e f = record {
  rest = [];
  is = f ∙ ap (λ (ls : List Line). ls ++ lines) (sym e)
      ∙ sym (append-nil (noted entries ++ lines));
}

no_lines : (entries : List Entry) (processed : List (Sealed × Line)) (lines : List Line) →
    IsPrefix (noted entries) (lines_of processed) → [] ≡ map First lines → IsPrefix (noted entries ++ lines) (lines_of processed)
no_lines entries processed [] prefix e = record {
  rest = prefix.rest;
  is = prefix.is ∙ ap (λ (ls : List Line). ls ++ prefix.rest)
      (sym (append-nil (noted entries)));
}
no_lines entries processed (line ∷ lines) prefix e = absurd cc

from_noted : (verdicts : List PlannedVerdict) (entries : List Entry) (processed : List (Sealed × Line))
    (sent : List (List Sealed)) (batch after : List Sealed) (lines : List Line) →
    IsChain (recs entries) → Agree entries processed sent → recs entries ≡ take (length (noted entries)) (recs entries) ++
    (batch ++ after) → answers verdicts processed batch ≡ map First lines →
    IsPrefix (noted entries ++ lines) (lines_of (delivered verdicts processed batch))
from_noted verdicts entries processed sent [] after lines chain agree run e = no_lines entries processed lines agree.lines e
from_noted verdicts entries processed sent (s ∷ batch) after lines chain agree run e =
    let n = length (noted entries) in
    let before : List Sealed = take n (recs entries) in
    let short = length-take n (recs entries) in
    let in_lines = prefix_length (noted entries) (lines_of processed) agree.lines in
    let a = as_many_lines processed in
    let b = as_many_records processed in
    let here : records_of processed ≡ before =
    first_new verdicts s agree.records.rest before (batch ++ after) processed
    (answers verdicts (after_record verdicts processed s) batch) lines (sym agree.records.is ∙ run) (omega arith) e in
    let c = ap length here in
    let all : noted entries ≡ lines_of processed = no_more (noted entries) (lines_of processed) agree.lines.rest agree.lines.is
    (omega arith) in
    whole_lines verdicts entries processed (s ∷ batch) lines all
    (all_first verdicts (recs entries) chain (s ∷ batch) before after processed lines run here e)

pub first_lines : AreLinked → SalesAreNew → FirstLinesAreNext
first_lines linked sales version issuer verdicts entries processed sent count lines legal agree e =
    from_noted verdicts entries processed sent (take count (waiting entries)) (drop count (waiting entries)) lines
    (chain_of linked sales version issuer entries legal) agree (waiting_split entries count) e

record_adds : (verdicts : List PlannedVerdict) (processed : List (Sealed × Line)) (s : Sealed) (found : Option Line) →
    line_of processed s.huella ≡ found → IsPrefix processed (after_record verdicts processed s)
record_adds verdicts processed s None none = record {
  rest = (s, judgement verdicts processed s.body) ∷ [];
  is = after_new verdicts processed s none;
}
record_adds verdicts processed s (Some kept) some = record {
  rest = [];
  is = after_in verdicts processed s kept some ∙
      sym (append-nil processed);
}

then_adds : {A : Type 0} (xs ys zs : List A) → IsPrefix xs ys → IsPrefix ys zs → IsPrefix xs zs
then_adds xs ys zs p q = record {
  rest = p.rest ++ q.rest;
  is = q.is ∙ ap (λ t. t ++ q.rest) p.is ∙ append_assoc xs p.rest q.rest;
}

batch_adds : (verdicts : List PlannedVerdict) (processed : List (Sealed × Line)) (batch : List Sealed) →
    IsPrefix processed (delivered verdicts processed batch)
batch_adds verdicts processed [] = record { rest = []; is = sym (append-nil processed) }
batch_adds verdicts processed (s ∷ batch) =
    let mid = after_record verdicts processed s in
    then_adds processed mid (delivered verdicts mid batch) (record_adds verdicts processed s (line_of processed s.huella) refl)
    (batch_adds verdicts mid batch)

pub only_adds : DeliveriesOnlyAdd
only_adds verdicts processed [] = record { rest = []; is = sym (append-nil processed) }
only_adds verdicts processed (batch ∷ batches) =
    let mid = delivered verdicts processed batch in
    then_adds processed mid (delivered_all verdicts mid batches) (batch_adds verdicts processed batch)
    (only_adds verdicts mid batches)

-- what is seen stays seen where pairs are added
seen_still : (processed added : List (Sealed × Line)) (huella : List ℕ) (line : Line) → line_of processed huella ≡ Some line →
    line_of (processed ++ added) huella ≡ Some line
seen_still [] added huella line e = absurd cc
seen_still (p ∷ processed) added huella line e = elim (cases_Bool (bytes_eq p.0.huella huella)) [
  | inl t ↦ (let h : Some p.1 ≡ Some line = rw t at e in rw t h)
  | inr f ↦ (let h : line_of processed huella ≡ Some line = rw f at e in rw f (seen_still processed added huella line h))
]

record_keeps : (verdicts : List PlannedVerdict) (processed : List (Sealed × Line)) (s : Sealed) (huella : List ℕ) (line : Line)
    (found : Option Line) → line_of processed s.huella ≡ found →
    line_of processed huella ≡ Some line → line_of (after_record verdicts processed s) huella ≡ Some line
record_keeps verdicts processed s huella line None none e =
    ap (λ (ps : List (Sealed × Line)). line_of ps huella) (after_new verdicts processed s none) ∙ seen_still processed
    ((s, judgement verdicts processed s.body) ∷ []) huella line e
record_keeps verdicts processed s huella line (Some kept) some e =
    ap (λ (ps : List (Sealed × Line)). line_of ps huella) (after_in verdicts processed s kept some) ∙ e

batch_keeps : (verdicts : List PlannedVerdict) (processed : List (Sealed × Line)) (batch : List Sealed) (huella : List ℕ)
    (line : Line) →
    line_of processed huella ≡ Some line → line_of (delivered verdicts processed batch) huella ≡ Some line
batch_keeps verdicts processed [] huella line e = e
batch_keeps verdicts processed (s ∷ batch) huella line e =
    batch_keeps verdicts (after_record verdicts processed s) batch huella line (record_keeps verdicts processed s huella line
    (line_of processed s.huella) refl e)

pub seen_stays : SeenStays
seen_stays verdicts processed [] huella line e = e
seen_stays verdicts processed (batch ∷ batches) huella line e =
    seen_stays verdicts (delivered verdicts processed batch) batches huella line (batch_keeps verdicts processed batch huella line
    e)

added_seen : (processed : List (Sealed × Line)) (s : Sealed) (line : Line) → IsSeen (processed ++ (s, line) ∷ []) s.huella
added_seen [] s line = record { line = line; is = rw (bytes_same s.huella) refl }
added_seen (p ∷ processed) s line = seen_next p (processed ++ (s, line) ∷ []) s.huella (added_seen processed s line)

record_seen : (verdicts : List PlannedVerdict) (processed : List (Sealed × Line)) (s : Sealed) (found : Option Line) →
    line_of processed s.huella ≡ found → IsSeen (after_record verdicts processed s) s.huella
record_seen verdicts processed s None none =
    subst (λ (ps : List (Sealed × Line)). IsSeen ps s.huella) (sym (after_new verdicts processed s none))
    (added_seen processed s (judgement verdicts processed s.body))
record_seen verdicts processed s (Some kept) some =
    subst (λ (ps : List (Sealed × Line)). IsSeen ps s.huella) (sym (after_in verdicts processed s kept some))
    (record { line = kept; is = some })

pub delivered_seen : DeliveredAreSeen
delivered_seen verdicts processed [] = tt
delivered_seen verdicts processed (s ∷ batch) =
    let mid = after_record verdicts processed s in
    let here = record_seen verdicts processed s (line_of processed s.huella) refl in
    let h : line_of (delivered verdicts mid batch) s.huella ≡ Some here.line = batch_keeps verdicts mid batch s.huella here.line
    here.is in
    (rw h refl, delivered_seen verdicts mid batch)
