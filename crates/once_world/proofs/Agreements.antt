-- What keeps agreement, and where it begins.
use Rattle.std.proofs.Common.{◌≡◌, ◌≢◌, ℕ, List, [], ◌∷◌, ◌++◌, refl, sym, ◌∙◌, ap, subst, true, length, length-append, map, zip}
use Rattle.std.proofs.Common.{◌≤◌, ◌+◌, arith, append_assoc, append-nil, take, drop}
use Rattle.std.proofs.lemmas.List.{map-append, length-map, length-take, take-append-drop}
use Rattle.std.proofs.lemmas.List.Elements.{filter_map-append}
use Rattle.std.proofs.lemmas.Grind.{flat_map-append}
use Rattle.std.specs.List.{AllByRecursion, Contains}
use Rattle.record_fields.specs.declared.records.Sealed.{Sealed}
use Rattle.record_fields.specs.declared.lines.Line.{Line}
use Rattle.record_codec.specs.declared.entry.Entry.{Entry}
use Rattle.record_codec.specs.declared.entry.Entry.TheVariants.{Rec, Notes}
use Rattle.shop_core.specs.History.{Row, rows, row_in, lines_in, recs, noted, is_record, waiting}
use Rattle.shop_core.specs.Legal.{AreNext}
use Rattle.shop_core.specs.Sales.{SalesAreNew}
use Rattle.shop_core.specs.Spans.{NotedWithinRecords}
use Rattle.agency_rules.specs.declared.plans.PlannedVerdict.{PlannedVerdict}
use Rattle.agency_rules.specs.Pairs.{delivered, delivered_all}
use Rattle.agency_port.specs.Rules.{AreAmong}
use Rattle.shop_core.specs.Prefix.{IsPrefix}
use Rattle.once_world.specs.Agreement.{IsRun, Agree, AreNextLines, AreOnce, records_of, lines_of}
use Rattle.once_world.specs.Laws.{RecordsKeepAgreement, RecordsKeepNextLines, SendingKeepsAgreement, NotingKeepsAgreement}
use Rattle.once_world.specs.Laws.{DeliveriesKeepAgreement, NotedPairsAgree, StandOnce, DeliveriesRefuseNoSale}
use Rattle.once_world.proofs.Lists.{all_contained, all_both, all_change, prefix_more, prefix_length}
use Rattle.once_world.proofs.Deliveries.{AreLinked, IsChain, Extends, chain_of, deliver_run}

recs_append : (a b : List Entry) → recs (a ++ b) ≡ recs a ++ recs b
recs_append a b = ap (map (λ (r : Row). r.sealed)) (filter_map-append row_in a b) ∙ map-append (λ (r : Row). r.sealed) (rows a)
    (rows b)

noted_append : (a b : List Entry) → noted (a ++ b) ≡ noted a ++ noted b
noted_append a b = flat_map-append lines_in a b

pub as_many_lines : (processed : List (Sealed × Line)) → length (lines_of processed) ≡ length processed
as_many_lines processed = length-map processed (λ (p : Sealed × Line). p.1)

pub as_many_records : (processed : List (Sealed × Line)) → length (records_of processed) ≡ length processed
as_many_records processed = length-map processed (λ (p : Sealed × Line). p.0)

abbrev AreRuns : List Sealed → ℕ → ℕ → List (List Sealed) → Type 0
AreRuns records from to sent = AllByRecursion (λ (batch : List Sealed). IsRun records batch from to) sent

-- a run of a list stays one when the list goes on and the bounds grow
run_more : (records more batch : List Sealed) (from to from_then to_then : ℕ) → from ≤ from_then → to ≤ to_then →
    IsRun records batch from to → IsRun (records ++ more) batch from_then to_then
run_more records more batch from to from_then to_then h k r = record {
  before = r.before;
  after = r.after ++ more;
  run = ap (λ (xs : List Sealed). xs ++ more) r.run ∙ append_assoc r.before (batch ++ r.after) more ∙
      ap (λ (xs : List Sealed). r.before ++ xs) (append_assoc batch r.after more);
  begins = (let b = r.begins in omega arith);
  ends = (let b = r.ends in omega arith);
}

run_wider : (records batch : List Sealed) (from to from_then to_then : ℕ) → from ≤ from_then → to ≤ to_then →
    IsRun records batch from to → IsRun records batch from_then to_then
run_wider records batch from to from_then to_then h k r = record {
  before = r.before;
  after = r.after;
  run = r.run;
  begins = (let b = r.begins in omega arith);
  ends = (let b = r.ends in omega arith);
}

runs_wider : (records : List Sealed) (from to from_then to_then : ℕ) (sent : List (List Sealed)) → from ≤ from_then →
    to ≤ to_then → AreRuns records from to sent → AreRuns records from_then to_then sent
runs_wider records from to from_then to_then sent h k all =
    all_change (λ (batch : List Sealed). IsRun records batch from to) (λ (batch : List Sealed). IsRun records batch from_then
    to_then)
    (λ batch r. run_wider records batch from to from_then to_then h k r) sent all

runs_more : (records more : List Sealed) (from to : ℕ) (sent : List (List Sealed)) → AreRuns records from to sent →
    AreRuns (records ++ more) from to sent
runs_more records more from to sent all =
    all_change (λ (batch : List Sealed). IsRun records batch from to) (λ (batch : List Sealed). IsRun (records ++ more) batch from
    to)
    (λ batch r. run_more records more batch from to from to (omega arith) (omega arith) r) sent all

-- agreement is a matter of the records and the noted lines alone
agree_by : (entries : List Entry) (records : List Sealed) (lines : List Line) (processed : List (Sealed × Line))
    (sent : List (List Sealed)) → recs entries ≡ records → noted entries ≡ lines →
    IsPrefix (records_of processed) records → IsPrefix lines (lines_of processed) → AreRuns records (length processed)
    (length lines + 1000) sent → Agree entries processed sent
agree_by entries records lines processed sent r n a b c = record {
  records = subst (λ (xs : List Sealed). IsPrefix (records_of processed) xs) (sym r) a;
  lines = subst (λ (ls : List Line). IsPrefix ls (lines_of processed)) (sym n) b;
  batches = subst (λ (xs : List Sealed). AreRuns xs (length processed) (length (noted entries) + 1000) sent) (sym r)
      (subst (λ (ls : List Line). AreRuns records (length processed) (length ls + 1000) sent) (sym n) c);
}

pub agree_record : (entries : List Entry) (entry : Entry) (processed : List (Sealed × Line)) (sent : List (List Sealed)) →
    Agree entries processed sent → is_record entry ≡ true → Agree (entries ++ entry ∷ []) processed sent
agree_record entries (Notes first lines) processed sent agree is = absurd cc
agree_record entries (Rec till serial s) processed sent agree is =
    agree_by (entries ++ Rec till serial s ∷ []) (recs entries ++ s ∷ []) (noted entries) processed sent
    (recs_append entries (Rec till serial s ∷ [])) (noted_append entries (Rec till serial s ∷ []) ∙ append-nil (noted entries))
    (prefix_more (records_of processed) (recs entries) (s ∷ []) agree.records) agree.lines
    (runs_more (recs entries) (s ∷ []) (length processed) (length (noted entries) + 1000) sent agree.batches)

-- a record leaves the noted lines as they were
pub noted_record : (entries : List Entry) (entry : Entry) → is_record entry ≡ true → noted (entries ++ entry ∷ []) ≡ noted entries
noted_record entries (Notes first lines) is = absurd cc
noted_record entries (Rec till serial s) is = noted_append entries (Rec till serial s ∷ []) ∙ append-nil (noted entries)

pub agree_records : RecordsKeepAgreement
agree_records entries [] processed sent agree are = subst (λ (es : List Entry). Agree es processed sent)
    (sym (append-nil entries)) agree
agree_records entries (e ∷ more) processed sent agree are =
    subst (λ (es : List Entry). Agree es processed sent) (append_assoc entries (e ∷ []) more)
    (agree_records (entries ++ e ∷ []) more processed sent (agree_record entries e processed sent agree are.0) are.1)

pub next_record : (entries : List Entry) (entry : Entry) (processed : List (Sealed × Line)) (lines : List Line) →
    is_record entry ≡ true → AreNextLines entries processed lines → AreNextLines (entries ++ entry ∷ []) processed lines
next_record entries entry processed lines is next =
    record {
      run = subst (λ (ls : List Line). IsPrefix (ls ++ lines) (lines_of processed)) (sym (noted_record entries entry is))
          next.run;
      some = next.some;
      few = next.few;
    }

pub next_records : RecordsKeepNextLines
next_records entries [] processed lines next are = subst (λ (es : List Entry). AreNextLines es processed lines)
    (sym (append-nil entries)) next
next_records entries (e ∷ more) processed lines next are =
    subst (λ (es : List Entry). AreNextLines es processed lines) (append_assoc entries (e ∷ []) more)
    (next_records (entries ++ e ∷ []) more processed lines (next_record entries e processed lines are.0 next) are.1)

pub agree_noted : NotingKeepsAgreement
agree_noted entries processed sent lines agree next =
    let first = length (noted entries) in
    let longer : length (noted entries ++ lines) ≡ length (noted entries) + length lines = length-append (noted entries) lines in
    agree_by (entries ++ Notes first lines ∷ []) (recs entries) (noted entries ++ lines) processed sent
    (recs_append entries (Notes first lines ∷ []) ∙ append-nil (recs entries))
    (noted_append entries (Notes first lines ∷ []) ∙ ap (λ (ls : List Line). noted entries ++ ls) (append-nil lines))
    agree.records next.run
    (runs_wider (recs entries) (length processed) (length (noted entries) + 1000) (length processed)
    (length (noted entries ++ lines) + 1000) sent (omega arith) (omega arith) agree.batches)

-- the records, cut where the noted ones end and where this many more do
pub waiting_split : (entries : List Entry) (count : ℕ) → recs entries ≡ take (length (noted entries)) (recs entries) ++
    (take count (waiting entries) ++ drop count (waiting entries))
waiting_split entries count =
    let before : List Sealed = take (length (noted entries)) (recs entries) in
    sym (take-append-drop (length (noted entries)) (recs entries)) ∙ ap (λ (xs : List Sealed). before ++ xs)
    (sym (take-append-drop count (waiting entries)))

-- the first this many waiting records are a run that begins where the noted ones end
sent_run : (entries : List Entry) (processed : List (Sealed × Line)) (count : ℕ) → count ≤ 1000 → IsPrefix (records_of processed)
    (recs entries) → IsPrefix (noted entries) (lines_of processed) →
    IsRun (recs entries) (take count (waiting entries)) (length processed) (length (noted entries) + 1000)
sent_run entries processed count few prefix lines =
    let n = length (noted entries) in
    let before : List Sealed = take n (recs entries) in
    let a = as_many_lines processed in
    let b = prefix_length (noted entries) (lines_of processed) lines in
    let c = length-take n (recs entries) in
    let d = length-take count (waiting entries) in
    record {
      before = before;
      after = drop count (waiting entries);
      run = waiting_split entries count;
      begins = omega arith;
      ends = omega arith;
    }

pub agree_sent : SendingKeepsAgreement
agree_sent entries processed sent count agree few = record {
  records = agree.records;
  lines = agree.lines;
  batches = all_both (λ (b : List Sealed). IsRun (recs entries) b (length processed) (length (noted entries) + 1000)) sent
      (take count (waiting entries) ∷ [])
      agree.batches (sent_run entries processed count few agree.records agree.lines, tt);
}

-- pairs that are added to the list keep agreement where their records are the next ones
pub agree_added : (entries : List Entry) (processed added : List (Sealed × Line)) (sent : List (List Sealed)) →
    IsPrefix (records_of (processed ++ added)) (recs entries) → Agree entries processed sent → Agree entries (processed ++ added)
    sent
agree_added entries processed added sent prefix agree = record {
  records = prefix;
  lines = subst (λ (ls : List Line). IsPrefix (noted entries) ls) (sym (map-append (λ (p : Sealed × Line). p.1) processed added))
      (prefix_more (noted entries) (lines_of processed) (lines_of added) agree.lines);
  batches = (let k = length-append processed added in
      runs_wider (recs entries) (length processed) (length (noted entries) + 1000) (length (processed ++ added))
      (length (noted entries) + 1000) sent (omega arith) (omega arith) agree.batches);
}

-- what a batch that was sent makes of the list
pub batch_delivered : (verdicts : List PlannedVerdict) (entries : List Entry) (processed : List (Sealed × Line))
    (sent : List (List Sealed)) (batch : List Sealed) →
    IsChain (recs entries) → Agree entries processed sent → Contains sent batch → Extends (recs entries) processed
    (delivered verdicts processed batch)
batch_delivered verdicts entries processed sent batch chain agree there =
    let r = all_contained (λ (b : List Sealed). IsRun (recs entries) b (length processed) (length (noted entries) + 1000)) sent
    batch agree.batches there in
    deliver_run verdicts (recs entries) chain batch r.before r.after processed r.run agree.records r.begins

pub agree_extended : (entries : List Entry) (processed new : List (Sealed × Line)) (sent : List (List Sealed)) →
    Extends (recs entries) processed new → Agree entries processed sent → Agree entries new sent
agree_extended entries processed new sent d agree =
    let e = d.adds.is in
    subst (λ (ps : List (Sealed × Line)). Agree entries ps sent) (sym e)
    (agree_added entries processed d.adds.added sent (subst (λ (ps : List (Sealed × Line)). IsPrefix (records_of ps)
    (recs entries)) e d.prefix) agree)

agree_batches : (verdicts : List PlannedVerdict) (entries : List Entry) (processed : List (Sealed × Line))
    (sent batches : List (List Sealed)) →
    IsChain (recs entries) → Agree entries processed sent → AreAmong sent batches →
    Agree entries (delivered_all verdicts processed batches) sent
agree_batches verdicts entries processed sent [] chain agree among = agree
agree_batches verdicts entries processed sent (batch ∷ batches) chain agree among =
    agree_batches verdicts entries (delivered verdicts processed batch) sent batches chain
    (agree_extended entries processed (delivered verdicts processed batch) sent (batch_delivered verdicts entries processed sent
    batch chain agree among.0) agree) among.1

pub agree_delivered : AreLinked → SalesAreNew → DeliveriesKeepAgreement
agree_delivered linked sales version issuer verdicts entries processed sent batches legal agree among =
    agree_batches verdicts entries processed sent batches (chain_of linked sales version issuer entries legal) agree among

pub refuse_no_sale : AreLinked → SalesAreNew → DeliveriesRefuseNoSale
refuse_no_sale linked sales version issuer verdicts entries processed sent batch legal agree there =
    (batch_delivered verdicts entries processed sent batch (chain_of linked sales version issuer entries legal) agree there).adds

records_zip : (records : List Sealed) (lines : List Line) → IsPrefix (records_of (zip records lines)) records
records_zip [] lines = record { rest = []; is = refl }
records_zip (s ∷ records) [] = record { rest = s ∷ records; is = refl }
records_zip (s ∷ records) (line ∷ lines) = let p = records_zip records lines in
    record { rest = p.rest; is = ap (λ (xs : List Sealed). s ∷ xs) p.is }

lines_zip : (records : List Sealed) (lines : List Line) → length lines ≤ length records →
    IsPrefix lines (lines_of (zip records lines))
lines_zip [] [] le = record { rest = []; is = refl }
lines_zip [] (line ∷ lines) le = absurd (omega arith)
lines_zip (s ∷ records) [] le = record { rest = []; is = refl }
lines_zip (s ∷ records) (line ∷ lines) le = let p = lines_zip records lines (omega arith) in
    record { rest = p.rest; is = ap (λ (ls : List Line). line ∷ ls) p.is }

pub agree_begun : NotedWithinRecords → NotedPairsAgree
agree_begun within version issuer entries legal = record {
  records = records_zip (recs entries) (noted entries);
  lines = lines_zip (recs entries) (noted entries) (within version issuer entries legal);
  batches = tt;
}

back : (s : Sealed) (ps : List (Sealed × Line)) → AllByRecursion (λ (t : Sealed). t.huella ≢ s.huella) (records_of ps) →
    AllByRecursion (λ (q : Sealed × Line). q.0.huella ≢ s.huella) ps
back s [] h = tt
back s (p ∷ ps) h = (h.0, back s ps h.1)

pub once_of : (entries : List Entry) (processed : List (Sealed × Line)) (sent : List (List Sealed)) → IsChain (recs entries) →
    Agree entries processed sent → AreOnce processed
once_of entries processed sent chain agree before after p e =
    let split : records_of processed ≡ records_of before ++ p.0 ∷ records_of after = ap records_of e ∙
    map-append (λ (q : Sealed × Line). q.0) before (p ∷ after) in
    let whole : recs entries ≡ records_of before ++ p.0 ∷ (records_of after ++ agree.records.rest) =
    agree.records.is ∙ ap (λ (xs : List Sealed). xs ++ agree.records.rest) split ∙ append_assoc (records_of before)
    (p.0 ∷ records_of after) agree.records.rest in
    back p.0 before (chain.huellas (records_of before) (records_of after ++ agree.records.rest) p.0 whole)

pub stand_once : AreLinked → SalesAreNew → StandOnce
stand_once linked sales version issuer entries processed sent legal agree = once_of entries processed sent
    (chain_of linked sales version issuer entries legal) agree

-- the next lines can be noted
pub lines_fit : (entries : List Entry) (processed : List (Sealed × Line)) (sent : List (List Sealed)) (lines : List Line) →
    Agree entries processed sent → AreNextLines entries processed lines → AreNext entries (length (noted entries)) lines
lines_fit entries processed sent lines agree next =
    let longer : length (noted entries ++ lines) ≡ length (noted entries) + length lines = length-append (noted entries) lines in
    let in_lines = prefix_length (noted entries ++ lines) (lines_of processed) next.run in
    let in_records = prefix_length (records_of processed) (recs entries) agree.records in
    let a = as_many_lines processed in
    let b = as_many_records processed in
    record { next = refl; some = next.some; few = next.few; within = omega arith }
