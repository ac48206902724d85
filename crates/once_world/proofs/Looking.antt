-- A look at the waiting records: the lines in front are the next ones, and after a record that isn't seen none is.
use Rattle.std.proofs.Common.{◌≡◌, ◌≢◌, ℕ, List, [], ◌∷◌, ◌++◌, refl, sym, ◌∙◌, ap, subst, Option, Some, None, length, take, drop}
use Rattle.std.proofs.Common.{◌≤◌, arith, append_assoc, append-nil}
use Rattle.std.proofs.lemmas.List.{map-append, length-map, length-take, take-append-drop}
use Rattle.std.specs.List.{AllByRecursion}
use Rattle.record_fields.specs.declared.records.Sealed.{Sealed}
use Rattle.record_fields.specs.declared.lines.Line.{Line}
use Rattle.record_codec.specs.declared.entry.Entry.{Entry}
use Rattle.shop_core.specs.History.{recs, noted, waiting}
use Rattle.shop_core.specs.Sales.{SalesAreNew}
use Rattle.agency_rules.specs.Pairs.{line_of}
use Rattle.agency_port.specs.Answers.{seen_of}
use Rattle.agency_port.specs.declared.answers.Seen.{Seen}
use Rattle.agency_port.specs.declared.answers.Seen.TheVariants.{NotSeen, Was}
use Rattle.shop_core.specs.Prefix.{IsPrefix}
use Rattle.once_world.specs.Agreement.{Agree, records_of, lines_of}
use Rattle.once_world.specs.Looks.{answers_for, lines_in_front, HasNoHole}
use Rattle.once_world.specs.Laws.{LookedLinesAreNext, WaitingHaveNoHole}
use Rattle.once_world.proofs.Lists.{bytes_same, not_same, split_by, drop_front, all_front, all_behind, prefix_none, prefix_cons}
use Rattle.once_world.proofs.Deliveries.{AreLinked, IsChain, chain_of, shift_run, not_seen}

is_seen : (first : List (Sealed × Line)) (p : Sealed × Line) (rest : List (Sealed × Line)) (s : Sealed) → p.0 ≡ s →
    AllByRecursion (λ (t : Sealed). t.huella ≢ s.huella) (records_of first) → line_of (first ++ p ∷ rest) s.huella ≡ Some p.1
is_seen [] p rest s e all = rw (e, bytes_same s.huella) refl
is_seen (q ∷ first) p rest s e all = rw (not_same q.0.huella s.huella all.0) (is_seen first p rest s e all.1)

same_first : (first : List Sealed) (p s : Sealed) (rest after : List Sealed) → first ++ p ∷ rest ≡ first ++ s ∷ after → p ≡ s
same_first [] p s rest after e = cc
same_first (x ∷ first) p s rest after e = let t : first ++ p ∷ rest ≡ first ++ s ∷ after = cc in same_first first p s rest after t

answer_is : (processed : List (Sealed × Line)) (s : Sealed) (batch : List Sealed) (found : Option Line) →
    line_of processed s.huella ≡ found →
    answers_for processed (s ∷ batch) ≡ seen_of found ∷ answers_for processed batch
answer_is processed s batch found e = ap (λ (o : Option Line). seen_of o ∷ answers_for processed batch) e

-- Where a list and a chain split at one place, the next record of the chain is that of the next pair, and it is seen.
record NextPair (records : List Sealed) (processed first : List (Sealed × Line)) (p : Sealed × Line) (before : List Sealed)
    (s : Sealed) : Type 0 where
  seen : line_of processed s.huella ≡ Some p.1
  here : records_of (first ++ p ∷ []) ≡ before ++ s ∷ []

next_pair : (records : List Sealed) → IsChain records → (before rest : List Sealed) (s : Sealed) (processed first second : List
    (Sealed × Line)) (p : Sealed × Line) →
    records ≡ before ++ s ∷ rest → IsPrefix (records_of processed) records → processed ≡ first ++ p ∷ second →
    records_of first ≡ before → NextPair records processed first p before s
next_pair records chain before rest s processed first second p run prefix split here =
    let all = subst (λ (xs : List Sealed). AllByRecursion (λ (t : Sealed). t.huella ≢ s.huella) xs) (sym here)
    (chain.huellas before rest s run) in
    let both : records_of processed ≡ before ++ p.0 ∷ records_of second =
    ap records_of split ∙ map-append (λ (q : Sealed × Line). q.0) first (p ∷ second) ∙
    ap (λ (xs : List Sealed). xs ++ p.0 ∷ records_of second) here in
    let line_up : before ++ p.0 ∷ (records_of second ++ prefix.rest) ≡ before ++ s ∷ rest =
    sym (append_assoc before (p.0 ∷ records_of second) prefix.rest) ∙ ap (λ (xs : List Sealed). xs ++ prefix.rest) (sym both) ∙
    sym prefix.is ∙ run in
    let same : p.0 ≡ s = same_first before p.0 s (records_of second ++ prefix.rest) rest line_up in
    record {
      seen = ap (λ (xs : List (Sealed × Line)). line_of xs s.huella) split ∙ is_seen first p second s same all;
      here = map-append (λ (q : Sealed × Line). q.0) first (p ∷ []) ∙ ap (λ (xs : List Sealed). xs ++ p.0 ∷ []) here ∙
          ap (λ (x : Sealed). before ++ x ∷ []) same;
    }

-- from the place where the list splits on, the lines in front are those of the list
look_run : (records : List Sealed) → IsChain records → (batch before after : List Sealed) (processed first second : List (Sealed ×
    Line)) →
    records ≡ before ++ (batch ++ after) → IsPrefix (records_of processed) records → processed ≡ first ++ second →
    records_of first ≡ before →
    IsPrefix (lines_in_front (answers_for processed batch)) (lines_of second)
look_run records chain [] before after processed first second run prefix split here = prefix_none (lines_of second)
look_run records chain (s ∷ batch) before after processed first [] run prefix split here =
    let whole : processed ≡ first = split ∙ append-nil first in
    let all = subst (λ (xs : List Sealed). AllByRecursion (λ (t : Sealed). t.huella ≢ s.huella) xs)
    (sym here ∙ ap records_of (sym whole)) (chain.huellas before (batch ++ after) s run) in
    let is : answers_for processed (s ∷ batch) ≡ NotSeen ∷ answers_for processed batch = answer_is processed s batch None
    (not_seen processed s all) in
    subst (λ (answers : List Seen). IsPrefix (lines_in_front answers) []) (sym is) (prefix_none [])
look_run records chain (s ∷ batch) before after processed first (p ∷ second) run prefix split here =
    let n = next_pair records chain before (batch ++ after) s processed first second p run prefix split here in
    let split_then : processed ≡ (first ++ p ∷ []) ++ second = split ∙ sym (append_assoc first (p ∷ []) second) in
    let then : IsPrefix (lines_in_front (answers_for processed batch)) (lines_of second) =
    look_run records chain batch (before ++ s ∷ []) after processed (first ++ p ∷ []) second (shift_run records before batch after
    s run) prefix split_then n.here in
    let is : answers_for processed (s ∷ batch) ≡ Was p.1 ∷ answers_for processed batch = answer_is processed s batch (Some p.1)
    n.seen in
    subst (λ (answers : List Seen). IsPrefix (lines_in_front answers) (p.1 ∷ lines_of second)) (sym is)
    (prefix_cons p.1 (lines_in_front (answers_for processed batch)) (lines_of second) then)

front_short : (answers : List Seen) → length (lines_in_front answers) ≤ length answers
front_short [] = omega arith
front_short (NotSeen ∷ answers) = omega arith
front_short (Was line ∷ answers) = let h = front_short answers in omega arith

as_many_answers : (processed : List (Sealed × Line)) (records : List Sealed) → length (answers_for processed records) ≡ length
    records
as_many_answers processed [] = refl
as_many_answers processed (s ∷ records) = let h = as_many_answers processed records in omega arith

-- no more lines are learnt than records were asked for
pub looked_few : (processed : List (Sealed × Line)) (n : ℕ) (records : List Sealed) →
    length (lines_in_front (answers_for processed (take n records))) ≤ n
looked_few processed n records =
    omega (
      arith,
      front_short (answers_for processed (take n records)),
      as_many_answers processed (take n records),
      length-take n records,
    )

-- past the list no record is seen
all_unseen : (records : List Sealed) → IsChain records → (batch extra after : List Sealed) (processed : List (Sealed × Line)) →
    records ≡ (records_of processed ++ extra) ++ (batch ++ after) →
    AllByRecursion (λ (answer : Seen). answer ≡ NotSeen) (answers_for processed batch)
all_unseen records chain [] extra after processed run = tt
all_unseen records chain (s ∷ batch) extra after processed run =
    let all = chain.huellas (records_of processed ++ extra) (batch ++ after) s run in
    let next : records ≡ (records_of processed ++ (extra ++ s ∷ [])) ++ (batch ++ after) =
    shift_run records (records_of processed ++ extra) batch after s run ∙ ap (λ (xs : List Sealed). xs ++ (batch ++ after))
    (append_assoc (records_of processed) extra (s ∷ [])) in (
      ap seen_of (not_seen processed s (all_front (λ (t : Sealed). t.huella ≢ s.huella) (records_of processed) extra all)),
      all_unseen records chain batch (extra ++ s ∷ []) after processed next,
    )

hole_later : (line : Line) (answers : List Seen) → HasNoHole answers → HasNoHole (Was line ∷ answers)
hole_later line answers h [] after e = absurd cc
hole_later line answers h (b ∷ before) after e = let t : answers ≡ before ++ NotSeen ∷ after = cc in h before after t

no_answers : HasNoHole []
no_answers [] rest e = absurd cc
no_answers (b ∷ front) rest e = absurd cc

no_hole_run : (records : List Sealed) → IsChain records → (batch before after : List Sealed) (processed first second : List
    (Sealed × Line)) →
    records ≡ before ++ (batch ++ after) → IsPrefix (records_of processed) records → processed ≡ first ++ second →
    records_of first ≡ before → HasNoHole (answers_for processed batch)
no_hole_run records chain [] before after processed first second run prefix split here = no_answers
no_hole_run records chain (s ∷ batch) before after processed first [] run prefix split here =
    let whole : processed ≡ first = split ∙ append-nil first in
    let at : before ≡ records_of processed ++ [] = sym here ∙ ap records_of (sym whole) ∙ sym (append-nil (records_of processed))
    in
    let all = all_unseen records chain (s ∷ batch) [] after processed
    (run ∙ ap (λ (xs : List Sealed). xs ++ (s ∷ (batch ++ after))) at) in
    λ front rest e. all_behind (λ (answer : Seen). answer ≡ NotSeen) front rest NotSeen
    (subst (λ (xs : List Seen). AllByRecursion (λ (answer : Seen). answer ≡ NotSeen) xs) e all)
no_hole_run records chain (s ∷ batch) before after processed first (p ∷ second) run prefix split here =
    let n = next_pair records chain before (batch ++ after) s processed first second p run prefix split here in
    let split_then : processed ≡ (first ++ p ∷ []) ++ second = split ∙ sym (append_assoc first (p ∷ []) second) in
    let then = no_hole_run records chain batch (before ++ s ∷ []) after processed (first ++ p ∷ []) second
    (shift_run records before batch after s run) prefix split_then n.here in
    subst (λ (answers : List Seen). HasNoHole answers) (sym (answer_is processed s batch (Some p.1) n.seen))
    (hole_later p.1 (answers_for processed batch) then)

-- where the noted lines end, the list and the chain split
record AtNoted (entries : List Entry) (processed : List (Sealed × Line)) (count : ℕ) : Type 0 where
  first : List (Sealed × Line)
  second : List (Sealed × Line)
  split : processed ≡ first ++ second
  after : List Sealed
  run : recs entries ≡ records_of first ++ (take count (waiting entries) ++ after)
  whole : lines_of processed ≡ noted entries ++ lines_of second

at_noted : (entries : List Entry) (processed : List (Sealed × Line)) (sent : List (List Sealed)) (count : ℕ) →
    Agree entries processed sent → AtNoted entries processed count
at_noted entries processed sent count agree =
    let p = split_by (λ (q : Sealed × Line). q.1) processed (noted entries) agree.lines.rest agree.lines.is in
    let before : List Sealed = records_of p.first in
    let tail : List Sealed = records_of p.second ++ agree.records.rest in
    let all : recs entries ≡ before ++ tail =
    agree.records.is ∙ ap (λ (xs : List Sealed). xs ++ agree.records.rest) (ap records_of p.is ∙
    map-append (λ (q : Sealed × Line). q.0) p.first p.second)
    ∙ append_assoc before (records_of p.second) agree.records.rest in
    let as_long : length (noted entries) ≡ length before = ap length (sym p.first_is) ∙ length-map p.first
    (λ (q : Sealed × Line). q.1) ∙ sym (length-map p.first (λ (q : Sealed × Line). q.0)) in
    let dropped : waiting entries ≡ tail = ap (λ (k : ℕ). drop k (recs entries)) as_long ∙
    ap (λ (xs : List Sealed). drop (length before) xs) all ∙ drop_front before tail in
    let whole : lines_of processed ≡ noted entries ++ lines_of p.second = agree.lines.is ∙
    ap (λ (ls : List Line). noted entries ++ ls) (sym p.second_is) in
    record {
      first = p.first;
      second = p.second;
      split = p.is;
      after = drop count (waiting entries);
      run = all ∙ ap (λ (xs : List Sealed). before ++ xs) (sym dropped ∙ sym (take-append-drop count (waiting entries)));
      whole = whole;
    }

pub look_next : (entries : List Entry) (processed : List (Sealed × Line)) (sent : List (List Sealed)) (count : ℕ) →
    IsChain (recs entries) → Agree entries processed sent →
    IsPrefix (noted entries ++ lines_in_front (answers_for processed (take count (waiting entries)))) (lines_of processed)
look_next entries processed sent count chain agree =
    let a = at_noted entries processed sent count agree in
    let r = look_run (recs entries) chain (take count (waiting entries)) (records_of a.first) a.after processed a.first a.second
    a.run agree.records a.split refl in
    let lines : List Line = lines_in_front (answers_for processed (take count (waiting entries))) in
    record {
      rest = r.rest;
      is = a.whole ∙ ap (λ (ls : List Line). noted entries ++ ls) r.is ∙
          sym (append_assoc (noted entries) lines r.rest);
    }

pub looked_next : AreLinked → SalesAreNew → LookedLinesAreNext
looked_next linked sales version issuer entries processed sent count legal agree = look_next entries processed sent count
    (chain_of linked sales version issuer entries legal) agree

pub no_hole : AreLinked → SalesAreNew → WaitingHaveNoHole
no_hole linked sales version issuer entries processed sent count legal agree =
    let a = at_noted entries processed sent count agree in
    no_hole_run (recs entries) (chain_of linked sales version issuer entries legal) (take count (waiting entries))
    (records_of a.first)
    a.after processed a.first a.second a.run agree.records a.split refl
