-- Which records are in the dark after more messages.
use Rattle.std.proofs.Common.{◌≡◌, ◌≢◌, ℕ, List, [], ◌∷◌, ◌++◌, refl, sym, ◌∙◌, ap, subst, length, length-append, map, drop, take}
use Rattle.std.proofs.Common.{◌≤◌, ◌+◌, arith, append_assoc, append-nil, bytes_eq, Bool, true, false, not, ◌&&◌, ◌||◌, Result, Ok}
use Rattle.std.proofs.Common.{Err, replicate}
use Rattle.std.proofs.lemmas.List.{take-append-drop, drop-drop}
use Rattle.std.proofs.Math.Seq.{drop-append_seam}
use Rattle.std.proofs.lemmas.List.Elements.{filter_map-append}
use Rattle.agency_port.specs.declared.answers.AgencyFault.{AgencyFault}
use Rattle.std.specs.List.{AllByRecursion}
use Rattle.record_fields.specs.declared.records.Sealed.{Sealed}
use Rattle.agency_port.specs.declared.messages.Message.{Message}
use Rattle.agency_port.specs.declared.messages.Message.TheVariants.{Begun, Submitted, Consulted}
use Rattle.agency_port.specs.Messages.{batches_in}
use Rattle.agency_port.specs.Reply.{Replied}
use Rattle.batches.specs.Batches.{Named, huellas_of, named_of}
use Rattle.record_fields.specs.declared.lines.Line.{Line}
use Rattle.agency_port.specs.declared.answers.Seen.{Seen}
use Rattle.agency_port.specs.declared.answers.Seen.TheVariants.{NotSeen, Was}
use Rattle.agency_rules.specs.Pairs.{names}
use Rattle.agency_port.specs.Sessions.{says_unseen, MayGo, dark_after, dark_from, dark}
use Rattle.agency_port.specs.Laws.{MayGoUnlessDark}
use Rattle.sender.specs.Dark.{AreLight, IsLight, NoneInTheDark, IsRunBy, AreRunsBy}
use Rattle.sender.proofs.Lists.{bytes_same, not_same, all_both, all_front, all_back, all_change, all_of_two, all_past}
use Rattle.sender.proofs.Lists.{all_drop_later, all_drop_more}

-- no Huella stands twice
abbrev pub AreDistinct : List Sealed → Type 0
AreDistinct records = (before after : List Sealed) (s : Sealed) → records ≡ before ++ s ∷ after →
    AllByRecursion (λ (t : Sealed). t.huella ≢ s.huella) before

-- one message more
pub dark_more : (huella : List ℕ) (b : Bool) (messages : List Message) (m : Message) → dark_from huella b (messages ++ m ∷ []) ≡
    dark_after huella (dark_from huella b messages) m
dark_more huella b [] m = refl
dark_more huella b (x ∷ messages) m = dark_more huella (dark_after huella b x) messages m

pub none_more : (past session : List Message) (m : Message) → NoneInTheDark past session → IsLight (past ++ session) m →
    NoneInTheDark past (session ++ m ∷ [])
none_more past [] m none light = (subst (λ (ms : List Message). IsLight ms m) (append-nil past) light, tt)
none_more past (x ∷ session) m none light = (
  none.0,
  none_more (past ++ x ∷ []) session m none.1 (subst (λ (ms : List Message). IsLight ms m)
      (sym (append_assoc past (x ∷ []) session)) light),
)

-- Of a list without a Huella twice each record of the second part has another Huella than all of the first.
apart : (records first mid last : List Sealed) → AreDistinct records → records ≡ first ++ (mid ++ last) →
    AllByRecursion (λ (s : Sealed). AllByRecursion (λ (t : Sealed). t.huella ≢ s.huella) first) last
apart records first mid [] distinct e = tt
apart records first mid (s ∷ last) distinct e =
    let whole : records ≡ (first ++ mid) ++ s ∷ last = e ∙ sym (append_assoc first mid (s ∷ last)) in
    let next : records ≡ first ++ ((mid ++ s ∷ []) ++ last) = e ∙ ap (λ (xs : List Sealed). first ++ xs)
    (sym (append_assoc mid (s ∷ []) last)) in (
      all_front (λ (t : Sealed). t.huella ≢ s.huella) first mid (distinct (first ++ mid) last s whole),
      apart records first
          (mid ++ s ∷ []) last distinct next,
    )

unnamed : (batch : List Sealed) (huella : List ℕ) → AllByRecursion (λ (t : Sealed). t.huella ≢ huella) batch →
    names batch huella ≡ false
unnamed [] huella all = refl
unnamed (s ∷ batch) huella all = rw (not_same s.huella huella all.0) (unnamed batch huella all.1)

-- past where a batch ends no record has a Huella of the batch
pub unnamed_past : (records batch : List Sealed) (to : ℕ) → AreDistinct records → IsRunBy records batch to →
    AllByRecursion (λ (s : Sealed). names batch s.huella ≡ false) (drop to records)
unnamed_past records batch to distinct run =
    let whole : records ≡ (run.before ++ batch) ++ run.after = run.run ∙ sym (append_assoc run.before batch run.after) in
    let other = apart records (run.before ++ batch) [] run.after distinct whole in
    let P : Sealed → Type 0 = λ (s : Sealed). names batch s.huella ≡ false in
    let none = all_change (λ (s : Sealed). AllByRecursion (λ (t : Sealed). t.huella ≢ s.huella) (run.before ++ batch)) P
    (λ s all. unnamed batch s.huella (all_back (λ (t : Sealed). t.huella ≢ s.huella) run.before batch all)) run.after other in
    let short : length (run.before ++ batch) ≤ to = let h = length-append run.before batch in let e = run.ends in omega arith in
    subst (λ (xs : List Sealed). AllByRecursion P (drop to xs)) (sym whole) (all_past P to (run.before ++ batch) run.after short
    none)

-- past where all batches end none is named by any
unnamed_by_all : (records : List Sealed) (to : ℕ) (batches : List (List Sealed)) → AreDistinct records →
    AreRunsBy records to batches →
    AllByRecursion (λ (s : Sealed). AllByRecursion (λ (batch : List Sealed). names batch s.huella ≡ false) batches)
    (drop to records)
unnamed_by_all records to [] distinct runs = all_trivial (drop to records)
  where
    all_trivial : (xs : List Sealed) → AllByRecursion (λ (s : Sealed). AllByRecursion (λ (batch : List Sealed). names batch
        s.huella ≡ false) []) xs
    all_trivial [] = tt
    all_trivial (x ∷ xs) = (tt, all_trivial xs)
unnamed_by_all records to (batch ∷ batches) distinct runs =
    all_of_two (λ (s : Sealed). names batch s.huella ≡ false) (λ (s : Sealed). AllByRecursion
    (λ (b : List Sealed). names b s.huella ≡ false) batches)
    (λ (s : Sealed). AllByRecursion (λ (b : List Sealed). names b s.huella ≡ false) (batch ∷ batches))
    (λ s a b. (a, b)) (drop to records) (unnamed_past records batch to distinct runs.0) (unnamed_by_all records to batches
    distinct runs.1)

never_dark : (huella : List ℕ) (messages : List Message) → AllByRecursion (λ (batch : List Sealed). names batch huella ≡ false)
    (batches_in messages) → dark_from huella false messages ≡ false
never_dark huella [] none = refl
never_dark huella (Begun plan pairs ∷ messages) none = never_dark huella messages none
never_dark huella (Submitted batch answer ∷ messages) none = rw none.0 (never_dark huella messages none.1)
never_dark huella (Consulted asked (Ok seen) ∷ messages) none = never_dark huella messages none
never_dark huella (Consulted asked (Err why) ∷ messages) none = never_dark huella messages none

-- past where all batches end none is in the dark
pub light_past : (records : List Sealed) (to : ℕ) (messages : List Message) → AreDistinct records →
    AreRunsBy records to (batches_in messages) → AreLight messages (drop to records)
light_past records to messages distinct runs =
    all_change (λ (s : Sealed). AllByRecursion (λ (batch : List Sealed). names batch s.huella ≡ false) (batches_in messages))
    (λ (s : Sealed). dark messages s.huella ≡ false)
    (λ s none. never_dark s.huella messages none) (drop to records) (unnamed_by_all records to (batches_in messages) distinct
    runs)

-- a run stays one
pub run_more : (records more batch : List Sealed) (to then : ℕ) → to ≤ then → IsRunBy records batch to →
    IsRunBy (records ++ more) batch then
run_more records more batch to then le run = record {
  before = run.before;
  after = run.after ++ more;
  run = ap (λ (xs : List Sealed). xs ++ more) run.run ∙ simp append_assoc;
  ends = let e = run.ends in omega arith;
}

pub runs_more : (records more : List Sealed) (to then : ℕ) (batches : List (List Sealed)) → to ≤ then →
    AreRunsBy records to batches → AreRunsBy (records ++ more) then batches
runs_more records more to then batches le runs =
    all_change (λ (batch : List Sealed). IsRunBy records batch to) (λ (batch : List Sealed). IsRunBy (records ++ more) batch then)
    (λ batch run. run_more records more batch to then le run) batches runs

-- a run ends within its list
run_within : (records batch : List Sealed) (to : ℕ) → IsRunBy records batch to → IsRunBy records batch (length records)
run_within records batch to run = record {
  before = run.before;
  after = run.after;
  run = run.run;
  ends = (let h = ap length run.run in let a = length-append run.before (batch ++ run.after) in
      let b = length-append batch run.after in omega arith);
}

runs_within : (records : List Sealed) (to : ℕ) (batches : List (List Sealed)) → AreRunsBy records to batches →
    AreRunsBy records (length records) batches
runs_within records to batches runs =
    all_change (λ (batch : List Sealed). IsRunBy records batch to) (λ (batch : List Sealed). IsRunBy records batch
    (length records)) (λ batch run. run_within records batch to run) batches runs

-- new records are not in the dark
light_new : (records more : List Sealed) (to : ℕ) (messages : List Message) → AreDistinct (records ++ more) →
    AreRunsBy records to (batches_in messages) → AreLight messages more
light_new records more to messages distinct runs =
    let all = light_past (records ++ more) (length records) messages distinct (runs_more records more (length records)
    (length records) (batches_in messages) (omega arith) (runs_within records to (batches_in messages) runs)) in
    subst (λ (xs : List Sealed). AreLight messages xs) (drop-append_seam records more) all

-- where the list grows, and the first k or more are out of account
pub light_grows : (records more : List Sealed) (to j k : ℕ) (messages : List Message) → AreDistinct (records ++ more) →
    AreRunsBy records to (batches_in messages) → j ≤ k →
    AreLight messages (drop j records) → AreLight messages (drop k (records ++ more))
light_grows records more to j k messages distinct runs le light =
    let P : Sealed → Type 0 = λ (s : Sealed). dark messages s.huella ≡ false in
    all_drop_later P j k (records ++ more) le (all_drop_more P j records more light (light_new records more to messages distinct
    runs))

-- A submission: past where its batch ends the others are as before.
pub light_handed : (records batch : List Sealed) (to : ℕ) (messages : List Message) (answer : Result Replied AgencyFault) →
    AreDistinct records → IsRunBy records batch to →
    AreLight messages (drop to records) → AreLight (messages ++ Submitted batch answer ∷ []) (drop to records)
light_handed records batch to messages answer distinct run light =
    all_of_two (λ (s : Sealed). names batch s.huella ≡ false) (λ (s : Sealed). dark messages s.huella ≡ false)
    (λ (s : Sealed). dark (messages ++ Submitted batch answer ∷ []) s.huella ≡ false)
    (λ s a b. dark_more s.huella false messages (Submitted batch answer) ∙ both (names batch s.huella) (dark messages s.huella) a
    b) (drop to records)
    (unnamed_past records batch to distinct run) light
  where
    both : (a b : Bool) → a ≡ false → b ≡ false → (a || b) ≡ false
    both true b p q = absurd cc
    both false b p q = q

-- A consultation: what was out of the dark stays so.
and_false : (a b : Bool) → a ≡ false → (a && b) ≡ false
and_false true b h = absurd cc
and_false false b h = refl

pub light_stays : (records : List Sealed) (messages : List Message) (asked : Named) (seen : List Seen) →
    AreLight messages records → AreLight (messages ++ Consulted asked (Ok seen) ∷ []) records
light_stays records messages asked seen light =
    all_change (λ (s : Sealed). dark messages s.huella ≡ false) (λ (s : Sealed). dark (messages ++ Consulted asked (Ok seen) ∷
    []) s.huella ≡ false)
    (λ s a. dark_more s.huella false messages (Consulted asked (Ok seen)) ∙ and_false (dark messages s.huella)
    (not (says_unseen asked.huellas seen s.huella)) a) records light

and_not : (a b : Bool) → b ≡ true → (a && not b) ≡ false
and_not true true h = refl
and_not true false h = absurd cc
and_not false b h = refl

light_unseen : (records : List Sealed) (messages : List Message) (asked : Named) (seen : List Seen) →
    AllByRecursion (λ (s : Sealed). says_unseen asked.huellas seen s.huella ≡ true) records →
    AreLight (messages ++ Consulted asked (Ok seen) ∷ []) records
light_unseen records messages asked seen all =
    all_change (λ (s : Sealed). says_unseen asked.huellas seen s.huella ≡ true)
    (λ (s : Sealed). dark (messages ++ Consulted asked (Ok seen) ∷ []) s.huella ≡ false)
    (λ s a. dark_more s.huella false messages (Consulted asked (Ok seen)) ∙ and_not (dark messages s.huella)
    (says_unseen asked.huellas seen s.huella) a) records all

or_right : (a b : Bool) → b ≡ true → (a || b) ≡ true
or_right true b h = refl
or_right false b h = h

-- each of the records that weren't seen is answered for
unseen_each : (records : List Sealed) → AllByRecursion (λ (s : Sealed). says_unseen (huellas_of records)
    (replicate (length records) NotSeen) s.huella ≡ true) records
unseen_each [] = tt
unseen_each (s ∷ records) = (
  rw (bytes_same s.huella) refl,
  all_change (λ (t : Sealed). says_unseen (huellas_of records) (replicate (length records) NotSeen) t.huella ≡ true)
      (λ (t : Sealed). says_unseen (huellas_of (s ∷ records)) (replicate (length (s ∷ records)) NotSeen) t.huella ≡ true)
      (λ t h. or_right (bytes_eq s.huella t.huella) (says_unseen (huellas_of records) (replicate (length records) NotSeen)
      t.huella) h) records (unseen_each records),
)

-- after those that were
unseen_behind : (records : List Sealed) (lines : List Line) (rest : ℕ) → length records ≡ length lines + rest →
    AllByRecursion (λ (s : Sealed). says_unseen (huellas_of records) (map Was lines ++ replicate rest NotSeen) s.huella ≡ true)
    (drop (length lines) records)
unseen_behind records [] rest e =
    let same : length records ≡ rest = omega arith in
    subst (λ (k : ℕ). AllByRecursion (λ (s : Sealed). says_unseen (huellas_of records) (replicate k NotSeen) s.huella ≡ true)
    records) same (unseen_each records)
unseen_behind [] (line ∷ lines) rest e = absurd (omega arith)
unseen_behind (s ∷ records) (line ∷ lines) rest e = unseen_behind records lines rest (omega arith)

-- A consultation of the first records past k, of which those in front were seen: past these none is in the dark.
pub light_looked : (records : List Sealed) (k few : ℕ) (messages : List Message) (lines : List Line) (rest : ℕ) →
    AreDistinct records → AreRunsBy records (k + few) (batches_in messages) →
    length (take few (drop k records)) ≡ length lines + rest →
    AreLight (messages ++ Consulted (named_of (take few (drop k records))) (Ok (map Was lines ++ replicate rest NotSeen)) ∷ [])
    (drop (k + length lines) records)
light_looked records k few messages lines rest distinct runs e =
    let first : List Sealed = take few (drop k records) in
    let asked = named_of first in
    let seen : List Seen = map Was lines ++ replicate rest NotSeen in
    let then : List Message = messages ++ Consulted asked (Ok seen) ∷ [] in
    let a : AreLight then (drop (length lines) first) = light_unseen (drop (length lines) first) messages asked seen
    (unseen_behind first lines rest e) in
    let b : AreLight then (drop (k + few) records) = light_stays (drop (k + few) records) messages asked seen
    (light_past records (k + few) messages distinct runs) in
    let c : AreLight then (drop few (drop k records)) = subst (λ (xs : List Sealed). AreLight then xs)
    (sym (drop-drop few k records)) b in
    let d : AreLight then (drop (length lines) (first ++ drop few (drop k records))) =
    all_drop_more (λ (s : Sealed). dark then s.huella ≡ false) (length lines) first (drop few (drop k records)) a c in
    let f : AreLight then (drop (length lines) (drop k records)) =
    subst (λ (xs : List Sealed). AreLight then (drop (length lines) xs)) (take-append-drop few (drop k records)) d in
    subst (λ (xs : List Sealed). AreLight then xs) (drop-drop (length lines) k records) f

pub runs_handed : (records : List Sealed) (to : ℕ) (messages : List Message) (batch : List Sealed)
    (answer : Result Replied AgencyFault) → AreRunsBy records to (batches_in messages) → IsRunBy records batch to →
    AreRunsBy records to (batches_in (messages ++ Submitted batch answer ∷ []))
runs_handed records to messages batch answer runs run =
    subst (λ (bs : List (List Sealed)). AreRunsBy records to bs)
    (sym (filter_map-append _ messages (Submitted batch answer ∷ [])))
    (all_both (λ (b : List Sealed). IsRunBy records b to) (batches_in messages) (batch ∷ []) runs (run, tt))

-- each record of a submission may go
pub goes_lit : MayGoUnlessDark → (past session front back : List Message) (batch : List Sealed)
    (answer : Result Replied AgencyFault) → NoneInTheDark past session → session ≡ front ++ Submitted batch answer ∷ back →
    AllByRecursion (λ (s : Sealed). MayGo s.huella (past ++ front)) batch
goes_lit law past [] [] back batch answer none e = absurd cc
goes_lit law past [] (m ∷ front) back batch answer none e = absurd cc
goes_lit law past (m ∷ session) [] back batch answer none e =
    let h : m ≡ Submitted batch answer = cc in
    let light : AreLight past batch = subst (λ (x : Message). IsLight past x) h none.0 in
    subst (λ (ms : List Message). AllByRecursion (λ (s : Sealed). MayGo s.huella ms) batch) (sym (append-nil past))
    (all_change (λ (s : Sealed). dark past s.huella ≡ false) (λ (s : Sealed). MayGo s.huella past)
    (λ s l. (law past s.huella).0 l) batch light)
goes_lit law past (m ∷ session) (n ∷ front) back batch answer none e =
    let h : m ≡ n = cc in
    let t : session ≡ front ++ Submitted batch answer ∷ back = cc in
    subst (λ (ms : List Message). AllByRecursion (λ (s : Sealed). MayGo s.huella ms) batch) (append_assoc past (m ∷ []) front ∙
    ap (λ (x : Message). past ++ x ∷ front) h)
    (goes_lit law (past ++ m ∷ []) session front back batch answer none.1 t)
