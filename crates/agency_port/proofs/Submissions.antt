-- What follows from a submission's row.
use Rattle.std.proofs.Common.{◌≡◌, ℕ, ◌+◌, ◌^◌, ◌<◌, ◌≤◌, List, [], ◌∷◌, ◌++◌, refl, sym, ◌∙◌, ap, subst, inl, arith, Option}
use Rattle.std.proofs.Common.{Some, None, Result, Ok, Err, IfOk, Bool, true, false, cond, count_by, length, take, unwrap_or}
use Rattle.ports.specs.Causes.{Rose}
use Rattle.record_fields.specs.declared.lines.Line.{Line}
use Rattle.record_fields.specs.declared.records.Sealed.{Sealed}
use Rattle.agency_rules.specs.Plans.{fate_at}
use Rattle.agency_rules.specs.Pairs.{delivered_all}
use Rattle.agency_rules.specs.declared.plans.Plan.{Plan}
use Rattle.agency_rules.specs.declared.plans.Fate.{Fate}
use Rattle.agency_rules.specs.declared.plans.Fate.TheVariants.{Lost, Taken, Stale, Again, Late}
use Rattle.agency_port.specs.Reply.{Replied}
use Rattle.agency_port.specs.Answers.{answers}
use Rattle.agency_port.specs.Ledger.{counted, HasCause, StaleShows, Names, HandsOver, Submits}
use Rattle.agency_port.specs.Rules.{AreAmong, DeliversThis, SubmitKeeps}
use Rattle.agency_port.specs.Practice.{Practice, messages_of, sent_in, ledger_of, is_call, number, late_for, fate_of}
use Rattle.agency_port.specs.Practice.{again_before, is_faulty, comes_at, own_of, processed_before, reply_by, last_reply}
use Rattle.agency_port.specs.Practice.{empty_reply, is_reply_to, answer_by, submission_answer, faults_by, submitted, IsRow}
use Rattle.agency_port.specs.Practice.{IsCutShort, cut}
use Rattle.agency_port.specs.declared.answers.AgencyFault.{AgencyFault}
use Rattle.agency_port.specs.declared.answers.AgencyFault.TheVariants.{Failed, NoMemory}
use Rattle.agency_port.specs.declared.messages.Message.TheVariants.{Submitted}
use Rattle.agency_port.specs.declared.messages.Logged.{Logged}
use Rattle.agency_port.proofs.Deliveries.{delivered_all-append, three_parts}
use Rattle.agency_port.proofs.Logs.{messages-append, sent-append}
use Rattle.agency_port.proofs.Replies.{named}
use Rattle.agency_port.proofs.Counts.{faults_later, faults_rose}
use Rattle.agency_port.proofs.Amongs.{among_more, among_both, late_among, again_among, own_among}

-- a row, from its answer and what the agency is then
pub row_of : {A S : Type 0} (r answer : Result A AgencyFault) (old new next : S) → r ≡ answer → (answer ≡ Err NoMemory → ⊥) →
    new ≡ next → IsRow r answer old new next
row_of (Ok value) answer old new next e other is = (e, is)
row_of (Err Failed) answer old new next e other is = (e, is)
row_of (Err NoMemory) answer old new next e other is = absurd (other (sym e))

unless_memory : (t : Bool) (kept : Replied) → cond t (Err Failed) (Ok kept) ≡ Err NoMemory → ⊥
unless_memory true kept e = cc
unless_memory false kept e = cc

pub never_memory : (fate : Option Fate) (plan : Plan) (processed : List (Sealed × Line)) (log : List Logged) (batch : List Sealed)
    → answer_by fate plan processed log batch ≡ Err NoMemory → ⊥
never_memory None plan processed log batch e = cc
never_memory (Some Lost) plan processed log batch e = cc
never_memory (Some Taken) plan processed log batch e = cc
never_memory (Some Stale) plan processed log batch e =
    let kept : Replied = unwrap_or (last_reply log) (empty_reply plan.wait) in unless_memory (is_reply_to kept batch) kept e
never_memory (Some Again) plan processed log batch e = cc
never_memory (Some (Late calls)) plan processed log batch e = cc

-- a call that is cut short, cut back
pub cut_back : (old new : Practice) (count : ℕ) → IsCutShort old new → count ≡ length old.processed → cut new count ≡ old
cut_back old new count short n =
    let front : take count new.processed ≡ old.processed = ap (λ (k : ℕ). take k new.processed) n ∙ short.front in
    ap (λ (p : Plan). record { plan = p; processed = take count new.processed; log = new.log; faults = new.faults }) short.plan
    ∙ ap (λ (ps : List (Sealed × Line)). record { plan = old.plan; processed = ps; log = new.log; faults = new.faults }) front
    ∙ ap (λ (l : List Logged). record { plan = old.plan; processed = old.processed; log = l; faults = new.faults }) short.log
    ∙ ap (λ (k : ℕ). record { plan = old.plan; processed = old.processed; log = old.log; faults = k }) short.faults

-- what the code found is what the definitions look up
pub same_fate : (plan : Plan) (log : List Logged) (calls : ℕ) (fate : Option Fate) → calls ≡ count_by is_call log →
    fate ≡ fate_at plan.fates (calls + 1) → fate ≡ fate_at plan.fates (number log)
same_fate plan log calls fate n f = f ∙ ap (λ (k : ℕ). fate_at plan.fates (k + 1)) n

pub same_before : (plan : Plan) (pairs now : List (Sealed × Line)) (log items : List Logged) (faults calls : ℕ)
    (fate : Option Fate) → calls ≡ count_by is_call log → items ≡ log →
    fate ≡ fate_at plan.fates (calls + 1) →
    now ≡ delivered_all plan.verdicts (delivered_all plan.verdicts pairs (late_for (calls + 1) items))
    (again_before fate (sent_in items)) →
    now ≡ processed_before (record { plan = plan; processed = pairs; log = log; faults = faults })
same_before plan pairs now log items faults calls fate n i f w =
    w ∙ ap (λ (l : List Logged). delivered_all plan.verdicts (delivered_all plan.verdicts pairs (late_for (calls + 1) l))
    (again_before fate (sent_in l))) i
    ∙ ap (λ (k : ℕ). delivered_all plan.verdicts (delivered_all plan.verdicts pairs (late_for (k + 1) log))
    (again_before fate (sent_in log))) n
    ∙ ap (λ (x : Option Fate). delivered_all plan.verdicts (delivered_all plan.verdicts pairs (late_for (number log) log))
    (again_before x (sent_in log))) (same_fate plan log calls fate n f)

-- the batches that come before the call's own
abbrev pub before_of : Practice → List (List Sealed)
before_of a = late_for (number a.log) a.log ++ again_before (fate_of a) (sent_in a.log)

pub before_is : (a : Practice) → processed_before a ≡ delivered_all a.plan.verdicts a.processed (before_of a)
before_is a = sym (delivered_all-append a.plan.verdicts a.processed (late_for (number a.log) a.log)
    (again_before (fate_of a) (sent_in a.log)))

pub before_among : (a : Practice) → AreAmong (sent_in a.log) (before_of a)
before_among a = among_both (sent_in a.log) (late_for (number a.log) a.log) (again_before (fate_of a) (sent_in a.log))
    (late_among (number a.log) a.log) (again_among (fate_of a) (sent_in a.log))

failed_faulty : (fate : Option Fate) (plan : Plan) (processed : List (Sealed × Line)) (log : List Logged) (batch : List Sealed) →
    Err Failed ≡ answer_by fate plan processed log batch → is_faulty fate ≡ true
failed_faulty None plan processed log batch e = absurd cc
failed_faulty (Some Lost) plan processed log batch e = refl
failed_faulty (Some Taken) plan processed log batch e = refl
failed_faulty (Some Stale) plan processed log batch e = refl
failed_faulty (Some Again) plan processed log batch e = absurd cc
failed_faulty (Some (Late calls)) plan processed log batch e = refl

ok_unless : (t : Bool) (kept reply : Replied) (batch : List Sealed) → t ≡ is_reply_to kept batch → Ok reply ≡ cond t (Err Failed)
    (Ok kept) → Names reply batch → ⊥
ok_unless true kept reply batch is e n = cc
ok_unless false kept reply batch is e n =
    let s : reply ≡ kept = cc in
    let m : Names kept batch = subst (λ (r : Replied). Names r batch) s n in
    let y : is_reply_to kept batch ≡ true = named kept batch m in
    let z : false ≡ true = is ∙ y in cc

-- a reply that names the batch is the batch's own
pub ok_named : (fate : Option Fate) (plan : Plan) (processed : List (Sealed × Line)) (log : List Logged) (batch : List Sealed)
    (reply : Replied) →
    Ok reply ≡ answer_by fate plan processed log batch → Names reply batch → (reply ≡ reply_by plan processed batch) ×
    (own_of fate batch ≡ batch ∷ [])
ok_named None plan processed log batch reply e n = let s : reply ≡ reply_by plan processed batch = cc in (s, refl)
ok_named (Some Lost) plan processed log batch reply e n = absurd cc
ok_named (Some Taken) plan processed log batch reply e n = absurd cc
ok_named (Some Stale) plan processed log batch reply e n =
    let kept : Replied = unwrap_or (last_reply log) (empty_reply plan.wait) in
    absurd (ok_unless (is_reply_to kept batch) kept reply batch refl e n)
ok_named (Some Again) plan processed log batch reply e n = let s : reply ≡ reply_by plan processed batch = cc in (s, refl)
ok_named (Some (Late calls)) plan processed log batch reply e n = absurd cc

-- one that doesn't shows in the count
ok_stale : (fate : Option Fate) (plan : Plan) (processed : List (Sealed × Line)) (log : List Logged) (batch : List Sealed)
    (reply : Replied) →
    Ok reply ≡ answer_by fate plan processed log batch → (Names reply batch → ⊥) → is_faulty fate ≡ true
ok_stale None plan processed log batch reply e other = let s : reply ≡ reply_by plan processed batch = cc in
    absurd (other (ap (λ (r : Replied). r.huellas) s))
ok_stale (Some Lost) plan processed log batch reply e other = refl
ok_stale (Some Taken) plan processed log batch reply e other = refl
ok_stale (Some Stale) plan processed log batch reply e other = refl
ok_stale (Some Again) plan processed log batch reply e other = let s : reply ≡ reply_by plan processed batch = cc in
    absurd (other (ap (λ (r : Replied). r.huellas) s))
ok_stale (Some (Late calls)) plan processed log batch reply e other = refl

faults_are : (a new : Practice) (batch : List Sealed) → new ≡ submitted a batch → new.faults ≡ faults_by (fate_of a) a.faults
faults_are a new batch is = ap (λ (x : Practice). x.faults) is

later_count : (a new : Practice) (batch : List Sealed) → new ≡ submitted a batch → counted a.faults ≤ counted new.faults
later_count a new batch is = subst (λ (m : ℕ). counted a.faults ≤ counted m) (sym (faults_are a new batch is))
    (faults_later (fate_of a) a.faults)

risen_count : (a new : Practice) (batch : List Sealed) → new ≡ submitted a batch → is_faulty (fate_of a) ≡ true →
    Rose (counted a.faults) (counted new.faults)
risen_count a new batch is e = subst (λ (m : ℕ). Rose (counted a.faults) (counted m)) (sym (faults_are a new batch is))
    (faults_rose (fate_of a) a.faults e)

pub submit_cause : (a : Practice) (batch : List Sealed) (r : Result Replied AgencyFault) (new : Practice) →
    IsRow r (submission_answer a batch) a new (submitted a batch) → HasCause (counted a.faults) (counted new.faults) r
submit_cause a batch (Ok reply) new row = record {
  later = later_count a new batch row.1;
  failed = tt;
  no_memory = λ none. absurd cc;
}
submit_cause a batch (Err Failed) new row = record {
  later = later_count a new batch row.1;
  failed = risen_count a new batch row.1 (failed_faulty (fate_of a) a.plan (processed_before a) a.log batch row.0);
  no_memory = λ none. absurd cc;
}
submit_cause a batch (Err NoMemory) new row = record {
  later = (let e : counted new.faults ≡ counted a.faults =
      ap (λ (x : Practice). counted x.faults) row in omega arith);
  failed = tt;
  no_memory = λ none. ap (λ (x : Practice). counted x.faults) row;
}

pub submit_stale : (a : Practice) (batch : List Sealed) (r : Result Replied AgencyFault) (new : Practice) →
    IsRow r (submission_answer a batch) a new (submitted a batch) → StaleShows (counted a.faults) (counted new.faults) batch r
submit_stale a batch (Ok reply) new row = λ other. risen_count a new batch row.1 (ok_stale (fate_of a) a.plan (processed_before a)
    a.log batch reply row.0 other)
submit_stale a batch (Err why) new row = tt

handed : (a new : Practice) (batch : List Sealed) (r : Result Replied AgencyFault) → r ≡ submission_answer a batch →
    new ≡ submitted a batch → HandsOver (ledger_of a) (ledger_of new) batch r
handed a new batch r e is =
    let entry : Logged = record {
      message = Submitted batch (submission_answer a batch);
      comes = comes_at (fate_of a) (number a.log);
    } in
    record {
      sent = ap (λ (x : Practice). sent_in x.log) is ∙ sent-append a.log (entry ∷ []);
      messages = ap (λ (x : Practice). messages_of x.log) is ∙ messages-append a.log (entry ∷ [])
          ∙ ap (λ (answer : Result Replied AgencyFault). messages_of a.log ++ Submitted batch answer ∷ []) (sym e);
    }

pub submit_lists : (a : Practice) (batch : List Sealed) (r : Result Replied AgencyFault) (new : Practice) →
    IsRow r (submission_answer a batch) a new (submitted a batch) → Submits (ledger_of a) (ledger_of new) batch r
submit_lists a batch (Ok reply) new row = handed a new batch (Ok reply) row.0 row.1
submit_lists a batch (Err Failed) new row = handed a new batch (Err Failed) row.0 row.1
submit_lists a batch (Err NoMemory) new row = inl (record {
  sent = ap (λ (x : Practice). sent_in x.log) row;
  messages = ap (λ (x : Practice). messages_of x.log) row;
})

answered_by : (a new : Practice) (batch : List Sealed) (r : Result Replied AgencyFault) → r ≡ submission_answer a batch →
    (sent : List (List Sealed)) →
    new.processed ≡ delivered_all a.plan.verdicts a.processed (before_of a ++ own_of (fate_of a) batch) →
    AreAmong sent (before_of a) →
    IfOk r (λ (reply : Replied). Names reply batch → DeliversThis a.plan.verdicts sent a.processed new.processed batch
    reply.lines)
answered_by a new batch (Ok reply) e sent p among = λ n.
    let o = ok_named (fate_of a) a.plan (processed_before a) a.log batch reply e n in
    record {
      before = before_of a;
      after = [];
      among_before = among;
      among_after = tt;
      is = p ∙ ap (λ (xs : List (List Sealed)). delivered_all a.plan.verdicts a.processed (before_of a ++ xs)) o.1;
      said = ap (λ (x : Replied). x.lines) o.0 ∙ ap (λ (ps : List (Sealed × Line)). answers a.plan.verdicts ps batch)
          (before_is a);
    }
answered_by a new batch (Err why) e sent p among = tt

-- the rules, where the batch was handed over
kept_by : (a new : Practice) (batch : List Sealed) (r : Result Replied AgencyFault) → r ≡ submission_answer a batch →
    new ≡ submitted a batch →
    (sent : List (List Sealed)) → sent ≡ sent_in a.log ++ batch ∷ [] →
    SubmitKeeps (ledger_of a) (record {
      processed = new.processed;
      sent = sent;
      verdicts = new.plan.verdicts;
      messages = messages_of new.log;
    }) batch r
kept_by a new batch r e is sent s =
    let before = before_of a in
    let own = own_of (fate_of a) batch in
    let p : new.processed ≡ delivered_all a.plan.verdicts a.processed (before ++ own) =
    ap (λ (x : Practice). x.processed) is ∙ three_parts a.plan.verdicts a.processed (late_for (number a.log) a.log)
    (again_before (fate_of a) (sent_in a.log)) own in
    let among_before : AreAmong sent before = subst (λ (xs : List (List Sealed)). AreAmong xs before) (sym s)
    (among_more (sent_in a.log) (batch ∷ []) before (before_among a)) in
    let among_own : AreAmong sent own = subst (λ (xs : List (List Sealed)). AreAmong xs own) (sym s)
    (own_among (fate_of a) (sent_in a.log) batch) in
    record {
      verdicts = ap (λ (x : Practice). x.plan.verdicts) is;
      delivers = record { batches = before ++ own; among = among_both sent before own among_before among_own; is = p };
      answered = answered_by a new batch r e sent p among_before;
    }

pub submit_rules : (a : Practice) (batch : List Sealed) (r : Result Replied AgencyFault) (new : Practice) →
    IsRow r (submission_answer a batch) a new (submitted a batch) → SubmitKeeps (ledger_of a) (ledger_of new) batch r
submit_rules a batch (Ok reply) new row = kept_by a new batch (Ok reply) row.0 row.1 (sent_in new.log)
    (handed a new batch (Ok reply) row.0 row.1).sent
submit_rules a batch (Err Failed) new row = kept_by a new batch (Err Failed) row.0 row.1 (sent_in new.log)
    (handed a new batch (Err Failed) row.0 row.1).sent
submit_rules a batch (Err NoMemory) new row = record {
  verdicts = ap (λ (x : Practice). x.plan.verdicts) row;
  delivers = record { batches = []; among = tt; is = ap (λ (x : Practice). x.processed) row };
  answered = tt;
}
