-- A contradiction is what the last message of a session shows, and the reply that is kept.
use Rattle.std.proofs.Common.{◌≡◌, ◌⊎◌, inl, inr, ℕ, zero, suc, ◌+◌, List, [], ◌∷◌, ◌++◌, length, length-append, map, take}
use Rattle.std.proofs.Common.{drop, refl, sym, ◌∙◌, ap, subst, arith, Bool, IsTrue, Option, Some, None, Result, Ok, Err}
use Rattle.std.proofs.Common.{append_assoc, add-one}
use Rattle.std.specs.Prelude.{IsErrOf}
use Rattle.std.proofs.lemmas.List.{append_cancel_left, map-append, take-append-drop}
use Rattle.std.proofs.lemmas.List.Elements.{filter_map-append}
use Rattle.record_fields.specs.declared.records.Sealed.{Sealed}
use Rattle.record_fields.specs.declared.lines.Line.{Line}
use Rattle.record_codec.specs.declared.entry.Entry.{Entry}
use Rattle.shop_core.specs.History.{Row, noted, recs, row_in, rows, waiting}
use Rattle.shop_core.specs.declared.waiting.Waiting.{Waiting}
use Rattle.batches.specs.Batches.{Named, huellas_of, named_of}
use Rattle.agency_port.specs.Reply.{Replied}
use Rattle.agency_port.specs.Sessions.{kept_reply}
use Rattle.agency_port.specs.declared.answers.AgencyFault.TheVariants as agency
use Rattle.agency_port.specs.declared.answers.ReplyLine.{ReplyLine}
use Rattle.agency_port.specs.declared.answers.Seen.{Seen}
use Rattle.agency_port.specs.declared.answers.Seen.TheVariants.{NotSeen, Was}
use Rattle.agency_port.specs.declared.messages.Message.{Message}
use Rattle.agency_port.specs.declared.messages.Message.TheVariants.{Submitted, Consulted}
use Rattle.agency_port.specs.declared.turns.Evidence.{Evidence}
use Rattle.agency_port.specs.declared.turns.Evidence.TheVariants.{Hole, Forgotten}
use Rattle.agency_port.specs.declared.turns.Told.{Told}
use Rattle.agency_port.proofs.LastNamed.{kept_more}
use Rattle.consultation.specs.Sorting.{IsFront, IsHole, unseen_ones}
use Rattle.shop_core.specs.Prefix.{IsPrefix}
use Rattle.once_world.specs.Outbox.{Sight, ShowsWaiting, history_of}
use Rattle.sender.specs.declared.answers.Turn.{Turn}
use Rattle.sender.specs.declared.answers.Turn.TheVariants.{Idle, WaitUntil, Noted, Cleared, Doubt}
use Rattle.sender.specs.declared.answers.SendFault.{SendFault}
use Rattle.sender.specs.declared.answers.SendFault.TheVariants as send
use Rattle.sender.specs.declared.answers.DrainFault.{DrainFault}
use Rattle.sender.specs.declared.answers.DrainFault.TheVariants as drain
use Rattle.sender.specs.Agreeing.{KeepsReply}
use Rattle.sender.specs.Draining.{Drained, EndsWith, GoesOn, Scene, Turns, none as no_turn, more as one_turn}
use Rattle.sender.specs.Evidence.{Shows, forgotten, forgotten_in, said_at, said_in}
use Rattle.sender.specs.Sending.{Sending}
use Rattle.sender.specs.Turning.{Asked, Dealt, Deed, AgencyState, Ends, Handed, AgencyKind, Nothing, SeenEnds, Turned, turn_call}
use Rattle.sender.proofs.Replying.{turn_keeps_reply}
use Rattle.sender_session.specs.Contradictions.{AnswersWhatIsShown, IsContrary, ShowsLast, ShowsNothing}
use Rattle.sender_session.specs.Session.{sending_end}

-- the first that was seen, from this index on
abbrev first_seen : ℕ → List Seen → Option ℕ
first_seen n [] = None
first_seen n (NotSeen ∷ seen) = first_seen (n + 1) seen
first_seen n (Was line ∷ seen) = Some n

abbrev paired : ℕ → Option ℕ → Option (ℕ × ℕ)
paired n None = None
paired n (Some m) = Some (n, m)

-- the hole in these answers, if there is one
abbrev hole_in : ℕ → List Seen → Option (ℕ × ℕ)
hole_in n [] = None
hole_in n (Was line ∷ seen) = hole_in (n + 1) seen
hole_in n (NotSeen ∷ seen) = paired n (first_seen (n + 1) seen)

first_is : (n count : ℕ) (line : Line) (after : List Seen) → first_seen n (unseen_ones count ++ Was line ∷ after) ≡ Some (n +
    count)
first_is n zero line after = ap (λ (k : ℕ). Some k) (omega arith)
first_is n (suc count) line after = first_is (n + 1) count line after ∙ ap (λ (k : ℕ). Some k) (omega arith)

none_first : (n count : ℕ) → first_seen n (unseen_ones count) ≡ None
none_first n zero = refl
none_first n (suc count) = none_first (n + 1) count

pair_is : (a b c d : ℕ) → a ≡ b → c ≡ d → ◌≡◌ {A = Option (ℕ × ℕ)} (Some (a, c)) (Some (b, d))
pair_is a b c d e f = ap (λ (k : ℕ). Some (k, c)) e ∙ ap (λ (k : ℕ). Some (b, k)) f

hole_is : (n : ℕ) (before : List Line) (more : ℕ) (line : Line) (after : List Seen) →
    hole_in n ((map Was before ++ unseen_ones (more + 1)) ++ Was line ∷ after) ≡ Some (
      n + length before,
      n + (length before +
          (more + 1)),
    )
hole_is n [] more line after =
    ap (λ (xs : List Seen). hole_in n (xs ++ Was line ∷ after)) (ap unseen_ones (add-one more)) ∙ ap (paired n) (first_is (n +
    1) more line after)
    ∙ pair_is n (n + 0) (n + 1 + more) (n + (0 + (more + 1))) (omega arith) (omega arith)
hole_is n (l ∷ before) more line after =
    hole_is (n + 1) before more line after
    ∙ pair_is (n + 1 + length before) (n + length (l ∷ before)) (n + 1 + (length before + (more + 1))) (n + (length (l ∷ before)
    + (more + 1))) (omega arith) (omega arith)

no_hole_in : (n : ℕ) (lines : List Line) (rest : ℕ) → hole_in n (map Was lines ++ unseen_ones rest) ≡ None
no_hole_in n [] zero = refl
no_hole_in n [] (suc rest) = ap (paired n) (none_first (n + 1) rest)
no_hole_in n (line ∷ lines) rest = no_hole_in (n + 1) lines rest

hole_found : (seen : List Seen) (i j : ℕ) → IsHole seen i j → hole_in 0 seen ≡ Some (i, j)
hole_found seen i j h = ap (hole_in 0) h.is ∙ hole_is 0 h.before h.more h.line h.after ∙ let a = h.unseen_at in let b =
    h.seen_at in pair_is (0 + length h.before) i (0 + (length h.before + (h.more + 1))) j (omega (arith, a)) (omega (arith, b))

-- there is no hole in a front
no_hole : (seen : List Seen) (lines : List Line) (i j : ℕ) → IsFront seen lines → IsHole seen i j → ⊥
no_hole seen lines i j f h = let e : ◌≡◌ {A = Option (ℕ × ℕ)} (Some (i, j)) None = sym (hole_found seen i j h) ∙ ap (hole_in 0)
    f.is ∙ no_hole_in 0 lines f.rest in cc

none_said : (p q : ℕ) (said : Option ReplyLine) (later then : Option (ℕ × ReplyLine)) → (later ≡ None → then ≡ None) →
    said_at p said later ≡ None → said_at q said then ≡ None
none_said p q (Some line) later then f e = absurd (let g = e in cc)
none_said p q None later then f e = f e

-- nothing is forgotten wherever the first record stands
none_at : (reply : Replied) (p q : ℕ) (huellas : List (List ℕ)) (seen : List Seen) → forgotten_in reply p huellas seen ≡ None →
    forgotten_in reply q huellas seen ≡ None
none_at reply p q [] seen e = refl
none_at reply p q (h ∷ huellas) [] e = refl
none_at reply p q (h ∷ huellas) (Was line ∷ seen) e = none_at reply (p + 1) (q + 1) huellas seen e
none_at reply p q (h ∷ huellas) (NotSeen ∷ seen) e =
    none_said p q (said_in reply.huellas reply.lines h) (forgotten_in reply (p + 1) huellas seen) (forgotten_in reply (q + 1)
    huellas seen) (none_at reply (p + 1) (q + 1) huellas seen) e

none_forgotten : (said : Option Replied) (p q : ℕ) (huellas : List (List ℕ)) (seen : List Seen) →
    forgotten said p huellas seen ≡ None → forgotten said q huellas seen ≡ None
none_forgotten None p q huellas seen e = refl
none_forgotten (Some reply) p q huellas seen e = none_at reply p q huellas seen e

-- answers that show lines show no contradiction, wherever the first record stands
lines_or_contrary : (said : Option Replied) (p q : ℕ) (huellas : List (List ℕ)) (seen : List Seen) (lines : List Line) (evidence
    : Evidence) → Shows said p huellas seen (Ok lines) → Shows said q huellas seen (Err evidence) → ⊥
lines_or_contrary said p q huellas seen lines (Hole unseen at) a b = no_hole seen lines b.i b.j a.0 b.hole
lines_or_contrary said p q huellas seen lines (Forgotten place line) a b = let e = sym (none_forgotten said p q huellas seen
    a.1) ∙ b.1 in cc

-- they show one alone
one_contrary : (said : Option Replied) (p : ℕ) (huellas : List (List ℕ)) (seen : List Seen) (a b : Evidence) →
    Shows said p huellas seen (Err a) → Shows said p huellas seen (Err b) → a ≡ b
one_contrary said p huellas seen (Hole u v) (Hole w x) a b =
    let e : ◌≡◌ {A = Option (ℕ × ℕ)} (Some (a.i, a.j)) (Some (b.i, b.j)) = sym (hole_found seen a.i a.j a.hole) ∙ hole_found
    seen b.i b.j b.hole in
    let both : ◌≡◌ {A = ℕ × ℕ} (a.i, a.j) (b.i, b.j) = cc in
    let f : a.i ≡ b.i = ap (λ (z : ℕ × ℕ). z.0) both in
    let g : a.j ≡ b.j = ap (λ (z : ℕ × ℕ). z.1) both in
    let k : u ≡ w = a.unseen_at ∙ ap (λ (n : ℕ). p + n) f ∙ sym b.unseen_at in
    let l : v ≡ x = a.seen_at ∙ ap (λ (n : ℕ). p + n) g ∙ sym b.seen_at in
    cc
one_contrary said p huellas seen (Hole u v) (Forgotten place line) a b = absurd (no_hole seen b.0.0 a.i a.j b.0.1 a.hole)
one_contrary said p huellas seen (Forgotten place line) (Hole u v) a b = absurd (no_hole seen a.0.0 b.i b.j a.0.1 b.hole)
one_contrary said p huellas seen (Forgotten place line) (Forgotten other says) a b =
    let e : ◌≡◌ {A = Option (ℕ × ReplyLine)} (Some (place, line)) (Some (other, says)) = sym a.1 ∙ b.1 in
    let both : ◌≡◌ {A = ℕ × ReplyLine} (place, line) (other, says) = cc in
    ap (λ (z : ℕ × ReplyLine). Forgotten z.0 z.1) both

-- two lists with the same last element and front
pub same_ends : {A : Type 0} (xs ys : List A) (x y : A) → xs ++ x ∷ [] ≡ ys ++ y ∷ [] → (xs ≡ ys) × (x ≡ y)
same_ends [] [] x y e = (refl, let f : x ∷ [] ≡ y ∷ [] = e in cc)
same_ends [] (b ∷ ys) x y e = absurd (let l = ap length e in let m = length-append ys (y ∷ []) in omega arith)
same_ends (a ∷ xs) [] x y e = absurd (let l = ap length e in let m = length-append xs (x ∷ []) in omega arith)
same_ends {A} (a ∷ xs) (b ∷ ys) x y e =
    let h : a ≡ b = cc in
    let t = same_ends xs ys x y (ap (λ (l : List A). drop 1 l) e) in
    (ap (λ (z : A). z ∷ xs) h ∙ ap (λ (l : List A). b ∷ l) t.0, t.1)

-- what the last message of these shows
shown_by : (entries : List Entry) (past messages : List Message) (evidence : Evidence) (s : ShowsLast entries past messages
    evidence) (before : List Message) (named : Named) (seen : List Seen) →
    messages ≡ (past ++ before) ++ Consulted named (Ok seen) ∷ [] →
    Shows (kept_reply before) (length (noted entries) + 1) named.huellas seen (Err evidence)
shown_by entries past messages evidence s before named seen is =
    let c = same_ends (past ++ s.before) (past ++ before) (Consulted s.named (Ok s.seen)) (Consulted named (Ok seen)) (sym
    s.is ∙ is) in
    let front : s.before ≡ before = append_cancel_left past s.before before c.0 in
    let m : Consulted s.named (Ok s.seen) ≡ Consulted named (Ok seen) = c.1 in
    let asked : s.named ≡ named = cc in
    let told : s.seen ≡ seen = cc in
    let n = length (noted entries) + 1 in
    subst (λ (b : List Message). Shows (kept_reply b) n named.huellas seen (Err evidence)) front
    (subst (λ (a : List Seen). Shows (kept_reply s.before) n named.huellas a (Err evidence)) told
    (subst (λ (h : Named). Shows (kept_reply s.before) n h.huellas s.seen (Err evidence)) asked s.shows))

-- which is one contradiction alone
pub one_shown : (entries : List Entry) (past messages : List Message) (a b : Evidence) → ShowsLast entries past messages a →
    ShowsLast entries past messages b → a ≡ b
one_shown entries past messages a b s t = one_contrary (kept_reply t.before) (length (noted entries) + 1) t.named.huellas t.seen a b
    (shown_by entries past messages a s t.before t.named t.seen t.is) t.shows

-- a session without messages shows nothing
pub none_yet : (past : List Message) → ShowsNothing past past
none_yet past entries evidence s =
    let l = ap length s.is in
    let m = length-append (past ++ s.before) (Consulted s.named (Ok s.seen) ∷ []) in
    let k = length-append past s.before in
    omega arith

-- the first of the Huellas
first_asked : (records batch : List Sealed) → batch ≡ take 1000 records → IsPrefix (huellas_of batch) (huellas_of records)
first_asked records batch e = record {
  rest = huellas_of (drop 1000 records);
  is = ap huellas_of (sym (take-append-drop 1000 records)) ∙ map-append (λ (s : Sealed). s.huella) (take 1000 records) (drop
      1000 records)
      ∙ ap (λ (l : List Sealed). huellas_of l ++ huellas_of (drop 1000 records)) (sym e);
}

-- a turn that answers a contradiction consulted, and its answer shows it
deed_shows : (kind : AgencyKind) (agency_state agency_state_then : AgencyState) (look after : Sight) (shown : Waiting) (old new : Sending) (now : ℕ) (deed :
    Deed) (evidence : Evidence) → IsTrue kind.tells → ShowsWaiting look 1000 shown → Dealt kind agency_state agency_state_then shown deed →
    Ends old now shown look after deed (Err (send.Contradiction evidence)) new → (past : List Message) →
    KeepsReply past agency_state.ledger.messages old.said → ShowsLast (history_of after) past agency_state_then.ledger.messages evidence
deed_shows kind agency_state agency_state_then look after shown old new now Nothing evidence tells shows dealt ends past k = absurd ends.0
deed_shows kind agency_state agency_state_then look after shown old new now (Asked (Ok seen)) evidence tells shows dealt ends past k = record {
  before = k.session;
  named = named_of shown.list;
  seen = seen;
  is = (dealt.1 tells).messages ∙ ap (λ (ms : List Message). ms ++ Consulted (named_of shown.list) (Ok seen) ∷ []) k.is;
  asked = subst (λ (s : Sight). IsPrefix (huellas_of shown.list) (huellas_of (waiting (history_of s)))) (sym ends.2.3.1)
      (first_asked (waiting (history_of look)) shown.list shows.first);
  shows = subst (λ (s : Sight). Shows (kept_reply k.session) (length (noted (history_of s)) + 1) (huellas_of shown.list) seen
      (Err evidence)) (sym ends.2.3.1)
      (subst (λ (n : ℕ). Shows (kept_reply k.session) (n + 1) (huellas_of shown.list) seen (Err evidence)) shows.noted_count
      (subst (λ (o : Option Replied). Shows o (shown.noted + 1) (huellas_of shown.list) seen (Err evidence)) k.kept
      ends.2.3.0));
}
deed_shows kind agency_state agency_state_then look after shown old new now (Asked (Err agency.Failed)) evidence tells shows dealt ends past k =
    absurd (let e = ends.2.0 in cc)
deed_shows kind agency_state agency_state_then look after shown old new now (Asked (Err agency.NoMemory)) evidence tells shows dealt ends past k
    = absurd (let e = ends.2.0 in cc)
deed_shows kind agency_state agency_state_then look after shown old new now (Handed (Ok reply)) evidence tells shows dealt ends past k = elim
    ends.3 [
      | inl r ↦ absurd r.ends
      | inr r ↦ absurd (let e = r.result_is in cc)
    ]
deed_shows kind agency_state agency_state_then look after shown old new now (Handed (Err agency.Failed)) evidence tells shows dealt ends past k
    = absurd (let e = ends.3.0 in cc)
deed_shows kind agency_state agency_state_then look after shown old new now (Handed (Err agency.NoMemory)) evidence tells shows dealt ends past
    k = absurd (let e = ends.3.0 in cc)

turn_of : (kind : AgencyKind) (agency_state agency_state_then : AgencyState) (before after : Sight) (old new : Sending) (now : ℕ) (answer : Result Turn
    SendFault) (evidence : Evidence) → answer ≡ Err (send.Contradiction evidence) →
    Turned (turn_call kind agency_state agency_state_then before after old new now answer) →
    IsTrue kind.tells → (past : List Message) → KeepsReply past agency_state.ledger.messages old.said →
    ShowsLast (history_of after) past agency_state_then.ledger.messages evidence
turn_of kind agency_state agency_state_then before after old new now answer evidence is t tells past k =
    deed_shows kind agency_state agency_state_then t.look after t.shown old new now t.deals.deed evidence tells t.shows t.deals.dealt
    (subst (λ (r : Result Turn SendFault). Ends old now t.shown t.look after t.deals.deed r new) is t.deals.ends) past k

contrary_answer : (answer : Result Turn SendFault) (evidence : Evidence) →
    IsErrOf (sending_end answer) (drain.Contradiction evidence) → answer ≡ Err (send.Contradiction evidence)
contrary_answer (Ok turn) evidence is = absurd cc
contrary_answer (Err send.LinkFault) evidence is = absurd cc
contrary_answer (Err (send.Contradiction e)) evidence is = let f : e ≡ evidence = cc in ap (λ (x : Evidence). Err
    (send.Contradiction x)) f
contrary_answer (Err (send.Store fault)) evidence is = absurd cc
contrary_answer (Err send.NoMemory) evidence is = absurd cc

pub turn_shows : (kind : AgencyKind) (agency_state agency_state_then : AgencyState) (before after : Sight) (old new : Sending) (now : ℕ) (answer : Result
    Turn SendFault) → Turned (turn_call kind agency_state agency_state_then before after old new now answer) → IsTrue kind.tells →
    (past : List Message) → KeepsReply past agency_state.ledger.messages old.said → (evidence : Evidence) →
    IsErrOf (sending_end answer) (drain.Contradiction evidence) →
    ShowsLast (history_of after) past agency_state_then.ledger.messages evidence
turn_shows kind agency_state agency_state_then before after old new now answer t tells past k evidence is =
    turn_of kind agency_state agency_state_then before after old new now answer evidence (contrary_answer answer evidence is) t tells past k

-- nothing was said: no contradiction is shown still
quiet : (past messages then : List Message) (answer : Result (Unit {0}) DrainFault) → then ≡ messages →
    ShowsNothing past messages → AnswersWhatIsShown past then answer
quiet past messages then answer same none entries evidence s = absurd (none entries evidence (subst (λ (ms : List Message).
    ShowsLast entries past ms evidence) same s))

-- this was said, and it is no consultation that was answered
other : (past messages then : List Message) (m : Message) (answer : Result (Unit {0}) DrainFault) → then ≡ messages ++ m ∷ [] →
    ((named : Named) (seen : List Seen) → Consulted named (Ok seen) ≡ m → ⊥) → AnswersWhatIsShown past then answer
other past messages then m answer said never entries evidence s =
    absurd (never s.named s.seen (same_ends (past ++ s.before) messages (Consulted s.named (Ok s.seen)) m (sym s.is ∙
    said)).1)

-- a consultation was answered, and this is what it shows
seen_answers : (said : Option Replied) (shown : Waiting) (seen : List Seen) (look after : Sight) (doubt : Bool) (answer : Result
    Turn SendFault) (n : ℕ) (evidence : Evidence) → SeenEnds said shown seen look after answer doubt →
    Shows said n (huellas_of shown.list) seen (Err evidence) → IsContrary (sending_end answer) ⊎ (sending_end answer ≡ Err
    drain.NoMemory)
seen_answers said shown seen look after doubt (Ok (Noted k)) n evidence ends s = absurd (lines_or_contrary said (shown.noted +
    1) n (huellas_of shown.list) seen ends.0.lines evidence ends.0.are s)
seen_answers said shown seen look after doubt (Ok Cleared) n evidence ends s = absurd (lines_or_contrary said (shown.noted + 1)
    n (huellas_of shown.list) seen [] evidence ends.0 s)
seen_answers said shown seen look after doubt (Ok (Idle records)) n evidence ends s = absurd ends
seen_answers said shown seen look after doubt (Ok (WaitUntil at)) n evidence ends s = absurd ends
seen_answers said shown seen look after doubt (Ok (Doubt place)) n evidence ends s = absurd ends
seen_answers said shown seen look after doubt (Err send.LinkFault) n evidence ends s = absurd ends
seen_answers said shown seen look after doubt (Err (send.Contradiction e)) n evidence ends s = inl (e, refl)
seen_answers said shown seen look after doubt (Err (send.Store fault)) n evidence ends s = absurd (lines_or_contrary said
    (shown.noted + 1) n (huellas_of shown.list) seen ends.0.1.lines evidence ends.0.1.are s)
seen_answers said shown seen look after doubt (Err send.NoMemory) n evidence ends s = inr refl

deed_answers : (kind : AgencyKind) (agency_state agency_state_then : AgencyState) (look after : Sight) (shown : Waiting) (old new : Sending) (now : ℕ) (deed
    : Deed) (answer : Result Turn SendFault) → IsTrue kind.tells → Dealt kind agency_state agency_state_then shown deed →
    Ends old now shown look after deed answer new → (past : List Message) → KeepsReply past agency_state.ledger.messages old.said →
    ShowsNothing past agency_state.ledger.messages → AnswersWhatIsShown past agency_state_then.ledger.messages (sending_end answer)
deed_answers kind agency_state agency_state_then look after shown old new now Nothing answer tells dealt ends past k none =
    quiet past agency_state.ledger.messages agency_state_then.ledger.messages (sending_end answer) (ap (λ (d : AgencyState). d.ledger.messages) dealt)
    none
deed_answers kind agency_state agency_state_then look after shown old new now (Asked (Ok seen)) answer tells dealt ends past k none = λ entries
    evidence s.
    let n = length (noted entries) + 1 in
    seen_answers old.said shown seen look after new.doubt answer n evidence ends.2.3
    (subst (λ (o : Option Replied). Shows o n (huellas_of shown.list) seen (Err evidence)) (sym k.kept)
    (shown_by entries past agency_state_then.ledger.messages evidence s k.session (named_of shown.list) seen ((dealt.1 tells).messages
    ∙ ap (λ (ms : List Message). ms ++ Consulted (named_of shown.list) (Ok seen) ∷ []) k.is)))
deed_answers kind agency_state agency_state_then look after shown old new now (Asked (Err agency.Failed)) answer tells dealt ends past k none =
    other past agency_state.ledger.messages agency_state_then.ledger.messages (Consulted (named_of shown.list) (Err agency.Failed))
    (sending_end answer) (dealt.1 tells).messages (λ named seen e. cc)
deed_answers kind agency_state agency_state_then look after shown old new now (Asked (Err agency.NoMemory)) answer tells dealt ends past k none
    = λ entries evidence s. inr (ap sending_end ends.2.0)
deed_answers kind agency_state agency_state_then look after shown old new now (Handed (Ok reply)) answer tells dealt ends past k none =
    other past agency_state.ledger.messages agency_state_then.ledger.messages (Submitted shown.list (Ok reply)) (sending_end answer) (dealt.2
    tells).messages (λ named seen e. cc)
deed_answers kind agency_state agency_state_then look after shown old new now (Handed (Err agency.Failed)) answer tells dealt ends past k none =
    other past agency_state.ledger.messages agency_state_then.ledger.messages (Submitted shown.list (Err agency.Failed)) (sending_end answer)
    (dealt.2 tells).messages (λ named seen e. cc)
deed_answers kind agency_state agency_state_then look after shown old new now (Handed (Err agency.NoMemory)) answer tells dealt ends past k none
    = λ entries evidence s. inr (ap sending_end ends.3.0)

-- where the last message shows a contradiction a turn answers it, or found no memory
pub turn_answers : (kind : AgencyKind) (agency_state agency_state_then : AgencyState) (before after : Sight) (old new : Sending) (now : ℕ) (answer : Result
    Turn SendFault) → Turned (turn_call kind agency_state agency_state_then before after old new now answer) → IsTrue kind.tells →
    (past : List Message) → KeepsReply past agency_state.ledger.messages old.said → ShowsNothing past agency_state.ledger.messages →
    AnswersWhatIsShown past agency_state_then.ledger.messages (sending_end answer)
turn_answers kind agency_state agency_state_then before after old new now answer t tells past k none =
    deed_answers kind agency_state agency_state_then t.look after t.shown old new now t.deals.deed answer tells t.deals.dealt t.deals.ends past
    k none

ok_never : (answer : Result (Unit {0}) DrainFault) → answer ≡ Ok tt → IsContrary answer ⊎ (answer ≡ Err drain.NoMemory) → ⊥
ok_never answer ok (inl c) = let f = sym ok ∙ c.1 in cc
ok_never answer ok (inr m) = let f = sym ok ∙ m in cc

-- at Ok none is shown
pub shows_nothing : (past messages : List Message) → AnswersWhatIsShown past messages (Ok tt) → ShowsNothing past messages
shows_nothing past messages h entries evidence s = ok_never (Ok tt) refl (h entries evidence s)

goes_on_without : (past messages : List Message) (answer : Result Turn SendFault) → GoesOn answer →
    AnswersWhatIsShown past messages (sending_end answer) → ShowsNothing past messages
goes_on_without past messages (Ok turn) on h = shows_nothing past messages h
goes_on_without past messages (Err send.LinkFault) on h = shows_nothing past messages h
goes_on_without past messages (Err (send.Contradiction evidence)) on h = absurd on
goes_on_without past messages (Err (send.Store fault)) on h = absurd on
goes_on_without past messages (Err send.NoMemory) on h = absurd on

module _ (kind : AgencyKind) (exact : Bool) (tells : IsTrue kind.tells) (past : List Message) where
  turns_keep : (start : Scene) (answers : List (Result Turn SendFault)) (links : ℕ) (scene : Scene) →
      Turns kind exact start answers links scene →
      KeepsReply past start.agency_state.ledger.messages start.sending.said →
      KeepsReply past scene.agency_state.ledger.messages scene.sending.said
  turns_keep start answers links scene no_turn k = k
  turns_keep start answers links scene (one_turn before_answers before_links mid answer then t turn on few) k =
      turn_keeps_reply kept_more past kind mid.agency_state then.agency_state mid.sight then.sight mid.sending then.sending turn.now answer
      turn.turned tells (turns_keep start before_answers before_links mid t k)

  pub turns_show_nothing : (start : Scene) (answers : List (Result Turn SendFault)) (links : ℕ) (scene : Scene) →
      Turns kind exact start answers links scene →
      KeepsReply past start.agency_state.ledger.messages start.sending.said → ShowsNothing past start.agency_state.ledger.messages →
      ShowsNothing past scene.agency_state.ledger.messages
  turns_show_nothing start answers links scene no_turn k clear = clear
  turns_show_nothing start answers links scene (one_turn before_answers before_links mid answer then t turn on few) k clear =
      goes_on_without past then.agency_state.ledger.messages answer on
      (turn_answers kind mid.agency_state then.agency_state mid.sight then.sight mid.sending then.sending turn.now answer turn.turned tells past
      (turns_keep start before_answers before_links mid t k)
      (turns_show_nothing start before_answers before_links mid t k clear))

-- so does a drain that answers a contradiction
pub drained_shows : (kind : AgencyKind) (exact : Bool) (start then : Scene) (old new : List Told) (result : Result (Unit {0})
    DrainFault) → Drained kind exact start then old new result → IsTrue kind.tells →
    (past : List Message) → KeepsReply past start.agency_state.ledger.messages start.sending.said → (evidence : Evidence) →
    IsErrOf result (drain.Contradiction evidence) → ShowsLast (history_of then.sight) past then.agency_state.ledger.messages
    evidence
drained_shows kind exact start then old new result d tells past k evidence is = elim d.ends [
  | inl p ↦ turn_of kind d.scene.agency_state then.agency_state d.scene.sight then.sight d.scene.sending then.sending d.turn.now d.answer
      evidence
      (subst (λ (r : Result (Unit {0}) DrainFault). EndsWith d.links then.sight d.answer r) is p.1) d.turn.turned tells past
      (turns_keep kind exact tells past start d.answers d.links d.scene d.made k)
  | inr p ↦ absurd (let e = sym p.0 ∙ is in cc)
]

by_end : (links : ℕ) (after : Sight) (answer : Result Turn SendFault) (result : Result (Unit {0}) DrainFault) →
    EndsWith links after answer result → IsContrary (sending_end answer) ⊎ (sending_end answer ≡ Err drain.NoMemory) →
    IsContrary result ⊎ (result ≡ Err drain.NoMemory)
by_end links after answer (Ok done) e h = absurd (ok_never (sending_end answer) (ap sending_end e.1) h)
by_end links after answer (Err (drain.Undelivered noted_count records_count)) e h = absurd (ok_never (sending_end answer) (ap
    sending_end e.0) h)
by_end links after answer (Err (drain.Contradiction evidence)) e h = inl (evidence, refl)
by_end links after answer (Err (drain.Store fault)) e h = subst (λ (a : Result Turn SendFault). IsContrary (sending_end a) ⊎
    (sending_end a ≡ Err drain.NoMemory)) e h
by_end links after answer (Err drain.NoMemory) e h = inr refl

pub drained_answers : (kind : AgencyKind) (exact : Bool) (start then : Scene) (old new : List Told) (result : Result (Unit {0})
    DrainFault) → Drained kind exact start then old new result → IsTrue kind.tells →
    (past : List Message) → KeepsReply past start.agency_state.ledger.messages start.sending.said →
    ShowsNothing past start.agency_state.ledger.messages → AnswersWhatIsShown past then.agency_state.ledger.messages result
drained_answers kind exact start then old new result d tells past k clear entries evidence s = elim d.ends [
  | inl p ↦ by_end d.links then.sight d.answer result p.1
      (turn_answers kind d.scene.agency_state then.agency_state d.scene.sight then.sight d.scene.sending then.sending d.turn.now d.answer
      d.turn.turned tells past (turns_keep kind exact tells past start d.answers d.links d.scene d.made k)
      (turns_show_nothing kind exact tells past start d.answers d.links d.scene d.made k clear) entries evidence s)
  | inr p ↦ inr p.0
]

-- more records wait after those that do
pub drop_front : (n : ℕ) (xs ys : List Sealed) → IsPrefix (drop n xs) (drop n (xs ++ ys))
drop_front zero xs ys = record { rest = ys; is = refl }
drop_front (suc n) [] ys = record { rest = drop (suc n) ys; is = refl }
drop_front (suc n) (x ∷ xs) ys = drop_front n xs ys

pub recs_both : (xs ys : List Entry) → recs (xs ++ ys) ≡ recs xs ++ recs ys
recs_both xs ys = ap (λ (rs : List Row). map (λ (r : Row). r.sealed) rs) (filter_map-append row_in xs ys) ∙ map-append (λ (r :
    Row). r.sealed) (rows xs) (rows ys)

-- what is asked first of these is asked first of more
pub asked_of_more : (huellas : List (List ℕ)) (few many : List Sealed) → IsPrefix huellas (huellas_of few) → IsPrefix few many →
    IsPrefix huellas (huellas_of many)
asked_of_more huellas few many a b = record {
  rest = a.rest ++ huellas_of b.rest;
  is = ap huellas_of b.is ∙ map-append (λ (s : Sealed). s.huella) few b.rest ∙ ap (λ (l : List (List ℕ)). l ++ huellas_of
      b.rest) a.is ∙ append_assoc huellas a.rest (huellas_of b.rest);
}
