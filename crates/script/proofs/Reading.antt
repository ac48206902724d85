-- Lines of a script, read one after another.
use mathlib.Core.Path.{fun_ext}
use Rattle.std.proofs.Common.{◌≡◌, ◌∙◌, ℕ, ◌+◌, ◌≤◌, ◌<◌, List, [], ◌∷◌, ◌++◌, length, map, filter_map, count_by, refl, sym, ap}
use Rattle.std.proofs.Common.{subst, append_assoc, length-append, arith, Option, Some, None, is_some, Bool, true, false, not}
use Rattle.std.proofs.Common.{◌==◌, nat_le, cond, if◌then◌else◌, get_or, codes, bytes_eq, Result, Ok, Err, IfOk, IfSome, inl, inr}
use Rattle.std.proofs.Common.{◌&&◌, Vec, Global, IsUtf8}
use Rattle.std.specs.BTreeMap.{btree_map_len}
use Rattle.std.specs.Int.{IsInRange}
use Rattle.std.specs.Option.{ok_or, option_or}
use Rattle.std.specs.Result.{OnErr}
use Rattle.std.specs.Str.{is_utf8}
use Rattle.std.specs.Str.Parse.{digits_value}
use Rattle.amounts.specs.Text.{whole_text}
use Rattle.std.specs.Str.Lines.{strip_carriage_return}
use Rattle.std.proofs.lemmas.Bool.{and_parts, both_ways, cases_Bool, leb-true}
use Rattle.std.proofs.lemmas.Bool.Decides.{nat_tests}
use Rattle.std.proofs.lemmas.List.{append-nil}
use Rattle.std.proofs.lemmas.List.Elements.{filter_map-append}
use Rattle.std.proofs.lemmas.List.Sums.{sum_by-append}
use Rattle.std.proofs.lemmas.Slice.Eq.{bytes_eq-Decides}
use Rattle.std.proofs.lemmas.Str.{is_utf8-from_IsUtf8, IsUtf8-from_is_utf8}
use Rattle.agency_rules.specs.Judging.{verdict_for}
use Rattle.agency_rules.specs.Plans.{fate_at}
use Rattle.agency_rules.specs.declared.plans.Fate.{Fate}
use Rattle.agency_rules.specs.declared.plans.Fate.TheVariants.{Lost, Taken, Stale, Again, Late}
use Rattle.agency_rules.specs.declared.plans.PlannedFate.{PlannedFate}
use Rattle.agency_rules.specs.declared.plans.PlannedVerdict.{PlannedVerdict}
use Rattle.parties.specs.declared.name.Party.{Party}
use Rattle.record_fields.specs.Picks.{first_of, when}
use Rattle.shop_core.specs.Answer.Requests.{Asked}
use Rattle.shop_core.specs.declared.answer.requests.Request.{Request}
use Rattle.shop_core.specs.declared.words.Word.{Word}
use Rattle.shop_core.specs.declared.words.Word.TheVariants as word
use Rattle.script.specs.Fields.{fields_of, and_then, word_or, unless_any, first_field, field_at, past, is_left, such}
use Rattle.script.specs.Forms.{has_clock, has_commands, has_plans}
use Rattle.script.specs.Heard.{IsIn}
use Rattle.script.specs.Numbers.{number_in}
use Rattle.series.specs.Numbers.{is_num_serie}
use Rattle.script.specs.Planned.{IsPlannedVerdict, IsPlannedFate, IsPlannedCall}
use Rattle.script.specs.Readings.{is_key, is_nif, fate_of}
use Rattle.script.specs.SoFar.{IsSaid, IsNew, IsSoFar, known, party_of}
use Rattle.script.specs.Lines.{Above, above_of, said, line_said, fields_said, form_said, clock_said, customer_said, command_said}
use Rattle.script.specs.Lines.{request_said, name_said, is_skipped, verdict_of, verdict_said, wait_said, late_said}
use Rattle.script.specs.Lines.{fate_said, link_said, planned_said, clock_in, ask_in, party_in, verdict_in, wait_in, fate_in}
use Rattle.script.specs.Lines.{is_command, is_customer}
use Rattle.script.specs.Script.{EachSays, IsFirstBad}
use Rattle.script.specs.declared.customers.Customers.{Customers}
use Rattle.script.specs.declared.faults.Fault.{Fault}
use Rattle.script.specs.declared.faults.Fault.TheVariants as fault
use Rattle.script.specs.declared.forms.Form.{Form}
use Rattle.script.specs.declared.limits.TheConstants.{MAX_START, MAX_STEP, MAX_CUSTOMERS, MAX_COMMANDS, MAX_NTH, MAX_CODE}
use Rattle.script.specs.declared.limits.TheConstants.{MAX_WAIT, MAX_CALL, MAX_LATE}
use Rattle.script.specs.declared.lines.Meaning.{Meaning}
use Rattle.script.specs.declared.lines.Meaning.TheVariants as line
use Rattle.script.specs.declared.planning.Judging.{Judging}
use Rattle.script.specs.declared.planning.Judging.TheVariants as judging
use Rattle.script.specs.declared.requests.RequestKind.{RequestKind}
use Rattle.script.specs.declared.requests.RequestKind.TheVariants as command
use Rattle.script.specs.declared.scripts.SoFar.{SoFar}
use Rattle.script.proofs.Gathering.{first_more, or_none}

-- an answer of an earlier step is handed on

pub passes_on : {A B : Type 0} (bad : Fault) (first : Result A Word) (next : A → Result B Word) → IsSaid {A = A} first (Err bad)
    → IsSaid {A = B} (and_then first next) (Err bad)
passes_on (fault.Bad w) first next h = rw h refl
passes_on fault.NoMemory first next h = tt

pub answers_along : {B : Type 0} (one other : Result B Word) (answer : Result B Fault) → one ≡ other → IsSaid other answer →
    IsSaid one answer
answers_along {B} one other answer e h = subst (λ (r : Result B Word). IsSaid r answer) (sym e) h

-- a line that is read, and one that is no text

other_than : (a b : ℕ) → (a ≡ b → ⊥) → (a == b) ≡ false
other_than a b h = grind (arith, nat_tests)

pub read_on : (form : Form) (above : Above) (text : List ℕ) → (length text == 0) ≡ false → (get_or text 0 0 ≡ 35 → ⊥) →
    IsUtf8 text
    → line_said form above text ≡ fields_said form above text (fields_of text)
read_on form above text some hash utf8 = rw (some, other_than (get_or text 0 0) 35 hash, is_utf8-from_IsUtf8 text utf8) refl

not_utf8 : (text : List ℕ) (b : Bool) → is_utf8 text ≡ b → (IsUtf8 text → ⊥) → is_utf8 text ≡ false
not_utf8 text true e h = absurd (h (IsUtf8-from_is_utf8 text e))
not_utf8 text false e h = e

pub no_text : (form : Form) (above : Above) (text : List ℕ) → (length text == 0) ≡ false → (get_or text 0 0 ≡ 35 → ⊥) →
    (IsUtf8 text → ⊥)
    → line_said form above text ≡ Err word.Utf8
no_text form above text some hash utf8 = rw (some, other_than (get_or text 0 0) 35 hash, not_utf8 text (is_utf8 text) refl utf8)
    refl

-- what a line that says something says

once : {A : Type 0} (P : Meaning → Type 0) (o : Option A) (meaning : Meaning) → (o ≡ None → P meaning)
    → IfOk (unless_any (when (is_some o) word.Twice ∷ []) (Ok meaning)) P
once P None meaning h = h refl
once P (Some x) meaning h = tt

worded_gives : (P : Meaning → Type 0) (o : Option Word) (answer : Result Meaning Word) → IfOk answer P → IfOk (word_or o answer) P
worded_gives P None answer h = h
worded_gives P (Some w) answer h = tt

-- what holds of each line that may stand below these
pub record Gives (form : Form) (above : Above) (P : Meaning → Type 0) : Type 0 where
  pub skip : P line.Skip
  pub clock : (start step : ℕ) → has_clock form ≡ true → above.clock ≡ None → P (line.Clock start step)
  pub customer : (key : List ℕ) (party : Party) → above.party key ≡ None → P (line.Customer key party)
  pub command : (ask : Asked) → has_commands form ≡ true → above.commands < MAX_COMMANDS → P (line.Command ask)
  pub verdict : (verdict : PlannedVerdict) → has_plans form ≡ true → IsPlannedVerdict verdict →
      verdict_for above.verdicts verdict.num verdict.n ≡ None → P (line.Verdict verdict)
  pub wait : (seconds : ℕ) → has_plans form ≡ true → seconds ≤ MAX_WAIT → above.wait ≡ None → P (line.Wait seconds)
  pub link : (fate : PlannedFate) → has_plans form ≡ true → IsPlannedCall fate → fate_at above.fates fate.call ≡ None →
      P (line.Link fate)

clock_shape : (P : Meaning → Type 0) (above : Above) (a b : Result ℕ Word) (o : Option Word) →
    ((start step : ℕ) → above.clock ≡ None → P (line.Clock start step))
    → IfOk (and_then a (λ start. and_then b (λ step. word_or o (unless_any (when (is_some above.clock) word.Twice ∷ [])
    (Ok (line.Clock start step)))))) P
clock_shape P above (Err w) b o h = tt
clock_shape P above (Ok start) (Err w) o h = tt
clock_shape P above (Ok start) (Ok step) (Some w) h = tt
clock_shape P above (Ok start) (Ok step) None h = once P above.clock (line.Clock start step) (h start step)

customer_shape : (P : Meaning → Type 0) (above : Above) (o : Option Word) (a b n : Result (List ℕ) Word) →
    ((key : List ℕ) (party : Party) → above.party key ≡ None → P (line.Customer key party))
    → IfOk (word_or o (and_then a (λ key. and_then b (λ nif. and_then n
    (λ name. unless_any (when (is_some (above.party key)) word.Twice ∷ [])
    (Ok (line.Customer key (record { nif = nif; name = name })))))))) P
customer_shape P above (Some w) a b n h = tt
customer_shape P above None (Err w) b n h = tt
customer_shape P above None (Ok key) (Err w) n h = tt
customer_shape P above None (Ok key) (Ok nif) (Err w) h = tt
customer_shape P above None (Ok key) (Ok nif) (Ok name) h =
    let party : Party = record { nif = nif; name = name } in once P (above.party key) (line.Customer key party) (h key party)

room : (n : ℕ) → nat_le MAX_COMMANDS n ≡ false → n < MAX_COMMANDS
room n h = grind (arith, nat_tests)

-- in a script with commands, below this many of them
command_shape : (P : Meaning → Type 0) (commands many : Bool) (a b : Result ℕ Word) (r : Result Request Word) →
    ((ask : Asked) → commands ≡ true → many ≡ false → P (line.Command ask))
    → IfOk (unless_any (when (not commands) word.Command ∷ when many word.TooMany ∷ [])
    (and_then a (λ till. and_then b (λ serial. and_then r
    (λ request. Ok (line.Command (record { till = till; serial = serial; request = request }))))))) P
command_shape P false many a b r h = tt
command_shape P true true a b r h = tt
command_shape P true false (Err w) b r h = tt
command_shape P true false (Ok till) (Err w) r h = tt
command_shape P true false (Ok till) (Ok serial) (Err w) h = tt
command_shape P true false (Ok till) (Ok serial) (Ok request) h = h (record { till = till; serial = serial; request = request })
    refl refl

-- a number is in the range that it was read for

ranged : (low high n : ℕ) (whole : Bool) → IfSome (when (whole && nat_le low n && nat_le n high) n) (IsInRange low high)
ranged low high n whole =
    elim (cases_Bool (whole && nat_le low n && nat_le n high)) [
      | inl holds ↦
          let outer = and_parts (whole && nat_le low n) (nat_le n high) holds in
          let inner = and_parts whole (nat_le low n) outer.0 in
          let fits : IsInRange low high n = (leb-true low n inner.1, leb-true n high outer.1) in
          rw holds fits
      | inr fails ↦ rw fails tt
    ]

found : {A : Type 0} (Q : A → Type 0) (o : Option A) (w : Word) → IfSome o Q → IfOk (ok_or o w) Q
found Q None w h = tt
found Q (Some x) w h = h

first_range : (low high : ℕ) (fields : List (List ℕ)) (w : Word) → IfOk (first_field fields (number_in low high) w)
    (IsInRange low high)
first_range low high [] w = tt
first_range low high (field ∷ fields) w =
    let n = digits_value 10 field in
    found (IsInRange low high) (number_in low high field) w (ranged low high n (bytes_eq field (whole_text n)))

late_shape : (a : Result ℕ Word) (o : Option Word) → IfOk a (IsInRange 1 MAX_LATE) →
    IfOk (and_then a (λ calls. word_or o (Ok (Late calls)))) IsPlannedFate
late_shape (Err w) o h = tt
late_shape (Ok calls) (Some w) h = tt
late_shape (Ok calls) None h = h

word_shape : (a : Result Fate Word) (o : Option Word) → IfOk a IsPlannedFate → IfOk (and_then a (λ fate. word_or o (Ok fate)))
    IsPlannedFate
word_shape (Err w) o h = tt
word_shape (Ok fate) (Some w) h = tt
word_shape (Ok fate) None h = h

one_word : (a b c d : Bool) → IfSome (first_of (when a Lost ∷ when b Taken ∷ when c Stale ∷ when d Again ∷ [])) IsPlannedFate
one_word true b c d = tt
one_word false true c d = tt
one_word false false true d = tt
one_word false false false true = tt
one_word false false false false = tt

fate_choice : (b : Bool) (one other : Result Fate Word) → IfOk one IsPlannedFate → IfOk other IsPlannedFate →
    IfOk (if b then one else other) IsPlannedFate
fate_choice true one other h k = h
fate_choice false one other h k = k

fate_fits : (fields : List (List ℕ)) → IfOk (fate_said fields) IsPlannedFate
fate_fits [] = tt
fate_fits (field ∷ fields) =
    let left : Option Word = first_of (when (is_left fields) word.Fields ∷ []) in
    fate_choice (bytes_eq field (codes "late")) (late_said fields) (and_then (ok_or (fate_of field) word.Fate)
    (λ (fate : Fate). word_or left (Ok fate)))
    (late_shape (field_at 0 fields (number_in 1 MAX_LATE) word.Number)
    (first_of (when (is_left (past 1 fields)) word.Fields ∷ [])) (first_range 1 MAX_LATE fields word.Number))
    (word_shape (ok_or (fate_of field) word.Fate) left
    (found IsPlannedFate (fate_of field) word.Fate (one_word (bytes_eq field (codes "lost")) (bytes_eq field (codes "taken"))
    (bytes_eq field (codes "stale")) (bytes_eq field (codes "again")))))

verdict_fits : (judging : Judging) (num : List ℕ) (n code : ℕ) → IsInRange 1 MAX_NTH n → IsInRange 1 MAX_CODE code
    → IsPlannedVerdict (record { num = num; n = n; verdict = verdict_of judging code })
verdict_fits judging.Vet num n code h k = (h, k)
verdict_fits judging.Warn num n code h k = (h, k)

verdict_shape : (P : Meaning → Type 0) (judging : Judging) (above : Above) (a : Result (List ℕ) Word) (b d : Result ℕ Word)
    (o : Option Word)
    → IfOk b (IsInRange 1 MAX_NTH) → IfOk d (IsInRange 1 MAX_CODE)
    → ((verdict : PlannedVerdict) → IsPlannedVerdict verdict → verdict_for above.verdicts verdict.num verdict.n ≡ None →
    P (line.Verdict verdict))
    → IfOk (and_then a (λ num. and_then b (λ n. and_then d (λ code. word_or o
    (unless_any (when (is_some (verdict_for above.verdicts num n)) word.Twice ∷ [])
    (Ok (line.Verdict (record { num = num; n = n; verdict = verdict_of judging code })))))))) P
verdict_shape P judging above (Err w) b d o nth coded h = tt
verdict_shape P judging above (Ok num) (Err w) d o nth coded h = tt
verdict_shape P judging above (Ok num) (Ok n) (Err w) o nth coded h = tt
verdict_shape P judging above (Ok num) (Ok n) (Ok code) (Some w) nth coded h = tt
verdict_shape P judging above (Ok num) (Ok n) (Ok code) None nth coded h =
    let verdict : PlannedVerdict = record { num = num; n = n; verdict = verdict_of judging code } in
    once P (verdict_for above.verdicts num n) (line.Verdict verdict) (h verdict (verdict_fits judging num n code nth coded))

wait_shape : (P : Meaning → Type 0) (above : Above) (a : Result ℕ Word) (o : Option Word) → IfOk a (IsInRange 0 MAX_WAIT)
    → ((seconds : ℕ) → seconds ≤ MAX_WAIT → above.wait ≡ None → P (line.Wait seconds))
    → IfOk (and_then a (λ seconds. word_or o (unless_any (when (is_some above.wait) word.Twice ∷ []) (Ok (line.Wait seconds))))) P
wait_shape P above (Err w) o range h = tt
wait_shape P above (Ok seconds) (Some w) range h = tt
wait_shape P above (Ok seconds) None range h = once P above.wait (line.Wait seconds) (h seconds range.1)

link_shape : (P : Meaning → Type 0) (above : Above) (a : Result ℕ Word) (b : Result Fate Word) → IfOk a (IsInRange 1 MAX_CALL) →
    IfOk b IsPlannedFate
    → ((fate : PlannedFate) → IsPlannedCall fate → fate_at above.fates fate.call ≡ None → P (line.Link fate))
    → IfOk (and_then a (λ call. and_then b (λ fate. unless_any (when (is_some (fate_at above.fates call)) word.Twice ∷ [])
    (Ok (line.Link (record { call = call; fate = fate })))))) P
link_shape P above (Err w) b range fits h = tt
link_shape P above (Ok call) (Err w) range fits h = tt
link_shape P above (Ok call) (Ok fate) range fits h =
    let planned : PlannedFate = record { call = call; fate = fate } in once P (fate_at above.fates call) (line.Link planned)
    (h planned (range, fits))

command_gives : (form : Form) (above : Above) (P : Meaning → Type 0) → Gives form above P →
    (command : RequestKind) (fields : List (List ℕ)) → IfOk (command_said form above command fields) P
command_gives form above P g command fields =
    command_shape P (has_commands form) (nat_le MAX_COMMANDS above.commands) (field_at 0 fields (number_in 1 64) word.Till)
    (field_at 1 fields (number_in 1 4_294_967_295) word.Number)
    (request_said command above.party (past 2 fields)) (λ ask full few. g.command ask full (room above.commands few))

verdict_gives : (form : Form) (above : Above) (P : Meaning → Type 0) → Gives form above P → has_plans form ≡ true →
    (judging : Judging) (fields : List (List ℕ)) → IfOk (verdict_said judging above fields) P
verdict_gives form above P g plans judging fields =
    verdict_shape P judging above (field_at 0 fields (such is_num_serie) word.Num) (field_at 1 fields (number_in 1 MAX_NTH)
    word.Number)
    (field_at 2 fields (number_in 1 MAX_CODE) word.Number) (first_of (when (is_left (past 3 fields)) word.Fields ∷ []))
    (first_range 1 MAX_NTH (past 1 fields) word.Number) (first_range 1 MAX_CODE (past 2 fields) word.Number)
    (λ verdict fits none. g.verdict verdict plans fits none)

choice : (P : Meaning → Type 0) (b : Bool) (one other : Result Meaning Word) → IfOk one P → IfOk other P →
    IfOk (if b then one else other) P
choice P true one other h k = h
choice P false one other h k = k

-- what stands in some forms alone
in_form : (P : Meaning → Type 0) (b : Bool) (one : Result Meaning Word) → (b ≡ true → IfOk one P) →
    IfOk (if b then one else Err word.Verb) P
in_form P true one h = h refl
in_form P false one h = tt

planned_gives : (form : Form) (above : Above) (P : Meaning → Type 0) → Gives form above P → (verb : List ℕ)
    (fields : List (List ℕ)) → has_plans form ≡ true → IfOk (planned_said above verb fields) P
planned_gives form above P g verb fields plans =
    let linked = if bytes_eq verb (codes "link") then link_said above fields else Err word.Verb in
    let waited = if bytes_eq verb (codes "wait") then wait_said above fields else linked in
    let warned = if bytes_eq verb (codes "warn") then verdict_said judging.Warn above fields else waited in
    choice P (bytes_eq verb (codes "vet")) (verdict_said judging.Vet above fields) warned
    (verdict_gives form above P g plans judging.Vet fields)
    (choice P (bytes_eq verb (codes "warn")) (verdict_said judging.Warn above fields) waited
    (verdict_gives form above P g plans judging.Warn fields)
    (choice P (bytes_eq verb (codes "wait")) (wait_said above fields) linked
    (wait_shape P above (field_at 0 fields (number_in 0 MAX_WAIT) word.Number)
    (first_of (when (is_left (past 1 fields)) word.Fields ∷ []))
    (first_range 0 MAX_WAIT fields word.Number) (λ seconds few none. g.wait seconds plans few none))
    (choice P (bytes_eq verb (codes "link")) (link_said above fields) (Err word.Verb)
    (link_shape P above (field_at 0 fields (number_in 1 MAX_CALL) word.Number) (fate_said (past 1 fields))
    (first_range 1 MAX_CALL fields word.Number) (fate_fits (past 1 fields))
    (λ fate fits none. g.link fate plans fits none)) tt)))

form_gives : (form : Form) (above : Above) (P : Meaning → Type 0) → Gives form above P → (text verb : List ℕ)
    (fields : List (List ℕ)) →
    IfOk (form_said form above text verb fields) P
form_gives form above P g text verb fields =
    let cancelled = command_said form above command.Cancel fields in
    let fixed = command_said form above command.Fix fields in
    let sold = command_said form above command.Sale fields in
    let planned = if has_plans form then planned_said above verb fields else Err word.Verb in
    let clocked = clock_said above fields in
    let last = if bytes_eq verb (codes "cancel") then cancelled else planned in
    let third = if bytes_eq verb (codes "fix") then fixed else last in
    let second = if bytes_eq verb (codes "sale") then sold else third in
    let first = if bytes_eq verb (codes "customer") then customer_said above text fields else second in
    choice P (bytes_eq verb (codes "clock")) (if has_clock form then clocked else Err word.Verb) first
    (in_form P (has_clock form) clocked (λ clocks. clock_shape P above (field_at 0 fields (number_in 0 MAX_START) word.Number) (field_at 1 fields (number_in 0 MAX_STEP)
    word.Number)
    (first_of (when (is_left (past 2 fields)) word.Fields ∷ []))
    (λ start step none. g.clock start step clocks none)))
    (choice P (bytes_eq verb (codes "customer")) (customer_said above text fields) second
    (customer_shape P above (first_of (when (nat_le MAX_CUSTOMERS above.customers) word.TooMany ∷ []))
    (field_at 0 fields (such is_key) word.Customer)
    (field_at 1 fields (such is_nif) word.Nif) (name_said text) g.customer)
    (choice P (bytes_eq verb (codes "sale")) sold third (command_gives form above P g command.Sale fields)
    (choice P (bytes_eq verb (codes "fix")) fixed last (command_gives form above P g command.Fix fields)
    (choice P (bytes_eq verb (codes "cancel")) cancelled planned (command_gives form above P g command.Cancel fields)
    (in_form P (has_plans form) (planned_said above verb fields) (planned_gives form above P g verb fields))))))

fields_give : (form : Form) (above : Above) (P : Meaning → Type 0) → Gives form above P → (text : List ℕ)
    (fields : List (List ℕ)) →
    IfOk (fields_said form above text fields) P
fields_give form above P g text [] = tt
fields_give form above P g text (verb ∷ fields) = form_gives form above P g text verb fields

pub line_gives : (form : Form) (above : Above) (P : Meaning → Type 0) → Gives form above P → (text : List ℕ) (meaning : Meaning) →
    line_said form above text ≡ Ok meaning → P meaning
line_gives form above P g text meaning e =
    let fields = fields_said form above text (fields_of text) in
    let utf8 = first_of (when (not (is_utf8 text)) word.Utf8 ∷ []) in
    subst (λ (r : Result Meaning Word). IfOk r P) e
    (choice P (is_skipped text) (Ok line.Skip) (word_or utf8 fields) g.skip
    (worded_gives P utf8 fields (fields_give form above P g text (fields_of text))))

pub said_is_new : (form : Form) (above : Above) (text : List ℕ) (meaning : Meaning) → line_said form above text ≡ Ok meaning →
    IsNew above meaning
said_is_new form above text meaning e =
    line_gives form above (IsNew above) (record {
      skip = tt;
      clock = λ start step clocks none. none;
      customer = λ key party none. none;
      command = λ ask full few. few;
      verdict = λ verdict plans fits none. tt;
      wait = λ seconds plans few none. none;
      link = λ fate plans fits none. tt;
    }) text meaning e

pub said_is_in : (form : Form) (above : Above) (text : List ℕ) (meaning : Meaning) → line_said form above text ≡ Ok meaning →
    IsIn form meaning
said_is_in form above text meaning e =
    line_gives form above (IsIn form) (record {
      skip = tt;
      clock = λ start step clocks none. clocks;
      customer = λ key party none. tt;
      command = λ ask full few. full;
      verdict = λ verdict plans fits none. plans;
      wait = λ seconds plans few none. plans;
      link = λ fate plans fits none. plans;
    }) text meaning e

-- without commands no line asks for anything

no_ask : (form : Form) (above : Above) (text : List ℕ) (meaning : Meaning) → has_commands form ≡ false →
    line_said form above text ≡
    Ok meaning → ask_in meaning ≡ None
no_ask form above text meaning none e =
    line_gives form above (λ (m : Meaning). ask_in m ≡ None) (record {
      skip = refl;
      clock = λ start step clocks first. refl;
      customer = λ key party first. refl;
      command = λ ask full few. absurd (both_ways _ none full);
      verdict = λ verdict plans fits first. refl;
      wait = λ seconds plans few first. refl;
      link = λ fate plans fits first. refl;
    }) text meaning e

skipped : (meaning : Meaning) (meanings : List Meaning) → ask_in meaning ≡ None → filter_map ask_in meanings ≡ [] →
    filter_map ask_in (meaning ∷ meanings) ≡ []
skipped meaning meanings none rest = rw none rest

pub no_asks : (form : Form) (before : List Meaning) (lines : List (List ℕ)) (meanings : List Meaning) →
    has_commands form ≡ false →
    EachSays form before lines meanings
    → filter_map ask_in meanings ≡ []
no_asks form before [] [] none h = refl
no_asks form before [] (m ∷ ms) none h = absurd h
no_asks form before (l ∷ ls) [] none h = absurd h
no_asks form before (l ∷ ls) (m ∷ ms) none h =
    skipped m ms (no_ask form (above_of before) l m none h.0) (no_asks form (before ++ m ∷ []) ls ms none h.1)

-- what is above one line more

abbrev pub with_line : Above → Meaning → Above
with_line above meaning = record {
  clock = option_or above.clock (clock_in meaning);
  commands = above.commands + count_by is_command (meaning ∷ []);
  customers = above.customers + count_by is_customer (meaning ∷ []);
  party = λ key. option_or (above.party key) (party_in key meaning);
  verdicts = above.verdicts ++ filter_map verdict_in (meaning ∷ []);
  wait = option_or above.wait (wait_in meaning);
  fates = above.fates ++ filter_map fate_in (meaning ∷ []);
}

-- the parts of what is above are the same
record IsSame (one other : Above) : Type 0 where
  clock : one.clock ≡ other.clock
  commands : one.commands ≡ other.commands
  customers : one.customers ≡ other.customers
  party : (key : List ℕ) → one.party key ≡ other.party key
  verdicts : one.verdicts ≡ other.verdicts
  wait : one.wait ≡ other.wait
  fates : one.fates ≡ other.fates

same_above : (one other : Above) → IsSame one other → one ≡ other
same_above one other s =
    let party : one.party ≡ other.party = fun_ext s.party in rw (
      s.clock,
      s.commands,
      s.customers,
      party,
      s.verdicts,
      s.wait,
      s.fates,
    ) refl

pub above_more : (before : List Meaning) (meaning : Meaning) →
    above_of (before ++ meaning ∷ []) ≡ with_line (above_of before) meaning
above_more before meaning =
    same_above (above_of (before ++ meaning ∷ [])) (with_line (above_of before) meaning) (record {
      clock = first_more clock_in before meaning;
      commands = sum_by-append (λ (l : Meaning). cond (is_command l) 1 0) before (meaning ∷ []);
      customers = sum_by-append (λ (l : Meaning). cond (is_customer l) 1 0) before (meaning ∷ []);
      party = λ key. first_more (party_in key) before meaning;
      verdicts = filter_map-append verdict_in before (meaning ∷ []);
      wait = first_more wait_in before meaning;
      fates = filter_map-append fate_in before (meaning ∷ []);
    })

-- one line more was read
read_more : (before : List Meaning) (meaning : Meaning) (old new : SoFar) → IsSoFar before old →
    IsSame (known new) (with_line (known old) meaning)
    → new.asks.items ≡ old.asks.items ++ filter_map ask_in (meaning ∷ []) → length new.asks.items ≤ MAX_COMMANDS →
    IsSoFar (before ++ meaning ∷ []) new
read_more before meaning old new r same asks few = record {
  above = same_above (known new) (with_line (known old) meaning) same ∙ ap (λ (above : Above). with_line above meaning) r.above ∙
      sym (above_more before meaning);
  asks = rw (filter_map-append ask_in before (meaning ∷ []), ← r.asks) asks;
  few = few;
}

none_more : (n : ℕ) → n ≡ n + 0
none_more n = omega arith

pub read_skip : (before : List Meaning) (read : SoFar) → IsSoFar before read → IsSoFar (before ++ line.Skip ∷ []) read
read_skip before read r = read_more before line.Skip read read r (record {
  clock = or_none read.clock;
  commands = none_more (length read.asks.items);
  customers = none_more (btree_map_len read.customers.by_key);
  party = λ key. or_none (party_of read.customers key);
  verdicts = sym (append-nil read.verdicts);
  wait = or_none read.wait;
  fates = sym (append-nil read.fates);
}) (sym (append-nil _)) r.few

first_one : {A : Type 0} (o : Option A) (x : A) → o ≡ None → Some x ≡ option_or o (Some x)
first_one {A} o x none = subst (λ (p : Option A). Some x ≡ option_or p (Some x)) (sym none) refl

pub read_clock : (before : List Meaning) (read : SoFar) (start step : ℕ) → IsSoFar before read → read.clock ≡ None
    → IsSoFar (before ++ line.Clock start step ∷ []) (record read { clock = Some (start, step) })
read_clock before read start step r none =
    let now : ℕ × ℕ = (start, step) in
    read_more before (line.Clock start step) read (record read { clock = Some now }) r (record {
      clock = first_one read.clock now none;
      commands = none_more (length read.asks.items);
      customers = none_more (btree_map_len read.customers.by_key);
      party = λ key. or_none (party_of read.customers key);
      verdicts = sym (append-nil read.verdicts);
      wait = or_none read.wait;
      fates = sym (append-nil read.fates);
    }) (sym (append-nil _)) r.few

party_new : (key other : List ℕ) (party : Party) (of : List ℕ → Option Party) (b : Bool) → bytes_eq key other ≡ b → of key ≡ None
    → (if b then Some party else of other) ≡ option_or (of other) (when b party)
party_new key other party of true e none =
    let same : key ≡ other = (bytes_eq-Decides key other).0 e in
    subst (λ (o : Option Party). Some party ≡ option_or o (Some party)) (sym none ∙ ap of same) refl
party_new key other party of false e none = or_none (of other)

pub read_customer : (before : List Meaning) (read : SoFar) (customers : Customers) (key : List ℕ) (party : Party) →
    IsSoFar before read → party_of read.customers key ≡ None
    → btree_map_len customers.by_key ≡ btree_map_len read.customers.by_key + 1
    → ((other : List ℕ) → party_of customers other ≡ (if bytes_eq key other then Some party else party_of read.customers other))
    → IsSoFar (before ++ line.Customer key party ∷ []) (record read { customers = customers })
read_customer before read customers key party r none count found =
    read_more before (line.Customer key party) read (record read { customers = customers }) r
    (record {
      clock = or_none read.clock;
      commands = none_more (length read.asks.items);
      customers = count;
      party = λ other. found other ∙ party_new key other party (party_of read.customers) (bytes_eq key other) refl none;
      verdicts = sym (append-nil read.verdicts);
      wait = or_none read.wait;
      fates = sym (append-nil read.fates);
    })
    (sym (append-nil _)) r.few

pub read_command : (before : List Meaning) (read : SoFar) (ask : Asked) (asks : Vec Asked Global) → IsSoFar before read →
    length read.asks.items < MAX_COMMANDS → asks.items ≡ read.asks.items ++ ask ∷ []
    → IsSoFar (before ++ line.Command ask ∷ []) (record read { asks = asks })
read_command before read ask asks r less e =
    let more = ap length e ∙ length-append read.asks.items (ask ∷ []) in
    read_more before (line.Command ask) read (record read { asks = asks }) r (record {
      clock = or_none read.clock;
      commands = more;
      customers = none_more (btree_map_len read.customers.by_key);
      party = λ key. or_none (party_of read.customers key);
      verdicts = sym (append-nil read.verdicts);
      wait = or_none read.wait;
      fates = sym (append-nil read.fates);
    }) e (omega arith)

pub read_verdict : (before : List Meaning) (read : SoFar) (verdict : PlannedVerdict) (verdicts : List PlannedVerdict) →
    IsSoFar before read → verdicts ≡ read.verdicts ++ verdict ∷ []
    → IsSoFar (before ++ line.Verdict verdict ∷ []) (record read { verdicts = verdicts })
read_verdict before read verdict verdicts r e =
    read_more before (line.Verdict verdict) read (record read { verdicts = verdicts }) r (record {
      clock = or_none read.clock;
      commands = none_more (length read.asks.items);
      customers = none_more (btree_map_len read.customers.by_key);
      party = λ key. or_none (party_of read.customers key);
      verdicts = e;
      wait = or_none read.wait;
      fates = sym (append-nil read.fates);
    }) (sym (append-nil _)) r.few

pub read_wait : (before : List Meaning) (read : SoFar) (seconds : ℕ) → IsSoFar before read → read.wait ≡ None
    → IsSoFar (before ++ line.Wait seconds ∷ []) (record read { wait = Some seconds })
read_wait before read seconds r none =
    read_more before (line.Wait seconds) read (record read { wait = Some seconds }) r (record {
      clock = or_none read.clock;
      commands = none_more (length read.asks.items);
      customers = none_more (btree_map_len read.customers.by_key);
      party = λ key. or_none (party_of read.customers key);
      verdicts = sym (append-nil read.verdicts);
      wait = first_one read.wait seconds none;
      fates = sym (append-nil read.fates);
    }) (sym (append-nil _)) r.few

pub read_link : (before : List Meaning) (read : SoFar) (fate : PlannedFate) (fates : List PlannedFate) → IsSoFar before read →
    fates ≡ read.fates ++ fate ∷ []
    → IsSoFar (before ++ line.Link fate ∷ []) (record read { fates = fates })
read_link before read fate fates r e =
    read_more before (line.Link fate) read (record read { fates = fates }) r (record {
      clock = or_none read.clock;
      commands = none_more (length read.asks.items);
      customers = none_more (btree_map_len read.customers.by_key);
      party = λ key. or_none (party_of read.customers key);
      verdicts = sym (append-nil read.verdicts);
      wait = or_none read.wait;
      fates = e;
    }) (sym (append-nil _)) r.few

-- all lines, those that were read and those to come

each_more : (form : Form) (before : List Meaning) (lines : List (List ℕ)) (meanings : List Meaning) (text : List ℕ)
    (meaning : Meaning)
    → EachSays form before lines meanings → said form (before ++ meanings) text ≡ Ok meaning →
    EachSays form before (lines ++ text ∷ []) (meanings ++ meaning ∷ [])
each_more form before [] [] text meaning h e = (
  subst (λ (b : List Meaning). said form b text ≡ Ok meaning) (append-nil before) e,
  tt,
)
each_more form before [] (x ∷ xs) text meaning h e = absurd h
each_more form before (l ∷ ls) [] text meaning h e = absurd h
each_more form before (l ∷ ls) (x ∷ xs) text meaning h e = (
  h.0,
  each_more form (before ++ x ∷ []) ls xs text meaning h.1 (subst (λ (b : List Meaning). said form b text ≡ Ok meaning)
      (sym (append_assoc before (x ∷ []) xs)) e),
)

abbrev pub to_come : List (List ℕ) → List (List ℕ)
to_come lines = map strip_carriage_return lines

-- all lines are those that were read and those to come, and as many were numbered as were read
pub record IsPartway (form : Form) (all front left : List (List ℕ)) (meanings : List Meaning) (number : ℕ) (read : SoFar) : Type 0
  where
    pub split : all ≡ front ++ to_come left
    pub each : EachSays form [] front meanings
    pub numbered : number ≡ length front
    pub good : IsSoFar meanings read

said_here : (form : Form) (meanings : List Meaning) (read : SoFar) (line text : List ℕ) (answer : Result Meaning Word)
    → IsSoFar meanings read → line ≡ strip_carriage_return text → line_said form (known read) line ≡ answer →
    said form meanings (strip_carriage_return text) ≡ answer
said_here form meanings read line text answer r e h =
    subst (λ (above : Above). line_said form above (strip_carriage_return text) ≡ answer) r.above
    (subst (λ (l : List ℕ). line_said form (known read) l ≡ answer) e h)

onward : (all front left after : List (List ℕ)) (text : List ℕ) → all ≡ front ++ to_come left → left ≡ text ∷ after
    → all ≡ front ++ strip_carriage_return text ∷ to_come after
onward all front left after text split e = split ∙ ap (λ (ls : List (List ℕ)). front ++ to_come ls) e

pub next_line : (form : Form) (all front left after : List (List ℕ)) (meanings : List Meaning) (line text : List ℕ)
    (meaning : Meaning)
    (number : ℕ) (read new : SoFar)
    → IsPartway form all front left meanings number read → left ≡ text ∷ after → line ≡ strip_carriage_return text
    → line_said form (known read) line ≡ Ok meaning → IsSoFar (meanings ++ meaning ∷ []) new
    → IsPartway form all (front ++ strip_carriage_return text ∷ []) after (meanings ++ meaning ∷ []) (number + 1) new
next_line form all front left after meanings line text meaning number read new h e cut is good = record {
  split = onward all front left after text h.split e ∙ sym (append_assoc front (strip_carriage_return text ∷ []) (to_come after));
  each = each_more form [] front meanings (strip_carriage_return text) meaning h.each (said_here form meanings read line text
      (Ok meaning) h.good cut is);
  numbered = ap (λ k. k + 1) h.numbered ∙ sym (length-append front (strip_carriage_return text ∷ []));
  good = good;
}

pub first_bad : (form : Form) (all front left after : List (List ℕ)) (meanings : List Meaning) (line text : List ℕ) (w : Word)
    (number : ℕ) (read : SoFar)
    → IsPartway form all front left meanings number read → left ≡ text ∷ after → line ≡ strip_carriage_return text
    → line_said form (known read) line ≡ Err w → IsFirstBad form all (number + 1) w
first_bad form all front left after meanings line text w number read h e cut is = record {
  before = front;
  line = strip_carriage_return text;
  after = to_come after;
  there = onward all front left after text h.split e;
  meanings = meanings;
  each = h.each;
  wrong = said_here form meanings read line text (Err w) h.good cut is;
  place = ap (λ k. k + 1) h.numbered;
}

pub all_read : (all front left : List (List ℕ)) → all ≡ front ++ to_come left → left ≡ [] → front ≡ all
all_read all front left split e = sym (split ∙ ap (λ (ls : List (List ℕ)). front ++ to_come ls) e ∙ append-nil front)

-- What is known of the lines above goes by the customers' entries alone.
pub same_known : {A E : Type 0} (r : Result A E) (read : SoFar) (customers : Customers) →
    customers.by_key.entries ≡ read.customers.by_key.entries → OnErr r (known (record {
      clock = read.clock;
      customers = customers;
      asks = read.asks;
      verdicts = read.verdicts;
      wait = read.wait;
      fates = read.fates;
    }) ≡ known read)
same_known (Ok _) read customers h = tt
same_known (Err _) read customers h = same_above _ (known read) (record {
  clock = refl;
  commands = refl;
  customers = ap length h;
  party = λ key. rw h refl;
  verdicts = refl;
  wait = refl;
  fates = refl;
})
