-- What a line of a script says, after the lines before it. The grammar is this project's own.
use Rattle.std.specs.Prelude.{ℕ, List, [], ◌∷◌, length, map, codes, bytes_eq, count_by, Bool, true, false, not, ◌||◌, ◌==◌}
use Rattle.std.specs.Prelude.{nat_le, slice_index, if◌then◌else◌, is_some, filter_map, Option, Some, None, Result, Ok, Err}
use Rattle.std.specs.Option.{ok_or}
use Rattle.std.specs.Str.{is_utf8}
use Rattle.agency_rules.specs.Judging.{verdict_for}
use Rattle.agency_rules.specs.Plans.{fate_at}
use Rattle.agency_rules.specs.declared.plans.Fate.{Fate}
use Rattle.agency_rules.specs.declared.plans.Fate.TheVariants.{Late}
use Rattle.agency_rules.specs.declared.plans.PlannedFate.{PlannedFate}
use Rattle.agency_rules.specs.declared.plans.PlannedVerdict.{PlannedVerdict}
use Rattle.agency_rules.specs.declared.plans.Verdict.{Verdict}
use Rattle.agency_rules.specs.declared.plans.Verdict.TheVariants.{Vet, Warn}
use Rattle.invoice_kinds.specs.declared.kind.Kind.{Kind}
use Rattle.parties.specs.declared.name.Party.{Party}
use Rattle.record_fields.specs.Picks.{first_of, when}
use Rattle.record_fields.specs.declared.drafts.Draft.{Draft}
use Rattle.series.specs.Numbers.{is_series, is_num_serie}
use Rattle.shop_core.specs.Answer.Requests.{Asked}
use Rattle.shop_core.specs.declared.answer.requests.Request.{Request}
use Rattle.shop_core.specs.declared.answer.requests.Request.TheVariants.{Sale, Fix, Cancel}
use Rattle.shop_core.specs.declared.words.Word.{Word}
use Rattle.shop_core.specs.declared.words.Word.TheVariants as word
use Rattle.script.specs.Fields.{fields_of, behind_third_blank, and_then, unless_any, such, past, field_at, ends_at}
use Rattle.script.specs.Forms.{has_clock, has_commands, has_plans}
use Rattle.script.specs.Options.{draft_said}
use Rattle.script.specs.Numbers.{number_in}
use Rattle.script.specs.Readings.{kind_of, fate_of, is_key, is_nif, is_name}
use Rattle.script.specs.declared.forms.Form.{Form}
use Rattle.script.specs.declared.planning.Judging.{Judging}
use Rattle.script.specs.declared.planning.Judging.TheVariants as judging
use Rattle.script.specs.declared.requests.RequestKind.{RequestKind}
use Rattle.script.specs.declared.requests.RequestKind.TheVariants as command
use Rattle.script.specs.declared.limits.TheConstants.{MAX_START, MAX_STEP, MAX_CUSTOMERS, MAX_COMMANDS, MAX_NTH, MAX_CODE}
use Rattle.script.specs.declared.limits.TheConstants.{MAX_WAIT, MAX_CALL, MAX_LATE}
use Rattle.script.specs.declared.lines.Meaning.{Meaning}
use Rattle.script.specs.declared.lines.Meaning.TheVariants as line
use Rattle.record_codec.specs.declared.entry.TheConstants.{LAST_TILL}

abbrev pub clock_in : Meaning → Option (ℕ × ℕ)
clock_in (line.Clock start step) = Some (start, step)
clock_in other = None

abbrev pub ask_in : Meaning → Option Asked
ask_in (line.Command ask) = Some ask
ask_in other = None

-- the customer with this key
abbrev pub party_in : List ℕ → Meaning → Option Party
party_in key (line.Customer own party) = when (bytes_eq own key) party
party_in key other = None

abbrev pub verdict_in : Meaning → Option PlannedVerdict
verdict_in (line.Verdict verdict) = Some verdict
verdict_in other = None

abbrev pub wait_in : Meaning → Option ℕ
wait_in (line.Wait seconds) = Some seconds
wait_in other = None

abbrev pub fate_in : Meaning → Option PlannedFate
fate_in (line.Link fate) = Some fate
fate_in other = None

abbrev pub is_command : Meaning → Bool
is_command said = is_some (ask_in said)

abbrev pub is_customer : Meaning → Bool
is_customer (line.Customer key party) = true
is_customer other = false

-- what a line looks at of those above: a clock, how many commands and customers, the customer with a key, the verdicts, a
-- pause, and the fates
pub record Above : Type 0 where
  pub clock : Option (ℕ × ℕ)
  pub commands : ℕ
  pub customers : ℕ
  pub party : List ℕ → Option Party
  pub verdicts : List PlannedVerdict
  pub wait : Option ℕ
  pub fates : List PlannedFate

abbrev pub above_of : List Meaning → Above
above_of before = record {
  clock = first_of (map clock_in before);
  commands = count_by is_command before;
  customers = count_by is_customer before;
  party = λ key. first_of (map (party_in key) before);
  verdicts = filter_map verdict_in before;
  wait = first_of (map wait_in before);
  fates = filter_map fate_in before;
}

-- `clock START STEP`, after its first field
abbrev pub clock_said : Above → List (List ℕ) → Result Meaning Word
clock_said above fields =
    and_then (field_at 0 fields (number_in 0 MAX_START) word.Number) (λ (start : ℕ).
    and_then (field_at 1 fields (number_in 0 MAX_STEP) word.Number) (λ (step : ℕ).
    ends_at 2 fields (unless_any (when (is_some above.clock) word.Twice ∷ []) (Ok (line.Clock start step)))))

-- the name of a party is all that stands after the third blank of its line
unfoldable pub name_said : List ℕ → Result (List ℕ) Word
name_said text =
    and_then (ok_or (behind_third_blank text) word.Fields) (λ (name : List ℕ). ok_or (such is_name name) word.Name)

-- `customer KEY NIF NAME`, by the text of its line and the fields after its first
abbrev pub customer_said : Above → List ℕ → List (List ℕ) → Result Meaning Word
customer_said above text fields =
    unless_any (when (nat_le MAX_CUSTOMERS above.customers) word.TooMany ∷ []) (
    and_then (field_at 0 fields (such is_key) word.Customer) (λ (key : List ℕ).
    and_then (field_at 1 fields (such is_nif) word.Nif) (λ (nif : List ℕ).
    and_then (name_said text) (λ (name : List ℕ).
    unless_any (when (is_some (above.party key)) word.Twice ∷ []) (Ok (line.Customer key (record { nif = nif; name = name })))))))

-- `SERIES KIND OPTION.. LINE..`
abbrev pub sale_said : (List ℕ → Option Party) → List (List ℕ) → Result Request Word
sale_said party_of fields =
    and_then (field_at 0 fields (such is_series) word.Series) (λ (series : List ℕ).
    and_then (field_at 1 fields kind_of word.Kind) (λ (kind : Kind).
    and_then (draft_said party_of kind (past 2 fields)) (λ (draft : Draft). Ok (Sale series draft))))

-- `NUM KIND OPTION.. LINE..`
abbrev pub fix_said : (List ℕ → Option Party) → List (List ℕ) → Result Request Word
fix_said party_of fields =
    and_then (field_at 0 fields (such is_num_serie) word.Num) (λ (num : List ℕ).
    and_then (field_at 1 fields kind_of word.Kind) (λ (kind : Kind).
    and_then (draft_said party_of kind (past 2 fields)) (λ (draft : Draft). Ok (Fix num draft))))

-- `NUM`
abbrev pub cancel_said : List (List ℕ) → Result Request Word
cancel_said fields =
    and_then (field_at 0 fields (such is_num_serie) word.Num) (λ (num : List ℕ). ends_at 1 fields (Ok (Cancel num)))

-- what a command asks for
abbrev pub request_said : RequestKind → (List ℕ → Option Party) → List (List ℕ) → Result Request Word
request_said command.Sale party_of fields = sale_said party_of fields
request_said command.Fix party_of fields = fix_said party_of fields
request_said command.Cancel party_of fields = cancel_said fields

-- a command, `TILL SERIAL` and then what it asks for
abbrev pub command_said : Form → Above → RequestKind → List (List ℕ) → Result Meaning Word
command_said form above command fields =
    unless_any (when (not (has_commands form)) word.Command ∷ when (nat_le MAX_COMMANDS above.commands) word.TooMany ∷ []) (
    and_then (field_at 0 fields (number_in 1 LAST_TILL) word.Till) (λ (till : ℕ).
    and_then (field_at 1 fields (number_in 1 4_294_967_295) word.Number) (λ (serial : ℕ).
    and_then (request_said command above.party (past 2 fields)) (λ (request : Request).
    Ok (line.Command (record { till = till; serial = serial; request = request }))))))

-- the verdict of this sort with its code
abbrev pub verdict_of : Judging → ℕ → Verdict
verdict_of judging.Vet code = Vet code
verdict_of judging.Warn code = Warn code

-- `vet NUM N CODE` or `warn NUM N CODE`: the verdict on the N-th record of this number that reaches the agency
abbrev pub verdict_said : Judging → Above → List (List ℕ) → Result Meaning Word
verdict_said judging above fields =
    and_then (field_at 0 fields (such is_num_serie) word.Num) (λ (num : List ℕ).
    and_then (field_at 1 fields (number_in 1 MAX_NTH) word.Number) (λ (n : ℕ).
    and_then (field_at 2 fields (number_in 1 MAX_CODE) word.Number) (λ (code : ℕ).
    ends_at 3 fields (unless_any (when (is_some (verdict_for above.verdicts num n)) word.Twice ∷ []) (
    Ok (line.Verdict (record { num = num; n = n; verdict = verdict_of judging code })))))))

-- `wait SECONDS`: the pause that the agency asks for after each answer
abbrev pub wait_said : Above → List (List ℕ) → Result Meaning Word
wait_said above fields =
    and_then (field_at 0 fields (number_in 0 MAX_WAIT) word.Number) (λ (seconds : ℕ).
    ends_at 1 fields (unless_any (when (is_some above.wait) word.Twice ∷ []) (Ok (line.Wait seconds))))

-- `late D`, after its word: D calls later
abbrev pub late_said : List (List ℕ) → Result Fate Word
late_said fields = and_then (field_at 0 fields (number_in 1 MAX_LATE) word.Number)
    (λ (calls : ℕ). ends_at 1 fields (Ok (Late calls)))

-- `lost`, `taken`, `stale`, `again` or `late D`, and nothing after it
abbrev pub fate_said : List (List ℕ) → Result Fate Word
fate_said [] = Err word.Fields
fate_said (field ∷ fields) =
    if bytes_eq field (codes "late") then late_said fields
    else and_then (ok_or (fate_of field) word.Fate) (λ (fate : Fate). ends_at 0 fields (Ok fate))

-- `link CALL FATE`: what befalls the call of this number
abbrev pub link_said : Above → List (List ℕ) → Result Meaning Word
link_said above fields =
    and_then (field_at 0 fields (number_in 1 MAX_CALL) word.Number) (λ (call : ℕ).
    and_then (fate_said (past 1 fields)) (λ (fate : Fate).
    unless_any (when (is_some (fate_at above.fates call)) word.Twice ∷ [])
    (Ok (line.Link (record { call = call; fate = fate })))))

-- a form that plans what the practice agency does
abbrev pub planned_said : Above → List ℕ → List (List ℕ) → Result Meaning Word
planned_said above verb fields =
    if bytes_eq verb (codes "vet") then verdict_said judging.Vet above fields
    else if bytes_eq verb (codes "warn") then verdict_said judging.Warn above fields
    else if bytes_eq verb (codes "wait") then wait_said above fields
    else if bytes_eq verb (codes "link") then link_said above fields
    else Err word.Verb

-- the form that a line's first field begins
abbrev pub form_said : Form → Above → List ℕ → List ℕ → List (List ℕ) → Result Meaning Word
form_said form above text verb fields =
    if bytes_eq verb (codes "clock") then (if has_clock form then clock_said above fields else Err word.Verb)
    else if bytes_eq verb (codes "customer") then customer_said above text fields
    else if bytes_eq verb (codes "sale") then command_said form above command.Sale fields
    else if bytes_eq verb (codes "fix") then command_said form above command.Fix fields
    else if bytes_eq verb (codes "cancel") then command_said form above command.Cancel fields
    else if has_plans form then planned_said above verb fields
    else Err word.Verb

-- what a line of this text and these fields says
abbrev pub fields_said : Form → Above → List ℕ → List (List ℕ) → Result Meaning Word
fields_said form above text [] = Err word.Verb
fields_said form above text (verb ∷ fields) = form_said form above text verb fields

-- an empty line and one that begins with # say nothing
abbrev pub is_skipped : List ℕ → Bool
is_skipped text = (length text == 0) || (slice_index text 0 == 35)

-- what a line says below these
abbrev pub line_said : Form → Above → List ℕ → Result Meaning Word
line_said form above text =
    if is_skipped text then Ok line.Skip
    else unless_any (when (not (is_utf8 text)) word.Utf8 ∷ []) (fields_said form above text (fields_of text))

-- what a line says after the lines before it
abbrev pub said : Form → List Meaning → List ℕ → Result Meaning Word
said form before text = line_said form (above_of before) text
