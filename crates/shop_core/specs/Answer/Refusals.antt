-- Why an ask is refused at a history and a reading of the clock. The refusals and their order are this project's own.
use Rattle.std.specs.Prelude.{ℕ, List, [], ◌∷◌, length, Option, Some, None, option_map, ◌&&◌, not, nat_lt}
use Rattle.std.specs.Prelude.{nat_le, bytes_eq, position, if◌then◌else◌, Bool}
use Rattle.std.specs.List.{position_from}
use Rattle.series.specs.declared.numbers.InvoiceId.{InvoiceId}
use Rattle.invoice_kinds.specs.Kinds.{is_f3}
use Rattle.tax_lines.specs.Breakdown.{is_other}
use Rattle.record_fields.specs.Picks.{first_of}
use Rattle.record_fields.specs.Checks.{draft_fault}
use Rattle.record_fields.specs.declared.drafts.Draft.{Draft}
use Rattle.record_fields.specs.declared.records.Sealed.{Sealed}
use Rattle.record_fields.specs.declared.versions.Version.{Version}
use Rattle.record_fields.specs.declared.versions.Version.TheVariants.{One, Two}
use Rattle.record_codec.specs.declared.entry.Entry.{Entry}
use Rattle.shop_core.specs.Answer.Requests.{Asked}
use Rattle.shop_core.specs.History.{recs, last_serial}
use Rattle.shop_core.specs.Standing.{cancelled_at, is_known, is_simplified_held}
use Rattle.shop_core.specs.Answer.Making.{made_sealed}
use Rattle.stamps.specs.declared.stamp.TheConstants.{CLOCK_FROM, CLOCK_TO}
use Rattle.shop_core.specs.declared.limits.TheConstants.{MAX_RECORDS}
use Rattle.shop_core.specs.declared.answer.requests.Request.{Request}
use Rattle.shop_core.specs.declared.answer.requests.Request.TheVariants.{Sale, Fix, Cancel}
use Rattle.shop_core.specs.declared.answer.refusals.Refusal.{Refusal}
use Rattle.shop_core.specs.declared.answer.refusals.Refusal.TheVariants.{Passed, BadDraft, OldFile, Unknown, Cancelled}
use Rattle.shop_core.specs.declared.answer.refusals.Refusal.TheVariants.{RefNotSimplified, ChainFull, ClockRange, HuellaTwice}

-- nothing is refused where the test holds
abbrev pub unless : Bool → Refusal → Option Refusal
unless holds why = if holds then None else Some why

-- the till has an entry with a greater serial
abbrev pub passed : List Entry → ℕ → ℕ → Option Refusal
passed entries till serial = let last = last_serial entries till in if nat_lt serial last then Some (Passed last) else None

-- the draft of a sale or a fix is none
abbrev pub bad_draft : Request → Option Refusal
bad_draft (Sale series draft) = option_map BadDraft (draft_fault draft)
bad_draft (Fix num draft) = option_map BadDraft (draft_fault draft)
bad_draft (Cancel num) = None

-- the first line of a sale or a fix, from 0, that has another tax than IVA: files of version One have lines of IVA alone
abbrev pub old_file : Version → Request → Option Refusal
old_file One (Sale series draft) = option_map OldFile (position is_other draft.lines)
old_file One (Fix num draft) = option_map OldFile (position is_other draft.lines)
old_file One (Cancel num) = None
old_file Two request = None

-- a fix or a cancel of a number that no alta of the chain has
abbrev pub unknown : List Entry → Request → Option Refusal
unknown entries (Sale series draft) = None
unknown entries (Fix num draft) = unless (is_known entries num) Unknown
unknown entries (Cancel num) = unless (is_known entries num) Unknown

-- the invoice is cancelled
abbrev pub cancelled : List Entry → Request → Option Refusal
cancelled entries (Sale series draft) = None
cancelled entries (Fix num draft) = option_map Cancelled (cancelled_at entries num)
cancelled entries (Cancel num) = option_map Cancelled (cancelled_at entries num)

-- the first reference of an F3, from 0, that is no held simplified invoice of the chain
abbrev pub bad_ref_in : List Entry → Draft → Option Refusal
bad_ref_in entries draft =
    if is_f3 draft.kind then option_map RefNotSimplified
    (position_from (λ (id : InvoiceId). not (is_simplified_held entries id)) 0 draft.refs) else None

abbrev pub bad_ref : List Entry → Request → Option Refusal
bad_ref entries (Sale series draft) = bad_ref_in entries draft
bad_ref entries (Fix num draft) = bad_ref_in entries draft
bad_ref entries (Cancel num) = None

abbrev pub full : List Entry → Option Refusal
full entries = unless (nat_lt (length (recs entries)) MAX_RECORDS) ChainFull

-- the seconds at which a record may be made
abbrev pub in_range : ℕ → Bool
in_range seconds = nat_le CLOCK_FROM seconds && nat_le seconds CLOCK_TO

abbrev pub out_of_range : ℕ → Option Refusal
out_of_range seconds = unless (in_range seconds) (ClockRange seconds)

-- the record's Huella stands in the chain already
abbrev pub twice : List Entry → Sealed → Option Refusal
twice entries made = option_map HuellaTwice (position_from (λ (s : Sealed). bytes_eq s.huella made.huella) 1 (recs entries))

-- the first refusal that can be seen before the record is made
abbrev pub early_refusal : Version → List Entry → Asked → ℕ → Option Refusal
early_refusal version entries ask seconds = first_of (
    passed entries ask.till ask.serial
    ∷ bad_draft ask.request
    ∷ old_file version ask.request
    ∷ unknown entries ask.request
    ∷ cancelled entries ask.request
    ∷ bad_ref entries ask.request
    ∷ full entries
    ∷ out_of_range seconds
    ∷ [])

-- the first refusal that holds
abbrev pub refusal : Version → List ℕ → List Entry → Asked → ℕ → Option Refusal
refusal version issuer entries ask seconds = first_of (
    early_refusal version entries ask seconds
    ∷ twice entries (made_sealed issuer entries ask.request seconds)
    ∷ [])
