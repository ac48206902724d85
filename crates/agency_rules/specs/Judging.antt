-- The agency's line for a record, from the records that it has processed before it. The table of causes is this project's own.
use Rattle.std.specs.Prelude.{ℕ, ◌+◌, List, [], ◌∷◌, filter, find, length, Option, Some, None, option_map, Bool, true, false, not}
use Rattle.std.specs.Prelude.{◌&&◌, ◌==◌, bytes_eq, if◌then◌else◌, unwrap_or}
use Rattle.std.specs.Option.{option_map_or}
use Rattle.series.specs.declared.numbers.InvoiceId.{InvoiceId}
use Rattle.record_fields.specs.Picks.{first_of, last_of, when}
use Rattle.record_fields.specs.Records.{id_of, num_of, is_alta, is_anulacion, is_sale}
use Rattle.record_fields.specs.declared.lines.Line.{Line}
use Rattle.record_fields.specs.declared.lines.Line.TheVariants.{Correcto, ConErrores, Incorrecto}
use Rattle.record_fields.specs.declared.lines.Cause.TheVariants as cause
use Rattle.record_fields.specs.declared.records.Previo.{Previo}
use Rattle.record_fields.specs.declared.records.Previo.TheVariants as previo
use Rattle.record_fields.specs.declared.records.Record.{Record}
use Rattle.record_fields.specs.declared.records.Record.TheVariants as record_of
use Rattle.record_fields.specs.declared.records.Sealed.{Sealed}
use Rattle.agency_rules.specs.declared.judging.Past.{Past}
use Rattle.agency_rules.specs.declared.plans.PlannedVerdict.{PlannedVerdict}
use Rattle.agency_rules.specs.declared.plans.Verdict.{Verdict}
use Rattle.agency_rules.specs.declared.plans.Verdict.TheVariants.{Vet, Warn}

-- invoices are the same where number and day are
abbrev pub same_id : InvoiceId → InvoiceId → Bool
same_id a b = bytes_eq a.num b.num && (a.day == b.day)

abbrev pub is_accepted : Line → Bool
is_accepted Correcto = true
is_accepted (ConErrores code) = true
is_accepted (Incorrecto why) = false

-- the pairs of one invoice, in order
abbrev pub of_id : List (Sealed × Line) → InvoiceId → List (Sealed × Line)
of_id processed id = filter (λ (p : Sealed × Line). same_id (id_of p.0.body) id) processed

-- the last one that is accepted
abbrev pub last_accepted : List (Sealed × Line) → InvoiceId → Option (Sealed × Line)
last_accepted processed id = last_of (filter (λ (p : Sealed × Line). is_accepted p.1) (of_id processed id))

-- the past of an invoice: how many of its records there are, and whether the last accepted one is an alta or an anulación
abbrev pub past_of : List (Sealed × Line) → InvoiceId → Past
past_of processed id = record {
  count = length (of_id processed id);
  held = option_map_or (λ (p : Sealed × Line). is_alta p.0.body) (last_accepted processed id) false;
  gone = option_map_or (λ (p : Sealed × Line). is_anulacion p.0.body) (last_accepted processed id) false;
}

-- the past of an invoice after one more of its records and its line
abbrev pub past_after : Past → Record → Line → Past
past_after past body line = record {
  count = past.count + 1;
  held = if is_accepted line then is_alta body else past.held;
  gone = if is_accepted line then is_anulacion body else past.gone;
}

-- the verdict on the n-th record of a number, where one is planned
abbrev pub verdict_for : List PlannedVerdict → List ℕ → ℕ → Option Verdict
verdict_for verdicts num n =
    option_map (λ (v : PlannedVerdict). v.verdict) (find (λ (v : PlannedVerdict). bytes_eq v.num num && (v.n == n)) verdicts)

abbrev pub vetted : Option Verdict → Option Line
vetted (Some (Vet code)) = Some (Incorrecto (cause.Vet code))
vetted (Some (Warn code)) = None
vetted None = None

abbrev pub warned : Option Verdict → Option Line
warned (Some (Vet code)) = None
warned (Some (Warn code)) = Some (ConErrores code)
warned None = None

abbrev pub is_x : Previo → Bool
is_x previo.N = false
is_x previo.S = false
is_x previo.X = true

-- an alta with Subsanacion, and RechazoPrevio X
abbrev pub mends_unheld : Record → Bool
mends_unheld (record_of.Alta a) = a.subsanacion && is_x a.rechazo
mends_unheld (record_of.Anulacion a) = false

-- an alta with Subsanacion, and RechazoPrevio N or S
abbrev pub mends_held : Record → Bool
mends_held (record_of.Alta a) = a.subsanacion && not (is_x a.rechazo)
mends_held (record_of.Anulacion a) = false

-- an anulación with SinRegistroPrevio
abbrev pub cancels_unheld : Record → Bool
cancels_unheld (record_of.Alta a) = false
cancels_unheld (record_of.Anulacion a) = a.sin_registro

-- an anulación without it
abbrev pub cancels_held : Record → Bool
cancels_held (record_of.Alta a) = false
cancels_held (record_of.Anulacion a) = not a.sin_registro

-- the line: the first row that holds
abbrev pub judge : Past → Option Verdict → Record → Line
judge past verdict body = unwrap_or (first_of (
    vetted verdict
    ∷ when past.gone (Incorrecto cause.Gone)
    ∷ when (is_sale body && past.held) (Incorrecto cause.Held)
    ∷ when (mends_unheld body && past.held) (Incorrecto cause.Held)
    ∷ when (mends_held body && not past.held) (Incorrecto cause.NotHeld)
    ∷ when (cancels_unheld body && past.held) (Incorrecto cause.Held)
    ∷ when (cancels_held body && not past.held) (Incorrecto cause.NotHeld)
    ∷ warned verdict
    ∷ [])) Correcto

-- the line of a record after these pairs
abbrev pub judgement : List PlannedVerdict → List (Sealed × Line) → Record → Line
judgement verdicts processed body =
    let past = past_of processed (id_of body) in judge past (verdict_for verdicts (num_of body) (past.count + 1)) body
