-- The summary of a history. The texts are this project's own; amounts and Huellas are written as in the field text.
use Rattle.std.specs.Prelude.{ℕ, List, ◌++◌, length, map, filter_map, count_by, codes, decimal}
use Rattle.std.specs.Prelude.{Option, Some, None, option_map}
use Rattle.amounts.specs.Text.{amount_text}
use Rattle.tax_lines.specs.Totals.{bases, cuota, sum_of}
use Rattle.record_fields.specs.Records.{is_anulacion}
use Rattle.record_fields.specs.declared.records.Alta.{Alta}
use Rattle.record_fields.specs.declared.records.Record.{Record}
use Rattle.record_fields.specs.declared.records.Record.TheVariants as record_of
use Rattle.record_fields.specs.declared.records.Sealed.{Sealed}
use Rattle.record_codec.specs.declared.entry.Entry.{Entry}
use Rattle.shop_core.specs.History.{last_huella, recs, noted}
use Rattle.report.specs.Pieces.{chain_text}
use Rattle.report.specs.Verdicts.{last_text}
use Rattle.report.specs.declared.summary.Sums.{Sums}

abbrev pub alta_in : Record → Option Alta
alta_in (record_of.Alta a) = Some a
alta_in (record_of.Anulacion a) = None

-- the altas among these records, in order
abbrev pub altas : List Sealed → List Alta
altas records = filter_map (λ (s : Sealed). alta_in s.body) records

-- how many records of each kind, and the sums of the altas' bases and cuotas
abbrev pub sums : List Sealed → Sums
sums records = record {
  altas = length (altas records);
  anulaciones = count_by (λ (s : Sealed). is_anulacion s.body) records;
  bases = sum_of (map (λ (a : Alta). bases a.draft.lines) (altas records));
  cuotas = sum_of (map (λ (a : Alta). cuota a.draft.lines) (altas records));
}

-- generated N sales A cancels B
abbrev pub counts_text : ℕ → Sums → List ℕ
counts_text records s =
    codes "generated " ++ decimal records ++ codes " sales " ++ decimal s.altas ++ codes " cancels " ++ decimal s.anulaciones

-- base X tax Y
abbrev pub amounts_text : Sums → List ℕ
amounts_text s = codes " base " ++ amount_text s.bases ++ codes " tax " ++ amount_text s.cuotas ++ codes "\n"

-- generated N sales A cancels B base X tax Y
abbrev pub sums_line : ℕ → Sums → List ℕ
sums_line records s = counts_text records s ++ amounts_text s

-- the Huella of a record, where there is one
abbrev pub huella_in : Option Sealed → Option (List ℕ)
huella_in found = option_map (λ (s : Sealed). s.huella) found

-- chain N noted M last HUELLA
abbrev pub end_text : ℕ → ℕ → Option (List ℕ) → List ℕ
end_text records noted last = chain_text records noted ++ codes " last " ++ last_text last ++ codes "\n"

-- the sums, and the counts with the last Huella
abbrev pub summary_text : List Entry → List ℕ
summary_text entries =
    sums_line (length (recs entries)) (sums (recs entries))
    ++ end_text (length (recs entries)) (length (noted entries)) (last_huella entries)
