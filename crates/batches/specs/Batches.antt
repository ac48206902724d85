-- Batches as the agency takes them: at most MAX_BATCH records (Orden HAC/1177/2024, the size of a submission), in the order of
-- their chain.
use Rattle.std.specs.Prelude.{ℕ, ◌≤◌, List, length, map}
use Rattle.record_fields.specs.declared.records.Record.{Record}
use Rattle.record_fields.specs.declared.records.Record.TheVariants as record_of
use Rattle.record_fields.specs.declared.records.Sealed.{Sealed}
use Rattle.record_fields.specs.Records.{id_of}
use Rattle.batches.specs.declared.asked.RecordId.{RecordId}
use Rattle.batches.specs.declared.asked.Sort.{Sort}
use Rattle.batches.specs.declared.asked.Sort.TheVariants as sort
use Rattle.record_fields.specs.Links.{LinkedRun}
use Rattle.pacing.specs.declared.pace.TheConstants.{MAX_BATCH}

pub record IsBatch (records : List Sealed) : Type 0 where
  pub some : 1 ≤ length records
  pub few : length records ≤ MAX_BATCH
  pub linked : LinkedRun records

-- their Huellas, in order
abbrev pub huellas_of : List Sealed → List (List ℕ)
huellas_of records = map (λ (s : Sealed). s.huella) records

abbrev pub sort_of : Record → Sort
sort_of (record_of.Alta alta) = sort.Alta
sort_of (record_of.Anulacion anulacion) = sort.Anulacion

-- which record it is: of which invoice, and of which sort
abbrev pub id_in : Sealed → RecordId
id_in sealed = record { invoice = id_of sealed.body; sort = sort_of sealed.body }

abbrev pub ids_of : List Sealed → List RecordId
ids_of records = map id_in records

-- what a consultation asks for: Huellas, and with each which record it is of
pub record Named : Type 0 where
  pub huellas : List (List ℕ)
  pub ids : List RecordId

-- that of these records
abbrev pub named_of : List Sealed → Named
named_of records = record { huellas = huellas_of records; ids = ids_of records }
