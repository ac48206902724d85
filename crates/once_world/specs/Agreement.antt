-- When a shop's history and what an agency has processed agree.
use Rattle.std.specs.Prelude.{◌≡◌, ◌≢◌, ℕ, ◌+◌, ◌≤◌, List, ◌∷◌, ◌++◌, map, length, Option, IfSome, Bool, true, false, ◌&&◌}
use Rattle.std.specs.List.{AllByRecursion}
use Rattle.record_fields.specs.Records.{is_sale}
use Rattle.record_fields.specs.declared.records.Sealed.{Sealed}
use Rattle.record_fields.specs.declared.lines.Line.{Line}
use Rattle.record_fields.specs.declared.lines.Line.TheVariants.{Correcto, ConErrores, Incorrecto}
use Rattle.record_fields.specs.declared.lines.Cause.{Cause}
use Rattle.record_fields.specs.declared.lines.Cause.TheVariants.{Vet, Held, NotHeld, Gone}
use Rattle.pacing.specs.declared.pace.TheConstants.{MAX_BATCH}
use Rattle.record_codec.specs.declared.entry.TheConstants.{MAX_NOTES}
use Rattle.record_codec.specs.declared.entry.Entry.{Entry}
use Rattle.shop_core.specs.History.{recs, noted}
use Rattle.shop_core.specs.Prefix.{IsPrefix}

-- the records and the lines of pairs
abbrev pub records_of : List (Sealed × Line) → List Sealed
records_of processed = map (λ (p : Sealed × Line). p.0) processed

abbrev pub lines_of : List (Sealed × Line) → List Line
lines_of processed = map (λ (p : Sealed × Line). p.1) processed

-- the batch is a run of the records that begins at most after this many of them and ends at most at that place
pub record IsRun (records batch : List Sealed) (from to : ℕ) : Type 0 where
  pub before : List Sealed
  pub after : List Sealed
  pub run : records ≡ before ++ (batch ++ after)
  pub begins : length before ≤ from
  pub ends : length before + length batch ≤ to

-- The processed records are the first ones of the chain. The noted lines are the first ones of theirs. Each batch that was
-- sent is a run of the chain that begins no later than just past the processed ones and ends at most MAX_BATCH past the noted ones.
pub record Agree (entries : List Entry) (processed : List (Sealed × Line)) (sent : List (List Sealed)) : Type 0 where
  pub records : IsPrefix (records_of processed) (recs entries)
  pub lines : IsPrefix (noted entries) (lines_of processed)
  pub batches : AllByRecursion (λ (batch : List Sealed). IsRun (recs entries) batch (length processed)
      (length (noted entries) + MAX_BATCH)) sent

-- the lines are the agency's next ones: those just past the noted ones, 1 to MAX_NOTES of them
pub record AreNextLines (entries : List Entry) (processed : List (Sealed × Line)) (lines : List Line) : Type 0 where
  pub run : IsPrefix (noted entries ++ lines) (lines_of processed)
  pub some : 1 ≤ length lines
  pub few : length lines ≤ MAX_NOTES

-- the lines that were learnt, where some were
abbrev pub IsLearnt : List Entry → List (Sealed × Line) → Option (List Line) → Type 0
IsLearnt entries processed learnt = IfSome learnt (AreNextLines entries processed)

-- no Huella stands twice among the pairs
abbrev pub AreOnce : List (Sealed × Line) → Type 0
AreOnce processed = (before after : List (Sealed × Line)) (p : Sealed × Line) → processed ≡ before ++ p ∷ after →
    AllByRecursion (λ (q : Sealed × Line). q.0.huella ≢ p.0.huella) before

-- the register says otherwise than the record
abbrev pub is_of_register : Cause → Bool
is_of_register (Vet code) = false
is_of_register Held = true
is_of_register NotHeld = true
is_of_register Gone = true

abbrev pub contradicts : Line → Bool
contradicts Correcto = false
contradicts (ConErrores code) = false
contradicts (Incorrecto why) = is_of_register why

-- the alta of a sale, refused because the register says otherwise
abbrev pub is_sale_refused : Sealed × Line → Bool
is_sale_refused p = is_sale p.0.body && contradicts p.1

abbrev pub HasNoRefusedSale : List (Sealed × Line) → Type 0
HasNoRefusedSale pairs = AllByRecursion (λ (p : Sealed × Line). is_sale_refused p ≡ false) pairs

-- pairs were added, and no refused sale is among them
pub record AddsNoRefusedSale (old new : List (Sealed × Line)) : Type 0 where
  pub added : List (Sealed × Line)
  pub is : new ≡ old ++ added
  pub none : HasNoRefusedSale added
