-- Which readings of the clock stamped a chain's records.
use Rattle.std.specs.Prelude.{◌≡◌, ◌≤◌, ℕ, ◌+◌, List, [], ◌∷◌, ◌++◌, Option, max}
use Rattle.ports.specs.Readings.{IsTold}
use Rattle.record_codec.specs.declared.entry.Entry.{Entry}
use Rattle.record_codec.specs.declared.entry.Entry.TheVariants.{Rec, Notes}
use Rattle.record_fields.specs.declared.records.Sealed.{Sealed}
use Rattle.record_fields.specs.Records.{moment_of}
use Rattle.shop_core.specs.History.{last_seconds}

-- the record behind these entries has the moment of the clock's reading of this number; moments never fall
pub record StampedBy (coming : ℕ → Option ℕ) (number : ℕ) (before : List Entry) (sealed : Sealed) : Type 0 where
  pub seconds : ℕ
  pub told : IsTold (coming number) seconds
  pub moment : (moment_of sealed.body).seconds ≡ max seconds (last_seconds before)

-- Each of the records of these entries, which stand behind those before, is stamped by a reading of its own: the numbers of
-- the readings rise strictly, all from first on and below next.
abbrev pub ReadInTurn : (ℕ → Option ℕ) → ℕ → ℕ → List Entry → List Entry → Type 0
ReadInTurn coming first next before [] = first ≤ next
ReadInTurn coming first next before (Rec till serial sealed ∷ rest) =
    (number : ℕ) × (first ≤ number) × StampedBy coming number before sealed ×
    ReadInTurn coming (number + 1) next (before ++ Rec till serial sealed ∷ []) rest
ReadInTurn coming first next before (Notes from lines ∷ rest) =
    ReadInTurn coming first next (before ++ Notes from lines ∷ []) rest
