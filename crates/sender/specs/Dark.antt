-- Which records were handed over without it being known that they didn't come.
use Rattle.std.specs.Prelude.{◌≡◌, ℕ, ◌+◌, ◌≤◌, List, [], ◌∷◌, ◌++◌, length, ⊤, false}
use Rattle.std.specs.List.{AllByRecursion}
use Rattle.record_fields.specs.declared.records.Sealed.{Sealed}
use Rattle.agency_port.specs.declared.messages.Message.{Message}
use Rattle.agency_port.specs.declared.messages.Message.TheVariants.{Submitted}
use Rattle.agency_port.specs.Sessions.{dark}

-- none of the records is in the dark
abbrev pub AreLight : List Message → List Sealed → Type 0
AreLight messages records = AllByRecursion (λ (s : Sealed). dark messages s.huella ≡ false) records

-- a submission hands over none that is
abbrev pub IsLight : List Message → Message → Type 0
IsLight before (Submitted batch answer) = AreLight before batch
IsLight before _ = ⊤

-- nor does any of these, one after the other
abbrev pub NoneInTheDark : List Message → List Message → Type 0
NoneInTheDark before [] = ⊤
NoneInTheDark before (m ∷ messages) = IsLight before m × NoneInTheDark (before ++ m ∷ []) messages

-- the batch is a run of the records that ends by this place
pub record IsRunBy (records batch : List Sealed) (to : ℕ) : Type 0 where
  pub before : List Sealed
  pub after : List Sealed
  pub run : records ≡ before ++ (batch ++ after)
  pub ends : length before + length batch ≤ to

abbrev pub AreRunsBy : List Sealed → ℕ → List (List Sealed) → Type 0
AreRunsBy records to batches = AllByRecursion (λ (batch : List Sealed). IsRunBy records batch to) batches
