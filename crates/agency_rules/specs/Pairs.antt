-- What a delivered batch adds to the agency's list of processed records and their lines.
use Rattle.std.specs.Prelude.{◌≡◌, ℕ, List, [], ◌∷◌, ◌++◌, find, Option, Some, None, option_map, is_some, Bool, true, false, ◌||◌}
use Rattle.std.specs.Prelude.{bytes_eq}
use Rattle.std.specs.List.{list_any}
use Rattle.record_fields.specs.declared.records.Sealed.{Sealed}
use Rattle.record_fields.specs.declared.lines.Line.{Line}
use Rattle.agency_rules.specs.declared.plans.PlannedVerdict.{PlannedVerdict}
use Rattle.agency_rules.specs.declared.pairs.Delivered.{Delivered}
use Rattle.agency_rules.specs.declared.pairs.Delivered.TheVariants.{First, Again}
use Rattle.agency_rules.specs.Judging.{judgement}

-- the line of the first record with this Huella, where one stands there
abbrev pub line_of : List (Sealed × Line) → List ℕ → Option Line
line_of processed huella =
    option_map (λ (p : Sealed × Line). p.1) (find (λ (p : Sealed × Line). bytes_eq p.0.huella huella) processed)

-- what one record meets: the line that stands there for its Huella, else its judgement
abbrev pub met : Option Line → Line → Delivered
met (Some line) judged = Again line
met None judged = First judged

abbrev pub delivered_record : List PlannedVerdict → List (Sealed × Line) → Sealed → Delivered
delivered_record verdicts processed s = met (line_of processed s.huella) (judgement verdicts processed s.body)

-- the list after it: one whose Huella stands there changes nothing
abbrev pub with_record : List (Sealed × Line) → Sealed → Delivered → List (Sealed × Line)
with_record processed s (First line) = processed ++ (s, line) ∷ []
with_record processed s (Again line) = processed

abbrev pub after_record : List PlannedVerdict → List (Sealed × Line) → Sealed → List (Sealed × Line)
after_record verdicts processed s = with_record processed s (delivered_record verdicts processed s)

-- the list after a batch: its records in order
abbrev pub delivered : List PlannedVerdict → List (Sealed × Line) → List Sealed → List (Sealed × Line)
delivered verdicts processed [] = processed
delivered verdicts processed (s ∷ batch) = delivered verdicts (after_record verdicts processed s) batch

-- the records of a front of the batch came, and no others
pub record DeliversFront (verdicts : List PlannedVerdict) (old new : List (Sealed × Line)) (batch : List Sealed) : Type 0 where
  pub front : List Sealed
  pub rest : List Sealed
  pub is : batch ≡ front ++ rest
  pub came : new ≡ delivered verdicts old front

-- what the records of a batch meet, in order
abbrev pub meetings : List PlannedVerdict → List (Sealed × Line) → List Sealed → List Delivered
meetings verdicts processed [] = []
meetings verdicts processed (s ∷ batch) =
    delivered_record verdicts processed s ∷ meetings verdicts (after_record verdicts processed s) batch

-- the list after batches, one after another
abbrev pub delivered_all : List PlannedVerdict → List (Sealed × Line) → List (List Sealed) → List (Sealed × Line)
delivered_all verdicts processed [] = processed
delivered_all verdicts processed (batch ∷ batches) = delivered_all verdicts (delivered verdicts processed batch) batches

-- the batch has a record with this Huella
abbrev pub names : List Sealed → List ℕ → Bool
names batch huella = list_any (λ (s : Sealed). bytes_eq s.huella huella) batch

-- the Huella stands in the list, or is that of a record that came after it was so
abbrev pub has_come : List (Sealed × Line) → List Sealed → List ℕ → Bool
has_come processed before huella = is_some (line_of processed huella) || names before huella

abbrev pub is_again : Delivered → Bool
is_again (First line) = false
is_again (Again line) = true
