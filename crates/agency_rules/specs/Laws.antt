-- What holds of every delivery.
use Rattle.std.specs.Prelude.{◌≡◌, List, ◌∷◌, ◌++◌, length, map, slice_get, option_map, Some, None, bytes_eq}
use Rattle.std.specs.List.{AllByRecursion, IsDistinct}
use Rattle.record_fields.specs.declared.records.Sealed.{Sealed}
use Rattle.record_fields.specs.declared.lines.Line.{Line}
use Rattle.agency_rules.specs.declared.plans.PlannedVerdict.{PlannedVerdict}
use Rattle.agency_rules.specs.declared.pairs.Delivered.TheVariants.{First}
use Rattle.agency_rules.specs.Pairs.{line_of, delivered, meetings, has_come, is_again}

-- to deliver two batches in one is to deliver the first and then the second
abbrev pub DeliveriesJoin : Type 0
DeliveriesJoin = (verdicts : List PlannedVerdict) (processed : List (Sealed × Line)) (a b : List Sealed) →
    delivered verdicts processed (a ++ b) ≡ delivered verdicts (delivered verdicts processed a) b

abbrev pub MeetingsJoin : Type 0
MeetingsJoin = (verdicts : List PlannedVerdict) (processed : List (Sealed × Line)) (a b : List Sealed) →
    meetings verdicts processed (a ++ b) ≡ meetings verdicts processed a ++ meetings verdicts (delivered verdicts processed a) b

-- a record comes again exactly where its Huella stood in the list or earlier in the batch
abbrev pub AgainWhereItCame : Type 0
AgainWhereItCame = (verdicts : List PlannedVerdict) (processed : List (Sealed × Line)) (before after : List Sealed) (s : Sealed) →
    option_map is_again (slice_get (meetings verdicts processed (before ++ s ∷ after)) (length before))
    ≡ Some (has_come processed before s.huella)

-- where no Huella of a batch stands in the list, and all differ, each record is new
abbrev pub AllNewWhereNoneCame : Type 0
AllNewWhereNoneCame = (verdicts : List PlannedVerdict) (processed : List (Sealed × Line)) (batch : List Sealed) →
    AllByRecursion (λ (s : Sealed). line_of processed s.huella ≡ None) batch →
    IsDistinct bytes_eq (map (λ (s : Sealed). s.huella) batch) →
    (lines : List Line) × (meetings verdicts processed batch ≡ map First lines)
