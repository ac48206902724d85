-- The tables of what is planned, next to its lists.
use Rattle.std.specs.Prelude.{◌≡◌, ℕ, List, Bool, is_some, nat_eq, bytes_eq, ◌&&◌}
use Rattle.std.specs.HashSet.{HashSet, contains}
use Rattle.agency_rules.specs.Judging.{verdict_for}
use Rattle.agency_rules.specs.Plans.{fate_at}
use Rattle.agency_rules.specs.declared.plans.PlannedFate.{PlannedFate}
use Rattle.agency_rules.specs.declared.plans.PlannedVerdict.{PlannedVerdict}

-- numbers with their counts are the same
abbrev pub is_same_record : List ℕ × ℕ → List ℕ × ℕ → Bool
is_same_record one other = bytes_eq one.0 other.0 && nat_eq one.1 other.1

-- the table has the numbers and counts of these verdicts
abbrev pub AreRecordsOf : {S : Type 0} → List PlannedVerdict → HashSet (List ℕ × ℕ) S → Type 0
AreRecordsOf verdicts records = (num : List ℕ) (n : ℕ) → contains is_same_record records (num, n)
    ≡ is_some (verdict_for verdicts num n)

-- the table has the calls of these fates
abbrev pub AreCallsOf : {S : Type 0} → List PlannedFate → HashSet ℕ S → Type 0
AreCallsOf fates calls = (call : ℕ) → contains nat_eq calls call ≡ is_some (fate_at fates call)
