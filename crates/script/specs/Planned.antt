-- What the plan of a script keeps.
use Rattle.std.specs.Prelude.{ℕ, ◌≤◌, List, count_by, Bool, ◌&&◌, ◌==◌, bytes_eq}
use Rattle.std.specs.Int.{IsInRange}
use Rattle.std.specs.List.{AllByRecursion}
use Rattle.agency_rules.specs.declared.plans.Fate.{Fate}
use Rattle.agency_rules.specs.declared.plans.Fate.TheVariants.{Late}
use Rattle.agency_rules.specs.declared.plans.Plan.{Plan}
use Rattle.agency_rules.specs.declared.plans.PlannedFate.{PlannedFate}
use Rattle.agency_rules.specs.declared.plans.PlannedVerdict.{PlannedVerdict}
use Rattle.agency_rules.specs.declared.plans.Verdict.{Verdict}
use Rattle.agency_rules.specs.declared.plans.Verdict.TheVariants.{Vet, Warn}
use Rattle.script.specs.declared.limits.TheConstants.{MAX_NTH, MAX_CODE, MAX_WAIT, MAX_CALL, MAX_LATE}

abbrev pub code_of : Verdict → ℕ
code_of (Vet code) = code
code_of (Warn code) = code

abbrev pub IsPlannedVerdict : PlannedVerdict → Type 0
IsPlannedVerdict v = IsInRange 1 MAX_NTH v.n × IsInRange 1 MAX_CODE (code_of v.verdict)

abbrev pub IsPlannedFate : Fate → Type 0
IsPlannedFate (Late calls) = IsInRange 1 MAX_LATE calls
IsPlannedFate other = Unit {0}

abbrev pub IsPlannedCall : PlannedFate → Type 0
IsPlannedCall f = IsInRange 1 MAX_CALL f.call × IsPlannedFate f.fate

-- the verdict is on the n-th record of this number
abbrev pub is_on : List ℕ → ℕ → PlannedVerdict → Bool
is_on num n v = bytes_eq v.num num && (v.n == n)

-- the fate is that of the call of this number
abbrev pub is_of : ℕ → PlannedFate → Bool
is_of call f = f.call == call

-- its numbers are in their ranges, and no record has two verdicts and no call two fates
pub record IsPlanned (plan : Plan) : Type 0 where
  pub verdicts : AllByRecursion IsPlannedVerdict plan.verdicts
  pub fates : AllByRecursion IsPlannedCall plan.fates
  pub wait : plan.wait ≤ MAX_WAIT
  pub one_verdict : (num : List ℕ) (n : ℕ) → count_by (is_on num n) plan.verdicts ≤ 1
  pub one_fate : (call : ℕ) → count_by (is_of call) plan.fates ≤ 1
