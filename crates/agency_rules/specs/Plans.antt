-- The plan of the practice agency.
use Rattle.std.specs.Prelude.{ℕ, List, [], Option, option_map, find, ◌==◌}
use Rattle.pacing.specs.declared.pace.TheConstants.{FIRST_WAIT}
use Rattle.agency_rules.specs.declared.plans.Plan.{Plan}
use Rattle.agency_rules.specs.declared.plans.PlannedFate.{PlannedFate}
use Rattle.agency_rules.specs.declared.plans.Fate.{Fate}

-- nothing is planned, and the pause is the one before a first reply
abbrev pub plain : Plan
plain = record { verdicts = []; wait = FIRST_WAIT; fates = [] }

-- what befalls the call of this number, where something is planned
abbrev pub fate_at : List PlannedFate → ℕ → Option Fate
fate_at fates call = option_map (λ (f : PlannedFate). f.fate) (find (λ (f : PlannedFate). f.call == call) fates)
