-- When a submission is due: once the waiting time has passed since the last one, or where a full batch waits (the tax agency's
-- description of the submission service).
use Rattle.std.specs.Prelude.{ℕ, ◌+◌, ◌-◌, ◌^◌, min, nat_le, ◌||◌, Bool}
use Rattle.pacing.specs.declared.pace.Pace.{Pace}
use Rattle.pacing.specs.declared.pace.TheConstants.{MAX_BATCH}

-- the second at which the waiting time has passed, at most the greatest u64
abbrev pub due_at : Pace → ℕ
due_at pace = min (pace.last + pace.wait) (2 ^ 64 - 1)

abbrev pub is_due : Pace → ℕ → ℕ → Bool
is_due pace now waiting = nat_le MAX_BATCH waiting || nat_le (due_at pace) now
