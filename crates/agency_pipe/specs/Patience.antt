-- The pauses between failed calls.
use Rattle.std.specs.Prelude.{ℕ, ◌+◌, ◌-◌, ◌^◌, if◌then◌else◌, min, nat_lt, Result, Ok, Err}
use Rattle.agency_port.specs.declared.answers.AgencyFault.{AgencyFault}
use Rattle.agency_port.specs.declared.answers.AgencyFault.TheVariants.{Failed, NoMemory}

-- the seconds that are waited after this many failed calls
abbrev pub pause_after : ℕ → ℕ
pause_after failed =
    if nat_lt failed 1 then 0 else (if nat_lt failed 2 then 1 else (if nat_lt failed 3 then 2 else (if nat_lt failed 4 then 4 else 8)))

-- how many have failed one after another, by the answer of the next; a u32 counts them
abbrev pub failed_after : {T : Type 0} → Result T AgencyFault → ℕ → ℕ
failed_after (Ok answer) failed = 0
failed_after (Err Failed) failed = min (failed + 1) (2 ^ 32 - 1)
failed_after (Err NoMemory) failed = failed
