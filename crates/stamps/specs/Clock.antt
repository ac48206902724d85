-- The peninsular clock, by Directive 2000/84/EC: `CET-1CEST,M3.5.0,M10.5.0/3`. Moments are seconds since 1970 on a clock at UTC.
use Rattle.std.specs.Prelude.{ℕ, ◌+◌, ◌-◌, ◌*◌, ◌/◌, ◌%◌, ◌&&◌, nat_lt, nat_le, Bool, ℤ, pos, unsigned_abs, ◌≡◌, ◌⊎◌}
use Rattle.std.specs.Prelude.{if◌then◌else◌}
use Rattle.std.specs.Int.{IsInRange}
use Rattle.jiff.specs.Words.{days_in_month}
use Rattle.stamps.specs.Day.{date_at, day_number}
use Rattle.stamps.specs.declared.stamp.TheConstants.{CLOCK_FROM, CLOCK_TO}

-- the last Sunday of a month: from its last day back by as many days as that day is after a Sunday.
-- Day 0 was a Thursday, the fourth day after a Sunday
unfoldable pub last_sunday : ℕ → ℕ → ℕ
last_sunday y m =
    let last = day_number y m (days_in_month (pos y) m) in
    last - (last + 4) % 7

-- summer time begins and ends at 01:00 UTC of the last Sundays of March and of October
abbrev pub summer_begins : ℕ → ℕ
summer_begins y = last_sunday y 3 * 86_400 + 3600

abbrev pub summer_ends : ℕ → ℕ
summer_ends y = last_sunday y 10 * 86_400 + 3600

-- summer time is in force at the moment
abbrev pub is_summer : ℕ → Bool
is_summer t =
    let year = (date_at (t / 86_400)).year in
    nat_le (summer_begins year) t && nat_lt t (summer_ends year)

-- how many minutes the clock is ahead of UTC
unfoldable pub offset_at : ℕ → ℕ
offset_at t = if is_summer t then 120 else 60

-- the moments from 2024 to 2099
abbrev pub IsStampSeconds : ℕ → Type 0
IsStampSeconds t = IsInRange CLOCK_FROM CLOCK_TO t

-- an hour ahead of UTC or two
abbrev pub IsStampOffset : ℤ → Type 0
IsStampOffset minutes = (minutes ≡ pos 60) ⊎ (minutes ≡ pos 120)

-- what the local clock counts as seconds since 1970
abbrev pub local_seconds : ℕ → ℤ → ℕ
local_seconds t minutes = t + unsigned_abs minutes * 60
