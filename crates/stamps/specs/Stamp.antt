-- A moment as definitions see it: its texts, and its day on the local clock.
use Rattle.std.specs.Prelude.{ℕ, ◌/◌, List, ℤ, pos, unsigned_abs}
use Rattle.stamps.specs.Clock.{offset_at, local_seconds}
use Rattle.stamps.specs.Text.{local_text_of}

-- seconds since 1970 began at UTC, and how many minutes the local clock is ahead
pub record Moment : Type 0 where
  pub seconds : ℕ
  pub offset_minutes : ℤ

-- the moment of these seconds on the peninsular clock
abbrev pub moment_at : ℕ → Moment
moment_at seconds = record { seconds = seconds; offset_minutes = pos (offset_at seconds) }

-- what the local clock counts as seconds since 1970
abbrev pub local_seconds_of : Moment → ℕ
local_seconds_of m = local_seconds m.seconds m.offset_minutes

-- its day on the local clock, as days since 01-01-1970
abbrev pub civil_day_of : Moment → ℕ
civil_day_of m = local_seconds_of m / 86_400

-- `YYYY-MM-DDThh:mm:ss+hh:mm`
abbrev pub moment_text_of : Moment → List ℕ
moment_text_of m = local_text_of (local_seconds_of m) (unsigned_abs m.offset_minutes)
