-- How dates and moments are written in a record: `FechaExpedicionFactura` and `FechaHoraHusoGenRegistro`.
use Rattle.std.specs.Prelude.{ℕ, ◌+◌, ◌/◌, ◌%◌, List, [], ◌∷◌, ◌++◌, codes}
use Rattle.stamps.specs.Day.{date_at}

-- a number below 100 as two digits
abbrev pub two_digits : ℕ → List ℕ
two_digits n = (48 + n / 10) ∷ (48 + n % 10) ∷ []

-- a number below 10000 as four digits
abbrev pub four_digits : ℕ → List ℕ
four_digits n = two_digits (n / 100) ++ two_digits (n % 100)

-- a day as `DD-MM-YYYY`
unfoldable pub date_text_of : ℕ → List ℕ
date_text_of n =
    let date = date_at n in
    two_digits date.day ++ codes "-" ++ two_digits date.month ++ codes "-" ++ four_digits date.year

-- seconds on a local clock, which is this many minutes ahead of UTC, as `YYYY-MM-DDThh:mm:ss+hh:mm`
unfoldable pub local_text_of : ℕ → ℕ → List ℕ
local_text_of local ahead =
    let date = date_at (local / 86_400) in
    four_digits date.year ++ codes "-" ++ two_digits date.month ++ codes "-" ++ two_digits date.day
    ++ codes "T" ++ two_digits (local % 86_400 / 3600) ++ codes ":" ++ two_digits (local % 3600 / 60)
    ++ codes ":" ++ two_digits (local % 60)
    ++ codes "+" ++ two_digits (ahead / 60) ++ codes ":" ++ two_digits (ahead % 60)
