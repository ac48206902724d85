-- What a line says before any chain is looked at, and what the last accepted record of its invoice tells.
use Rattle.std.specs.Prelude.{ℕ, ℤ, List, Result, Ok, Err, IsUtf8, if◌then◌else◌}
use Rattle.record_fields.specs.Records.{is_alta}
use Rattle.record_fields.specs.declared.records.Sealed.{Sealed}
use Rattle.verify_link.specs.Reading.{IsLinkReading}
use Rattle.verify_link.specs.declared.parts.LinkParts.{LinkParts}
use Rattle.link_check.specs.Checking.{Chain, IsChecked, compared}
use Rattle.link_check.specs.declared.checked.Checked.{Checked}
use Rattle.link_check.specs.declared.checked.Checked.TheVariants.{Cancelled}

-- the parts of a link, or the answer whatever the chain
abbrev pub IsSaid : List ℕ → Result LinkParts Checked → Type 0
IsSaid line (Ok parts) = IsUtf8 line × IsLinkReading line (Ok parts)
IsSaid line (Err answer) = (chain : Chain) → IsChecked chain line answer

-- an alta is compared, an anulación cancels
abbrev pub settled : ℤ → ℕ × Sealed → Checked
settled cents p = if is_alta p.1.body then compared cents p else Cancelled p.0
