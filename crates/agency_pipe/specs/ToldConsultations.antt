-- Which consultations are told.
use Rattle.std.specs.Prelude.{List, Bool, true, false, Result, Ok, Err}
use Rattle.agency_port.specs.declared.answers.AgencyFault.{AgencyFault}
use Rattle.agency_port.specs.declared.answers.AgencyFault.TheVariants.{Failed, NoMemory}
use Rattle.agency_port.specs.declared.answers.Seen.{Seen}

-- one for which memory ran out isn't
abbrev pub is_told : Result (List Seen) AgencyFault → Bool
is_told (Ok seen) = true
is_told (Err Failed) = true
is_told (Err NoMemory) = false
