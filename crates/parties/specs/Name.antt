-- The names of parties.
use Rattle.std.specs.Prelude.{◌≡◌, ℕ, List, length, position, Some, None, Result, Ok, Err}
use Rattle.std.specs.Int.{IsInRange, IsOutOfRange}
use Rattle.parties.specs.declared.name.NameFault.{NameFault}
use Rattle.parties.specs.declared.name.NameFault.TheVariants.{Length, Char, Edge, NoMemory}
use Rattle.parties.specs.NameForm.{is_control, IsName, HasBlankEdge}

-- the name that the text is; else the first of the three that is wrong with it. Lack of memory comes only where none is
abbrev pub IsNameReading : List ℕ → Result (List ℕ) NameFault → Type 0
IsNameReading t (Ok name) = IsName t × (name ≡ t)
IsNameReading t (Err (Length n)) = (n ≡ length t) × IsOutOfRange 1 120 n
IsNameReading t (Err (Char at)) = IsInRange 1 120 (length t) × (position is_control t ≡ Some at)
IsNameReading t (Err Edge) = IsInRange 1 120 (length t) × (position is_control t ≡ None) × HasBlankEdge t
IsNameReading t (Err NoMemory) = IsName t
