-- A script for several issuers: sections of their own, and the lines before the first one for all.
use Rattle.std.specs.Prelude.{◌≡◌, ◌≤◌, ◌&&◌, ℕ, List, [], ◌∷◌, ◌++◌, codes, bytes_eq, filter_map, option_map, option_and_then, Bool}
use Rattle.std.specs.Prelude.{true, false, not, is_some, if◌then◌else◌, nat_lt, Contains, Option, Some, None, Result, Ok, Err}
use Rattle.std.specs.List.{AllByRecursion, enumerate_from, join_with_byte, list_any}
use Rattle.std.specs.Option.{option_map_or}
use Rattle.std.specs.Str.{is_utf8}
use Rattle.std.specs.Str.Lines.{strip_carriage_return}
use Rattle.record_fields.specs.Picks.{last_of, when}
use Rattle.shop_core.specs.declared.words.Word.{Word}
use Rattle.shop_core.specs.declared.words.Word.TheVariants.{Fields, Nif}
use Rattle.script.specs.Cuts.{lines_of, parts_of}
use Rattle.script.specs.Fields.{fields_of}
use Rattle.script.specs.Numbered.{IsNumbered}
use Rattle.script.specs.Script.{IsFirstBad, IsWhole}
use Rattle.script.specs.declared.forms.Form.TheVariants.{Full}
use Rattle.script.specs.declared.scripts.Script.{Script}
use Rattle.script.specs.declared.scripts.ScriptFault.{ScriptFault}
use Rattle.script.specs.declared.scripts.ScriptFault.TheVariants as script_fault
use Rattle.issuers.specs.declared.parts.Part.{Part}
use Rattle.issuers.specs.declared.reading.BadLine.{BadLine}

-- the fields after a first one that is `issuer`
abbrev pub behind_issuer : List (List ℕ) → Option (List (List ℕ))
behind_issuer [] = None
behind_issuer (verb ∷ fields) = when (bytes_eq verb (codes "issuer")) fields

abbrev pub section_in : List ℕ → Option (List (List ℕ))
section_in text = if is_utf8 text then behind_issuer (fields_of text) else None

-- A line `issuer NIF` begins a section: its fields after the first one. A line that isn't UTF-8 begins none.
abbrev pub section_of : List ℕ → Option (List (List ℕ))
section_of line = section_in (strip_carriage_return line)

-- these fields name this issuer
abbrev pub names : List ℕ → List (List ℕ) → Bool
names nif (name ∷ []) = bytes_eq name nif
names nif fields = false

-- what stands below these lines is an issuer's: no section was begun, or the last one is its own
abbrev pub is_own : List ℕ → List (List ℕ) → Bool
is_own nif before = option_map_or (names nif) (last_of (filter_map section_of before)) true

-- a line below these, which is made empty where it begins a section or isn't the issuer's
abbrev pub own_line : List ℕ → List (List ℕ) → List ℕ → List ℕ
own_line nif before line = if not (is_some (section_of line)) && is_own nif before then line else []

-- the lines of an issuer, each other one made empty
abbrev pub own_lines : List ℕ → List (List ℕ) → List (List ℕ) → List (List ℕ)
own_lines nif before [] = []
own_lines nif before (line ∷ lines) = own_line nif before line ∷ own_lines nif (before ++ line ∷ []) lines

-- the part of an issuer: the whole, with the lines that aren't its own made empty
abbrev pub part_of : List ℕ → List ℕ → List ℕ
part_of nif bytes = join_with_byte 10 (own_lines nif [] (parts_of 10 bytes))

abbrev pub is_one_of : List ℕ → List (List ℕ) → Bool
is_one_of name issuers = list_any (λ nif. bytes_eq name nif) issuers

-- what is wrong in a line that begins a section, by its fields after the first one
abbrev pub section_fault : List (List ℕ) → List (List ℕ) → Option Word
section_fault issuers (name ∷ []) = when (not (is_one_of name issuers)) Nif
section_fault issuers fields = Some Fields

abbrev pub fault_at : List (List ℕ) → ℕ × List ℕ → Option BadLine
fault_at issuers p = option_map (λ fault. record { line = p.0; fault = fault })
    (option_and_then (section_fault issuers) (section_of p.1))

-- the bad ones of the lines that begin sections, by their numbers from 1
abbrev pub section_faults : List (List ℕ) → List (List ℕ) → List BadLine
section_faults issuers lines = filter_map (fault_at issuers) (enumerate_from 1 lines)

-- the first bad line of an issuer's part, where it has one
abbrev pub IsFirstFault : List ℕ → List ℕ → Option BadLine → Type 0
IsFirstFault bytes nif None = (script : Script) × IsWhole Full (lines_of (part_of nif bytes)) script
IsFirstFault bytes nif (Some bad) = IsFirstBad Full (lines_of (part_of nif bytes)) bad.line bad.fault

-- the same of each issuer
abbrev pub AreFirstFaults : List ℕ → List (List ℕ) → List (Option BadLine) → Type 0
AreFirstFaults bytes [] [] = Unit {0}
AreFirstFaults bytes (nif ∷ issuers) (fault ∷ faults) = IsFirstFault bytes nif fault × AreFirstFaults bytes issuers faults
AreFirstFaults bytes issuers faults = ⊥

-- the parts, one an issuer: its script, and the line of each ask
abbrev pub PartsAre : List ℕ → List (List ℕ) → List Part → Type 0
PartsAre bytes [] [] = Unit {0}
PartsAre bytes (nif ∷ issuers) (part ∷ parts) =
    IsNumbered Full (lines_of (part_of nif bytes)) part.script part.lines × PartsAre bytes issuers parts
PartsAre bytes issuers parts = ⊥

-- the one of the smallest line among these, where there are any
abbrev pub IsSoonest : List BadLine → Option BadLine → Type 0
IsSoonest faults None = faults ≡ []
IsSoonest faults (Some bad) = Contains faults bad × AllByRecursion (λ (other : BadLine). bad.line ≤ other.line) faults

-- the bad line of the smallest number, of those that begin sections and of the first ones of all parts
pub record SoonestBad (issuers : List (List ℕ)) (bytes : List ℕ) (bad : Option BadLine) : Type 0 where
  pub faults : List (Option BadLine)
  pub each : AreFirstFaults bytes issuers faults
  pub soonest : IsSoonest (section_faults issuers (parts_of 10 bytes) ++ filter_map (λ fault. fault) faults) bad

-- the parts of these bytes, or the bad line of the smallest number, or lack of memory
abbrev pub ManyIs : List (List ℕ) → List ℕ → Result (List Part) ScriptFault → Type 0
ManyIs issuers bytes (Ok parts) = SoonestBad issuers bytes None × PartsAre bytes issuers parts
ManyIs issuers bytes (Err (script_fault.BadLine line fault)) =
    SoonestBad issuers bytes (Some (record { line = line; fault = fault }))
ManyIs issuers bytes (Err script_fault.NoMemory) = Unit {0}

-- what one issuer's part is read as
abbrev pub PartIs : List ℕ → List ℕ → Result Part ScriptFault → Type 0
PartIs bytes nif (Ok part) = IsNumbered Full (lines_of (part_of nif bytes)) part.script part.lines
PartIs bytes nif (Err (script_fault.BadLine line fault)) = IsFirstBad Full (lines_of (part_of nif bytes)) line fault
PartIs bytes nif (Err script_fault.NoMemory) = Unit {0}

-- the sooner one of two bad lines
abbrev pub sooner_fault : Option BadLine → Option BadLine → Option BadLine
sooner_fault best None = best
sooner_fault None (Some other) = Some other
sooner_fault (Some best) (Some other) = if nat_lt other.line best.line then Some other else Some best

-- one part more, or the soonest bad line, its own included
abbrev pub Adds : Result Part ScriptFault → Option BadLine → List Part → Option BadLine → List Part → Type 0
Adds (Ok part) bad parts now more = (now ≡ bad) × (more ≡ parts ++ part ∷ [])
Adds (Err (script_fault.BadLine line fault)) bad parts now more =
    (now ≡ sooner_fault bad (Some (record { line = line; fault = fault }))) × (more ≡ parts)
Adds (Err script_fault.NoMemory) bad parts now more = ⊥
