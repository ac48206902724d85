-- The steps of reading an answer's line.
use Rattle.std.specs.Prelude.{◌≡◌, ℕ, ◌<◌, ◌^◌, List, codes, None, Some, Result, Ok, Err}
use Rattle.serde_json.specs.Data.{Data}
use Rattle.serde_json.specs.Find.{get}
use Rattle.serde_json.specs.View.{view}
use Rattle.serde_json.specs.declared.value.Value.{Value}
use Rattle.export.specs.Lines.{value_read}
use Rattle.export.specs.Objects.{number_of}
use Rattle.agency_pipe.specs.Answers.{Stands}
use Rattle.agency_pipe.specs.declared.standing.Standing.TheVariants as standing
use Rattle.agency_pipe.specs.declared.faults.Unheard.{Unheard}
use Rattle.agency_pipe.specs.declared.faults.Unheard.TheVariants.{Json, Earlier, Fault, Hello, Shape, NoMemory}

-- the line's value, where it stands so
abbrev pub Meets : ℕ → List ℕ → Result Value Unheard → Type 0
Meets number line (Ok value) = Stands number line standing.Ours (view value)
Meets number line (Err Json) = value_read line ≡ None
Meets number line (Err Earlier) = (d : Data) × Stands number line standing.Earlier d
Meets number line (Err Fault) = (d : Data) × Stands number line standing.Fault d
Meets number line (Err Hello) = (d : Data) × Stands number line standing.Hello d
Meets number line (Err Shape) = (d : Data) × Stands number line standing.Odd d
Meets number line (Err NoMemory) = Unit {0}

abbrev pub HasWait : ℕ → Data → Type 0
HasWait wait d = (get (codes "wait") d ≡ Some (number_of wait)) × (wait < 2 ^ 32)

abbrev pub NoWait : Data → Type 0
NoWait d = (wait : ℕ) → HasWait wait d → ⊥
