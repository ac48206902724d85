-- The lines that the commands of a script stand in.
use Rattle.std.specs.Prelude.{◌≡◌, ℕ, ◌<◌, List, [], ◌∷◌, filter_map, Option, Result, Ok, Err}
use Rattle.std.specs.List.{AllByRecursion, enumerate_from}
use Rattle.record_fields.specs.Picks.{when}
use Rattle.script.specs.Cuts.{lines_of}
use Rattle.script.specs.Lines.{is_command}
use Rattle.script.specs.Script.{IsScript, IsWhole}
use Rattle.script.specs.declared.forms.Form.{Form}
use Rattle.script.specs.declared.lines.Meaning.{Meaning}
use Rattle.script.specs.declared.scripts.Script.{Script}
use Rattle.script.specs.declared.scripts.ScriptFault.{ScriptFault}

-- the number of a line that says a command
abbrev pub command_line : ℕ × Meaning → Option ℕ
command_line p = when (is_command p.1) p.0

-- the numbers, from 1, of those of these lines that say commands
abbrev pub command_lines : List Meaning → List ℕ
command_lines meanings = filter_map command_line (enumerate_from 1 meanings)

-- each number is above those before it
abbrev pub Rising : List ℕ → Type 0
Rising [] = Unit {0}
Rising (number ∷ numbers) = AllByRecursion (λ (other : ℕ). number < other) numbers × Rising numbers

-- every line says something, as in a script, and its asks stand in the lines of these numbers, in order
pub record IsNumbered (form : Form) (lines : List (List ℕ)) (script : Script) (numbers : List ℕ) : Type 0 where
  pub whole : IsWhole form lines script
  pub numbers_are : numbers ≡ command_lines whole.meanings

-- the script of these bytes and the lines of its asks, or why there is no script
abbrev pub IsNumberedScript : Form → List ℕ → Result (Script × List ℕ) ScriptFault → Type 0
IsNumberedScript form bytes (Ok read) = IsNumbered form (lines_of bytes) read.0 read.1
IsNumberedScript form bytes (Err fault) = IsScript form bytes (Err fault)
