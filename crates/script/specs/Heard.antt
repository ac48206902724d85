-- What is kept of lines that are said one by one.
use Rattle.std.specs.Prelude.{◌≡◌, List, [], ◌∷◌, if◌then◌else◌, true}
use Rattle.script.specs.Forms.{has_clock, has_commands, has_plans}
use Rattle.script.specs.Lines.{Above, is_command}
use Rattle.script.specs.SoFar.{known}
use Rattle.script.specs.declared.forms.Form.{Form}
use Rattle.script.specs.declared.hearing.Heard.{Heard}
use Rattle.script.specs.declared.lines.Meaning.{Meaning}
use Rattle.script.specs.declared.lines.Meaning.TheVariants as line

-- what later lines look at of a line that was said: all but a command
abbrev pub kept_in : Meaning → List Meaning
kept_in meaning = if is_command meaning then [] else meaning ∷ []

-- what is known of the lines that were said
abbrev pub known_of : Heard → Above
known_of heard = known heard.read

-- a line of this meaning may stand in this form
abbrev pub IsIn : Form → Meaning → Type 0
IsIn form (line.Clock start step) = has_clock form ≡ true
IsIn form (line.Command ask) = has_commands form ≡ true
IsIn form (line.Verdict verdict) = has_plans form ≡ true
IsIn form (line.Wait seconds) = has_plans form ≡ true
IsIn form (line.Link fate) = has_plans form ≡ true
IsIn form other = Unit {0}
