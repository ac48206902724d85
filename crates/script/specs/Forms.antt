-- What may stand in each form of a script.
use Rattle.std.specs.Prelude.{Bool, true, false}
use Rattle.script.specs.declared.forms.Form.{Form}
use Rattle.script.specs.declared.forms.Form.TheVariants.{Full, NoCommands, First, Later}

-- commands
abbrev pub has_commands : Form → Bool
has_commands Full = true
has_commands NoCommands = false
has_commands First = true
has_commands Later = true

-- a clock line
abbrev pub has_clock : Form → Bool
has_clock Full = true
has_clock NoCommands = true
has_clock First = true
has_clock Later = false

-- lines that plan what the practice agency does
abbrev pub has_plans : Form → Bool
has_plans Full = true
has_plans NoCommands = true
has_plans First = false
has_plans Later = false
