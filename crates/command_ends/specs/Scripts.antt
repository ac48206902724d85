-- How a command that reads a script ends.
use Rattle.std.specs.Prelude.{ℕ, List, Result, Ok, Err}
use Rattle.ports.specs.Sources.{NoReadFailed, OneReadFailed, Sources}
use Rattle.shop_core.specs.declared.words.Word.{Word}
use Rattle.script.specs.Script.{IsScript}
use Rattle.script.specs.declared.forms.Form.{Form}
use Rattle.script.specs.declared.scripts.Script.{Script}
use Rattle.script.specs.declared.scripts.ScriptFault.TheVariants as script_fault
use Rattle.report.specs.declared.status.Detail.{Detail}
use Rattle.report.specs.declared.status.Detail.TheVariants as detail
use Rattle.file_commands.specs.Input.{ReadAll, ReadPast, ReadFailed}
use Rattle.command_ends.specs.declared.scripts.NoScript.{NoScript}
use Rattle.command_ends.specs.declared.scripts.NoScript.TheVariants.{ReadFault, TooBig, BadLine, NoMemory}

-- a source that is a script of this form
pub record IsGoodScript (form : Form) (s : Sources) (script : Script) : Type 0 where
  pub bytes : List ℕ
  pub read : ReadAll s bytes
  pub is_script : IsScript form bytes (Ok script)

-- the source was read to its end, and this is its first bad line, with its word
pub record IsBadScript (form : Form) (s : Sources) (line : ℕ) (fault : Word) : Type 0 where
  pub bytes : List ℕ
  pub read : ReadAll s bytes
  pub first_bad : IsScript form bytes (Err (script_fault.BadLine line fault))

-- the script of a source, or why there is none
abbrev pub ScriptIs : Form → Sources → Result Script NoScript → Type 0
ScriptIs form s (Ok script) = IsGoodScript form s script
ScriptIs form s (Err ReadFault) = ReadFailed s
ScriptIs form s (Err TooBig) = ReadPast s
ScriptIs form s (Err (BadLine line fault)) = IsBadScript form s line fault
ScriptIs form s (Err NoMemory) = Unit {0}

-- A failed read ends the reading of a script: one failed where a read fault is told, else none.
abbrev pub EndsAtFault : {A : Type 0} → Sources → Result A NoScript → Type 0
EndsAtFault s (Err ReadFault) = OneReadFailed s
EndsAtFault s _ = NoReadFailed s

abbrev pub no_script_end : NoScript → Detail
no_script_end ReadFault = detail.ReadFault
no_script_end TooBig = detail.TooBig
no_script_end (BadLine line fault) = detail.Script line fault
no_script_end NoMemory = detail.NoMemory

-- the source is a script of this form, which was run; or there is none, and all the rest is untouched
pub data ScriptedEnds (form : Form) (s : Sources) (untouched : Type 0) (Ran : Script → Detail → Type 0) : Detail → Type 0 where
  ran : (script : Script) (end : Detail) → IsGoodScript form s script → Ran script end → ScriptedEnds form s untouched Ran end
  --= Where the source is no script, all the rest is untouched: nothing is printed, and neither file nor clock is
  --= touched.
  --= No body: each command reads its script first, and hands back what it was given
  bad_line : (line : ℕ) (fault : Word) → IsBadScript form s line fault → untouched →
      ScriptedEnds form s untouched Ran (detail.Script line fault)
  read_fault : ReadFailed s → untouched → ScriptedEnds form s untouched Ran detail.ReadFault
  too_big : ReadPast s → untouched → ScriptedEnds form s untouched Ran detail.TooBig
  no_memory : untouched → ScriptedEnds form s untouched Ran detail.NoMemory
