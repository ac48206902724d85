-- A source that is a script for several issuers.
use Rattle.std.specs.Prelude.{ℕ, List, Result, Ok, Err}
use Rattle.ports.specs.Sources.{Sources}
use Rattle.shop_core.specs.declared.words.Word.{Word}
use Rattle.script.specs.declared.scripts.ScriptFault.TheVariants as script_fault
use Rattle.issuers.specs.Reading.{ManyIs}
use Rattle.issuers.specs.declared.parts.Part.{Part}
use Rattle.file_commands.specs.Input.{ReadAll, ReadPast, ReadFailed}
use Rattle.command_ends.specs.declared.scripts.NoScript.{NoScript}
use Rattle.command_ends.specs.declared.scripts.NoScript.TheVariants.{ReadFault, TooBig, BadLine, NoMemory}

-- the source was read to its end, and these are its parts, one for each of these issuers
pub record AreGoodParts (issuers : List (List ℕ)) (s : Sources) (parts : List Part) : Type 0 where
  pub bytes : List ℕ
  pub read : ReadAll s bytes
  pub are : ManyIs issuers bytes (Ok parts)

-- the source was read to its end, and this is its bad line of the smallest number, with its word
pub record AreBadParts (issuers : List (List ℕ)) (s : Sources) (line : ℕ) (fault : Word) : Type 0 where
  pub bytes : List ℕ
  pub read : ReadAll s bytes
  pub soonest : ManyIs issuers bytes (Err (script_fault.BadLine line fault))

-- the parts of a source, or why there are none
abbrev pub PartsRead : List (List ℕ) → Sources → Result (List Part) NoScript → Type 0
PartsRead issuers s (Ok parts) = AreGoodParts issuers s parts
PartsRead issuers s (Err ReadFault) = ReadFailed s
PartsRead issuers s (Err TooBig) = ReadPast s
PartsRead issuers s (Err (BadLine line fault)) = AreBadParts issuers s line fault
PartsRead issuers s (Err NoMemory) = Unit {0}
