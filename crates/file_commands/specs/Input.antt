-- Reading a source to its end, or to the limit of 16,777,216 bytes, which is this project's own.
use Rattle.std.specs.Prelude.{ℕ, ◌<◌, ◌≤◌, List, length, Result, Ok, Err, Vec}
use Rattle.std.specs.Io.KnownBytes.{Consumes, IsAtEnd}
use Rattle.std.specs.declared.alloc.Global.{Global}
use Rattle.ports.specs.Sources.{NoReadFailed, OneReadFailed, Sources, SourceRose}
use Rattle.file_commands.specs.declared.input.InputFault.{InputFault}
use Rattle.file_commands.specs.declared.input.InputFault.TheVariants.{ReadFault, TooBig, NoMemory}
use Rattle.file_commands.specs.declared.input.TheConstants.{MAX_INPUT}

-- the source was read to its end, and gave these bytes
pub record ReadAll (s : Sources) (bytes : List ℕ) : Type 0 where
  pub given : Consumes s.left s.left_after bytes
  pub at_end : IsAtEnd s.left_after
  pub size : length bytes ≤ MAX_INPUT

-- the source gave more than is read
pub record ReadPast (s : Sources) : Type 0 where
  pub bytes : List ℕ
  pub given : Consumes s.left s.left_after bytes
  pub size : MAX_INPUT < length bytes

-- the source failed, and gave no more than is read before it did
pub record ReadFailed (s : Sources) : Type 0 where
  pub bytes : List ℕ
  pub given : Consumes s.left s.left_after bytes
  pub size : length bytes ≤ MAX_INPUT
  pub risen : SourceRose s

-- the bytes, or why there are none
abbrev pub InputIs : Sources → Result (Vec ℕ Global) InputFault → Type 0
InputIs s (Ok bytes) = ReadAll s bytes.items
InputIs s (Err ReadFault) = ReadFailed s
InputIs s (Err TooBig) = ReadPast s
InputIs s (Err NoMemory) = Unit {0}

-- A failed read ends the reading: one failed where a read fault is told, else none.
abbrev pub EndsAtFault : Sources → Result (Vec ℕ Global) InputFault → Type 0
EndsAtFault s (Err ReadFault) = OneReadFailed s
EndsAtFault s _ = NoReadFailed s
