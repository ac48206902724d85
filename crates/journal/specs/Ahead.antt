-- What was read of a file ahead of a scan.
use Rattle.std.specs.Prelude.{◌≡◌, ◌<◌, ◌≤◌, ◌+◌, ◌-◌, ℕ, List, length, take, drop}
use Rattle.frames.specs.declared.TheConstants.{WINDOW}
use Rattle.journal.specs.declared.ahead.TheConstants.{AHEAD}

-- bytes that stood in the file from this place on
pub record Ahead : Type 0 where
  pub start : ℕ
  pub bytes : List ℕ

-- where there are any, they are what the file has there, cut after this many
abbrev pub IsAheadIn : List ℕ → Ahead → Type 0
IsAheadIn content ahead = 0 < length ahead.bytes → ahead.bytes ≡ take AHEAD (drop ahead.start content)

-- a frame at this place lies in them, as far as the file has it
pub record Covers (ahead : Ahead) (at : ℕ) : Type 0 where
  pub begun : ahead.start ≤ at
  pub within : at - ahead.start ≤ length ahead.bytes
  pub whole : at - ahead.start + WINDOW ≤ AHEAD

-- a whole frame at this place lies in them, of which one byte at least was read: no more is read for it
pub record IsAtHand (ahead : Ahead) (at : ℕ) : Type 0 where
  pub begun : ahead.start ≤ at
  pub held : at - ahead.start < length ahead.bytes
  pub whole : at - ahead.start + WINDOW ≤ AHEAD
