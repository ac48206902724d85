-- The lines that a reader has read of its source since it was new.
use Rattle.std.specs.Prelude.{◌≡◌, ℕ, ◌<◌, ◌≤◌, List, [], ◌∷◌, ◌++◌, length, Bool, true, false, Option, Result, Ok, Err}
use Rattle.std.specs.Io.KnownBytes.{Consumes, IsAtEnd}
use Rattle.ports.specs.declared.faults.Failed.{Failed}
use Rattle.line_reader.specs.Lines.{is_dropping, is_over, kept_of, line_of}
use Rattle.line_reader.specs.Lists.{AreAllLines, AreLines, InputLine, text_of, with_lf, without_lf}
use Rattle.line_reader.specs.Reading.{has_lf}
use Rattle.line_reader.specs.declared.chunk.TheConstants.{CHUNK}
use Rattle.line_reader.specs.declared.reader.LineReader.{LineReader}
use Rattle.line_reader.specs.declared.reader.Next.{Next}
use Rattle.line_reader.specs.declared.reader.Next.TheVariants as next
use Rattle.line_reader.specs.declared.reader.TheConstants.{MAX_LINE}

-- in mid-input the bytes taken are these lines and what is kept; at the end of the source, which was reached, they are all
abbrev pub AreRead : Bool → List ℕ → List InputLine → List ℕ → Option (List ℕ) → Type 0
AreRead false taken lines kept left = AreLines taken lines kept
AreRead true taken lines kept left = AreAllLines taken lines × (kept ≡ []) × IsAtEnd left

-- a source, which had so much to give at first and has so much now, was read to the end of these lines; what is kept after them
-- came with one read
pub record HasRead (left left_now : Option (List ℕ)) (r : LineReader) (lines : List InputLine) : Type 0 where
  pub taken : List ℕ
  pub consumed : Consumes left left_now taken
  pub are : AreRead (is_over r) taken lines (kept_of r) left_now
  pub few : length (kept_of r) ≤ CHUNK
  pub fresh : is_dropping r ≡ false

-- the source failed after these lines, within the next one
pub record StopsBehind (left left_now : Option (List ℕ)) (lines : List InputLine) : Type 0 where
  pub taken : List ℕ
  pub rest : List ℕ
  pub consumed : Consumes left left_now taken
  pub are : AreLines taken lines rest
  pub within : has_lf rest ≡ false

-- the source was read to its end, and these are all of its lines
pub record HasReadAll (left left_now : Option (List ℕ)) (lines : List InputLine) : Type 0 where
  pub taken : List ℕ
  pub consumed : Consumes left left_now taken
  pub are : AreAllLines taken lines
  pub at_end : IsAtEnd left_now

-- one more line was read: this one, up to its LF
pub record ReadsLine (left left_now : Option (List ℕ)) (r : LineReader) (lines : List InputLine) : Type 0 where
  pub within : length (line_of r) ≤ MAX_LINE
  pub read : HasRead left left_now r (lines ++ with_lf (line_of r) ∷ [])

-- or this one, which has no LF
pub record ReadsUnended (left left_now : Option (List ℕ)) (r : LineReader) (lines : List InputLine) : Type 0 where
  pub within : length (line_of r) ≤ MAX_LINE
  pub read : HasRead left left_now r (lines ++ without_lf (line_of r) ∷ [])

-- or one that is too long
pub record ReadsTooLong (left left_now : Option (List ℕ)) (r : LineReader) (lines : List InputLine) : Type 0 where
  pub long : InputLine
  pub past : MAX_LINE < length (text_of long)
  pub read : HasRead left left_now r (lines ++ long ∷ [])

-- what came after these lines
abbrev pub HasReadOn : Option (List ℕ) → Option (List ℕ) → LineReader → List InputLine → Result Next Failed → Type 0
HasReadOn left left_now r lines (Ok next.Line) = ReadsLine left left_now r lines
HasReadOn left left_now r lines (Ok next.Unended) = ReadsUnended left left_now r lines
HasReadOn left left_now r lines (Ok next.TooLong) = ReadsTooLong left left_now r lines
HasReadOn left left_now r lines (Ok next.End) = HasReadAll left left_now lines
HasReadOn left left_now r lines (Err e) = StopsBehind left left_now lines
