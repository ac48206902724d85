-- The lines of bytes.
use Rattle.std.specs.Prelude.{◌≡◌, ℕ, ◌<◌, List, [], ◌∷◌, ◌++◌, flat_map, length, false}
use Rattle.std.specs.List.{AllByRecursion}
use Rattle.line_reader.specs.Reading.{has_lf}

-- a line: what stands up to its LF, or what stands after the last LF and has none
pub data InputLine : Type 0 where
  with_lf : List ℕ → InputLine
  without_lf : List ℕ → InputLine

-- the line itself
abbrev pub text_of : InputLine → List ℕ
text_of (with_lf text) = text
text_of (without_lf text) = text

abbrev pub bytes_of : InputLine → List ℕ
bytes_of (with_lf text) = text ++ 10 ∷ []
bytes_of (without_lf text) = text

-- a line that ends at its LF, the only one in it
abbrev pub IsLine : InputLine → Type 0
IsLine (with_lf text) = has_lf text ≡ false
IsLine (without_lf text) = ⊥

-- the line after the last LF: where nothing stands there, there is none
abbrev pub IsLast : InputLine → Type 0
IsLast (with_lf text) = ⊥
IsLast (without_lf text) = (has_lf text ≡ false) × (0 < length text)

-- these lines, each up to its LF, and what stands after them
pub record AreLines (bytes : List ℕ) (lines : List InputLine) (rest : List ℕ) : Type 0 where
  pub each : AllByRecursion IsLine lines
  pub is : bytes ≡ flat_map bytes_of lines ++ rest

-- the lines of bytes that are all: each up to its LF, and at most one more without
pub record AreAllLines (bytes : List ℕ) (lines : List InputLine) : Type 0 where
  pub whole : List InputLine
  pub last : List InputLine
  pub lines_are : lines ≡ whole ++ last
  pub each : AllByRecursion IsLine whole
  pub at_most_one : length last < 2
  pub last_is : AllByRecursion IsLast last
  pub is : bytes ≡ flat_map bytes_of whole ++ flat_map bytes_of last

-- bytes have one list of lines
abbrev pub HaveOneList : List ℕ → Type 0
HaveOneList bytes = (lines others : List InputLine) → AreAllLines bytes lines → AreAllLines bytes others → lines ≡ others
