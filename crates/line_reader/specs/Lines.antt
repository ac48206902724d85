-- What a reader of lines keeps, and what one call of it gives.
use Rattle.std.specs.Prelude.{◌≡◌, ◌⊎◌, ℕ, ◌<◌, ◌≤◌, List, [], ◌∷◌, ◌++◌, length, Bool, true, false, Result, Ok, Err}
use Rattle.std.specs.Io.KnownBytes.{Consumes, IsAtEnd}
use Rattle.ports.specs.Sources.{Sources}
use Rattle.ports.specs.declared.faults.Failed.{Failed}
use Rattle.line_reader.specs.Held.{taken_from}
use Rattle.line_reader.specs.Reading.{Absorbs, Cuts, IsUnderway, has_lf}
use Rattle.line_reader.specs.declared.chunk.TheConstants.{CHUNK}
use Rattle.line_reader.specs.declared.parts.Stage.{Stage}
use Rattle.line_reader.specs.declared.parts.Stage.TheVariants.{Whole, Part, Dropping}
use Rattle.line_reader.specs.declared.reader.LineReader.{LineReader}
use Rattle.line_reader.specs.declared.reader.Next.{Next}
use Rattle.line_reader.specs.declared.reader.Next.TheVariants as next
use Rattle.line_reader.specs.declared.reader.TheConstants.{MAX_LINE}

-- the front of the coming line that stands in the reader's text
abbrev pub front_of : Stage → List ℕ → List ℕ
front_of Whole text = []
front_of Part text = text
front_of Dropping text = []

abbrev pub drops : Stage → Bool
drops Whole = false
drops Part = false
drops Dropping = true

-- the bytes that the source gave and no call has given yet
abbrev pub kept_of : LineReader → List ℕ
kept_of r = front_of r.stage r.text.items ++ r.chunk.rest

-- what the last read of the source gave: nothing where it failed, or where nothing was read yet
abbrev pub last_read : LineReader → List ℕ
last_read r = r.chunk.given

-- the line that was read last
abbrev pub line_of : LineReader → List ℕ
line_of r = r.text.items

-- the coming line is too long, and its front was dropped
abbrev pub is_dropping : LineReader → Bool
is_dropping r = drops r.stage

-- the source had no more to give, and isn't asked again
abbrev pub is_over : LineReader → Bool
is_over r = r.over

-- the last line was dropped
pub record Begins (old new : LineReader) : Type 0 where
  pub front : front_of new.stage new.text.items ≡ front_of old.stage old.text.items
  pub chunk : new.chunk ≡ old.chunk
  pub dropping : is_dropping new ≡ is_dropping old
  pub underway : IsUnderway new.stage
  pub clean : has_lf new.text.items ≡ false
  pub over : is_over new ≡ is_over old

-- what was at hand of the coming line was taken, up to an LF or all of it
pub record TakesPart (old new : LineReader) (found : Bool) : Type 0 where
  pub part : List ℕ
  pub cuts : Cuts old.chunk.rest part found
  pub absorbs : Absorbs old.text.items part old.stage new.stage new.text.items
  pub chunk : new.chunk ≡ taken_from (length part) old.chunk
  pub clean : has_lf old.text.items ≡ false
  pub clean_after : has_lf new.text.items ≡ false
  pub within : length new.text.items ≤ MAX_LINE
  pub over : is_over new ≡ is_over old

-- the coming line was read to its end, and told as of this kind; or it was too long
abbrev pub Turns : Next → Stage → List ℕ → Stage → List ℕ → Next → Type 0
Turns kind Whole text stage after answer = ⊥
Turns kind Part text stage after answer = (stage ≡ Whole) × (after ≡ text) × (answer ≡ kind)
Turns kind Dropping text stage after answer = (stage ≡ Part) × (after ≡ []) × (answer ≡ next.TooLong)

pub record Wholes (old new : LineReader) (kind answer : Next) : Type 0 where
  pub turns : Turns kind old.stage old.text.items new.stage new.text.items answer
  pub chunk : new.chunk ≡ old.chunk
  pub over : is_over new ≡ is_over old

pub record AtLf (old new : LineReader) (answer : Next) : Type 0 where
  pub turns : Turns next.Line old.stage old.text.items new.stage new.text.items answer
  pub chunk : new.chunk ≡ taken_from 1 old.chunk
  pub over : is_over new ≡ is_over old

-- there was no coming line
pub record Nothing (old new : LineReader) (answer : Next) : Type 0 where
  pub is : answer ≡ next.End
  pub stage : old.stage ≡ Part
  pub text : old.text.items ≡ []
  pub stage_after : new.stage ≡ old.stage
  pub text_after : new.text.items ≡ old.text.items
  pub chunk : new.chunk ≡ old.chunk
  pub over : is_over new ≡ true

-- or it has no LF, and isn't empty
pub record LastLine (old new : LineReader) (answer : Next) : Type 0 where
  pub turns : Turns next.Unended old.stage old.text.items new.stage new.text.items answer
  pub chunk : new.chunk ≡ old.chunk
  pub over : is_over new ≡ true
  pub some : (0 < length old.text.items) ⊎ (old.stage ≡ Dropping)

abbrev pub AtEnd : LineReader → LineReader → Next → Type 0
AtEnd old new answer = Nothing old new answer ⊎ LastLine old new answer

-- what was kept, and what these bytes taken had ahead of the last read's, hold no LF: the source is asked for more only while no
-- whole line is at hand
abbrev pub IsAskedFor : List ℕ → List ℕ → List ℕ → Type 0
IsAskedFor kept taken last = (taken ≡ []) ⊎ ((ahead : List ℕ) × (taken ≡ ahead ++ last) × (has_lf (kept ++ ahead) ≡ false))

-- One call took these bytes of the source, none where it was at its end, and gave those, which begin with what was kept; the
-- rest it keeps.
pub record Took (s : Sources) (old new : LineReader) (given : List ℕ) : Type 0 where
  pub taken : List ℕ
  pub consumed : Consumes s.left s.left_after taken
  pub parts : kept_of old ++ taken ≡ given ++ kept_of new
  pub rests : is_over old ≡ true → taken ≡ []
  pub asked_for : IsAskedFor (kept_of old) taken (last_read new)

-- nothing is left to give: the source is at its end, or was found there before
pub record IsSpent (s : Sources) (old new : LineReader) : Type 0 where
  pub none : kept_of new ≡ []
  pub over : is_over new ≡ true
  pub at_end : is_over old ≡ false → IsAtEnd s.left_after

-- a line, with its LF
pub record GaveLine (dropping : Bool) (line given : List ℕ) (same : Type 0) : Type 0 where
  pub fresh : dropping ≡ false
  pub clean : has_lf line ≡ false
  pub within : length line ≤ MAX_LINE
  pub ends : given ≡ line ++ 10 ∷ []
  pub same_is : same

-- the last line, which has none and isn't empty
pub record GaveUnended (dropping : Bool) (line given : List ℕ) (spent : Type 0) : Type 0 where
  pub fresh : dropping ≡ false
  pub clean : has_lf line ≡ false
  pub within : length line ≤ MAX_LINE
  pub some : 0 < length line
  pub is : given ≡ line
  pub spent_is : spent

-- a line that is too long, or the rest of one
pub record GaveTooLong (dropping : Bool) (given : List ℕ) (same spent : Type 0) : Type 0 where
  pub long : List ℕ
  pub clean : has_lf long ≡ false
  pub past : (dropping ≡ true) ⊎ (MAX_LINE < length long)
  pub ends : ((given ≡ long ++ 10 ∷ []) × same) ⊎ ((given ≡ long) × spent)

pub record GaveEnd (dropping : Bool) (given : List ℕ) (spent : Type 0) : Type 0 where
  pub fresh : dropping ≡ false
  pub none : given ≡ []
  pub spent_is : spent

-- what was given, by what came: the line that stands now, a line that is too long, or nothing
abbrev pub Gave : Bool → List ℕ → List ℕ → Type 0 → Type 0 → Next → Type 0
Gave dropping line given same spent next.Line = GaveLine dropping line given same
Gave dropping line given same spent next.Unended = GaveUnended dropping line given spent
Gave dropping line given same spent next.TooLong = GaveTooLong dropping given same spent
Gave dropping line given same spent next.End = GaveEnd dropping given spent

-- the front of the coming line was dropped where it is too long, and nothing else
abbrev pub IsLetGo : Bool → Bool → List ℕ → Type 0
IsLetGo before true given = (before ≡ true) ⊎ (MAX_LINE < length given)
IsLetGo before false given = (before ≡ false) × (given ≡ [])

-- what came next
pub record Came (s : Sources) (old new : LineReader) (answer : Next) : Type 0 where
  pub given : List ℕ
  pub took : Took s old new given
  pub gave : Gave (is_dropping old) (line_of new) given (is_over new ≡ is_over old) (IsSpent s old new) answer
  pub going_on : is_dropping new ≡ false
  pub few : length (kept_of new) ≤ CHUNK

-- the source failed in the middle of a line, of which only a front that is too long was dropped
pub record Paused (s : Sources) (old new : LineReader) : Type 0 where
  pub given : List ℕ
  pub took : Took s old new given
  pub clean : has_lf given ≡ false
  pub kept_clean : has_lf (kept_of new) ≡ false
  pub let_go : IsLetGo (is_dropping old) (is_dropping new) given
  pub over : (is_over old ≡ false) × (is_over new ≡ false)

abbrev pub NextIs : Sources → LineReader → LineReader → Result Next Failed → Type 0
NextIs s old new (Ok answer) = Came s old new answer
NextIs s old new (Err e) = Paused s old new
