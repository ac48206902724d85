-- The order in which the asks of all issuers are taken.
use Rattle.std.specs.Prelude.{◌≡◌, ◌⊎◌, ℕ, ◌<◌, ◌+◌, ◌-◌, List, [], ◌∷◌, ◌++◌, length, map, zip, filter, ◌==◌, slice_get}
use Rattle.std.specs.List.{AllByRecursion}
use Rattle.std.specs.Option.{option_map_or}
use Rattle.shop_core.specs.Answer.Requests.{Asked}
use Rattle.issuers.specs.declared.parts.Part.{Part}

-- an ask of the issuer of this index, in its line
pub record Turn : Type 0 where
  pub line : ℕ
  pub index : ℕ
  pub ask : Asked

-- one turn comes before another: in an earlier line, or in the same one for an earlier issuer
abbrev pub Before : Turn → Turn → Type 0
Before a b = (a.line < b.line) ⊎ ((a.line ≡ b.line) × (a.index < b.index))

-- each turn comes before those after it
abbrev pub InOrder : List Turn → Type 0
InOrder [] = Unit {0}
InOrder (turn ∷ turns) = AllByRecursion (Before turn) turns × InOrder turns

abbrev pub turn_of : ℕ → ℕ × Asked → Turn
turn_of index p = record { line = p.0; index = index; ask = p.1 }

-- the turns of a part: its asks, each in its line
abbrev pub turns_of : ℕ → Part → List Turn
turns_of index part = map (turn_of index) (zip part.lines part.script.asks)

-- those of the issuer of this index
abbrev pub own_turns : List Part → ℕ → List Turn
own_turns parts index = option_map_or (turns_of index) (slice_get parts index) []

-- the turns of the issuer of this index among these
abbrev pub mine : ℕ → List Turn → List Turn
mine index turns = filter (λ t. t.index == index) turns

abbrev pub asks_in : List Turn → List Asked
asks_in turns = map (λ (t : Turn). t.ask) turns

-- These turns were made, in their order, and those of each issuer that are left come after them. Where none is left they are the
-- asks of all parts, in order of line, at one line in order of the issuers.
pub record IsFront (parts : List Part) (made : List Turn) (left : ℕ → List Turn) : Type 0 where
  pub own : (index : ℕ) → own_turns parts index ≡ mine index made ++ left index
  pub ordered : InOrder made
  pub behind : (index : ℕ) → AllByRecursion (λ (t : Turn). AllByRecursion (λ (s : Turn). Before s t) made) (left index)

-- how many asks of all parts are left, at these places of them
abbrev pub left_count : List Part → List ℕ → ℕ
left_count [] places = 0
left_count (part ∷ parts) [] = 0
left_count (part ∷ parts) (place ∷ places) = (length part.lines - place) + left_count parts places
