-- What a reader holds of its last read.
use Rattle.std.specs.Prelude.{ℕ, List, [], drop}

-- what the last read of the source gave, nothing where it failed, and what no line has taken of it yet
pub record Held : Type 0 where
  pub given : List ℕ
  pub rest : List ℕ

-- nothing was read, or nothing was given
abbrev pub nothing : Held
nothing = record { given = []; rest = [] }

-- this many of the first bytes were taken
abbrev pub taken_from : ℕ → Held → Held
taken_from count held = record held { rest = drop count held.rest }
