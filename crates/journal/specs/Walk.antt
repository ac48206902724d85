-- The frames of a file, walked one by one.
use Rattle.std.specs.Prelude.{◌≡◌, ◌<◌, ℕ, List, ◌∷◌, ◌++◌, length, drop}
use Rattle.frames.specs.Frames.{IsCounted}
use Rattle.journal.specs.declared.TheConstants.{HEADER}
use Rattle.journal.specs.File.{framed, AreBodies, closing_gate}

-- after the header there are counted frames of these bodies, up to this place, and a byte follows each of them
pub record AreFrames (content : List ℕ) (bodies : List (List ℕ)) (at : ℕ) : Type 0 where
  pub sizes : AreBodies bodies
  pub place : at ≡ closing_gate bodies
  pub bytes : drop HEADER content ≡ framed bodies ++ drop at content
  pub followed : 0 < length bodies → at < length content

-- the others are these bodies and more, and these bytes begin with a counted frame of the first one more
pub record GoOn (rest : List ℕ) (bodies others : List (List ℕ)) : Type 0 where
  pub body : List ℕ
  pub more : List (List ℕ)
  pub longer : others ≡ bodies ++ body ∷ more
  pub counted : IsCounted rest body
