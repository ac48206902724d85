-- Laws of frames.
use Rattle.std.specs.Prelude.{◌≡◌, ◌+◌, ℕ, List, ◌∷◌, ◌++◌, length}
use Rattle.frames.specs.Frames.{frame, IsBody, IsFrame, IsCounted}
use Rattle.frames.specs.declared.Frame.{Frame}

-- after a gate that is 1 a frame reads as it was written, whatever follows it
abbrev pub ReadsAsWritten : Type 0
ReadsAsWritten = (body rest : List ℕ) → IsBody body → IsCounted (1 ∷ (frame body ++ rest)) body

-- what follows the gate is five bytes longer than the body
abbrev pub IsFiveLonger : Type 0
IsFiveLonger = (body : List ℕ) → length (frame body) ≡ length body + 5

-- bytes begin with one frame and no other, of one body and no other
abbrev pub OneFrame : Type 0
OneFrame =
    ((bytes : List ℕ) (a b : Frame) → IsFrame bytes a → IsFrame bytes b → a ≡ b)
    × ((bytes body other : List ℕ) → IsCounted bytes body → IsCounted bytes other → body ≡ other)
