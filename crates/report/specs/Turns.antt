-- The lines of the sender's turns. The texts are this project's own.
use Rattle.std.specs.Prelude.{ℕ, List, ◌++◌, codes, decimal, flat_map}
use Rattle.agency_port.specs.declared.turns.Told.{Told}
use Rattle.agency_port.specs.declared.turns.Told.TheVariants as told
use Rattle.report.specs.Pieces.{chain_line}

abbrev pub told_text : Told → List ℕ
told_text (told.Wait moment) = codes "wait " ++ decimal moment
told_text (told.Noted lines) = codes "noted " ++ decimal lines
told_text told.Cleared = codes "cleared"
told_text (told.Doubt place) = codes "doubt " ++ decimal place
told_text told.Link = codes "link"
told_text told.Contradiction = codes "contradiction"
told_text told.Disk = codes "fault disk"
told_text (told.Stopped faults) = codes "fault stopped " ++ decimal faults
told_text told.Memory = codes "fault memory"

-- a line for each turn, in order
abbrev pub turn_lines : List Told → List ℕ
turn_lines turns = flat_map (λ (t : Told). told_text t ++ codes "\n") turns

-- the lines of the turns and the chain line
abbrev pub turns_text : List Told → ℕ → ℕ → List ℕ
turns_text turns records noted = turn_lines turns ++ chain_line records noted
