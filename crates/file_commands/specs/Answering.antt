-- The answers of lines as they are printed, piece by piece.
use Rattle.std.specs.Prelude.{◌≡◌, ℕ, List, [], Result, Ok, Err}
use Rattle.ports.specs.declared.faults.NoMemory.{NoMemory}
use Rattle.link_check.specs.Checking.{Chain, AreChecked}
use Rattle.link_check.specs.Texts.{checks_text}
use Rattle.link_check.specs.declared.checked.Checked.{Checked}

-- a text has the answers of these lines, a line each
abbrev pub AreAnswered : Chain → List (List ℕ) → List ℕ → Type 0
AreAnswered chain lines text = (answers : List Checked) × AreChecked chain lines answers × (text ≡ checks_text answers)

-- the text of one piece
abbrev pub text_in : Result (List ℕ) NoMemory → List ℕ
text_in (Ok text) = text
text_in (Err fault) = []
