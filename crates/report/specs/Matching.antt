-- The text of an export that was compared.
use Rattle.std.specs.Prelude.{ℕ, List, ◌++◌, codes, decimal}

-- matches ENTRIES
abbrev pub matches_text : ℕ → List ℕ
matches_text entries = (codes "matches " ++ decimal entries) ++ codes "\n"
