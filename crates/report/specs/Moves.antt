-- The text of a migration.
use Rattle.std.specs.Prelude.{ℕ, List, ◌++◌, codes, decimal}

-- migrated RECORDS noted NOTED
abbrev pub counts_text : ℕ → ℕ → List ℕ
counts_text records noted = codes "migrated " ++ decimal records ++ codes " noted " ++ decimal noted

-- the same as a line
abbrev pub migrated_text : ℕ → ℕ → List ℕ
migrated_text records noted = counts_text records noted ++ codes "\n"
