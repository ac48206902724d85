-- How many records a chain has, and how many of them have noted lines.
use Rattle.std.specs.Prelude.{ℕ, List, ◌++◌, codes, decimal}

-- chain RECORDS noted NOTED
abbrev pub chain_text : ℕ → ℕ → List ℕ
chain_text records noted = codes "chain " ++ decimal records ++ codes " noted " ++ decimal noted

-- the same as a line
abbrev pub chain_line : ℕ → ℕ → List ℕ
chain_line records noted = chain_text records noted ++ codes "\n"
