-- The text of a copy that was brought up.
use Rattle.std.specs.Prelude.{ℕ, List, ◌++◌, codes, decimal}

-- followed KEPT entries ENTRIES
abbrev pub counts_text : ℕ → ℕ → List ℕ
counts_text kept entries = codes "followed " ++ decimal kept ++ codes " entries " ++ decimal entries

-- the same as a line
abbrev pub followed_text : ℕ → ℕ → List ℕ
followed_text kept entries = counts_text kept entries ++ codes "\n"
