-- Texts that are cut at a byte.
use Rattle.std.specs.Prelude.{ℕ, List, [], ◌==◌, Bool, Option, map}
use Rattle.std.specs.Borrow.{Bor}
use Rattle.std.specs.List.{slice_split, list_any, before_first, after_first, before_last, after_last}
use Rattle.std.specs.Option.{option_map_or}
use Rattle.std.specs.Str.Lines.{strip_carriage_return}
use Rattle.record_fields.specs.Picks.{when}

-- the parts between the places of a byte
abbrev pub parts_of : ℕ → List ℕ → List (List ℕ)
parts_of cut text = slice_split (λ b. b == cut) text

-- the parts of the text that is left, where one is left
abbrev pub parts_left : ℕ → Option (Bor (List ℕ)) → List (List ℕ)
parts_left cut left = option_map_or (λ (text : Bor (List ℕ)). parts_of cut text.now) left []

-- the lines, cut at each LF, without the one carriage return at the end of each
abbrev pub lines_of : List ℕ → List (List ℕ)
lines_of bytes = map strip_carriage_return (parts_of 10 bytes)

-- the byte stands in the text
abbrev pub has : ℕ → List ℕ → Bool
has byte text = list_any (λ b. b == byte) text

-- what stands before the first byte that passes a test and after it, where one passes
abbrev pub cut_where : (ℕ → Bool) → List ℕ → Option (List ℕ × List ℕ)
cut_where test text = when (list_any test text) (before_first test text, after_first test text)

-- what stands before the first place of the byte and after it, where it stands in the text
abbrev pub cut_at_first : ℕ → List ℕ → Option (List ℕ × List ℕ)
cut_at_first byte text = cut_where (λ b. b == byte) text

-- the same at its last place
abbrev pub cut_at_last : ℕ → List ℕ → Option (List ℕ × List ℕ)
cut_at_last byte text = when (has byte text) (before_last (λ b. b == byte) text, after_last (λ b. b == byte) text)
