-- The fields of a line from the left, each with its own word.
use Rattle.std.specs.Prelude.{ℕ, zero, suc, List, [], ◌∷◌, drop, Bool, true, false, ◌||◌, ◌==◌, Option, Some, None}
use Rattle.std.specs.Prelude.{option_and_then, Result, Ok, Err}
use Rattle.std.specs.Borrow.{Bor}
use Rattle.std.specs.List.{slice_split, list_any, after_first}
use Rattle.std.specs.Option.{ok_or, option_map_or}
use Rattle.record_fields.specs.Picks.{first_of, when}
use Rattle.shop_core.specs.declared.words.Word.{Word}
use Rattle.shop_core.specs.declared.words.Word.TheVariants.{Fields}

-- a blank is a space or a tab
abbrev pub is_blank : ℕ → Bool
is_blank byte = (byte == 32) || (byte == 9)

-- the fields of a line are its parts between its blanks
abbrev pub fields_of : List ℕ → List (List ℕ)
fields_of line = slice_split is_blank line

-- the fields of what is left of a line, where something is left
abbrev pub fields_left : Option (Bor (List ℕ)) → List (List ℕ)
fields_left left = option_map_or (λ (text : Bor (List ℕ)). fields_of text.now) left []

-- what stands after the first blank of a text, as it is written there, where it has a blank
abbrev pub behind_blank : List ℕ → Option (List ℕ)
behind_blank text = when (list_any is_blank text) (after_first is_blank text)

-- what stands after the third blank of a line, as it is written there, where it has three
abbrev pub behind_third_blank : List ℕ → Option (List ℕ)
behind_third_blank line = option_and_then behind_blank (option_and_then behind_blank (behind_blank line))

-- the first, and then what its value leads to
abbrev pub and_then : {A B : Type 0} → Result A Word → (A → Result B Word) → Result B Word
and_then (Ok x) next = next x
and_then (Err word) next = Err word

-- the word, else the answer
abbrev pub word_or : {A : Type 0} → Option Word → Result A Word → Result A Word
word_or (Some word) answer = Err word
word_or None answer = answer

-- the first of the causes that is there, else the answer
abbrev pub unless_any : {A : Type 0} → List (Option Word) → Result A Word → Result A Word
unless_any causes answer = word_or (first_of causes) answer

-- the text where it passes the test
abbrev pub such : (List ℕ → Bool) → List ℕ → Option (List ℕ)
such test text = when (test text) text

-- the fields past the first k
abbrev pub past : ℕ → List (List ℕ) → List (List ℕ)
past zero fields = fields
past (suc k) fields = drop 1 (past k fields)

abbrev pub is_left : List (List ℕ) → Bool
is_left [] = false
is_left (field ∷ fields) = true

-- the first of the fields as it is read, else the word; `Fields` where it is missing
abbrev pub first_field : {A : Type 0} → List (List ℕ) → (List ℕ → Option A) → Word → Result A Word
first_field [] read word = Err Fields
first_field (field ∷ fields) read word = ok_or (read field) word

-- the field at a place, counted from 0
abbrev pub field_at : {A : Type 0} → ℕ → List (List ℕ) → (List ℕ → Option A) → Word → Result A Word
field_at k fields read word = first_field (past k fields) read word

-- the answer where no field is left past the first k
abbrev pub ends_at : {A : Type 0} → ℕ → List (List ℕ) → Result A Word → Result A Word
ends_at k fields answer = unless_any (when (is_left (past k fields)) Fields ∷ []) answer

-- a text that was read
abbrev pub text_in : Result (Bor (List ℕ)) Word → Result (List ℕ) Word
text_in (Ok text) = Ok text.now
text_in (Err word) = Err word
