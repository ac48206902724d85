-- An invoice's number is ASCII.
use Rattle.std.proofs.Common.{◌≡◌, ◌<◌, ℕ, true, List, [], ◌∷◌, IsTrue, arith}
use Rattle.std.specs.Str.{IsAscii}
use Rattle.std.specs.List.{list_all}
use Rattle.std.proofs.lemmas.Bool.{and_parts}
use Rattle.std.proofs.lemmas.Bool.Decides.{nat_tests}
use Rattle.std.proofs.lemmas.Str.Ascii.{IsAscii-nil, IsAscii-cons}
use Rattle.series.specs.Numbers.{is_num_serie, is_number_char}

char_low : (c : ℕ) → is_number_char c ≡ true → c < 128
char_low c is = grind (arith, nat_tests)

chars_ascii : (text : List ℕ) → list_all is_number_char text ≡ true → IsAscii text
chars_ascii [] all = IsAscii-nil
chars_ascii (c ∷ rest) all =
    let parts = and_parts (is_number_char c) (list_all is_number_char rest) all in
    IsAscii-cons c rest (char_low c parts.0) (chars_ascii rest parts.1)

num_all : (text : List ℕ) → is_num_serie text ≡ true → list_all is_number_char text ≡ true
num_all text is = grind (arith, nat_tests)

pub num_ascii : (text : List ℕ) → IsTrue (is_num_serie text) → IsAscii text
num_ascii text is = chars_ascii text (num_all text is)
