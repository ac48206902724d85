-- The heads of sections, by whether a line is UTF-8.
use Rattle.std.proofs.Common.{◌≡◌, ℕ, List, Bool, true, false, None, refl, IsUtf8}
use Rattle.std.specs.Str.{is_utf8}
use Rattle.std.proofs.lemmas.Str.{is_utf8-from_IsUtf8, IsUtf8-from_is_utf8}
use Rattle.script.specs.Fields.{fields_of}
use Rattle.issuers.specs.Reading.{behind_issuer, section_in}

pub section_yes : (text : List ℕ) → IsUtf8 text → section_in text ≡ behind_issuer (fields_of text)
section_yes text h = rw (is_utf8-from_IsUtf8 text h) refl

not_utf8 : (text : List ℕ) (b : Bool) → is_utf8 text ≡ b → (IsUtf8 text → ⊥) → is_utf8 text ≡ false
not_utf8 text true e h = absurd (h (IsUtf8-from_is_utf8 text e))
not_utf8 text false e h = e

pub section_no : (text : List ℕ) → (IsUtf8 text → ⊥) → section_in text ≡ None
section_no text h = rw (not_utf8 text (is_utf8 text) refl h) refl
