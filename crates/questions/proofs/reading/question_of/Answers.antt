use Rattle.std.proofs.Common.{◌≡◌, ℕ, Bool, true, false, List, None, refl}
use Rattle.std.specs.Str.{IsUtf8, is_utf8}
use Rattle.std.proofs.lemmas.Str.{IsUtf8-from_is_utf8, is_utf8-from_IsUtf8}
use Rattle.script.specs.Fields.{fields_of}
use Rattle.questions.specs.Reading.{in_fields, question_of}
use Rattle.questions.proofs.reading.question_of.Goals as goal

of_text : (text : List ℕ) → IsUtf8 text → question_of text ≡ in_fields (fields_of text)
of_text text utf8 = rw (is_utf8-from_IsUtf8 text utf8) refl

not_utf8 : (text : List ℕ) (b : Bool) → is_utf8 text ≡ b → (IsUtf8 text → ⊥) → is_utf8 text ≡ false
not_utf8 text true e h = absurd (h (IsUtf8-from_is_utf8 text e))
not_utf8 text false e h = e

of_bytes : (text : List ℕ) → (IsUtf8 text → ⊥) → question_of text ≡ None
of_bytes text none = rw (not_utf8 text (is_utf8 text) refl none) refl

pub returns-in-Ok : goal.returns-in-Ok
returns-in-Ok c = rw (of_text c.args.text.now c.in-Ok.ensures.cases.1) (rw c.in-Ok.ensures.cases.0 at c.in_fields.ensures)

pub returns-in-Err : goal.returns-in-Err
returns-in-Err c = rw (of_bytes c.args.text.now c.in-Err.ensures.cases.0) refl
