-- A byte that was read, and what it says.
use Rattle.std.proofs.Common.{◌≡◌, ℕ, suc, List, [], ◌∷◌, length, Option, Some, None, Result, Ok, refl, sym, ap, subst, ◌∙◌}
use Rattle.std.specs.Option.{ok_or}
use Rattle.record_codec.specs.declared.faults.Unread.{Unread}
use Rattle.record_codec.specs.declared.faults.Unread.TheVariants as unread
use Rattle.record_codec.specs.Reading.{Gives, found, byte_at}
use Rattle.record_codec.proofs.Readers.{same_given}

said_or : {A : Type 0} (left : ℕ) (rest : List ℕ) (said o : Option A) → said ≡ o
    → Gives (ok_or o (unread.Left left)) rest (found left said rest)
said_or left rest said None e = rw e refl
said_or left rest said (Some x) e = rw e refl

-- what a byte says is given, and refused where it says nothing
pub coded : {A : Type 0} (bytes rest : List ℕ) (code : ℕ) (says : ℕ → Option A) (o : Option A) (refused : Unread)
    (r : Result A Unread)
    → byte_at (λ b. Some b) bytes ≡ Ok (code, rest) → refused ≡ unread.Left (length bytes) → o ≡ says code → r ≡ ok_or o refused
    → Gives r rest (byte_at says bytes)
coded [] rest code says o refused r read left said is = absurd cc
coded {A} (b ∷ bytes) rest code says o refused r read left said is =
    let same = same_given b code bytes rest read in
    let here : Gives (ok_or o (unread.Left (suc (length bytes)))) bytes (byte_at says (b ∷ bytes)) =
    said_or (suc (length bytes)) bytes (says b) o (ap says same.0 ∙ sym said) in
    let whole : r ≡ ok_or o (unread.Left (suc (length bytes))) = is ∙ ap (λ (e : Unread). ok_or o e) left in
    subst (λ (x : List ℕ). Gives r x (byte_at says (b ∷ bytes))) same.1
    (subst (λ (x : Result A Unread). Gives x bytes (byte_at says (b ∷ bytes))) (sym whole) here)
