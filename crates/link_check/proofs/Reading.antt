-- What a line reads as decides its answer, and a line has one.
use Rattle.std.proofs.Common.{◌≡◌, ◌≢◌, ℕ, List, [], ◌∷◌, refl, sym, ◌∙◌, ap, Some, Result, Ok, Err, IfOk}
use Rattle.verify_link.specs.Reading.{IsLinkReading}
use Rattle.verify_link.specs.declared.parts.LinkParts.{LinkParts}
use Rattle.verify_link.specs.declared.parts.LinkFault.{LinkFault}
use Rattle.verify_link.specs.declared.parts.LinkFault.TheVariants as link_fault
use Rattle.link_check.specs.Checking.{Chain, IsChecked, AnswersAreOne, answer_to}
use Rattle.link_check.specs.Checking.IsChecked.{no_text, no_link, link}
use Rattle.link_check.specs.declared.checked.Checked.{Checked}
use Rattle.link_check.specs.declared.checked.Checked.TheVariants.{BadLink}

-- a text has one reading
abbrev pub HasOneReading : Type 0
HasOneReading = (text : List ℕ) (one other : Result LinkParts LinkFault) → IsLinkReading text one → IsLinkReading text other →
    one ≢ Err link_fault.NoMemory → other ≢ Err link_fault.NoMemory → one ≡ other

not_err : (fault : LinkFault) → fault ≢ link_fault.NoMemory →
    (let r : Result LinkParts LinkFault = Err fault in r) ≢ Err link_fault.NoMemory
not_err fault n e = n (cc)

not_ok : (parts : LinkParts) → (let r : Result LinkParts LinkFault = Ok parts in r) ≢ Err link_fault.NoMemory
not_ok parts e = absurd cc

one_answer : HasOneReading → (chain : Chain) (line : List ℕ) (a b : Checked) → IsChecked chain line a → IsChecked chain line b →
    a ≡ b
one_answer one chain line a b (no_text none) (no_text none') = refl
one_answer one chain line a b (no_text none) (no_link fault' text' reading' n') = absurd (none text')
one_answer one chain line a b (no_text none) (link parts' answer' text' reading' is') = absurd (none text')
one_answer one chain line a b (no_link fault text reading n) (no_text none') = absurd (none' text)
one_answer one chain line a b (no_link fault text reading n) (no_link fault' text' reading' n') =
    let e = one line (Err fault) (Err fault') reading reading' (not_err fault n) (not_err fault' n') in
    let f : fault ≡ fault' = cc in
    ap BadLink f
one_answer one chain line a b (no_link fault text reading n) (link parts' answer' text' reading' is') =
    let e = one line (Err fault) (Ok parts') reading reading' (not_err fault n) (not_ok parts') in absurd cc
one_answer one chain line a b (link parts answer text reading is) (no_text none') = absurd (none' text)
one_answer one chain line a b (link parts answer text reading is) (no_link fault' text' reading' n') =
    let e = one line (Ok parts) (Err fault') reading reading' (not_ok parts) (not_err fault' n') in absurd cc
one_answer one chain line a b (link parts answer text reading is) (link parts' answer' text' reading' is') =
    let e = one line (Ok parts) (Ok parts') reading reading' (not_ok parts) (not_ok parts') in
    let p : parts ≡ parts' = cc in
    let h : Some answer ≡ Some answer' = sym is ∙ ap (answer_to chain) p ∙ is' in
    cc

pub one_list : HasOneReading → AnswersAreOne
one_list one chain [] [] [] h k = refl
one_list one chain [] [] (b ∷ others) h k = absurd k
one_list one chain [] (a ∷ answers) others h k = absurd h
one_list one chain (line ∷ lines) [] others h k = absurd h
one_list one chain (line ∷ lines) (a ∷ answers) [] h k = absurd k
one_list one chain (line ∷ lines) (a ∷ answers) (b ∷ others) h k =
    let first = one_answer one chain line a b h.0 k.0 in
    let rest = one_list one chain lines answers others h.1 k.1 in
    cc

pub ok_then : {A E : Type 0} (r : Result A E) (P Q : A → Type 0) → IfOk r P → ((x : A) → P x → Q x) → IfOk r Q
ok_then (Ok x) P Q h f = f x h
ok_then (Err e) P Q h f = tt
