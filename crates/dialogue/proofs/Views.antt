-- One answer more; one reply more, in line order and in the order of one till.
use Rattle.std.proofs.Common.{◌≡◌, ◌∙◌, ℕ, List, [], ◌∷◌, ◌++◌, ◌==◌, length, map, filter, zip, refl, ap, sym, arith}
use Rattle.std.proofs.Common.{Bool, true, false, cond, Result, append-nil, append_assoc}
use Rattle.std.proofs.lemmas.List.Elements.{filter-append}
use Rattle.journal.specs.declared.faults.StoreFault.{StoreFault}
use Rattle.shop_core.specs.Answer.Requests.{Asked}
use Rattle.shop_core.specs.declared.answer.Reply.{Reply}
use Rattle.dialogue.specs.Protocol.{Replies, replies_of, written_for}

pub written_more : (answers : List (List ℕ)) (answer : List ℕ) → written_for (answers ++ answer ∷ []) ≡ written_for answers ++ answer
written_more [] answer = append-nil answer
written_more (a ∷ answers) answer = ap (λ (l : List ℕ). a ++ l) (written_more answers answer)
    ∙ sym (append_assoc a (written_for answers) answer)

abbrev Pair : Type 0
Pair = Asked × Result Reply StoreFault

pub zip_more : (asks : List Asked) (replies : Replies) (ask : Asked) (told : Result Reply StoreFault) → length replies ≡ length asks →
    zip (asks ++ ask ∷ []) (replies ++ told ∷ []) ≡ zip asks replies ++ (ask, told) ∷ []
zip_more [] [] ask told e = refl
zip_more [] (r ∷ replies) ask told e = absurd (omega (arith, e))
zip_more (a ∷ asks) [] ask told e = absurd (omega (arith, e))
zip_more (a ∷ asks) (r ∷ replies) ask told e = ap (λ l. (a, r) ∷ l) (zip_more asks replies ask told (omega (arith, e)))

map_more : (pairs : List Pair) (more : List Pair) → map (λ (a : Pair). a.1) (pairs ++ more) ≡ map (λ (a : Pair). a.1) pairs
    ++ map (λ (a : Pair). a.1) more
map_more [] more = refl
map_more (p ∷ pairs) more = ap (λ l. p.1 ∷ l) (map_more pairs more)

one_of : (till : ℕ) (p : Pair) (b : Bool) → (p.0.till == till) ≡ b →
    map (λ (a : Pair). a.1) (filter (λ (a : Pair). a.0.till == till) (p ∷ [])) ≡ cond b (p.1 ∷ []) []
one_of till p true e = rw e refl
one_of till p false e = rw e refl

-- the replies to one till after a command, by whether it is its own
pub replies_more : (till : ℕ) (asks : List Asked) (replies : Replies) (ask : Asked) (told : Result Reply StoreFault) (own : Bool) →
    length replies ≡ length asks → (ask.till == till) ≡ own →
    replies_of till (asks ++ ask ∷ []) (replies ++ told ∷ []) ≡ replies_of till asks replies ++ cond own (told ∷ []) []
replies_more till asks replies ask told own e is =
    ap (λ (l : List Pair). map (λ (a : Pair). a.1) (filter (λ (a : Pair). a.0.till == till) l)) (zip_more asks replies ask told e)
    ∙ ap (λ (l : List Pair). map (λ (a : Pair). a.1) l) (filter-append (λ (a : Pair). a.0.till == till) (zip asks replies) ((ask, told) ∷ []))
    ∙ map_more (filter (λ (a : Pair). a.0.till == till) (zip asks replies)) (filter (λ (a : Pair). a.0.till == till) ((ask, told) ∷ []))
    ∙ ap (λ l. replies_of till asks replies ++ l) (one_of till (ask, told) own is)

pub replies_own : (till : ℕ) (asks : List Asked) (replies : Replies) (ask : Asked) (told : Result Reply StoreFault) →
    length replies ≡ length asks → (ask.till == till) ≡ true →
    replies_of till (asks ++ ask ∷ []) (replies ++ told ∷ []) ≡ replies_of till asks replies ++ told ∷ []
replies_own till asks replies ask told e is = replies_more till asks replies ask told true e is

pub replies_other : (till : ℕ) (asks : List Asked) (replies : Replies) (ask : Asked) (told : Result Reply StoreFault) →
    length replies ≡ length asks → (ask.till == till) ≡ false →
    replies_of till (asks ++ ask ∷ []) (replies ++ told ∷ []) ≡ replies_of till asks replies
replies_other till asks replies ask told e is =
    replies_more till asks replies ask told false e is ∙ append-nil (replies_of till asks replies)
