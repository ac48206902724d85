-- Two lists, element by element.
use Rattle.std.proofs.Common.{◌≡◌, ℕ, suc, ◌+◌, ◌<◌, List, [], ◌∷◌, ◌++◌, length, map, get_or, refl, ap, sym, ◌∙◌, arith, append_assoc}
use Rattle.std.specs.Prelude.{reverse}
use Rattle.std.proofs.lemmas.List.{map_push}
use Rattle.many_issuers.specs.Pairwise.{Both}
use Rattle.many_issuers.proofs.Opened.{reverse_push}

pub both_by_index : {X : Type 0} (P : X → X → Type 0) (xs ys : List X) → length ys ≡ length xs →
    ((i : ℕ) (d : X) → i < length xs → P (get_or xs i d) (get_or ys i d)) → Both P xs ys
both_by_index P [] [] long h = tt
both_by_index P [] (y ∷ ys) long h = absurd (omega (arith, long))
both_by_index P (x ∷ xs) [] long h = absurd (omega (arith, long))
both_by_index P (x ∷ xs) (y ∷ ys) long h =
    (h 0 x (omega arith), both_by_index P xs ys (omega (arith, long)) (λ i d l. h (suc i) d (omega (arith, l))))

pub both_long : {A B : Type 0} (P : A → B → Type 0) (xs : List A) (ys : List B) → Both P xs ys → length ys ≡ length xs
both_long P [] [] h = refl
both_long P (x ∷ xs) (y ∷ ys) h = let e = both_long P xs ys h.1 in omega (arith, e)
both_long P [] (y ∷ ys) h = absurd h
both_long P (x ∷ xs) [] h = absurd h

-- the last of one list went to the end of the other
pub turned_more : {X Y : Type 0} (f : X → Y) (xs all : List X) (x : X) (ys ys' whole : List Y) (y : Y) → all ≡ xs ++ x ∷ [] →
    ys' ≡ ys ++ y ∷ [] → y ≡ f x → map f all ++ reverse ys ≡ whole → map f xs ++ reverse ys' ≡ whole
turned_more {X} {Y} f xs all x ys ys' whole y a b e h =
    ap (λ (l : List Y). map f xs ++ l) (reverse_push ys ys' y b) ∙ ap (λ (z : Y). map f xs ++ z ∷ reverse ys) e ∙
    sym (append_assoc (map f xs) (f x ∷ []) (reverse ys)) ∙ ap (λ (l : List Y). l ++ reverse ys) (sym (map_push f xs x)) ∙
    ap (λ (l : List X). map f l ++ reverse ys) (sym a) ∙ h
