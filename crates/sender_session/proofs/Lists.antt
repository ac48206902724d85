-- Lists of which each element keeps something.
use Rattle.std.proofs.Common.{◌≡◌, ℕ, zero, suc, ◌+◌, List, [], ◌∷◌, ◌++◌, map, refl, ap, sym, ◌∙◌, subst, arith, All, length}
use Rattle.std.proofs.Common.{take, drop}
use Rattle.std.specs.Prelude.{reverse}
use Rattle.std.specs.List.{AllByRecursion, flat_map, enumerate_from}
use Rattle.std.proofs.lemmas.List.{map_push, reverse-append, append-nil, drop_all, take_all}

pub each_of_all : {X : Type 0} (P : X → Type 0) (xs : List X) → All P xs → AllByRecursion P xs
each_of_all P [] h = tt
each_of_all P (x ∷ xs) h = (h 0 x (omega arith), each_of_all P xs (λ k d l. h (suc k) d (omega (arith, l))))

pub all_of_each : {X : Type 0} (P : X → Type 0) (xs : List X) → AllByRecursion P xs → All P xs
all_of_each P [] h i d l = absurd (omega (arith, l))
all_of_each P (x ∷ xs) h zero d l = h.0
all_of_each P (x ∷ xs) h (suc i) d l = all_of_each P xs h.1 i d (omega (arith, l))

pub each_both : {A : Type 0} (P Q R : A → Type 0) (xs : List A) → ((x : A) → P x → Q x → R x) → AllByRecursion P xs →
    AllByRecursion Q xs → AllByRecursion R xs
each_both P Q R [] f p q = tt
each_both P Q R (x ∷ xs) f p q = (f x p.0 q.0, each_both P Q R xs f p.1 q.1)

pub each_weaker : {A : Type 0} (P R : A → Type 0) (xs : List A) → ((x : A) → P x → R x) → AllByRecursion P xs →
    AllByRecursion R xs
each_weaker P R [] f p = tt
each_weaker P R (x ∷ xs) f p = (f x p.0, each_weaker P R xs f p.1)

pub each_map : {A B : Type 0} (f : A → B) (P : B → Type 0) (xs : List A) → AllByRecursion (λ (x : A). P (f x)) xs →
    AllByRecursion P (map f xs)
each_map f P [] h = tt
each_map f P (x ∷ xs) h = (h.0, each_map f P xs h.1)

pub each_unmap : {A B : Type 0} (f : A → B) (P : B → Type 0) (xs : List A) → AllByRecursion P (map f xs) →
    AllByRecursion (λ (x : A). P (f x)) xs
each_unmap f P [] h = tt
each_unmap f P (x ∷ xs) h = (h.0, each_unmap f P xs h.1)

pub each_snoc : {A : Type 0} (P : A → Type 0) (xs : List A) (y : A) → AllByRecursion P xs → P y → AllByRecursion P (xs ++ y ∷ [])
each_snoc P [] y h p = (p, tt)
each_snoc P (x ∷ xs) y h p = (h.0, each_snoc P xs y h.1 p)

pub each_front : {A : Type 0} (P : A → Type 0) (xs : List A) (y : A) → AllByRecursion P (xs ++ y ∷ []) → AllByRecursion P xs × P y
each_front P [] y h = (tt, h.0)
each_front P (x ∷ xs) y h = ((h.0, (each_front P xs y h.1).0), (each_front P xs y h.1).1)

pub each_append : {X : Type 0} (P : X → Type 0) (xs ys : List X) → AllByRecursion P xs → AllByRecursion P ys →
    AllByRecursion P (xs ++ ys)
each_append P [] ys h k = k
each_append P (x ∷ xs) ys h k = (h.0, each_append P xs ys h.1 k)

pub each_back : {X : Type 0} (P : X → Type 0) (xs ys : List X) → AllByRecursion P (xs ++ ys) → AllByRecursion P ys
each_back P [] ys h = h
each_back P (x ∷ xs) ys h = each_back P xs ys h.1

pub each_piece : {A B : Type 0} (f : A → List B) (P : B → Type 0) (xs : List A) →
    AllByRecursion (λ (x : A). AllByRecursion P (f x)) xs → AllByRecursion P (flat_map f xs)
each_piece f P [] h = tt
each_piece f P (x ∷ xs) h = each_append P (f x) (flat_map f xs) h.0 (each_piece f P xs h.1)

pub each_placed : {X : Type 0} (P : X → Type 0) (n : ℕ) (xs : List X) → AllByRecursion P xs →
    AllByRecursion (λ (z : ℕ × X). P z.1) (enumerate_from n xs)
each_placed P n [] h = tt
each_placed P n (x ∷ xs) h = (h.0, each_placed P (n + 1) xs h.1)

pub each_reverse : {X : Type 0} (P : X → Type 0) (xs : List X) → AllByRecursion P xs → AllByRecursion P (reverse xs)
each_reverse P [] h = tt
each_reverse {X} P (x ∷ xs) h = subst (λ (l : List X). AllByRecursion P l) (sym (reverse-append (x ∷ []) xs))
    (each_snoc P (reverse xs) x (each_reverse P xs h.1) h.0)

pub map_reverse : {X Y : Type 0} (f : X → Y) (xs : List X) → map f (reverse xs) ≡ reverse (map f xs)
map_reverse f [] = refl
map_reverse f (x ∷ xs) = ap (λ l. map f l) (reverse-append (x ∷ []) xs) ∙ map_push f (reverse xs) x ∙ ap (λ l. l ++ f x ∷ [])
    (map_reverse f xs) ∙ sym (reverse-append (f x ∷ []) (map f xs))

-- what a slice of all of a vector leaves in it
pub written_back : {X : Type 0} (new old : List X) (len : ℕ) → length new ≡ len → length old ≡ len →
    take len (new ++ drop (length new) old) ≡ new
written_back new old len e f =
    let none : drop (length new) old ≡ [] = drop_all (length new) old (omega (arith, e, f)) in
    ap (λ l. take len (new ++ l)) none ∙ ap (λ l. take len l) (append-nil new) ∙ take_all len new (omega (arith, e))
