-- Lists of the tills in a row.
use Rattle.std.proofs.Common.{◌≡◌, ℕ, zero, suc, ◌+◌, ◌≤◌, Bool, true, cond, List, [], ◌∷◌, ◌++◌, map, Some, ap, sym}
use Rattle.std.proofs.Common.{◌∙◌, arith, append_assoc, All}
use Rattle.std.specs.Prelude.{filter, reverse}
use Rattle.std.specs.List.{AllByRecursion, range_with_len}
use Rattle.std.proofs.lemmas.List.{map_push, reverse-append}
use Rattle.std.proofs.lemmas.List.Elements.{All-pop, filter-append}
use Rattle.chain_lock.specs.Known.{Known}
use Rattle.shop_core.specs.declared.items.Item.{Item}

range_suc : (a n : ℕ) → range_with_len a (suc n) ≡ range_with_len a n ++ (a + n) ∷ []
range_suc a zero = ap (λ (k : ℕ). k ∷ []) (let e : a ≡ a + 0 = omega arith in e)
range_suc a (suc n) = ap (λ (l : List ℕ). a ∷ l) (range_suc (a + 1) n) ∙ ap (λ (k : ℕ). a ∷ (range_with_len (a + 1) n ++ k ∷ []))
    (let e : a + 1 + n ≡ a + suc n = omega arith in e)

pub range_more : (a n : ℕ) → range_with_len a (n + 1) ≡ range_with_len a n ++ (a + n) ∷ []
range_more a n = ap (λ (k : ℕ). range_with_len a k) (let e : n + 1 ≡ suc n = omega arith in e) ∙ range_suc a n

pub one_more : {X : Type 0} (p : X → Bool) (xs : List X) (x : X) → p x ≡ true → filter p xs ++ x ∷ [] ≡ filter p (xs ++ x ∷ [])
one_more {X} p xs x is = ap (λ (b : Bool). filter p xs ++ cond b (x ∷ []) []) (sym is) ∙ sym (filter-append p xs (x ∷ []))

reverse_push : {X : Type 0} (xs : List X) (x : X) → reverse (xs ++ x ∷ []) ≡ x ∷ reverse xs
reverse_push xs x = reverse-append xs (x ∷ [])

-- the last of the one list went to the end of the other
pub put_back : {X Y : Type 0} (f : X → Y) (js all : List X) (j : X) (ys most whole : List Y) (y : Y) → all ≡ js ++ j ∷ [] →
    f j ≡ y → ys ≡ most ++ y ∷ [] → ys ++ reverse (map f js) ≡ whole → most ++ reverse (map f all) ≡ whole
put_back {X} {Y} f js all j ys most whole y a e l h =
    ap (λ (w : List X). most ++ reverse (map f w)) a ∙ ap (λ (w : List Y). most ++ reverse w) (map_push f js j) ∙
    ap (λ (w : List Y). most ++ w) (reverse_push (map f js) (f j))
    ∙ ap (λ (z : Y). most ++ z ∷ reverse (map f js)) e ∙ sym (append_assoc most (y ∷ []) (reverse (map f js))) ∙
    ap (λ (w : List Y). w ++ reverse (map f js)) (sym l) ∙ h

pub take_back : {X Y : Type 0} (f : X → Y) (out : List X) (j : X) (ys all : List Y) (y : Y) → ys ≡ reverse (map f out) →
    all ≡ ys ++ y ∷ [] → y ≡ f j → all ≡ reverse (map f (j ∷ out))
take_back {X} {Y} f out j ys all y h e s = e ∙ ap (λ (w : List Y). w ++ y ∷ []) h ∙ ap (λ (z : Y). reverse (map f out) ++ z ∷ [])
    s ∙ sym (reverse-append (f j ∷ []) (map f out))

each_of_all : {X : Type 0} (P : X → Type 0) (xs : List X) → All P xs → AllByRecursion P xs
each_of_all P [] h = tt
each_of_all P (x ∷ xs) h = (h 0 x (omega arith), each_of_all P xs (λ k d l. h (suc k) d (omega (arith, l))))

all_of_each : {X : Type 0} (P : X → Type 0) (xs : List X) → AllByRecursion P xs → All P xs
all_of_each P [] h i d l = absurd (omega (arith, l))
all_of_each P (x ∷ xs) h zero d l = h.0
all_of_each P (x ∷ xs) h (suc i) d l = all_of_each P xs h.1 i d (omega (arith, l))

each_weaker : {A : Type 0} (P R : A → Type 0) (xs : List A) → ((x : A) → P x → R x) → AllByRecursion P xs →
    AllByRecursion R xs
each_weaker P R [] f p = tt
each_weaker P R (x ∷ xs) f p = (f x p.0, each_weaker P R xs f p.1)

each_snoc : {A : Type 0} (P : A → Type 0) (xs : List A) (y : A) → AllByRecursion P xs → P y → AllByRecursion P (xs ++ y ∷ [])
each_snoc P [] y h p = (p, tt)
each_snoc P (x ∷ xs) y h p = (h.0, each_snoc P xs y h.1 p)

-- each of these knew of no more items than the seat does now
pub told_more : {R : Type 0} (old new : ℕ) (ks : List (Known Item R)) (k : Known Item R) → old ≤ new → k.least ≤ new →
    All (λ (j : Known Item R). j.least ≤ old) ks → All (λ (j : Known Item R). j.least ≤ new) (ks ++ k ∷ [])
told_more {R} old new ks k more least h =
    all_of_each (λ (j : Known Item R). j.least ≤ new) (ks ++ k ∷ []) (each_snoc (λ (j : Known Item R). j.least ≤ new) ks k
    (each_weaker (λ (j : Known Item R). j.least ≤ old) (λ (j : Known Item R). j.least ≤ new) ks (λ j e. omega (arith, more, e))
    (each_of_all (λ (j : Known Item R). j.least ≤ old) ks h)) least)

pub all_front : {X : Type 0} (P : X → Type 0) (all xs : List X) (x : X) → all ≡ xs ++ x ∷ [] → All P all → All P xs
all_front P all xs x e h = (All-pop P all xs (Some x) e h).0
