-- Fronts of lists.
use Rattle.std.proofs.Common.{◌≡◌, List, [], ◌∷◌, ◌++◌, length, append_assoc, refl, sym, ◌∙◌, ap, arith}
use Rattle.std.proofs.lemmas.List.{append-nil}
use Rattle.shop_core.specs.Prefix.{IsPrefix}

pub front_same : {A : Type 0} (xs : List A) → IsPrefix xs xs
front_same xs = record { rest = []; is = sym (append-nil xs) }

pub front_by : {A : Type 0} (xs ys : List A) → ys ≡ xs → IsPrefix xs ys
front_by xs ys e = record { rest = []; is = e ∙ sym (append-nil xs) }

pub front_with : {A : Type 0} (xs more : List A) → IsPrefix xs (xs ++ more)
front_with xs more = record { rest = more; is = refl }

pub front_on : {A : Type 0} (xs ys zs : List A) → IsPrefix xs ys → IsPrefix ys zs → IsPrefix xs zs
front_on xs ys zs f g = record {
  rest = f.rest ++ g.rest;
  is = g.is ∙ ap (λ (l : List _). l ++ g.rest) f.is ∙ append_assoc xs f.rest g.rest;
}

none_of : {A : Type 0} (x : A) (xs : List A) → length (x ∷ xs) ≡ 0 → ⊥
none_of x xs e = omega (arith, e)

-- two fronts of one length of a list are the same
pub same_front : {A : Type 0} (xs ys more others : List A) → xs ++ more ≡ ys ++ others → length xs ≡ length ys →
    (xs ≡ ys) × (more ≡ others)
same_front [] [] more others e n = (refl, e)
same_front [] (y ∷ ys) more others e n = absurd (none_of y ys (sym n))
same_front (x ∷ xs) [] more others e n = absurd (none_of x xs n)
same_front (x ∷ xs) (y ∷ ys) more others e n =
    let head : x ≡ y = cc in
    let rest : xs ++ more ≡ ys ++ others = cc in
    let fewer : length xs ≡ length ys = omega (arith, n) in
    let t = same_front xs ys more others rest fewer in
    let both : x ∷ xs ≡ y ∷ ys = (let h = t.0 in cc) in
    (both, t.1)
