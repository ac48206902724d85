-- A list that is joined of parts is taken apart again: by the lengths of its parts, or at a sign that none of them holds.
use Rattle.std.proofs.Common.{◌≡◌, ℕ, List, [], ◌∷◌, ◌++◌, length, Bool, true, ◌==◌, not, refl, sym, ap, ◌∙◌, arith, append_assoc}
use Rattle.std.proofs.Common.{length-append}
use Rattle.std.specs.List.{list_all}
use Rattle.std.proofs.lemmas.Bool.{and_parts}
use Rattle.std.proofs.lemmas.List.{append_cancel_right}
use Rattle.std.proofs.lemmas.List.Folds.{list_all-append}

-- fronts of one length
pub same_front : (v w rest other : List ℕ) → length v ≡ length w → v ++ rest ≡ w ++ other → (v ≡ w) × (rest ≡ other)
same_front [] [] rest other long e = (refl, e)
same_front [] (d ∷ w) rest other long e = absurd (omega arith)
same_front (c ∷ v) [] rest other long e = absurd (omega arith)
same_front (c ∷ v) (d ∷ w) rest other long e =
    let head : c ≡ d = cc in
    let tail : v ++ rest ≡ w ++ other = cc in
    let same = same_front v w rest other (omega arith) tail in
    (cc (head, same.0), same.1)

-- ends of one length
pub same_end : (v w rest other : List ℕ) → length rest ≡ length other → v ++ rest ≡ w ++ other → (v ≡ w) × (rest ≡ other)
same_end v w rest other long e =
    same_front v w rest other (omega (arith, length-append v rest, length-append w other, ap length e)) e

-- no byte is `=`
abbrev pub is_plain : List ℕ → Bool
is_plain text = list_all (λ c. not (c == 61)) text

-- what stands before the first `=`
split : (v w rest other : List ℕ) → is_plain v ≡ true → is_plain w ≡ true → v ++ 61 ∷ rest ≡ w ++ 61 ∷ other
    → (v ≡ w) × (rest ≡ other)
split [] [] rest other p q e = (refl, cc)
split [] (d ∷ w) rest other p q e =
    let sign : d ≡ 61 = cc in
    let bad : is_plain (61 ∷ w) ≡ true = rw sign at q in
    cc
split (c ∷ v) [] rest other p q e =
    let sign : c ≡ 61 = cc in
    let bad : is_plain (61 ∷ v) ≡ true = rw sign at p in
    cc
split (c ∷ v) (d ∷ w) rest other p q e =
    let head : c ≡ d = cc in
    let tail : v ++ 61 ∷ rest ≡ w ++ 61 ∷ other = cc in
    let same = split v w rest other (and_parts (not (c == 61)) (is_plain v) p).1 (and_parts (not (d == 61)) (is_plain w) q).1 tail
    in
    (cc (head, same.0), same.1)

pub plain_append : (v w : List ℕ) → is_plain v ≡ true → is_plain w ≡ true → is_plain (v ++ w) ≡ true
plain_append v w p q = rw (list_all-append, p, q) refl

-- what stands before the name of the next part
pub same_value : (name v w rest other : List ℕ) → is_plain name ≡ true → is_plain v ≡ true → is_plain w ≡ true
    → v ++ (name ++ 61 ∷ rest) ≡ w ++ (name ++ 61 ∷ other) → (v ≡ w) × (rest ≡ other)
same_value name v w rest other n p q e =
    let joined : (v ++ name) ++ 61 ∷ rest ≡ (w ++ name) ++ 61 ∷ other =
    append_assoc v name (61 ∷ rest) ∙ e ∙ sym (append_assoc w name (61 ∷ other)) in
    let same = split (v ++ name) (w ++ name) rest other (plain_append v name p n) (plain_append w name q n) joined in
    (append_cancel_right v w name same.0, same.1)
