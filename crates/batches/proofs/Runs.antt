-- Runs of linked records.
use Rattle.std.proofs.Common.{◌≡◌, ◌==◌, false, ℕ, zero, suc, ◌<◌, ◌≤◌, ◌+◌, ◌-◌, List, [], ◌∷◌, ◌++◌, sym, ◌∙◌, ap, subst, arith}
use Rattle.std.proofs.Common.{length, take, drop, get_or, append_assoc, drop-cons, add-one}
use Rattle.std.proofs.lemmas.List.{take-append-drop, length-drop, length-take}
use Rattle.record_fields.specs.Records.{link_of}
use Rattle.record_fields.specs.declared.records.Sealed.{Sealed}
use Rattle.record_fields.specs.Links.{LinkedRun, link_to}
use Rattle.batches.specs.Batches.{IsBatch}

pub linked_cons : (x y : Sealed) (rest : List Sealed) → link_of y.body ≡ link_to x → LinkedRun (y ∷ rest) →
    LinkedRun (x ∷ (y ∷ rest))
linked_cons x y rest e run [] after s t is =
    let a : x ≡ s = cc in
    let b : y ≡ t = cc in
    subst (λ (u : Sealed). link_of u.body ≡ link_to s) b (subst (λ (u : Sealed). link_of y.body ≡ link_to u) a e)
linked_cons x y rest e run (b ∷ before) after s t is =
    let tail : y ∷ rest ≡ before ++ s ∷ (t ∷ after) = cc in
    run before after s t tail

pub linked_short : (xs : List Sealed) → length xs ≤ 1 → LinkedRun xs
linked_short xs short before after s t is =
    absurd (let h = ap length is in let k = long before s t after in omega arith)
  where
    long : (before : List Sealed) (s t : Sealed) (after : List Sealed) → 2 ≤ length (before ++ s ∷ (t ∷ after))
    long [] s t after = omega arith
    long (b ∷ before) s t after = let h = long before s t after in omega arith

-- a front of a linked run is linked
pub linked_front : (front rest : List Sealed) → LinkedRun (front ++ rest) → LinkedRun front
linked_front front rest run before after s t is =
    run before (after ++ rest) s t (ap (λ (xs : List Sealed). xs ++ rest) is ∙ append_assoc before (s ∷ (t ∷ after)) rest)

pub linked_take : (n : ℕ) (xs : List Sealed) → LinkedRun xs → LinkedRun (take n xs)
linked_take n xs run = linked_front (take n xs) (drop n xs) (subst (λ (ys : List Sealed). LinkedRun ys)
    (sym (take-append-drop n xs)) run)

-- two neighbours of a list
pub two_at : (xs : List Sealed) (i : ℕ) (x y : Sealed) → 1 ≤ i → i < length xs → x ≡ get_or xs (i - 1) x → y ≡ get_or xs i y →
    drop (i - 1) xs ≡ x ∷ (y ∷ drop (i + 1) xs)
two_at xs i x y from to at_x at_y =
    let n : suc (i - 1) ≡ i = omega arith in
    let lt : i - 1 < length xs = omega arith in
    drop-cons xs (i - 1) x lt
    ∙ ap (λ (z : Sealed). z ∷ drop (suc (i - 1)) xs) (sym at_x)
    ∙ ap (λ (k : ℕ). x ∷ drop k xs) n
    ∙ ap (λ (zs : List Sealed). x ∷ zs) (drop-cons xs i y to ∙ ap (λ (z : Sealed). z ∷ drop (suc i) xs) (sym at_y) ∙
    ap (λ (k : ℕ). y ∷ drop k xs) (sym (add-one i)))

-- one neighbour more
pub linked_back : (xs : List Sealed) (i : ℕ) (x y : Sealed) → 1 ≤ i → i < length xs → x ≡ get_or xs (i - 1) x →
    y ≡ get_or xs i y → link_of y.body ≡ link_to x →
    (LinkedRun (drop (i - 1) xs) → LinkedRun xs) → LinkedRun (drop (i + 1 - 1) xs) → LinkedRun xs
linked_back xs i x y from to at_x at_y e so_far rest =
    let n : i + 1 - 1 ≡ i = omega arith in
    let tail : drop i xs ≡ y ∷ drop (i + 1) xs = drop-cons xs i y to ∙ ap (λ (z : Sealed). z ∷ drop (suc i) xs) (sym at_y) ∙
    ap (λ (k : ℕ). y ∷ drop k xs) (sym (add-one i)) in
    so_far (subst (λ (ys : List Sealed). LinkedRun ys) (sym (two_at xs i x y from to at_x at_y))
    (linked_cons x y (drop (i + 1) xs) e (subst (λ (ys : List Sealed). LinkedRun ys) (ap (λ (k : ℕ). drop k xs) n ∙ tail) rest)))

pub not_linked : (xs : List Sealed) (i : ℕ) (x y : Sealed) → 1 ≤ i → i < length xs → x ≡ get_or xs (i - 1) x → y ≡ get_or xs i y →
    LinkedRun xs → link_of y.body ≡ link_to x
not_linked xs i x y from to at_x at_y run =
    run (take (i - 1) xs) (drop (i + 1) xs) x y (sym (take-append-drop (i - 1) xs) ∙
    ap (λ (ys : List Sealed). take (i - 1) xs ++ ys) (two_at xs i x y from to at_x at_y))

pub linked_at_end : (xs : List Sealed) (i : ℕ) → 1 ≤ i → length xs ≤ i → (LinkedRun (drop (i - 1) xs) → LinkedRun xs) →
    LinkedRun xs
linked_at_end xs i from end so_far = so_far (linked_short (drop (i - 1) xs) (omega (arith, length-drop (i - 1) xs)))

-- what is cut from records, of which there are some, is a batch
pub cut_is_batch : (xs : List Sealed) → 1 ≤ length xs → LinkedRun xs → IsBatch (take 1000 xs)
cut_is_batch xs some run = record {
  some = omega (arith, length-take 1000 xs);
  few = omega (arith, length-take 1000 xs);
  linked = linked_take 1000 xs run;
}

pub some_of : (n : ℕ) → (n == 0) ≡ false → 1 ≤ n
some_of zero e = absurd cc
some_of (suc n) e = omega arith
