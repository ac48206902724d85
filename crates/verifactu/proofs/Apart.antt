-- Whether a word stands twice.
use Rattle.std.proofs.Common.{◌≡◌, ◌≢◌, ℕ, List, [], ◌∷◌, map, refl, ap, sym, ◌∙◌, subst, Bool, true, false, ◌||◌, bytes_eq}
use Rattle.std.specs.List.{AllByRecursion, list_any}
use Rattle.std.proofs.lemmas.Slice.Eq.{bytes_eq-Decides}
use Rattle.verifactu.specs.Pairs.{AreApart, files_in}

pub stands_not : (words : List (List ℕ)) (word : List ℕ) → list_any (λ (o : List ℕ). bytes_eq o word) words ≡ false →
    AllByRecursion (λ (other : List ℕ). word ≢ other) words
stands_not [] word h = tt
stands_not (w ∷ words) word h = by_first (bytes_eq w word) refl h (stands_not words word)
  where
    by_first : (b : Bool) → bytes_eq w word ≡ b → (b || list_any (λ (o : List ℕ). bytes_eq o word) words) ≡ false →
        (list_any (λ (o : List ℕ). bytes_eq o word) words ≡ false → AllByRecursion (λ (other : List ℕ). word ≢ other) words) →
        (word ≢ w) × AllByRecursion (λ (other : List ℕ). word ≢ other) words
    by_first true is none others = absurd cc
    by_first false is none others = (λ same. (let equal = (bytes_eq-Decides w word).1 (sym same) in absurd cc), others none)

pub stands : (words : List (List ℕ)) (word : List ℕ) → list_any (λ (o : List ℕ). bytes_eq o word) words ≡ true →
    AllByRecursion (λ (other : List ℕ). word ≢ other) words → ⊥
stands [] word h all = absurd cc
stands (w ∷ words) word h all = by_first (bytes_eq w word) refl h (λ there. stands words word there all.1)
  where
    by_first : (b : Bool) → bytes_eq w word ≡ b → (b || list_any (λ (o : List ℕ). bytes_eq o word) words) ≡ true →
        (list_any (λ (o : List ℕ). bytes_eq o word) words ≡ true → ⊥) → ⊥
    by_first true is there others = all.0 (sym ((bytes_eq-Decides w word).0 is))
    by_first false is there others = others there

module _ {A : Type 0} (f : A → List ℕ) (words others rest : List A) (file nif : A) (is : words ≡ file ∷ others)
    (then : others ≡ nif ∷ rest) where
  pub two_more : map f words ≡ f file ∷ (f nif ∷ map f rest)
  two_more = ap (λ (l : List A). map f l) is ∙ ap (λ (l : List A). f file ∷ map f l) then

  pub files_more : (name : List ℕ) → name ≡ f file →
      list_any (λ (o : List ℕ). bytes_eq o name) (files_in (map f rest)) ≡ false → AreApart (files_in (map f rest)) →
      AreApart (files_in (map f words))
  files_more name same none own = subst (λ (l : List (List ℕ)). AreApart (files_in l)) (sym two_more) (
    subst (λ (n : List ℕ). AllByRecursion (λ (other : List ℕ). n ≢ other) (files_in (map f rest))) same
        (stands_not (files_in (map f rest)) name none),
    own,
  )

  pub files_less : AreApart (files_in (map f words)) → AreApart (files_in (map f rest))
  files_less own = (subst (λ (l : List (List ℕ)). AreApart (files_in l)) two_more own).1

  pub files_twice : (name : List ℕ) → name ≡ f file →
      list_any (λ (o : List ℕ). bytes_eq o name) (files_in (map f rest)) ≡ true → AreApart (files_in (map f words)) → ⊥
  files_twice name same there own = stands (files_in (map f rest)) name there
      (subst (λ (n : List ℕ). AllByRecursion (λ (other : List ℕ). n ≢ other) (files_in (map f rest))) (sym same)
      (subst (λ (l : List (List ℕ)). AreApart (files_in l)) two_more own).0)
