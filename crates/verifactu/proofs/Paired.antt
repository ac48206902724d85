-- Words that are pairs.
use Rattle.std.proofs.Common.{◌≡◌, ℕ, ◌<◌, ◌+◌, List, [], ◌∷◌, ◌++◌, length, map, refl, ap, sym, ◌∙◌, subst}
use Rattle.std.proofs.Common.{Option, Some, None, IfSome, append_assoc}
use Rattle.std.proofs.lemmas.List.{length-append}
use Rattle.parties.specs.Nif.{IsNif}
use Rattle.verifactu.specs.Pairs.{ArePairs}
use Rattle.verifactu.proofs.Apart.{two_more}

-- the tax numbers of words are theirs alone
pub one_list : (words xs ys : List (List ℕ)) → ArePairs words xs → ArePairs words ys → xs ≡ ys
one_list [] [] [] a b = refl
one_list (file ∷ (nif ∷ words)) (x ∷ xs) (y ∷ ys) a b =
    let first : x ≡ y = a.2 ∙ sym b.2 in
    ap (λ (i : List ℕ). i ∷ xs) first ∙ ap (λ (l : List (List ℕ)). y ∷ l) (one_list words xs ys a.3 b.3)
one_list [] [] (y ∷ ys) a b = absurd b
one_list [] (x ∷ xs) ys a b = absurd a
one_list (file ∷ []) [] ys a b = absurd a
one_list (file ∷ []) (x ∷ xs) ys a b = absurd a
one_list (file ∷ (nif ∷ words)) [] ys a b = absurd a
one_list (file ∷ (nif ∷ words)) (x ∷ xs) [] a b = absurd b

-- the tax numbers after the first
pub record AfterFirst (words own : List (List ℕ)) : Type 0 where
  pub issuer : List ℕ
  pub more : List (List ℕ)
  pub is : own ≡ issuer ∷ more
  pub pairs : ArePairs words more

first_of : (file nif : List ℕ) (words own : List (List ℕ)) → ArePairs (file ∷ (nif ∷ words)) own → AfterFirst words own
first_of file nif words (issuer ∷ more) h = record { issuer = issuer; more = more; is = refl; pairs = h.3 }
first_of file nif words [] h = absurd h

module _ {A : Type 0} (f : A → List ℕ) (words others rest : List A) (file word : A) (is : words ≡ file ∷ others)
    (then : others ≡ word ∷ rest) where
  pub after_first : (own : List (List ℕ)) → ArePairs (map f words) own → AfterFirst (map f rest) own
  after_first own h = first_of (f file) (f word) (map f rest) own
      (subst (λ (l : List (List ℕ)). ArePairs l own) (two_more f words others rest file word is then) h)

  pub pairs_more : (text nif : List ℕ) (own : List (List ℕ)) → 0 < length (f file) → text ≡ f word → IsNif text × (nif ≡ text) →
      ArePairs (map f rest) own → ArePairs (map f words) (nif ∷ own)
  pairs_more text nif own named same read more =
      subst (λ (l : List (List ℕ)). ArePairs l (nif ∷ own)) (sym (two_more f words others rest file word is then)) (
        named,
        subst IsNif same read.0,
        read.1 ∙ same,
        more,
      )

  pub added : (text nif : List ℕ) (old one new own : List (List ℕ)) → 0 < length (f file) → text ≡ f word →
      IsNif text × (nif ≡ text) → one ≡ old ++ nif ∷ [] → new ≡ one ++ own → ArePairs (map f rest) own →
      (all : List (List ℕ)) × (new ≡ old ++ all) × ArePairs (map f words) all
  added text nif old one new own named same read so then more = (
    nif ∷ own,
    then ∙ ap (λ (l : List (List ℕ)). l ++ own) so ∙ append_assoc old (nif ∷ []) own,
    pairs_more text nif own named same read more,
  )

  pub some_pairs : (text nif : List ℕ) (r : Option (List (List ℕ))) → 0 < length (f file) → text ≡ f word →
      IsNif text × (nif ≡ text) →
      IfSome r (λ nifs. (own : List (List ℕ)) × (nifs ≡ nif ∷ own) × ArePairs (map f rest) own) →
      IfSome r (λ nifs. ArePairs (map f words) nifs)
  some_pairs text nif None named same read h = tt
  some_pairs text nif (Some nifs) named same read h =
      subst (λ (l : List (List ℕ)). ArePairs (map f words) l) (sym h.1) (pairs_more text nif h.0 named same read h.2)

pub one_longer : (old one : List (List ℕ)) (nif : List ℕ) → one ≡ old ++ nif ∷ [] → length one ≡ length old + 1
one_longer old one nif is = ap length is ∙ length-append old (nif ∷ [])
