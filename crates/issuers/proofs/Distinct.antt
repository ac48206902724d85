-- Whether an issuer stands twice.
use Rattle.std.proofs.Common.{◌≡◌, ◌≢◌, ℕ, List, [], ◌∷◌, map, refl, sym, subst, Bool, true, false, ◌||◌, bytes_eq}
use Rattle.std.specs.List.{AllByRecursion, list_any}
use Rattle.std.proofs.lemmas.Slice.Eq.{bytes_eq-Decides}
use Rattle.chain_disk.specs.declared.disk.Disk as disk
use Rattle.chain_store.specs.declared.store.Store.{Store}
use Rattle.issuers.specs.Office.{AreOwn, issuer_of}

module _ {D C : Type 0} {g : disk.Ghosts D} where
  pub stands_not : (stores : List (Store D C g)) (issuer : List ℕ) →
      list_any (λ (s : Store D C g). bytes_eq (issuer_of s) issuer) stores ≡ false →
      AllByRecursion (λ (other : List ℕ). issuer ≢ other) (map issuer_of stores)
  stands_not [] issuer h = tt
  stands_not (s ∷ stores) issuer h = by_first (bytes_eq (issuer_of s) issuer) refl h (stands_not stores issuer)
    where
      by_first : (b : Bool) → bytes_eq (issuer_of s) issuer ≡ b →
          (b || list_any (λ (s : Store D C g). bytes_eq (issuer_of s) issuer) stores) ≡ false →
          (list_any (λ (s : Store D C g). bytes_eq (issuer_of s) issuer) stores ≡ false →
          AllByRecursion (λ (other : List ℕ). issuer ≢ other) (map issuer_of stores)) →
          (issuer ≢ issuer_of s) × AllByRecursion (λ (other : List ℕ). issuer ≢ other) (map issuer_of stores)
      by_first true is none others = absurd cc
      by_first false is none others = (
        λ same. (let equal = (bytes_eq-Decides (issuer_of s) issuer).1 (sym same) in absurd cc),
        others none,
      )

  pub stands : (stores : List (Store D C g)) (issuer : List ℕ) →
      list_any (λ (s : Store D C g). bytes_eq (issuer_of s) issuer) stores ≡ true →
      AllByRecursion (λ (other : List ℕ). issuer ≢ other) (map issuer_of stores) → ⊥
  stands [] issuer h all = absurd cc
  stands (s ∷ stores) issuer h all =
      by_first (bytes_eq (issuer_of s) issuer) refl h (λ there. stands stores issuer there all.1)
    where
      by_first : (b : Bool) → bytes_eq (issuer_of s) issuer ≡ b →
          (b || list_any (λ (s : Store D C g). bytes_eq (issuer_of s) issuer) stores) ≡ true →
          (list_any (λ (s : Store D C g). bytes_eq (issuer_of s) issuer) stores ≡ true → ⊥) → ⊥
      by_first true is there others = all.0 (sym ((bytes_eq-Decides (issuer_of s) issuer).0 is))
      by_first false is there others = others there

  -- one store more in front of others in which its issuer doesn't stand
  pub own_more : (rest others : List (Store D C g)) (first : Store D C g) (issuer : List ℕ) → rest ≡ first ∷ others →
      issuer ≡ issuer_of first → list_any (λ (s : Store D C g). bytes_eq (issuer_of s) issuer) others ≡ false →
      AreOwn (map issuer_of others) → AreOwn (map issuer_of rest)
  own_more rest others first issuer is same none own =
      subst (λ (l : List (Store D C g)). AreOwn (map issuer_of l)) (sym is) (
        subst (λ (i : List ℕ). AllByRecursion (λ (other : List ℕ). i ≢ other) (map issuer_of others)) same
            (stands_not others issuer none),
        own,
      )

  pub own_less : (rest others : List (Store D C g)) (first : Store D C g) → rest ≡ first ∷ others →
      AreOwn (map issuer_of rest) → AreOwn (map issuer_of others)
  own_less rest others first is own = (subst (λ (l : List (Store D C g)). AreOwn (map issuer_of l)) is own).1

  pub not_own : (rest others : List (Store D C g)) (first : Store D C g) (issuer : List ℕ) → rest ≡ first ∷ others →
      issuer ≡ issuer_of first → list_any (λ (s : Store D C g). bytes_eq (issuer_of s) issuer) others ≡ true →
      AreOwn (map issuer_of rest) → ⊥
  not_own rest others first issuer is same there own =
      stands others issuer there
      (subst (λ (i : List ℕ). AllByRecursion (λ (other : List ℕ). i ≢ other) (map issuer_of others)) (sym same)
      (subst (λ (l : List (Store D C g)). AreOwn (map issuer_of l)) is own).0)
