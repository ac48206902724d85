-- Pairs of a file's name and a tax number, one word after the other.
use Rattle.std.specs.Prelude.{◌≡◌, ◌≢◌, ◌<◌, ◌≤◌, ℕ, List, [], ◌∷◌, length, Option, Some, None}
use Rattle.std.specs.List.{AllByRecursion}
use Rattle.parties.specs.Nif.{IsNif}
use Rattle.parties.specs.declared.limits.TheConstants.{MAX_ISSUERS}

-- the names of the files: the first word, and each second one from there on
abbrev pub files_in : List (List ℕ) → List (List ℕ)
files_in (file ∷ (nif ∷ words)) = file ∷ files_in words
files_in _ = []

-- these words are pairs of a file's name, which isn't empty, and a tax number, and these are the tax numbers
abbrev pub ArePairs : List (List ℕ) → List (List ℕ) → Type 0
ArePairs [] [] = Unit {0}
ArePairs (file ∷ (nif ∷ words)) (issuer ∷ issuers) = (0 < length file) × IsNif nif × (issuer ≡ nif) × ArePairs words issuers
ArePairs _ _ = ⊥

-- none stands twice
abbrev pub AreApart : List (List ℕ) → Type 0
AreApart [] = Unit {0}
AreApart (word ∷ words) = AllByRecursion (λ (other : List ℕ). word ≢ other) words × AreApart words

-- two to eight pairs, in which neither a file nor a tax number stands twice
pub record IsPairs (words issuers : List (List ℕ)) : Type 0 where
  pub pairs : ArePairs words issuers
  pub several : 2 ≤ length issuers
  pub few : length issuers ≤ MAX_ISSUERS
  pub files_apart : AreApart (files_in words)
  pub issuers_apart : AreApart issuers

-- the tax numbers of such pairs; none where the words are none
abbrev pub IsRead : List (List ℕ) → Option (List (List ℕ)) → Type 0
IsRead words None = (issuers : List (List ℕ)) → IsPairs words issuers → ⊥
IsRead words (Some issuers) = IsPairs words issuers
