-- A chain: each record names the one before it, from the first on (Real Decreto 1007/2023 on the chaining of records).
-- That Huellas all differ and moments never fall is this project's own.
use Rattle.std.specs.Prelude.{◌≡◌, ◌≢◌, ℕ, ◌≤◌, List, ◌∷◌, ◌++◌}
use Rattle.std.specs.List.{AllByRecursion}
use Rattle.record_fields.specs.Links.{link_after}
use Rattle.record_fields.specs.Records.{issuer_of, link_of, moment_of}
use Rattle.record_fields.specs.declared.records.Sealed.{Sealed}
use Rattle.huella.specs.Texts.{huella_of}

-- the record follows these in a chain of this issuer
pub record Follows (issuer : List ℕ) (before : List Sealed) (s : Sealed) : Type 0 where
  pub of_issuer : issuer_of s.body ≡ issuer
  pub link : link_of s.body ≡ link_after before
  pub huella : s.huella ≡ huella_of s.body
  pub new : AllByRecursion (λ (t : Sealed). t.huella ≢ s.huella) before
  pub later : AllByRecursion (λ (t : Sealed). (moment_of t.body).seconds ≤ (moment_of s.body).seconds) before

-- the records are one chain of this issuer: each follows those before it
abbrev pub Linked : List ℕ → List Sealed → Type 0
Linked issuer records = (before after : List Sealed) (s : Sealed) → records ≡ before ++ s ∷ after → Follows issuer before s
