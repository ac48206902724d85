-- What a call reads from a source.
use Rattle.std.specs.Prelude.{◌≡◌, ℕ, List, Option}
use Rattle.ports.specs.Causes.{Rose, RoseByOne}

-- what a source had still to give and its count of faults, before the call and after it
pub record Sources : Type 0 where
  pub left : Option (List ℕ)
  pub left_after : Option (List ℕ)
  pub faults : ℕ
  pub faults_after : ℕ

-- this source in this call: of its kind, before and after
abbrev pub this_source : {S : Type 0} → (S → Option (List ℕ)) → (S → ℕ) → S → S → Sources
this_source left faults old new = record {
  left = left old;
  left_after = left new;
  faults = faults old;
  faults_after = faults new;
}

-- the source failed in the call
abbrev pub SourceRose : Sources → Type 0
SourceRose s = Rose s.faults s.faults_after

-- of a source that counts each failed read: none failed in the call
abbrev pub NoReadFailed : Sources → Type 0
NoReadFailed s = s.faults_after ≡ s.faults

-- one failed in the call
abbrev pub OneReadFailed : Sources → Type 0
OneReadFailed s = RoseByOne s.faults s.faults_after
