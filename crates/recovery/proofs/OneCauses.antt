-- Two files give one cause at most that keeps the one from being moved onto the other.
use Rattle.std.proofs.Common.{◌≡◌, inl, inr, ℕ, List, [], refl, sym, ◌∙◌, ap, subst}
use Rattle.record_fields.specs.declared.versions.Version.TheVariants.{One, Two}
use Rattle.record_codec.specs.declared.entry.Entry.{Entry}
use Rattle.shop_core.specs.File.Files.{IsDamagedFile, StandsFor}
use Rattle.shop_core.specs.File.Laws.{NotBegunIsNeither, OneDamage, OneHistory, SoundOrDamaged}
use Rattle.recovery.specs.Causes.{IsNotOld, NoCause, OneCause}
use Rattle.recovery.specs.Causes.IsNotOld.{not_begun, newer}
use Rattle.recovery.specs.Moving.{IsHeldShut, IsOccupied, IsUnfinished}
use Rattle.recovery.specs.declared.moving.MoveCause.TheVariants.{Damaged, NotOld, Occupied, OldFault, NewFault, NoMemory}

-- a file has one meaning
pub record OneMeaning : Type 0 where
  pub history : OneHistory
  pub damage : OneDamage
  pub sound : SoundOrDamaged
  pub not_begun : NotBegunIsNeither

module _ (one : OneMeaning) where
  apart : (issuer other : List ℕ) (entries others : List Entry) (file : List ℕ) → StandsFor One issuer entries file →
      StandsFor Two other others file → ⊥
  apart issuer other entries others file a b =
      let versions = (one.history One Two issuer other entries others file a b).0 in
      absurd (cc versions)

  not_damaged : (file : List ℕ) (held at : ℕ) → IsNotOld file held → IsDamagedFile file at → ⊥
  not_damaged file held at (not_begun none) damaged = (one.not_begun One [] [] file at none).1 damaged
  not_damaged file held at (newer issuer entries stands) damaged = one.sound Two issuer entries file at stands damaged

  not_of_one : (file : List ℕ) (held : ℕ) (issuer : List ℕ) (entries : List Entry) → IsNotOld file held →
      StandsFor One issuer entries file → ⊥
  not_of_one file held issuer entries (not_begun none) stands = (one.not_begun One issuer entries file 0 none).0 stands
  not_of_one file held issuer entries (newer other others two) stands =
      apart issuer other entries others file stands two

  one_held : (file : List ℕ) (held other : ℕ) → IsNotOld file held → IsNotOld file other → held ≡ other
  one_held file held other (not_begun a) (not_begun b) = refl
  one_held file held other (not_begun a) (newer issuer entries b) = absurd ((one.not_begun Two issuer entries file 0 a).0 b)
  one_held file held other (newer issuer entries a) (not_begun b) = absurd ((one.not_begun Two issuer entries file 0 b).0 a)
  one_held file held other (newer issuer entries a) (newer nif more b) = refl

  pub one_cause : OneCause
  one_cause old new cause OldFault a b = absurd b
  one_cause old new cause NewFault a b = absurd b
  one_cause old new cause NoMemory a b = absurd b
  one_cause old new (Damaged at) (Damaged place) a b = ap (λ (n : ℕ). Damaged n) (one.damage old at place a b)
  one_cause old new (Damaged at) (NotOld held) a b = absurd (not_damaged old held at b a)
  one_cause old new (Damaged at) (Occupied size) a b = absurd (one.sound One b.issuer b.entries old at b.stands a)
  one_cause old new (NotOld held) (Damaged at) a b = absurd (not_damaged old held at a b)
  one_cause old new (NotOld held) (NotOld other) a b = ap (λ (n : ℕ). NotOld n) (one_held old held other a b)
  one_cause old new (NotOld held) (Occupied size) a b = absurd (not_of_one old held b.issuer b.entries a b.stands)
  one_cause old new (Occupied size) (Damaged at) a b = absurd (one.sound One a.issuer a.entries old at a.stands b)
  one_cause old new (Occupied size) (NotOld held) a b = absurd (not_of_one old held a.issuer a.entries b a.stands)
  one_cause old new (Occupied size) (Occupied other) a b =
      ap (λ (n : ℕ). Occupied n) (a.occupied.size_is ∙ sym b.occupied.size_is)
  one_cause old new OldFault other a b = absurd a
  one_cause old new NewFault other a b = absurd a
  one_cause old new NoMemory other a b = absurd a

  -- it isn't occupied where it is held shut
  shut_free : (issuer other file : List ℕ) (size : ℕ) → issuer ≡ other → IsOccupied issuer file size → IsHeldShut other file → ⊥
  shut_free issuer other file size same occupied (inl none) = occupied.begun none
  shut_free issuer other file size same occupied (inr part) =
      occupied.other (subst (λ (n : List ℕ). IsUnfinished n file) (sym same) part)

  pub no_cause : NoCause
  no_cause old new (Damaged at) a may = one.sound One may.0 may.1 old at may.2 a
  no_cause old new (NotOld held) a may = not_of_one old held may.0 may.1 a may.2
  no_cause old new (Occupied size) a may =
      let same = (one.history One One a.issuer may.0 a.entries may.1 old a.stands may.2).1 in
      shut_free a.issuer may.0 new size same a.occupied may.3
  no_cause old new OldFault a may = a
  no_cause old new NewFault a may = a
  no_cause old new NoMemory a may = a
