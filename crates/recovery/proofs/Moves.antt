-- A migration as one run.
use Rattle.std.proofs.Common.{◌≡◌, inl, inr, ℕ, List, refl, sym, ◌∙◌, ap, subst, subst₂}
use Rattle.chain_disk.specs.OnDisk.{OnDisk, IsImage, IsSyncFailed, LeavesOnly, synced}
use Rattle.chain_disk.specs.Runs.{Reached, started, on_sync, on_sync_failed, follows, weaker, settled_image}
use Rattle.journal.specs.File.{IsFile}
use Rattle.record_fields.specs.declared.versions.Version.TheVariants.{One, Two}
use Rattle.record_codec.specs.declared.entry.Entry.{Entry}
use Rattle.shop_core.specs.File.Files.{StandsFor, bodies_of}
use Rattle.shop_core.specs.Newer.{LegalInTwo}
use Rattle.recovery.specs.Moving.{IsHeldShut, IsMoveImage, IsMoveImageOf, IsSameOrShut, IsShutOrWhole, KeptUnlessFree, KeptUnlessShut, Moves}
use Rattle.recovery.specs.Moving.IsMoveImage.{as_before, not_begun, unfinished, whole}
use Rattle.recovery.specs.Moving.IsMoveImageOf.{untouched, of_history}
use Rattle.recovery.proofs.Entries.{encoded_in_two}

-- a file of these bodies stands in version Two for the history that another stands for in version One
pub whole_file : (issuer : List ℕ) (entries : List Entry) (file c : List ℕ) → LegalInTwo → StandsFor One issuer entries file →
    IsFile Two issuer (bodies_of Two entries) c → StandsFor Two issuer entries c
whole_file issuer entries file c newer stands is = record {
  frames = is;
  encoded = encoded_in_two issuer entries stands.encoded;
  legal = newer issuer entries stands.legal;
}

module _ (issuer : List ℕ) (entries : List Entry) (t : OnDisk) where
  start : Reached t (IsMoveImage issuer entries t) t t.content t.now
  start = record {
    content_is = refl;
    now_is = refl;
    so_far = started t (IsMoveImage issuer entries t) (λ c image. as_before image);
  }

  pub sync_lost : (u : OnDisk) → IsSyncFailed t u → LeavesOnly t u (IsMoveImage issuer entries t)
  sync_lost u err = on_sync_failed start err (λ c image. as_before image)

  of_shut : (c : List ℕ) → IsHeldShut issuer t.content → IsHeldShut issuer c → IsMoveImage issuer entries t c
  of_shut c held (inl none) = not_begun held none
  of_shut c held (inr part) = unfinished held part

  -- what was held shut once it was synced was so before
  pub shut_before : (nif : List ℕ) (u : OnDisk) → nif ≡ issuer → u ≡ synced t → IsHeldShut nif u.content →
      IsHeldShut issuer t.content
  shut_before nif u own ok held = subst₂ (λ (n c : List ℕ). IsHeldShut n c) own (ap (λ (d : OnDisk). d.content) ok) held

  -- what was kept once it was synced was synced alone
  pub kept_synced : (nif : List ℕ) (u v : OnDisk) → nif ≡ issuer → u ≡ synced t →
      ((IsHeldShut nif u.content → ⊥) → v ≡ u) → KeptUnlessShut issuer t v
  kept_synced nif u v own ok kept = λ apart. inl (kept (λ held. apart (shut_before nif u own ok held)) ∙ ok)

  module _ (reads : IsImage t.now t.content) where
    sync_done : (u : OnDisk) → u ≡ synced t → LeavesOnly t u (IsMoveImage issuer entries t)
    sync_done u ok =
        let r = on_sync start ok (λ c image. as_before (subst (λ (l : List ℕ). IsImage t.now l)
        (sym (settled_image t.content c image)) reads)) in
        r.so_far

    of_prepared : (content c : List ℕ) → content ≡ t.content → IsSameOrShut issuer content c → IsMoveImage issuer entries t c
    of_prepared content c same (inl is) = as_before (subst (λ (l : List ℕ). IsImage t.now l) (sym (is ∙ same)) reads)
    of_prepared content c same (inr shut) = of_shut c (subst (λ (l : List ℕ). IsHeldShut issuer l) same shut.0) shut.1

    pub prepared : (nif : List ℕ) (u v : OnDisk) → nif ≡ issuer → u ≡ synced t →
        LeavesOnly u v (IsSameOrShut nif u.content) → LeavesOnly t v (IsMoveImage issuer entries t)
    prepared nif u v own ok only = follows t u v (IsMoveImage issuer entries t) (IsSameOrShut issuer u.content)
        (IsMoveImage issuer entries t) (sync_done u ok)
        (subst (λ (n : List ℕ). LeavesOnly u v (IsSameOrShut n u.content)) own only) (λ c is. is)
        (λ c is. of_prepared u.content c (ap (λ (d : OnDisk). d.content) ok) is)

  module _ (newer : LegalInTwo) (file : List ℕ) (stands : StandsFor One issuer entries file)
      (held : IsHeldShut issuer t.content) where
    of_rewritten : (c : List ℕ) → IsShutOrWhole issuer (bodies_of Two entries) c → IsMoveImage issuer entries t c
    of_rewritten c (inl shut) = of_shut c held shut
    of_rewritten c (inr is) = whole held (whole_file issuer entries file c newer stands is)

    pub rewritten : (v w : OnDisk) → LeavesOnly t v (IsMoveImage issuer entries t) →
        LeavesOnly v w (IsShutOrWhole issuer (bodies_of Two entries)) → LeavesOnly t w (IsMoveImage issuer entries t)
    rewritten v w first second = follows t v w (IsMoveImage issuer entries t) (IsShutOrWhole issuer (bodies_of Two entries))
        (IsMoveImage issuer entries t) first second (λ c is. is) of_rewritten

pub moves : (issuer : List ℕ) (entries : List Entry) (old : List ℕ) (t u : OnDisk) → StandsFor One issuer entries old →
    LeavesOnly t u (IsMoveImage issuer entries t) → Moves old t u
moves issuer entries old t u stands only = weaker t u (IsMoveImage issuer entries t) (IsMoveImageOf old t) only
    (λ c is. of_history issuer entries stands is)

pub not_moved : (old : List ℕ) (t : OnDisk) → Moves old t t
not_moved old t = started t (IsMoveImageOf old t) (λ c image. untouched image)

-- a file that the old one may not be moved onto isn't held shut for its issuer
pub kept_unless_free : (issuer : List ℕ) (entries : List Entry) (old : List ℕ) (t u : OnDisk) → StandsFor One issuer entries old →
    KeptUnlessShut issuer t u → KeptUnlessFree old t u
kept_unless_free issuer entries old t u stands kept = λ apart. kept (λ held. apart (issuer, entries, stands, held))
