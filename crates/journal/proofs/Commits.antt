-- The four calls of a commit, one after the other.
use Rattle.std.proofs.Common.{◌≡◌, ◌<◌, ◌≤◌, ◌+◌, ℕ, List, [], ◌∷◌, ◌++◌, length, take, drop, refl, sym, ◌∙◌, ap, subst, arith}
use Rattle.std.proofs.Common.{length-append, length-drop}
use Rattle.std.proofs.lemmas.List.{length-take}
use Rattle.chain_disk.specs.OnDisk.{OnDisk, IsImage, IsSettled, IsSyncFailed, IsWriteFailed, MayLeave, Pending, moment}
use Rattle.chain_disk.specs.OnDisk.{written, synced, pasted, settled, wider}
use Rattle.chain_disk.specs.Stays.{seen_none, seen_sync, seen_sync_failed, seen_write, seen_write_failed}
use Rattle.chain_disk.specs.Runs.{Reached, started, on_write, on_sync}
use Rattle.journal.specs.Commit.{IsCommitImage, IsCommitted, IsUpToGate, gated}
use Rattle.journal.proofs.Images.{start_image, behind_image, staged_image, gate_image, opened_image, opened_is, up_start, up_staged}

module _ (t : OnDisk) (gate : ℕ) (bytes : List ℕ) (within : gate < length t.content) (quiet : IsSettled t) where
  abbrev pub Image : List ℕ → Type 0
  Image = IsCommitImage t.content gate bytes

  abbrev pub staged : List ℕ
  staged = pasted (gate + 1) bytes t.content

  pub at_start : Reached t Image t t.content (settled t.content)
  at_start = record {
    content_is = refl;
    now_is = quiet;
    so_far = started t Image (λ c image. start_image t.content c bytes gate
        (subst (λ p. IsImage p c) quiet image));
  }

  pub after_write : (u : OnDisk) → u ≡ written (gate + 1) bytes t → Reached t Image u staged (wider (gate + 1) (length bytes)
      (settled t.content))
  after_write u ok = on_write at_start (gate + 1) bytes ok (λ c image. behind_image t.content c bytes gate within image)

  pub after_sync : (u v : OnDisk) → u ≡ written (gate + 1) bytes t → v ≡ synced u → Reached t Image v staged (settled staged)
  after_sync u v ok ok1 = on_sync (after_write u ok) ok1 (λ c image. staged_image t.content bytes gate within c image)

  pub after_gate : (u v w : OnDisk) → u ≡ written (gate + 1) bytes t → v ≡ synced u → w ≡ written gate (1 ∷ []) v →
      Reached t Image w (pasted gate (1 ∷ []) staged) (wider gate 1 (settled staged))
  after_gate u v w ok ok1 ok2 = on_write (after_sync u v ok ok1) gate (1 ∷ []) ok2 (λ c image. gate_image t.content bytes gate
      within c image)

  pub after_all : (u v w x : OnDisk) → u ≡ written (gate + 1) bytes t → v ≡ synced u → w ≡ written gate (1 ∷ []) v → x ≡ synced w
      →
      Reached t Image x (pasted gate (1 ∷ []) staged) (settled (pasted gate (1 ∷ []) staged))
  after_all u v w x ok ok1 ok2 ok3 = on_sync (after_gate u v w ok ok1 ok2) ok3 (λ c image. opened_image t.content bytes gate
      within c image)

  pub committed : (x : OnDisk) → Reached t Image x (pasted gate (1 ∷ []) staged) (settled (pasted gate (1 ∷ []) staged)) →
      IsCommitted t gate bytes x
  committed x r = record {
    content = r.content_is ∙ opened_is t.content bytes gate within;
    nothing_pending = r.now_is ∙
        ap (λ (l : List ℕ). settled l) (sym r.content_is);
  }

-- what was synced last before each call is as it was up to the gate
module _ (t : OnDisk) (gate : ℕ) (bytes : List ℕ) (within : gate < length t.content) (quiet : IsSettled t) where
  abbrev Up : List ℕ → Type 0
  Up = IsUpToGate t.content gate bytes

  synced_by : (u : OnDisk) (s : List ℕ) (p : Pending) → u.now ≡ p → p.synced ≡ s → Up s → Up u.now.synced
  synced_by u s p now is up = subst Up (sym (ap (λ (q : Pending). q.synced) now ∙ is)) up

  up_first : Up t.now.synced
  up_first = synced_by t t.content (settled t.content) quiet refl (up_start t.content bytes gate)

  pub seen_write_lost : (u : OnDisk) → IsWriteFailed (gate + 1) (length bytes) t u → MayLeave t u Up
  seen_write_lost u err = seen_write_failed t t u Up (gate + 1) (length bytes) (seen_none t Up) up_first err

  seen_written : (u : OnDisk) → u ≡ written (gate + 1) bytes t → MayLeave t u Up
  seen_written u ok = seen_write t t u Up (gate + 1) bytes (seen_none t Up) up_first ok

  up_second : (u : OnDisk) → u ≡ written (gate + 1) bytes t → Up u.now.synced
  up_second u ok =
      let r = after_write t gate bytes within quiet u ok in
      synced_by u t.content (wider (gate + 1) (length bytes) (settled t.content)) r.now_is refl (up_start t.content bytes gate)

  pub seen_sync_lost : (u v : OnDisk) → u ≡ written (gate + 1) bytes t → IsSyncFailed u v → MayLeave t v Up
  seen_sync_lost u v ok err = seen_sync_failed t u v Up (seen_written u ok) (up_second u ok) err

  seen_synced : (u v : OnDisk) → u ≡ written (gate + 1) bytes t → v ≡ synced u → MayLeave t v Up
  seen_synced u v ok ok1 = seen_sync t u v Up (seen_written u ok) (up_second u ok) ok1

  up_third : (u v : OnDisk) → u ≡ written (gate + 1) bytes t → v ≡ synced u → Up v.now.synced
  up_third u v ok ok1 =
      let r = after_sync t gate bytes within quiet u v ok ok1 in
      let staged_now : List ℕ = pasted (gate + 1) bytes t.content in
      synced_by v staged_now (settled staged_now) r.now_is refl (up_staged t.content bytes gate within)

  pub seen_gate_lost : (u v w : OnDisk) → u ≡ written (gate + 1) bytes t → v ≡ synced u → IsWriteFailed gate 1 v w → MayLeave t w Up
  seen_gate_lost u v w ok ok1 err = seen_write_failed t v w Up gate 1 (seen_synced u v ok ok1) (up_third u v ok ok1) err

  seen_opened : (u v w : OnDisk) → u ≡ written (gate + 1) bytes t → v ≡ synced u → w ≡ written gate (1 ∷ []) v → MayLeave t w Up
  seen_opened u v w ok ok1 ok2 = seen_write t v w Up gate (1 ∷ []) (seen_synced u v ok ok1) (up_third u v ok ok1) ok2

  up_fourth : (u v w : OnDisk) → u ≡ written (gate + 1) bytes t → v ≡ synced u → w ≡ written gate (1 ∷ []) v → Up w.now.synced
  up_fourth u v w ok ok1 ok2 =
      let r = after_gate t gate bytes within quiet u v w ok ok1 ok2 in
      let staged_now : List ℕ = pasted (gate + 1) bytes t.content in
      synced_by w staged_now (wider gate 1 (settled staged_now)) r.now_is refl (up_staged t.content bytes gate within)

  pub seen_last_lost : (u v w x : OnDisk) → u ≡ written (gate + 1) bytes t → v ≡ synced u → w ≡ written gate (1 ∷ []) v →
      IsSyncFailed w x → MayLeave t x Up
  seen_last_lost u v w x ok ok1 ok2 err = seen_sync_failed t w x Up (seen_opened u v w ok ok1 ok2) (up_fourth u v w ok ok1 ok2) err

  pub seen_all : (u v w x : OnDisk) → u ≡ written (gate + 1) bytes t → v ≡ synced u → w ≡ written gate (1 ∷ []) v → x ≡ synced w →
      MayLeave t x Up
  seen_all u v w x ok ok1 ok2 ok3 = seen_sync t w x Up (seen_opened u v w ok ok1 ok2) (up_fourth u v w ok ok1 ok2) ok3

-- each of the four calls takes a moment
pub four_moments : (t u v w x : OnDisk) (at place : ℕ) (bytes others : List ℕ) → u ≡ written at bytes t → v ≡ synced u →
    w ≡ written place others v → x ≡ synced w → moment x ≡ moment t + 4
four_moments t u v w x at place bytes others ok ok1 ok2 ok3 = omega (
  arith,
  ap (λ (d : OnDisk). moment d) ok,
  ap (λ (d : OnDisk). moment d) ok1,
  ap (λ (d : OnDisk). moment d) ok2,
  ap (λ (d : OnDisk). moment d) ok3,
)

pub both_written : (t u v w x : OnDisk) (gate : ℕ) (bytes : List ℕ) → gate < length t.content → u ≡ written (gate + 1) bytes t →
    v ≡ synced u → w ≡ written gate (1 ∷ []) v → x ≡ synced w → x.content ≡ gated t.content gate 1 bytes
both_written t u v w x gate bytes within ok ok1 ok2 ok3 = ap (λ (d : OnDisk). d.content) ok3 ∙ ap (λ (d : OnDisk). d.content) ok2 ∙
    ap (λ (d : OnDisk). pasted gate (1 ∷ []) d.content) (ok1 ∙ ap (λ (d : OnDisk). synced d) ok) ∙
    opened_is t.content bytes gate within

-- a write and a sync leave no less than there was
pub not_shorter : (t u v : OnDisk) (at : ℕ) (bytes : List ℕ) → u ≡ written at bytes t → v ≡ synced u →
    length t.content ≤ length v.content
not_shorter t u v at bytes ok ok1 =
    let content : v.content ≡ pasted at bytes t.content = ap (λ (w : OnDisk). w.content) ok1 ∙ ap (λ (w : OnDisk). w.content) ok
    in
    omega (
      arith,
      ap length content,
      length-append (take at t.content ++ bytes) (drop (at + length bytes) t.content),
      length-append (take at t.content) bytes,
      length-take at t.content,
      length-drop (at + length bytes) t.content,
    )
