-- A mirror stays one over a write and over a sync, and what crashes leave of its halves.
use Rattle.std.proofs.Common.{◌≡◌, ◌≤◌, ◌-◌, inl, inr, ℕ, Bool, IsTrue, List, length, refl, sym, ◌∙◌, ap, subst, arith, Result, Ok, Err}
use Rattle.std.specs.Prelude.{IsErr, OnErr, OnOk}
use Rattle.chain_disk.specs.Disks.{this_disk}
use Rattle.chain_disk.specs.OnDisk.{OnDisk, IsImage, IsLeft, IsLeftSince, IsSyncFailed, IsWriteFailed, moment, synced, written}
use Rattle.chain_disk.specs.Memory.{fresh}
use Rattle.mirror_disk.specs.Calls.{SyncsBoth, WritesBoth}
use Rattle.mirror_disk.specs.Halves.{IsHalf, IsMirror, IsSame, IsTold, IsWithin}
use Rattle.mirror_disk.specs.Mirror.{Mirrored, both_tell, since, told, told_by}
use Rattle.mirror_disk.specs.Reads.{first_tells}
use Rattle.mirror_disk.specs.declared.standing.Standing.{Standing}
use Rattle.mirror_disk.specs.declared.standing.Standing.TheVariants.{Whole, Broken, HalfSynced}
use Rattle.mirror_disk.proofs.Since.{later_moved, later_same, later_sync_failed, later_write_failed, left_since}
use Rattle.mirror_disk.proofs.Since.{since_sync_failed, since_synced, since_write_failed, since_written}
use Rattle.mirror_disk.proofs.Steps.{both_synced, both_written, first_sync_failed, first_write_failed, not_whole, not_whole_synced}
use Rattle.mirror_disk.proofs.Steps.{second_sync_failed, second_write_failed, written_failed}

-- of a half, as it was when the mirror was made and as it is
pub half_of : (made half mirror : OnDisk) → moment made ≤ moment half → IsWithin (since made half) mirror → IsHalf made half mirror
half_of made half mirror later within = record {
  images = λ c since. images c since.0 since.1 since.2;
  moments = λ m c from left. within.moments (m - moment made) c (left_since made half m c later from left);
  lately = within.lately;
  settled = λ quiet. same (within.settled quiet);
}
  where
    images : (c : List ℕ) (m : ℕ) → moment made ≤ m → IsLeft half m c → IsLeftSince (fresh made.content) mirror c
    images c m from left =
        let k = within.moments (m - moment made) c (left_since made half m c later from left) in
        (k.0, omega arith, k.3)

    same : IsSame (since made half) mirror → IsSame half mirror
    same is = record { content = is.content; now = is.now }

-- what a call that takes one of the two ways makes of what the mirror tells
pub record Goes (standing : Standing) (done failed : Type 0) : Type 0 where
  pub ok : standing ≡ Whole → done
  pub err : (standing ≡ Whole → ⊥) → failed

goes_whole : {done failed : Type 0} → done → Goes Whole done failed
goes_whole is = record { ok = λ e. is; err = λ cannot. absurd (cannot refl) }

goes_broken : {done failed : Type 0} → failed → Goes Broken done failed
goes_broken is = record { ok = λ e. not_whole _ e; err = λ _. is }

goes_synced : {done failed : Type 0} → failed → Goes HalfSynced done failed
goes_synced is = record { ok = λ e. not_whole_synced _ e; err = λ _. is }

pub on_ok : {T E A B : Type 0} (r : Result T E) → OnOk r A → (A → B) → OnOk r B
on_ok (Ok v) is then = then is
on_ok (Err e) is then = is

pub on_err : {T E A B : Type 0} (r : Result T E) → OnErr r A → (A → B) → OnErr r B
on_err (Ok v) is then = is
on_err (Err e) is then = then is

pub if_err : {T E A : Type 0} (r : Result T E) → (IsErr r → A) → OnErr r A
if_err (Ok v) then = tt
if_err (Err e) then = then refl

module _ {D M : Type 0} (tells : Bool) (on_disk : D → OnDisk) (faults : D → ℕ) (others_tell : Bool) (others : M → OnDisk)
    (others_faults : M → ℕ) where
  abbrev Mirror : Mirrored D M → Type 0
  Mirror m = IsMirror tells on_disk others_tell others m

  abbrev Tells : Mirrored D M → OnDisk
  Tells m = told on_disk others m

  pub first_half : (m : Mirrored D M) → Mirror m → IsTrue tells → IsHalf (on_disk m.first_made) (on_disk m.first) (Tells m)
  first_half m is t = half_of (on_disk m.first_made) (on_disk m.first) (Tells m) (is.told t).first_later
      (is.told t).halves.first_within

  pub second_half : (m : Mirrored D M) → Mirror m → IsTrue others_tell → IsHalf (others m.second_made) (others m.second) (Tells m)
  second_half m is t =
      let told = is.told (subst (λ (b : Bool). IsTrue b) (sym is.alike) t) in
      half_of (others m.second_made) (others m.second) (Tells m) told.second_later told.halves.second_within

  -- the two halves of a call that was made of a whole mirror
  pub record Then (standing : Standing) (f0 f : D) (s0 s : M) (done failed : OnDisk → Type 0) : Type 0 where
    pub told : IsTold standing (on_disk f0) (on_disk f) (others s0) (others s)
    pub goes : Goes standing
        (done (told_by standing (since (on_disk f0) (on_disk f)) (since (others s0) (others s))))
        (failed (told_by standing (since (on_disk f0) (on_disk f)) (since (others s0) (others s))))

  wrote : (standing : Standing) (at : ℕ) (bytes : List ℕ) (f0 f f2 : D) (s0 s s2 : M) → IsTrue tells → IsTrue others_tell →
      IsTold Whole (on_disk f0) (on_disk f) (others s0) (others s) →
      WritesBoth (this_disk tells on_disk faults f f2) (this_disk others_tell others others_faults s s2) at bytes standing →
      Then standing f0 f2 s0 s2 (λ u. u ≡ written at bytes (since (on_disk f0) (on_disk f)))
      (λ u. IsWriteFailed at (length bytes) (since (on_disk f0) (on_disk f)) u)
  wrote Whole at bytes f0 f f2 s0 s s2 t ot is did =
      let e = is.halves.whole refl in
      let a = since_written (on_disk f0) (on_disk f) (on_disk f2) at bytes is.first_later (did.0 t) in
      let b = since_written (others s0) (others s) (others s2) at bytes is.second_later (did.1 ot) in
      record {
        told = record {
          first_later = later_moved (on_disk f0) (on_disk f) (on_disk f2) _ _ is.first_later (did.0 t);
          second_later = later_moved (others s0) (others s) (others s2) _ _ is.second_later (did.1 ot);
          halves = both_written at bytes (since (on_disk f0) (on_disk f)) _ _ a
              (b ∙ ap (λ (u : OnDisk). written at bytes u) (sym e));
        };
        goes = goes_whole a;
      }
  wrote Broken at bytes f0 f f2 s0 s s2 t ot is (inl did) =
      let e = is.halves.whole refl in
      let a = since_write_failed (on_disk f0) (on_disk f) (on_disk f2) at (length bytes) is.first_later (did.0.failed t) in
      let b = ap (λ (x : M). since (others s0) (others x)) did.1 in
      record {
        told = record {
          first_later = later_write_failed (on_disk f0) (on_disk f) (on_disk f2) at (length bytes) is.first_later (did.0.failed t);
          second_later = later_same (others s0) (others s) (others s2) is.second_later (ap others did.1);
          halves = first_write_failed at (length bytes) (since (on_disk f0) (on_disk f)) _ _ a (b ∙ sym e);
        };
        goes = goes_broken a;
      }
  wrote Broken at bytes f0 f f2 s0 s s2 t ot is (inr did) =
      let e = is.halves.whole refl in
      let a = since_written (on_disk f0) (on_disk f) (on_disk f2) at bytes is.first_later (did.0 t) in
      let b = since_write_failed (others s0) (others s) (others s2) at (length bytes) is.second_later (did.1.failed ot) in
      record {
        told = record {
          first_later = later_moved (on_disk f0) (on_disk f) (on_disk f2) _ _ is.first_later (did.0 t);
          second_later = later_write_failed (others s0) (others s) (others s2) at (length bytes) is.second_later (did.1.failed ot);
          halves = second_write_failed at bytes (since (on_disk f0) (on_disk f)) _ _ a
              (subst (λ (u : OnDisk). IsWriteFailed at (length bytes) u (since (others s0) (others s2))) (sym e) b);
        };
        goes = goes_broken (written_failed at bytes (since (on_disk f0) (on_disk f)) (since (on_disk f0) (on_disk f2)) a);
      }
  wrote HalfSynced at bytes f0 f f2 s0 s s2 t ot is did = absurd did

  synced_so : (standing : Standing) (f0 f f2 : D) (s0 s s2 : M) → IsTrue tells → IsTrue others_tell →
      IsImage (on_disk f).now (on_disk f).content → IsTold Whole (on_disk f0) (on_disk f) (others s0) (others s) →
      SyncsBoth (this_disk tells on_disk faults f f2) (this_disk others_tell others others_faults s s2) standing →
      Then standing f0 f2 s0 s2 (λ u. u ≡ synced (since (on_disk f0) (on_disk f)))
      (λ u. IsSyncFailed (since (on_disk f0) (on_disk f)) u)
  synced_so Whole f0 f f2 s0 s s2 t ot reads is did =
      let e = is.halves.whole refl in
      let a = since_synced (on_disk f0) (on_disk f) (on_disk f2) is.first_later (did.0 t) in
      let b = since_synced (others s0) (others s) (others s2) is.second_later (did.1 ot) in
      record {
        told = record {
          first_later = later_moved (on_disk f0) (on_disk f) (on_disk f2) _ _ is.first_later (did.0 t);
          second_later = later_moved (others s0) (others s) (others s2) _ _ is.second_later (did.1 ot);
          halves = both_synced (since (on_disk f0) (on_disk f)) _ _ a (b ∙ ap (λ (u : OnDisk). synced u) (sym e));
        };
        goes = goes_whole a;
      }
  synced_so Broken f0 f f2 s0 s s2 t ot reads is did =
      let e = is.halves.whole refl in
      let a = since_sync_failed (on_disk f0) (on_disk f) (on_disk f2) is.first_later (did.0.failed t) in
      let b = ap (λ (x : M). since (others s0) (others x)) did.1 in
      record {
        told = record {
          first_later = later_sync_failed (on_disk f0) (on_disk f) (on_disk f2) is.first_later (did.0.failed t);
          second_later = later_same (others s0) (others s) (others s2) is.second_later (ap others did.1);
          halves = first_sync_failed (since (on_disk f0) (on_disk f)) _ _ a (b ∙ sym e);
        };
        goes = goes_broken a;
      }
  synced_so HalfSynced f0 f f2 s0 s s2 t ot reads is did =
      let e = is.halves.whole refl in
      let a = since_synced (on_disk f0) (on_disk f) (on_disk f2) is.first_later (did.0 t) in
      let b = since_sync_failed (others s0) (others s) (others s2) is.second_later (did.1.failed ot) in
      let same = subst (λ (u : OnDisk). IsSyncFailed u (since (others s0) (others s2))) (sym e) b in
      record {
        told = record {
          first_later = later_moved (on_disk f0) (on_disk f) (on_disk f2) _ _ is.first_later (did.0 t);
          second_later = later_sync_failed (others s0) (others s) (others s2) is.second_later (did.1.failed ot);
          halves = second_sync_failed (since (on_disk f0) (on_disk f)) _ _ reads a same;
        };
        goes = goes_synced same;
      }

  abbrev by : D → M → D → M → Standing → ℕ → Mirrored D M
  by f s f0 s0 standing n = record {
    first = f;
    second = s;
    first_made = f0;
    second_made = s0;
    standing = standing;
    faults = n;
  }

  -- what a call leaves of a mirror
  pub record Leaves (m : Mirrored D M) (done failed : OnDisk → Type 0) : Type 0 where
    pub mirror : Mirror m
    pub goes : IsTrue (both_tell tells others_tell) → Goes m.standing (done (Tells m)) (failed (Tells m))

  other : (m : Mirrored D M) → Mirror m → IsTrue tells → IsTrue others_tell
  other m is t = subst (λ (b : Bool). IsTrue b) is.alike t

  -- a broken mirror stays as it is
  stays : (f f2 : D) (s s2 : M) (f0 : D) (s0 : M) (old standing : Standing) (n n2 : ℕ) (done failed : OnDisk → Type 0) →
      Mirror (by f s f0 s0 old n) → (old ≡ Whole → ⊥) → standing ≡ old → f2 ≡ f → s2 ≡ s → failed (Tells (by f s f0 s0 old n)) →
      Leaves (by f2 s2 f0 s0 standing n2) done failed
  stays f f2 s s2 f0 s0 old standing n n2 done failed is cannot st first second fails =
      subst (λ (x : Standing). Leaves (by f2 s2 f0 s0 x n2) done failed) (sym st)
      (subst (λ (x : D). Leaves (by x s2 f0 s0 old n2) done failed) (sym first)
      (subst (λ (x : M). Leaves (by f x f0 s0 old n2) done failed) (sym second)
      (record {
        mirror = record { alike = is.alike; told = is.told };
        goes = λ both. record { ok = λ e. absurd (cannot e); err = λ _. fails };
      })))

  pub mirror_writes : (at : ℕ) (bytes : List ℕ) (f f2 : D) (s s2 : M) (f0 : D) (s0 : M) (old standing : Standing) (n n2 : ℕ) →
      Mirror (by f s f0 s0 old n) →
      (old ≡ Whole →
      WritesBoth (this_disk tells on_disk faults f f2) (this_disk others_tell others others_faults s s2) at bytes standing) →
      ((old ≡ Whole → ⊥) → (standing ≡ old) × (f2 ≡ f) × (s2 ≡ s)) →
      Leaves (by f2 s2 f0 s0 standing n2) (λ u. u ≡ written at bytes (Tells (by f s f0 s0 old n)))
      (λ u. IsWriteFailed at (length bytes) (Tells (by f s f0 s0 old n)) u)
  mirror_writes at bytes f f2 s s2 f0 s0 Whole standing n n2 is whole broken = record {
    mirror = record {
      alike = is.alike;
      told = λ t. (wrote standing at bytes f0 f f2 s0 s s2 t (other _ is t) (is.told t) (whole refl)).told;
    };
    goes = λ both.
        let t = first_tells tells others_tell both in
        (wrote standing at bytes f0 f f2 s0 s s2 t (other _ is t) (is.told t) (whole refl)).goes;
  }
  mirror_writes at bytes f f2 s s2 f0 s0 Broken standing n n2 is whole broken =
      let so = broken (λ e. not_whole _ e) in
      stays f f2 s s2 f0 s0 Broken standing n n2 _ _ is (λ e. not_whole _ e) so.0 so.1 so.2 (inl refl)
  mirror_writes at bytes f f2 s s2 f0 s0 HalfSynced standing n n2 is whole broken =
      let so = broken (λ e. not_whole_synced _ e) in
      stays f f2 s s2 f0 s0 HalfSynced standing n n2 _ _ is (λ e. not_whole_synced _ e) so.0 so.1 so.2 (inl refl)

  pub mirror_syncs : (f f2 : D) (s s2 : M) (f0 : D) (s0 : M) (old standing : Standing) (n n2 : ℕ) →
      ((disk : D) → IsTrue tells → IsImage (on_disk disk).now (on_disk disk).content) → Mirror (by f s f0 s0 old n) →
      (old ≡ Whole →
      SyncsBoth (this_disk tells on_disk faults f f2) (this_disk others_tell others others_faults s s2) standing) →
      ((old ≡ Whole → ⊥) → (standing ≡ old) × (f2 ≡ f) × (s2 ≡ s)) →
      Leaves (by f2 s2 f0 s0 standing n2) (λ u. u ≡ synced (Tells (by f s f0 s0 old n)))
      (λ u. IsSyncFailed (Tells (by f s f0 s0 old n)) u)
  mirror_syncs f f2 s s2 f0 s0 Whole standing n n2 reads is whole broken = record {
    mirror = record {
      alike = is.alike;
      told = λ t. (synced_so standing f0 f f2 s0 s s2 t (other _ is t) (reads f t) (is.told t) (whole refl)).told;
    };
    goes = λ both.
        let t = first_tells tells others_tell both in
        (synced_so standing f0 f f2 s0 s s2 t (other _ is t) (reads f t) (is.told t) (whole refl)).goes;
  }
  mirror_syncs f f2 s s2 f0 s0 Broken standing n n2 reads is whole broken =
      let so = broken (λ e. not_whole _ e) in
      stays f f2 s s2 f0 s0 Broken standing n n2 _ _ is (λ e. not_whole _ e) so.0 so.1 so.2 (inl refl)
  mirror_syncs f f2 s s2 f0 s0 HalfSynced standing n n2 reads is whole broken =
      let so = broken (λ e. not_whole_synced _ e) in
      stays f f2 s s2 f0 s0 HalfSynced standing n n2 _ _ is (λ e. not_whole_synced _ e) so.0 so.1 so.2 (inl refl)
