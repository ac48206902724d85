-- A mirror over one call, by what its halves tell of the moments since it was made.
use Rattle.std.proofs.Common.{◌≡◌, ◌⊎◌, ◌<◌, ◌≤◌, ◌+◌, inl, inr, ℕ, min, max, List, [], ◌++◌, length, get_or, take, drop, refl, sym, ◌∙◌}
use Rattle.std.proofs.Common.{ap, subst, arith, length-append, length-drop}
use Rattle.std.proofs.lemmas.List.{places, length-take}
use Rattle.chain_disk.specs.OnDisk.{OnDisk, Pending, IsImage, IsLeft, IsSyncFailed, IsTorn, IsWriteFailed, moment, later}
use Rattle.chain_disk.specs.OnDisk.{pasted, ranged, settled, synced, wider, written}
use Rattle.chain_disk.specs.Runs.{settled_image}
use Rattle.chain_disk.specs.declared.range.Range.{Range}
use Rattle.mirror_disk.specs.Halves.{AreHalves, IsLeftAround, IsWithin}
use Rattle.mirror_disk.specs.declared.standing.Standing.{Standing}
use Rattle.mirror_disk.specs.declared.standing.Standing.TheVariants.{Whole, Broken, HalfSynced}

-- a disk and itself
pub within_itself : (t : OnDisk) → IsWithin t t
within_itself t = record {
  moments = λ m c left. (m, omega arith, omega arith, left);
  lately = λ c image. (moment t, omega arith, inl (refl, image));
  settled = λ _. record { content = refl; now = refl };
}

-- with a range pending, something is
wider_pends : (A : Type 0) (at n : ℕ) (p : Pending) (content : List ℕ) → wider at n p ≡ settled content → A
wider_pends A at n p content quiet =
    let none : ◌≡◌ {A = List Range} (wider at n p).ranges [] = ap (λ (q : Pending). q.ranges) quiet in
    absurd (cc)

-- the mirror is a moment ahead, with a range more pending
pub within_ranged : (t : OnDisk) (at n : ℕ) (content : List ℕ) → IsWithin t (ranged at n content t)
within_ranged t at n content = record {
  moments = λ m c left. (m, omega arith, omega arith, inr left);
  lately = λ c image. (moment t, omega arith, inr (inl (refl, image)));
  settled = λ quiet. wider_pends _ at n t.now content quiet;
}

-- a moment ahead, with the same pending
pub within_tried : (t : OnDisk) → IsWithin t (later t)
within_tried t = record {
  moments = λ m c left. (m, omega arith, omega arith, inr left);
  lately = λ c image. (moment t, omega arith, inr (inl (refl, image)));
  settled = λ _. record { content = refl; now = refl };
}

-- the same moments, and another content, with a range pending
pub within_other : (t : OnDisk) (at n : ℕ) (a b : List ℕ) → IsWithin (ranged at n a t) (ranged at n b t)
within_other t at n a b = record {
  moments = λ m c left. (m, omega arith, omega arith, left);
  lately = λ c image. (moment t + 1, omega arith, inl (omega arith, image));
  settled = λ quiet. wider_pends _ at n t.now b quiet;
}

-- the half was synced, and nothing came of it in the mirror
pub within_unsynced : (t : OnDisk) → IsImage t.now t.content → IsWithin (synced t) t
within_unsynced t reads = record {
  moments = moments;
  lately = λ c image. (moment t, omega arith, inl (refl, one c image));
  settled = λ quiet. record { content = refl; now = sym quiet };
}
  where
    one : (c : List ℕ) → IsImage (settled t.content) c → IsImage t.now c
    one c image = subst (λ (l : List ℕ). IsImage t.now l) (sym (settled_image t.content c image)) reads

    moments : (m : ℕ) (c : List ℕ) → IsLeft (synced t) m c → IsLeftAround t m c
    moments m c (inl now) = (moment t, omega (arith, now.0), omega (arith, now.0), inl (refl, one c now.1))
    moments m c (inr before) = (m, omega arith, omega arith, before)

-- it was synced, and the mirror is a moment later with all that was pending
pub within_later : (t : OnDisk) → IsImage t.now t.content → IsWithin (synced t) (later t)
within_later t reads = record {
  moments = moments;
  lately = λ c image. (moment t + 1, omega arith, inl (omega arith, one c image));
  settled = λ quiet. record { content = refl; now = sym quiet };
}
  where
    one : (c : List ℕ) → IsImage (settled t.content) c → IsImage t.now c
    one c image = subst (λ (l : List ℕ). IsImage t.now l) (sym (settled_image t.content c image)) reads

    moments : (m : ℕ) (c : List ℕ) → IsLeft (synced t) m c → IsLeftAround (later t) m c
    moments m c (inl now) = (moment t + 1, omega (arith, now.0), omega (arith, now.0), inl (omega arith, one c now.1))
    moments m c (inr before) = (m, omega arith, omega arith, inr before)

-- both halves are the same
pub halves_same : (t : OnDisk) → AreHalves Whole t t
halves_same t = record { whole = λ _. refl; content = refl; first_within = within_itself t; second_within = within_itself t }

pub not_whole : (A : Type 0) → ◌≡◌ {A = Standing} Broken Whole → A
not_whole A e = absurd (cc)

pub not_whole_synced : (A : Type 0) → ◌≡◌ {A = Standing} HalfSynced Whole → A
not_whole_synced A e = absurd (cc)

-- the second half lags behind the first, or is as far
pub halves_behind : (first second : OnDisk) → IsWithin second first → AreHalves Broken first second
halves_behind first second within = record {
  whole = λ e. not_whole _ e;
  content = refl;
  first_within = within_itself first;
  second_within = within;
}

-- the first half was synced, and the second wasn't
pub halves_synced : (first second : OnDisk) → second.content ≡ first.content → IsWithin first second →
    AreHalves HalfSynced first second
halves_synced first second same within = record {
  whole = λ e. not_whole_synced _ e;
  content = same;
  first_within = within;
  second_within = within_itself second;
}

-- a write that is Ok in the first half is one of those that may have failed
length-pasted : (at : ℕ) (bytes content : List ℕ) → length (pasted at bytes content) ≡ max (length content)
    (min at (length content) + length bytes)
length-pasted at bytes content = omega (
  arith,
  length-append (take at content ++ bytes) (drop (at + length bytes) content),
  length-append (take at content) bytes,
  length-take at content,
  length-drop (at + length bytes) content,
)

pasted_below : (at : ℕ) (bytes content : List ℕ) (i : ℕ) → i < at → i < length content → get_or (pasted at bytes content) i 0 ≡
    get_or content i 0
pasted_below at bytes content i below within = grind (arith, places)

pasted_above : (at : ℕ) (bytes content : List ℕ) (i : ℕ) → at + length bytes ≤ i → i < length content →
    get_or (pasted at bytes content) i 0 ≡ get_or content i 0
pasted_above at bytes content i above within = grind (arith, places)

pub pasted_torn : (at : ℕ) (bytes content : List ℕ) → IsTorn at (length bytes) content (pasted at bytes content)
pasted_torn at bytes content = record {
  no_shorter = omega (arith, length-pasted at bytes content);
  no_longer = omega (arith, length-pasted at bytes content);
  kept = kept;
}
  where
    kept : (i : ℕ) → i < length content → (i < at) ⊎ (at + length bytes ≤ i) → get_or (pasted at bytes content) i 0 ≡
        get_or content i 0
    kept i within (inl below) = pasted_below at bytes content i below within
    kept i within (inr above) = pasted_above at bytes content i above within

pub written_failed : (at : ℕ) (bytes : List ℕ) (t u : OnDisk) → u ≡ written at bytes t → IsWriteFailed at (length bytes) t u
written_failed at bytes t u is = inr (pasted at bytes t.content, pasted_torn at bytes t.content, is)

-- the steps of a mirror that was whole, whose halves told the same

pub both_written : (at : ℕ) (bytes : List ℕ) (t a b : OnDisk) → a ≡ written at bytes t → b ≡ written at bytes t → AreHalves Whole a b
both_written at bytes t a b first second = subst (λ (x : OnDisk). AreHalves Whole a x) (first ∙ sym second) (halves_same a)

pub both_synced : (t a b : OnDisk) → a ≡ synced t → b ≡ synced t → AreHalves Whole a b
both_synced t a b first second = subst (λ (x : OnDisk). AreHalves Whole a x) (first ∙ sym second) (halves_same a)

pub first_write_failed : (at n : ℕ) (t a b : OnDisk) → IsWriteFailed at n t a → b ≡ t → AreHalves Broken a b
first_write_failed at n t a b (inl same) second = halves_behind a b (subst (λ (x : OnDisk). IsWithin x a) (same ∙ sym second)
    (within_itself a))
first_write_failed at n t a b (inr torn) second = subst (λ (x : OnDisk). AreHalves Broken a x) (sym second)
    (subst (λ (x : OnDisk). AreHalves Broken x t) (sym torn.2)
    (halves_behind (ranged at n torn.0 t) t (within_ranged t at n torn.0)))

pub second_write_failed : (at : ℕ) (bytes : List ℕ) (t a b : OnDisk) → a ≡ written at bytes t →
    IsWriteFailed at (length bytes) t b → AreHalves Broken a b
second_write_failed at bytes t a b first (inl same) = subst (λ (x : OnDisk). AreHalves Broken a x) (sym same)
    (subst (λ (x : OnDisk). AreHalves Broken x t) (sym first)
    (halves_behind (written at bytes t) t (within_ranged t at (length bytes) (pasted at bytes t.content))))
second_write_failed at bytes t a b first (inr torn) = subst (λ (x : OnDisk). AreHalves Broken a x) (sym torn.2)
    (subst (λ (x : OnDisk). AreHalves Broken x (ranged at (length bytes) torn.0 t)) (sym first)
    (halves_behind (written at bytes t) (ranged at (length bytes) torn.0 t)
    (within_other t at (length bytes) torn.0 (pasted at bytes t.content))))

pub first_sync_failed : (t a b : OnDisk) → IsSyncFailed t a → b ≡ t → AreHalves Broken a b
first_sync_failed t a b (inl same) second = halves_behind a b (subst (λ (x : OnDisk). IsWithin x a) (same ∙ sym second)
    (within_itself a))
first_sync_failed t a b (inr is) second = subst (λ (x : OnDisk). AreHalves Broken a x) (sym second)
    (subst (λ (x : OnDisk). AreHalves Broken x t) (sym is) (halves_behind (later t) t (within_tried t)))

pub second_sync_failed : (t a b : OnDisk) → IsImage t.now t.content → a ≡ synced t → IsSyncFailed t b → AreHalves HalfSynced a b
second_sync_failed t a b reads first (inl same) = subst (λ (x : OnDisk). AreHalves HalfSynced a x) (sym same)
    (subst (λ (x : OnDisk). AreHalves HalfSynced x t) (sym first) (halves_synced (synced t) t refl (within_unsynced t reads)))
second_sync_failed t a b reads first (inr is) = subst (λ (x : OnDisk). AreHalves HalfSynced a x) (sym is)
    (subst (λ (x : OnDisk). AreHalves HalfSynced x (later t)) (sym first)
    (halves_synced (synced t) (later t) refl (within_later t reads)))
