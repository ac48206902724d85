-- How a run of calls goes on: what a crash at a moment of it may leave. Each lemma holds for every fact P on images.
use Rattle.std.specs.Prelude.{◌≡◌, ◌<◌, ◌≤◌, ◌+◌, ℕ, max, List, [], ◌∷◌, length, take, drop}
use Rattle.std.proofs.Common.{inl, inr, sym, ◌∙◌, ap, subst, arith}
use Rattle.std.proofs.lemmas.Bool.{cases_lt}
use Rattle.std.proofs.lemmas.List.{ext_get_or, length-take, length-drop, get_or-take, get_or-drop}
use Rattle.chain_disk.specs.OnDisk.{OnDisk, Pending, IsImage, IsCovered, IsLeftOf, IsLeft, moment, LeavesOnly, LeavesNow}
use Rattle.chain_disk.specs.OnDisk.{IsSettled}
use Rattle.chain_disk.specs.OnDisk.{moved, wider, written, pasted, synced, settled, IsWriteFailed, IsSyncFailed}

pub left_before : (past : List Pending) (m : ℕ) (c : List ℕ) → IsLeftOf past m c → m < length past
left_before [] m c left = absurd left
left_before (p ∷ past) m c (inl here) = omega (arith, here.0)
left_before (p ∷ past) m c (inr there) = omega (arith, left_before past m c there)

-- an image of now is left now, and nothing else is
pub left_now : (t : OnDisk) (c : List ℕ) → IsLeft t (moment t) c → IsImage t.now c
left_now t c (inl now) = now.1
left_now t c (inr past) = absurd (omega (arith, left_before t.past (moment t) c past))

-- the one image of a content with nothing pending
pub settled_image : (s c : List ℕ) → IsImage (settled s) c → c ≡ s
settled_image s c image = ext_get_or 0 c s (omega (arith, image.no_shorter, image.no_longer))
    (λ i within. image.kept i (omega (arith, image.no_longer, within)) (λ none. none))

-- with nothing pending, a crash now leaves the content
pub settled_now : (t : OnDisk) (c : List ℕ) → IsSettled t → IsLeft t (moment t) c → c ≡ t.content
settled_now t c quiet left = settled_image t.content c (subst (λ p. IsImage p c) quiet (left_now t c left))

pub leaves_now : (t : OnDisk) (P : List ℕ → Type 0) → IsSettled t → P t.content → LeavesNow t P
leaves_now t P quiet here = λ c left. subst P (sym (settled_now t c quiet left)) here

-- before the first call
pub started : (t : OnDisk) (P : List ℕ → Type 0) → ((c : List ℕ) → IsImage t.now c → P c) → LeavesOnly t t P
started t P here = record {
  later = omega arith;
  each = λ m c since left. each m c since left;
  before = λ m c was left. left;
  stays = λ m c was left. left;
}
  where
    each : (m : ℕ) (c : List ℕ) → moment t ≤ m → IsLeft t m c → P c
    each m c since (inl now) = here c now.1
    each m c since (inr past) = absurd (omega (arith, left_before t.past m c past))

-- the same, with nothing pending
pub started_settled : (t : OnDisk) (P : List ℕ → Type 0) → IsSettled t → P t.content → LeavesOnly t t P
started_settled t P quiet here = started t P (λ c image. subst P
    (sym (settled_image t.content c (subst (λ p. IsImage p c) quiet image))) here)

-- one moment more, at which a crash leaves what has P
pub goes_on : (t u : OnDisk) (content : List ℕ) (now : Pending) (P : List ℕ → Type 0) → LeavesOnly t u P →
    ((c : List ℕ) → IsImage now c → P c) → LeavesOnly t (moved content now u) P
goes_on t u content now P so_far here = record {
  later = omega (arith, so_far.later);
  each = each;
  before = before;
  stays = λ m c was left. inr (so_far.stays m c was left);
}
  where
    each : (m : ℕ) (c : List ℕ) → moment t ≤ m → IsLeft (moved content now u) m c → P c
    each m c since (inl newest) = here c newest.1
    each m c since (inr older) = so_far.each m c since older

    before : (m : ℕ) (c : List ℕ) → m ≤ moment t → IsLeft (moved content now u) m c → IsLeft t m c
    before m c was (inl newest) = absurd (omega (arith, newest.0, so_far.later))
    before m c was (inr older) = so_far.before m c was older

-- one run after another
pub follows : (t u v : OnDisk) (P Q R : List ℕ → Type 0) → LeavesOnly t u P → LeavesOnly u v Q → ((c : List ℕ) → P c → R c) →
    ((c : List ℕ) → Q c → R c) → LeavesOnly t v R
follows t u v P Q R first second p q = record {
  later = omega (arith, first.later, second.later);
  each = λ m c since left. elim (cases_lt m (moment u)) [
    | inl early ↦ p c (first.each m c since (second.before m c (omega (arith, early)) left))
    | inr late ↦ q c (second.each m c late left)
  ];
  before = λ m c was left. first.before m c was (second.before m c (omega (arith, was, first.later)) left);
  stays = λ m c was left. second.stays m c (omega (arith, was, first.later)) (first.stays m c was left);
}

-- the same run, of which less is said
pub weaker : (t u : OnDisk) (P Q : List ℕ → Type 0) → LeavesOnly t u P → ((c : List ℕ) → P c → Q c) → LeavesOnly t u Q
weaker t u P Q only less = record {
  later = only.later;
  each = λ m c since left. less c (only.each m c since left);
  before = only.before;
  stays = only.stays;
}

-- how far a run has come: what the disk tells now, and that each crash since the start leaves what has P
pub record Reached (t : OnDisk) (P : List ℕ → Type 0) (u : OnDisk) (content : List ℕ) (now : Pending) : Type 0 where
  pub content_is : u.content ≡ content
  pub now_is : u.now ≡ now
  pub so_far : LeavesOnly t u P

pub on_write : {t : OnDisk} {P : List ℕ → Type 0} {u v : OnDisk} {content : List ℕ} {now : Pending} → Reached t P u content now →
    (at : ℕ) (bytes : List ℕ) → v ≡ written at bytes u → ((c : List ℕ) → IsImage (wider at (length bytes) now) c → P c)
    → Reached t P v (pasted at bytes content) (wider at (length bytes) now)
on_write {t = t} {P = P} {u = u} {content = content} {now = now} r at bytes ok here =
    subst (λ (w : OnDisk). Reached t P w (pasted at bytes content) (wider at (length bytes) now)) (sym ok) (record {
      content_is = ap (λ (l : List ℕ). pasted at bytes l) r.content_is;
      now_is = ap (λ (p : Pending). wider at (length bytes) p) r.now_is;
      so_far = goes_on t u _ _ P r.so_far (λ c image. here c (subst (λ (p : Pending). IsImage (wider at (length bytes) p) c)
          r.now_is
          image));
    })

pub on_sync : {t : OnDisk} {P : List ℕ → Type 0} {u v : OnDisk} {content : List ℕ} {now : Pending} → Reached t P u content now →
    v ≡ synced u → ((c : List ℕ) → IsImage (settled content) c → P c)
    → Reached t P v content (settled content)
on_sync {t = t} {P = P} {u = u} {content = content} r ok here = subst (λ (w : OnDisk). Reached t P w content (settled content))
    (sym ok) (record {
      content_is = r.content_is;
      now_is = ap (λ (l : List ℕ). settled l) r.content_is;
      so_far = goes_on t u _ _ P r.so_far (λ c image. here c (subst (λ (l : List ℕ). IsImage (settled l) c) r.content_is image));
    })

pub on_write_failed : {t : OnDisk} {P : List ℕ → Type 0} {u v : OnDisk} {content : List ℕ} {now : Pending} →
    Reached t P u content now → (at n : ℕ) → IsWriteFailed at n u v → ((c : List ℕ) → IsImage (wider at n now) c → P c) →
    LeavesOnly t v P
on_write_failed {t = t} {P = P} r at n (inl same) here = subst (λ (w : OnDisk). LeavesOnly t w P) (sym same) r.so_far
on_write_failed {t = t} {P = P} {u = u} r at n (inr torn) here = subst (λ (w : OnDisk). LeavesOnly t w P) (sym torn.2)
    (goes_on t u _ _ P r.so_far (λ c image. here c (subst (λ (p : Pending). IsImage (wider at n p) c) r.now_is image)))

pub on_sync_failed : {t : OnDisk} {P : List ℕ → Type 0} {u v : OnDisk} {content : List ℕ} {now : Pending} →
    Reached t P u content now → IsSyncFailed u v → ((c : List ℕ) → IsImage now c → P c) → LeavesOnly t v P
on_sync_failed {t = t} {P = P} r (inl same) here = subst (λ (w : OnDisk). LeavesOnly t w P) (sym same) r.so_far
on_sync_failed {t = t} {P = P} {u = u} r (inr later) here = subst (λ (w : OnDisk). LeavesOnly t w P) (sym later)
    (goes_on t u _ _ P r.so_far (λ c image. here c (subst (λ (p : Pending). IsImage p c) r.now_is image)))

-- what one pending range leaves as it was
pub record IsAround (at n : ℕ) (s c : List ℕ) : Type 0 where
  pub before : take at c ≡ take at s
  pub behind : drop (at + n) c ≡ drop (at + n) s
  pub no_shorter : length s ≤ length c
  pub no_longer : length c ≤ max (length s) (at + n)

pub range_image : (s c : List ℕ) (at n : ℕ) → at ≤ length s → IsImage (wider at n (settled s)) c → IsAround at n s c
range_image s c at n within image = record {
  before = ext_get_or 0 (take at c) (take at s) (omega (arith, length-take at c, length-take at s, image.no_shorter, within))
      (λ i low.
      let below : i < at = omega (arith, low, length-take at c) in
      get_or-take at c i 0 below ∙ image.kept i (omega (arith, below, within))
      (λ covered. out i (λ from to. omega (arith, from, below)) covered) ∙ sym (get_or-take at s i 0 below));
  behind = ext_get_or 0 (drop (at + n) c) (drop (at + n) s) (omega (
    arith,
    length-drop (at + n) c,
    length-drop (at + n) s,
    image.no_shorter,
    image.no_longer,
  )) (λ i low.
      get_or-drop (at + n) c i 0 ∙ image.kept (at + n + i) (omega (arith, low, length-drop (at + n) c, image.no_longer))
      (λ covered. out (at + n + i) (λ from to. omega (arith, to)) covered) ∙ sym (get_or-drop (at + n) s i 0));
  no_shorter = image.no_shorter;
  no_longer = omega (arith, image.no_longer);
}
  where
    out : (i : ℕ) → (at ≤ i → i < at + n → ⊥) → IsCovered ((record { at = at; count = n }) ∷ []) i → ⊥
    out i apart (inl in_it) = apart in_it.0 in_it.1
    out i apart (inr none) = none
