-- What a crash leaves while a file is created.
use Rattle.std.proofs.Common.{◌≡◌, ◌<◌, ◌≤◌, ◌+◌, inl, inr, ℕ, List, [], ◌∷◌, ◌++◌, length, take, refl, sym, ◌∙◌, ap, subst}
use Rattle.std.proofs.Common.{arith, length-append}
use Rattle.std.proofs.lemmas.List.{append-nil, drop_all}
use Rattle.std.proofs.lemmas.Bool.{cases_eq}
use Rattle.chain_disk.specs.OnDisk.{OnDisk, LeavesOnly, MayLeave, IsImage, moment, IsSettled}
use Rattle.chain_disk.specs.OnDisk.{settled, pasted, written, synced, wider}
use Rattle.chain_disk.specs.Stays.{run_of, seen_follows, seen_of}
use Rattle.chain_disk.specs.Runs.{Reached, started, on_write, on_sync, follows, settled_image, range_image}
use Rattle.parties.specs.Nif.{IsNif}
use Rattle.record_fields.specs.declared.versions.Version.{Version}
use Rattle.journal.specs.Commit.{gated, IsCommitImage, IsCommitted, IsShut, IsUpToGate}
use Rattle.journal.specs.File.{header, IsFile, IsNotBegun, IsNotBegunOrEmpty, IsAt, NeverLosesFrames}
use Rattle.journal.specs.Written.{empty_file, CreationTakes}
use Rattle.journal.proofs.Losing.{none_to_lose, not_begun_no_chain}

short_not_begun : (c : List ℕ) → length c ≤ 1 → IsNotBegun c
short_not_begun [] short = tt
short_not_begun (x ∷ rest) short = inl (omega arith)

pub start_image : (content c : List ℕ) → IsNotBegun content → IsImage (settled content) c → IsNotBegun c
start_image content c not image = subst IsNotBegun (sym (settled_image content c image)) not

pub first_image : (content c : List ℕ) → length content ≤ 1 → IsImage (wider 0 1 (settled content)) c → IsNotBegun c
first_image content c short image = short_not_begun c (omega (arith, (range_image content c 0 1 (omega arith) image).no_longer))

-- a longer file has its first byte already
pub shut_already : (t : OnDisk) → IsNotBegun t.content → 1 < length t.content → t.now ≡ settled t.content → IsShut t
shut_already t not long quiet = by_content t.content refl not
  where
    by_content : (content : List ℕ) → t.content ≡ content → IsNotBegun content → IsShut t
    by_content [] is none = absurd (omega (arith, ap length is, long))
    by_content (gate ∷ rest) is (inl short) = absurd (omega (arith, ap length is, long, short))
    by_content (gate ∷ rest) is (inr both) = record {
      gate = gate;
      rest = rest;
      content = is;
      shut = both.0;
      short = both.1;
      nothing_pending = quiet;
    }

pub pasted_first : (content : List ℕ) → length content ≤ 1 → pasted 0 (0 ∷ []) content ≡ 0 ∷ []
pasted_first content short = ap (λ (l : List ℕ). 0 ∷ l) (drop_all 1 content short)

module _ (t : OnDisk) (not : IsNotBegun t.content) (quiet : IsSettled t) where
  pub at_start : (u : OnDisk) → u ≡ t → Reached t IsNotBegun u t.content (settled t.content)
  at_start u is = subst (λ (w : OnDisk). Reached t IsNotBegun w t.content (settled t.content)) (sym is) (record {
    content_is = refl;
    now_is = quiet;
    so_far = started t IsNotBegun (λ c image. start_image t.content c not (subst (λ p. IsImage p c) quiet
        image));
  })

  pub after_write : (short : length t.content ≤ 1) (u v : OnDisk) → u ≡ t → v ≡ written 0 (0 ∷ []) u →
      Reached t IsNotBegun v (pasted 0 (0 ∷ []) t.content) (wider 0 1 (settled t.content))
  after_write short u v is ok = on_write (at_start u is) 0 (0 ∷ []) ok (λ c image. first_image t.content c short image)

  pub after_sync : (short : length t.content ≤ 1) (u v w : OnDisk) → u ≡ t → v ≡ written 0 (0 ∷ []) u → w ≡ synced v →
      Reached t IsNotBegun w (pasted 0 (0 ∷ []) t.content) (settled (pasted 0 (0 ∷ []) t.content))
  after_sync short u v w is ok ok1 = on_sync (after_write short u v is ok) ok1
      (λ c image. subst IsNotBegun (sym (settled_image _ c image ∙ pasted_first t.content short)) (inl refl))

  pub shut_now : (short : length t.content ≤ 1) (w : OnDisk) → Reached t IsNotBegun w (pasted 0 (0 ∷ []) t.content)
      (settled (pasted 0 (0 ∷ []) t.content)) → IsShut w
  shut_now short w r = record {
    gate = 0;
    rest = [];
    content = r.content_is ∙ pasted_first t.content short;
    shut = λ is. omega (arith, is);
    short = omega arith;
    nothing_pending = r.now_is ∙ ap (λ (l : List ℕ). settled l)
        (sym r.content_is);
  }

-- a short file with a closed first byte isn't begun
pub up_to : (content c : List ℕ) (gate : ℕ) (rest : List ℕ) → content ≡ gate ∷ rest → (gate ≡ 1 → ⊥) → take 1 c ≡ take 1 content →
    length c ≤ 20 → IsNotBegun c
up_to content [] gate rest is shut front short = tt
up_to content (x ∷ c) gate rest is shut front short =
    let fronts : x ∷ [] ≡ gate ∷ [] = front ∙ ap (λ (l : List ℕ). take 1 l) is in
    let first : x ≡ gate = cc fronts in
    inr ((λ one. shut (sym first ∙ one)), omega arith)

module _ (version : Version) (issuer bytes : List ℕ) (nif : IsNif issuer) (same : bytes ≡ header version issuer ++ 0 ∷ []) where
  long : length bytes ≡ 19
  long = omega (arith, ap length same, length-append (header version issuer) (0 ∷ []), nif.nine)

  -- all is written, and the first byte may be any
  gated_is : (t : OnDisk) (x : ℕ) → IsShut t → gated t.content 0 x bytes ≡ x ∷ (header version issuer ++ 0 ∷ [])
  gated_is t x shut = ap (λ (l : List ℕ). x ∷ l) (ap (λ (l : List ℕ). bytes ++ l) (drop_all (0 + 1 + length bytes) t.content
      (omega (arith, ap length shut.content, shut.short, long))) ∙ append-nil bytes ∙ same)

  is_empty : IsFile version issuer [] (1 ∷ (header version issuer ++ 0 ∷ []))
  is_empty = record { gate = 0; rest = []; nif = nif; sizes = tt; shut = λ is. omega (arith, is); parts = refl }

  any_first : (x : ℕ) → IsNotBegunOrEmpty version issuer (x ∷ (header version issuer ++ 0 ∷ []))
  any_first x = elim (cases_eq x 1) [
    | inl is ↦ inr (subst (λ (y : ℕ). IsFile version issuer [] (y ∷ (header version issuer ++ 0 ∷ []))) (sym is) is_empty)
    | inr other ↦ inl (inr (other, omega (arith, ap length same, long)))
  ]

  pub image : (t : OnDisk) (c : List ℕ) → IsShut t → IsCommitImage t.content 0 bytes c → IsNotBegunOrEmpty version issuer c
  image t c shut (inl up) = inl (up_to t.content c shut.gate shut.rest shut.content shut.shut up.same
      (omega (arith, up.no_longer, ap length shut.content, shut.short, long)))
  image t c shut (inr is) = subst (IsNotBegunOrEmpty version issuer) (sym (is.1 ∙ gated_is t is.0 shut)) (any_first is.0)

  pub created : (t u : OnDisk) → IsShut t → IsCommitted t 0 bytes u → IsAt version issuer [] 19 u
  created t u shut now = record {
    file = subst (IsFile version issuer []) (sym (now.content ∙ gated_is t 1 shut)) is_empty;
    place = refl;
    nothing_pending = now.nothing_pending;
  }

  pub empty_content : (t u : OnDisk) → IsShut t → IsCommitted t 0 bytes u → u.content ≡ empty_file version issuer
  empty_content t u shut now = now.content ∙ gated_is t 1 shut

  pub creating : (t u v : OnDisk) → LeavesOnly t u IsNotBegun → IsShut u → LeavesOnly u v (IsCommitImage u.content 0 bytes) →
      LeavesOnly t v (IsNotBegunOrEmpty version issuer)
  creating t u v first shut second = follows t u v IsNotBegun _ (IsNotBegunOrEmpty version issuer) first second (λ c not. inl not)
      (λ c left. image u c shut left)

  -- up to the last moment a crash may leave a file that isn't begun
  pub creation_never_loses : (t u v : OnDisk) → LeavesOnly t u IsNotBegun → IsShut u →
      LeavesOnly u v (IsCommitImage u.content 0 bytes) → MayLeave u v (IsUpToGate u.content 0 bytes) → NeverLosesFrames t v
  creation_never_loses t u v first shut second seen =
      none_to_lose t v (IsNotBegunOrEmpty version issuer) IsNotBegun (creating t u v first shut second)
      (seen_follows t u v IsNotBegun IsNotBegun (run_of second) (seen_of t u IsNotBegun first) (λ m since before.
      let at = seen m since before in (
        at.0,
        at.1,
        up_to u.content at.0 shut.gate shut.rest shut.content shut.shut at.2.same
            (omega (arith, at.2.no_longer, ap length shut.content, shut.short, long)),
      )) (λ c not. not)) (λ other_version other bodies c not is. not_begun_no_chain other_version other bodies c not is)

-- what is there is closed first, or is closed already, and then committed after
pub creation_takes : (t u v : OnDisk) → (length t.content ≤ 1 → moment u ≡ moment t + 2) → (1 < length t.content → moment u ≡
    moment t) → moment v ≡ moment u + 4 → CreationTakes t v
creation_takes t u v writes leaves commits = record {
  from_nothing = λ short. omega (arith, writes short, commits);
  from_closed = λ long. omega (arith, leaves long, commits);
}

pub first_moments : (t u v w : OnDisk) (at : ℕ) (bytes : List ℕ) → u ≡ t → v ≡ written at bytes u → w ≡ synced v →
    moment w ≡ moment t + 2
first_moments t u v w at bytes is ok ok1 = omega (
  arith,
  ap (λ (d : OnDisk). moment d) is,
  ap (λ (d : OnDisk). moment d) ok,
  ap (λ (d : OnDisk). moment d) ok1,
)
