-- What stands before every range that is pending, and a file whose first byte is held closed.
use Rattle.std.proofs.Common.{◌≡◌, ◌<◌, ◌≤◌, ◌+◌, inl, inr, ℕ, List, [], ◌∷◌, ◌++◌, length, take, drop, refl, sym, ◌∙◌, ap, subst}
use Rattle.std.proofs.Common.{arith, append_assoc, length-append, take-append-drop}
use Rattle.std.proofs.lemmas.Bool.{cases_lt}
use Rattle.std.proofs.lemmas.List.{append-nil, ext_get_or, length-take, length-take-le, get_or-take, take_at}
use Rattle.chain_disk.specs.OnDisk.{OnDisk, Pending, IsImage, IsCovered, LeavesOnly, pasted, written, wider}
use Rattle.chain_disk.specs.OnDisk.{IsSettled, IsWriteFailed}
use Rattle.chain_disk.specs.Runs.{Reached, started, started_settled, follows, on_write, on_write_failed, weaker}
use Rattle.frames.specs.Frames.{length_bytes, frame}
use Rattle.journal.specs.Framed.{framed-push, length-framed-push}
use Rattle.chain_disk.specs.declared.range.Range.{Range}
use Rattle.parties.specs.Nif.{IsNif}
use Rattle.record_fields.specs.declared.versions.Version.{Version}
use Rattle.journal.specs.File.{IsNotBegun, header, framed}
use Rattle.journal.specs.Whole.{BeginPast, IsHeldShut, IsSameOrShut, IsUnfinished, IsWriting}

not_covered : (n : ℕ) (ranges : List Range) (i : ℕ) → BeginPast n ranges → i < n → IsCovered ranges i → ⊥
not_covered n [] i past low none = none
not_covered n (r ∷ ranges) i past low (inl in_it) = omega (arith, past.0, low, in_it.0)
not_covered n (r ∷ ranges) i past low (inr there) = not_covered n ranges i past.1 low there

-- where no pending range begins before this place, each image is up to there as it was synced
pub kept_front : (n : ℕ) (p : Pending) (c : List ℕ) → n ≤ length p.synced → BeginPast n p.ranges → IsImage p c →
    take n c ≡ take n p.synced
kept_front n p c within past image = ext_get_or 0 (take n c) (take n p.synced)
    (omega (arith, length-take n c, length-take n p.synced, image.no_shorter, within))
    (λ i low.
    let below : i < n = omega (arith, low, length-take n c) in
    get_or-take n c i 0 below ∙ image.kept i (omega (arith, below, within))
    (λ covered. not_covered n p.ranges i past below covered) ∙ sym (get_or-take n p.synced i 0 below))

-- a closed first byte with the header after it
pub shut_front : (version : Version) (issuer c : List ℕ) (first : ℕ) → (first ≡ 1 → ⊥) → take 19 c ≡ first ∷ header version issuer → IsHeldShut version issuer c
shut_front version issuer [] first shut front = inl tt
shut_front version issuer (x ∷ rest) first shut front =
    let same : x ∷ take 18 rest ≡ first ∷ header version issuer = front in
    let first_is : x ≡ first = cc same in
    let tail : take 18 rest ≡ header version issuer = cc same in
    elim (cases_lt 19 (length rest)) [
      | inl long ↦ inr (record { long = omega (arith, long); shut = λ is. shut (sym first_is ∙ is); header_is = tail })
      | inr short ↦ inl (inr ((λ is. shut (sym first_is ∙ is)), short))
    ]

pub length-header : (version : Version) (issuer : List ℕ) → IsNif issuer → length (header version issuer) ≡ 18
length-header version issuer nif = omega (arith, nif.nine)

module _ (version : Version) (issuer bytes : List ℕ) (at : ℕ) (t : OnDisk) (is : IsWriting version issuer bytes at t) where
  sure_long : 19 ≤ length t.now.synced
  sure_long = omega (arith, ap length is.sure, length-header version issuer is.nif, length-take 19 t.now.synced)

  pub writing_within : at ≤ length t.content
  writing_within = omega (
    arith,
    ap length is.front,
    length-append (is.first ∷ header version issuer) bytes,
    length-header version issuer is.nif,
    is.place,
    length-take at t.content,
  )

  -- with more ranges after the header
  pub writing_image : (p : Pending) (c : List ℕ) → p.synced ≡ t.now.synced → BeginPast 19 p.ranges → IsImage p c →
      IsHeldShut version issuer c
  writing_image p c same past image = shut_front version issuer c is.first is.shut
      (kept_front 19 p c (omega (arith, ap length same, sure_long)) past image ∙ ap (λ (l : List ℕ). take 19 l) same ∙ is.sure)

  pub writing_now : (c : List ℕ) → IsImage t.now c → IsHeldShut version issuer c
  writing_now c image = writing_image t.now c refl is.past image

  pub writing_wider : (n : ℕ) (c : List ℕ) → IsImage (wider at n t.now) c → IsHeldShut version issuer c
  writing_wider n c image = writing_image (wider at n t.now) c refl (omega (arith, is.place), is.past) image

  reached : Reached t (IsHeldShut version issuer) t t.content t.now
  reached = record { content_is = refl; now_is = refl; so_far = started t (IsHeldShut version issuer) writing_now }

  pub writing_written : (more : List ℕ) (u : OnDisk) → u ≡ written at more t → LeavesOnly t u (IsHeldShut version issuer)
  writing_written more u ok =
      let r = on_write reached at more ok (λ c image. writing_wider (length more) c image) in
      r.so_far

  pub writing_failed : (n : ℕ) (u : OnDisk) → IsWriteFailed at n t u → LeavesOnly t u (IsHeldShut version issuer)
  writing_failed n u err = on_write_failed reached at n err (λ c image. writing_wider n c image)

  front_more : (more : List ℕ) →
      take (at + length more) (pasted at more t.content) ≡ (is.first ∷ header version issuer) ++ (bytes ++ more)
  front_more more = take_at (take at t.content ++ more) (drop (at + length more) t.content) (at + length more)
      (omega (arith, length-append (take at t.content) more, length-take-le at t.content writing_within))
      ∙ ap (λ (l : List ℕ). l ++ more) is.front ∙ append_assoc (is.first ∷ header version issuer) bytes more

  writing_on : (more : List ℕ) → IsWriting version issuer (bytes ++ more) (at + length more) (written at more t)
  writing_on more = record {
    first = is.first;
    shut = is.shut;
    nif = is.nif;
    place = omega (arith, is.place, length-append bytes more);
    sure = is.sure;
    past = (omega (arith, is.place), is.past);
    front = front_more more;
  }

  pub writing_more : (more : List ℕ) (u : OnDisk) → u ≡ written at more t → IsWriting version issuer (bytes ++ more) (at + length more) u
  writing_more more u ok = subst (IsWriting version issuer (bytes ++ more) (at + length more)) (sym ok) (writing_on more)

-- of what was written the bytes in front
pub writing_less : (version : Version) (issuer bytes more : List ℕ) (at place : ℕ) (t : OnDisk) → IsWriting version issuer (bytes ++ more) at t →
    place ≡ 19 + length bytes → IsWriting version issuer bytes place t
writing_less version issuer bytes more at place t is here =
    let long : length ((is.first ∷ header version issuer) ++ bytes) ≡ place = omega (
      arith,
      here,
      length-append (is.first ∷ header version issuer) bytes,
      length-header version issuer is.nif,
    ) in
    let within : place ≤ at = omega (arith, here, is.place, length-append bytes more) in
    let all : t.content ≡ ((is.first ∷ header version issuer) ++ bytes) ++ (more ++ drop at t.content) =
    sym (take-append-drop at t.content) ∙ ap (λ (l : List ℕ). l ++ drop at t.content) is.front
    ∙ ap (λ (l : List ℕ). l ++ drop at t.content) (sym (append_assoc (is.first ∷ header version issuer) bytes more))
    ∙ append_assoc ((is.first ∷ header version issuer) ++ bytes) more (drop at t.content) in
    record {
      first = is.first;
      shut = is.shut;
      nif = is.nif;
      place = here;
      sure = is.sure;
      past = is.past;
      front = ap (λ (l : List ℕ). take place l) all
          ∙ take_at ((is.first ∷ header version issuer) ++ bytes) (more ++ drop at t.content) place long;
    }

-- two runs that leave the same kind of file
pub both_runs : (t u v : OnDisk) (P : List ℕ → Type 0) → LeavesOnly t u P → LeavesOnly u v P → LeavesOnly t v P
both_runs t u v P first second = follows t u v P P P first second (λ c is. is) (λ c is. is)

-- an open gate and a frame after the others are one frame more
pub writing_frame : (version : Version) (issuer : List ℕ) (bodies : List (List ℕ)) (body bytes : List ℕ) (place next : ℕ) (t : OnDisk) →
    bytes ≡ frame body → IsWriting version issuer ((framed bodies ++ 1 ∷ []) ++ bytes) place t → (at : ℕ) →
    at ≡ 19 + length (framed bodies) → next ≡ at + 5 + length body → IsWriting version issuer (framed (bodies ++ body ∷ [])) next t
writing_frame version issuer bodies body bytes place next t same is at here there =
    let all : (framed bodies ++ 1 ∷ []) ++ bytes ≡ framed (bodies ++ body ∷ []) ++ 0 ∷ [] =
    ap (λ (l : List ℕ). (framed bodies ++ 1 ∷ []) ++ l) same
    ∙ append_assoc (framed bodies) (1 ∷ []) (frame body)
    ∙ ap (λ (l : List ℕ). framed bodies ++ (1 ∷ l)) (append_assoc (length_bytes (length body)) body (0 ∷ []))
    ∙ sym (framed-push bodies body (0 ∷ [])) in
    writing_less version issuer (framed (bodies ++ body ∷ [])) (0 ∷ []) place next t
    (subst (λ (l : List ℕ). IsWriting version issuer l place t) all is)
    (omega (arith, here, there, length-framed-push bodies body))

-- byte 0 and the header of an unfinished file
sure_front : (version : Version) (issuer c : List ℕ) → IsUnfinished version issuer c → (first : ℕ) × (first ≡ 1 → ⊥) × (take 19 c ≡ first ∷ header version issuer)
sure_front version issuer [] is = absurd (omega (arith, is.long))
sure_front version issuer (x ∷ rest) is = (x, is.shut, ap (λ (l : List ℕ). x ∷ l) is.header_is)

pub unfinished_writing : (version : Version) (issuer : List ℕ) (t u : OnDisk) → u ≡ t → IsNif issuer → IsUnfinished version issuer t.content → IsSettled t →
    IsWriting version issuer [] 19 u
unfinished_writing version issuer t u same nif is quiet =
    let front = sure_front version issuer t.content is in
    subst (λ (d : OnDisk). IsWriting version issuer [] 19 d) (sym same) (record {
      first = front.0;
      shut = front.1;
      nif = nif;
      place = refl;
      sure = ap (λ p. take 19 p.synced) quiet ∙ front.2;
      past = subst (λ p. BeginPast 19 p.ranges) (sym quiet) tt;
      front = front.2 ∙ sym (append-nil (front.0 ∷ header version issuer));
    })

pub same_started : (version : Version) (issuer : List ℕ) (t u : OnDisk) → u ≡ t → IsSettled t → LeavesOnly t u (IsSameOrShut version issuer t.content)
same_started version issuer t u same quiet = subst (λ (d : OnDisk). LeavesOnly t d (IsSameOrShut version issuer t.content)) (sym same)
    (started_settled t (IsSameOrShut version issuer t.content) quiet (inl refl))

-- a file that wasn't begun is held shut while its header is written
pub begun_shut : (version : Version) (issuer : List ℕ) (t u v : OnDisk) → u ≡ t → IsNotBegun t.content → LeavesOnly u v IsNotBegun →
    LeavesOnly t v (IsSameOrShut version issuer t.content)
begun_shut version issuer t u v same none only = subst (λ (d : OnDisk). LeavesOnly d v (IsSameOrShut version issuer t.content)) same
    (weaker u v IsNotBegun (IsSameOrShut version issuer t.content) only (λ c is. inr (inl none, inl is)))
