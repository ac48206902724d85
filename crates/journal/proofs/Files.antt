-- A frame more in a file.
use Rattle.std.proofs.Common.{◌≡◌, ◌<◌, ◌+◌, inl, inr, ℕ, List, [], ◌∷◌, ◌++◌, length, take, drop, sym, ◌∙◌, ap, subst, arith}
use Rattle.std.proofs.Common.{append_assoc, length-append, take-append-drop}
use Rattle.std.proofs.Math.Logic.{∥∥₁_elim}
use Rattle.std.proofs.Props.{props}
use Rattle.std.proofs.lemmas.List.{take_at}
use Rattle.std.proofs.lemmas.Bool.{cases_eq}
use Rattle.chain_disk.specs.OnDisk.{OnDisk, LeavesOnly, LeavesNow, IsSettled}
use Rattle.chain_disk.specs.Runs.{leaves_now, weaker}
use Rattle.frames.specs.Frames.{length_bytes, frame, IsBody}
use Rattle.record_fields.specs.declared.versions.Version.{Version}
use Rattle.journal.specs.Framed.{framed-push, length-framed-push, AreBodies-push}
use Rattle.journal.specs.Commit.{gated, IsCommitImage, IsCommitted}
use Rattle.journal.specs.File.{header, framed, IsFile, IsBeforeOrAfter, closing_gate, IsAt, IsAtSome}
use Rattle.journal.proofs.Fronts.{bytes_before}

module _ (version : Version) (issuer : List ℕ) (bodies : List (List ℕ)) (content : List ℕ)
    (file : IsFile version issuer bodies content) where
  front : List ℕ
  front = (1 ∷ header version issuer) ++ framed bodies

  length-front : length ((1 ∷ header version issuer) ++ framed bodies) ≡ closing_gate bodies
  length-front = omega (arith, file.nif.nine, length-append (1 ∷ header version issuer) (framed bodies))

  split : content ≡ ((1 ∷ header version issuer) ++ framed bodies) ++ (file.gate ∷ file.rest)
  split = file.parts ∙ sym (append_assoc (1 ∷ header version issuer) (framed bodies) (file.gate ∷ file.rest))

  pub gate_within : closing_gate bodies < length content
  gate_within = omega (
    arith,
    length-front,
    ap length split,
    length-append ((1 ∷ header version issuer) ++ framed bodies)
        (file.gate ∷ file.rest),
  )

  take_front : take (closing_gate bodies) content ≡ (1 ∷ header version issuer) ++ framed bodies
  take_front = ap (λ (l : List ℕ). take (closing_gate bodies) l) file.parts ∙
      bytes_before version issuer bodies (file.gate ∷ file.rest) file.nif

  -- with the front and the closed gate it stands for the same
  pub same_front : (c : List ℕ) → take (closing_gate bodies + 1) c ≡ take (closing_gate bodies + 1) content →
      IsFile version issuer bodies c
  same_front c same =
      let A = (1 ∷ header version issuer) ++ framed bodies in
      let n = closing_gate bodies + 1 in
      let all : content ≡ (A ++ file.gate ∷ []) ++ file.rest = split ∙ sym (append_assoc A (file.gate ∷ []) file.rest) in
      let long : length (A ++ file.gate ∷ []) ≡ n = omega (arith, length-front, length-append A (file.gate ∷ [])) in
      let head : take n c ≡ A ++ file.gate ∷ [] = same ∙ ap (λ (l : List ℕ). take n l) all ∙ take_at (A ++ file.gate ∷ [])
      file.rest n long in
      record {
        gate = file.gate;
        rest = drop n c;
        nif = file.nif;
        sizes = file.sizes;
        shut = file.shut;
        parts = sym (take-append-drop n c) ∙ ap (λ (l : List ℕ). l ++ drop n c) head ∙ append_assoc A (file.gate ∷ []) (drop n c)
            ∙ append_assoc (1 ∷ header version issuer) (framed bodies) (file.gate ∷ drop n c);
      }

  module _ (body : List ℕ) (size : IsBody body) where
    tail : List ℕ
    tail = drop (closing_gate bodies + 1 + length (frame body)) content

    gated_parts : (x : ℕ) (rest : List ℕ) → take (closing_gate bodies) content ++ (x ∷ (frame body ++ rest)) ≡
        (1 ∷ header version issuer) ++ (framed bodies ++ (x ∷ (frame body ++ rest)))
    gated_parts x rest = ap (λ (l : List ℕ). l ++ (x ∷ (frame body ++ rest))) take_front ∙
        append_assoc (1 ∷ header version issuer) (framed bodies) (x ∷ (frame body ++ rest))

    frame_parts : (rest : List ℕ) → frame body ++ rest ≡ length_bytes (length body) ++ (body ++ (0 ∷ rest))
    frame_parts rest = append_assoc (length_bytes (length body) ++ body) (0 ∷ []) rest ∙ append_assoc (length_bytes (length body))
        body (0 ∷ rest)

    -- after an open gate it counts
    pub opened : (rest : List ℕ) → IsFile version issuer (bodies ++ body ∷ []) (take (closing_gate bodies) content ++
        (1 ∷ (frame body ++ rest)))
    opened rest = record {
      gate = 0;
      rest = rest;
      nif = file.nif;
      sizes = AreBodies-push bodies body file.sizes size;
      shut = λ is. omega (arith, is);
      parts = gated_parts 1 rest ∙ ap (λ (l : List ℕ). (1 ∷ header version issuer) ++ (framed bodies ++ (1 ∷ l)))
          (frame_parts rest) ∙ ap (λ (l : List ℕ). (1 ∷ header version issuer) ++ l) (sym (framed-push bodies body (0 ∷ rest)));
    }

    pub closed : (x : ℕ) (rest : List ℕ) → (x ≡ 1 → ⊥) → IsFile version issuer bodies (take (closing_gate bodies) content ++
        (x ∷ (frame body ++ rest)))
    closed x rest shut = record {
      gate = x;
      rest = frame body ++ rest;
      nif = file.nif;
      sizes = file.sizes;
      shut = shut;
      parts = gated_parts x rest;
    }

    pub either : (x : ℕ) (rest : List ℕ) → IsBeforeOrAfter version issuer bodies body (take (closing_gate bodies) content ++
        (x ∷ (frame body ++ rest)))
    either x rest = elim (cases_eq x 1) [
      | inl is ↦ inr (subst (λ (y : ℕ). IsFile version issuer (bodies ++ body ∷ []) (take (closing_gate bodies) content ++
          (y ∷ (frame body ++ rest)))) (sym is) (opened rest))
      | inr shut ↦ inl (closed x rest shut)
    ]

    pub image : (c : List ℕ) → IsCommitImage content (closing_gate bodies) (frame body) c →
        IsBeforeOrAfter version issuer bodies body c
    image c (inl up) = inl (same_front c up.same)
    image c (inr is) = subst (IsBeforeOrAfter version issuer bodies body) (sym is.1)
        (either is.0 (drop (closing_gate bodies + 1 + length (frame body)) content))

pub acknowledged : (t u : OnDisk) (version : Version) (issuer : List ℕ) (bodies : List (List ℕ)) (body bytes : List ℕ)
    (gate : ℕ) → IsBody body → IsAt version issuer bodies gate t → bytes ≡ frame body → IsCommitted t gate bytes u
    → IsAt version issuer (bodies ++ body ∷ []) (gate + (length body + 5)) u ×
    LeavesNow u (IsFile version issuer (bodies ++ body ∷ []))
acknowledged t u version issuer bodies body bytes gate size at same now =
    let content : u.content ≡ gated t.content (closing_gate bodies) 1 (frame body) = now.content ∙
    ap (λ (g : ℕ). gated t.content g 1 bytes) at.place ∙ ap (λ (l : List ℕ). gated t.content (closing_gate bodies) 1 l) same
    in
    let file : IsFile version issuer (bodies ++ body ∷ []) u.content =
    subst (IsFile version issuer (bodies ++ body ∷ [])) (sym content) (opened version issuer bodies t.content at.file body size
    (drop (closing_gate bodies + 1 + length (frame body)) t.content)) in (
      record {
        file = file;
        place = omega (arith, at.place, length-framed-push bodies body);
        nothing_pending = now.nothing_pending;
      },
      leaves_now u (IsFile version issuer (bodies ++ body ∷ [])) now.nothing_pending file,
    )

pub any_moment : (t u : OnDisk) (version : Version) (issuer : List ℕ) (bodies : List (List ℕ)) (body bytes : List ℕ)
    (gate : ℕ) → IsBody body → IsAt version issuer bodies gate t → bytes ≡ frame body →
    LeavesOnly t u (IsCommitImage t.content gate bytes) → LeavesOnly t u (IsBeforeOrAfter version issuer bodies body)
any_moment t u version issuer bodies body bytes gate size at same only = weaker t u (IsCommitImage t.content gate bytes)
    (IsBeforeOrAfter version issuer bodies body) only (λ c is.
    image version issuer bodies t.content at.file body size c
    (subst (λ (l : List ℕ). IsCommitImage t.content (closing_gate bodies) l c) same
    (subst (λ (g : ℕ). IsCommitImage t.content g bytes c) at.place is)))

pub within : (t : OnDisk) (gate : ℕ) → IsAtSome gate t → gate < length t.content
within t gate some = ∥∥₁_elim some (hlevel props)
    (λ at. omega (arith, at.3.place, gate_within at.0 at.1 at.2 t.content at.3.file))

pub ready_after : (t u : OnDisk) (body bytes : List ℕ) (gate : ℕ) → IsBody body → bytes ≡ frame body → IsAtSome gate t →
    (IsSettled t → IsCommitted t gate bytes u) → IsAtSome (gate + (length body + 5)) u
ready_after t u body bytes gate size same ready done = ∥∥₁_elim ready (hlevel) (λ at.
    let now = acknowledged t u at.0 at.1 at.2 body bytes gate size at.3 same (done at.3.nothing_pending) in
    ∣ (at.0, at.1, at.2 ++ body ∷ [], now.0) ∣₁)
