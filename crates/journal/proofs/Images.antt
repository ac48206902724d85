-- What a crash leaves of a file between two syncs.
use Rattle.std.proofs.Common.{◌≡◌, ◌<◌, ◌+◌, inl, inr, ℕ, List, [], ◌∷◌, ◌++◌, length, get_or, take, drop, refl, sym, ◌∙◌, ap, subst}
use Rattle.std.proofs.Common.{arith, append_assoc, length-append, length-drop, take-append-drop}
use Rattle.std.proofs.lemmas.List.{length-take-le, drop_more, take_more, take_at, drop_at}
use Rattle.chain_disk.specs.OnDisk.{IsImage, pasted, settled, wider}
use Rattle.chain_disk.specs.Runs.{settled_image, range_image}
use Rattle.journal.specs.Commit.{IsCommitImage, IsUpToGate, gated}

-- the first write, after the gate
pub behind_image : (content c bytes : List ℕ) (gate : ℕ) → gate < length content →
    IsImage (wider (gate + 1) (length bytes) (settled content)) c → IsCommitImage content gate bytes c
behind_image content c bytes gate within image =
    let around = range_image content c (gate + 1) (length bytes) (omega (arith, within)) image in
    inl (record { same = around.before; no_longer = around.no_longer })

pub start_image : (content c bytes : List ℕ) (gate : ℕ) → IsImage (settled content) c → IsCommitImage content gate bytes c
start_image content c bytes gate image =
    let same = settled_image content c image in
    inl (record { same = ap (λ (l : List ℕ). take (gate + 1) l) same; no_longer = omega (arith, ap length same) })

-- what is as it was, and what has the bytes after the gate, is as it was up to the gate
pub up_start : (content bytes : List ℕ) (gate : ℕ) → IsUpToGate content gate bytes content
up_start content bytes gate = record { same = refl; no_longer = omega arith }

pub up_staged : (content bytes : List ℕ) (gate : ℕ) → gate < length content →
    IsUpToGate content gate bytes (pasted (gate + 1) bytes content)
up_staged content bytes gate within =
    let front : List ℕ = take (gate + 1) content in
    let rest : List ℕ = drop (gate + 1 + length bytes) content in
    let long : length front ≡ gate + 1 = length-take-le (gate + 1) content (omega (arith, within)) in
    record {
      same = ap (λ (l : List ℕ). take (gate + 1) l) (append_assoc front bytes rest) ∙ take_at front (bytes ++ rest) (gate + 1) long;
      no_longer = omega (
        arith,
        long,
        within,
        length-append (front ++ bytes) rest,
        length-append front bytes,
        length-drop (gate + 1 + length bytes) content,
      );
    }

-- the gate as it was, and the bytes after it
pub staged_is : (content bytes : List ℕ) (gate : ℕ) → gate < length content → pasted (gate + 1) bytes content ≡ gated content gate
    (get_or content gate 0) bytes
staged_is content bytes gate within =
    let rest = drop (gate + 1 + length bytes) content in
    ap (λ (l : List ℕ). l ++ bytes ++ rest) (take_more content gate 0 within)
    ∙ append_assoc (take gate content ++ get_or content gate 0 ∷ []) bytes rest
    ∙ append_assoc (take gate content) (get_or content gate 0 ∷ []) (bytes ++ rest)

module _ (content bytes : List ℕ) (gate : ℕ) (within : gate < length content) where
  front : length (take gate content) ≡ gate
  front = length-take-le gate content (omega (arith, within))

  take_gated : (x : ℕ) → take gate (gated content gate x bytes) ≡ take gate content
  take_gated x = take_at (take gate content) (x ∷ (bytes ++ drop (gate + 1 + length bytes) content)) gate front

  drop_gated : (x : ℕ) → drop (gate + 1) (gated content gate x bytes) ≡ bytes ++ drop (gate + 1 + length bytes) content
  drop_gated x =
      let rest = bytes ++ drop (gate + 1 + length bytes) content in
      ap (λ (l : List ℕ). drop (gate + 1) l) (sym (append_assoc (take gate content) (x ∷ []) rest)) ∙
      drop_at (take gate content ++ x ∷ []) rest (gate + 1) (omega (arith, front, length-append (take gate content) (x ∷ [])))

  pub length-gated : (x : ℕ) → gate < length (gated content gate x bytes)
  length-gated x = omega (arith, front, length-append (take gate content) (x ∷ (bytes ++ drop (gate + 1 + length bytes) content)))

  -- the second write, of the gate
  pub gate_image : (c : List ℕ) → IsImage (wider gate 1 (settled (pasted (gate + 1) bytes content))) c →
      IsCommitImage content gate bytes c
  gate_image c image =
      let x = get_or content gate 0 in
      let is = staged_is content bytes gate within in
      let image' : IsImage (wider gate 1 (settled (gated content gate x bytes))) c =
      subst (λ (l : List ℕ). IsImage (wider gate 1 (settled l)) c) is image in
      let around = range_image (gated content gate x bytes) c gate 1 (omega (arith, length-gated x)) image' in
      let long : gate < length c = omega (arith, length-gated x, around.no_shorter) in
      inr (
        get_or c gate 0,
        sym (take-append-drop gate c)
            ∙ ap (λ (l : List ℕ). take gate c ++ l) (drop_more c gate 0 long ∙ ap (λ (l : List ℕ). get_or c gate 0 ∷ l)
            (around.behind ∙ drop_gated x))
            ∙ ap (λ (l : List ℕ). l ++ (get_or c gate 0 ∷ (bytes ++ drop (gate + 1 + length bytes) content))) (around.before ∙
            take_gated x),
      )

  -- between the two writes
  pub staged_image : (c : List ℕ) → IsImage (settled (pasted (gate + 1) bytes content)) c → IsCommitImage content gate bytes c
  staged_image c image = inr (get_or content gate 0, settled_image _ c image ∙ staged_is content bytes gate within)

  pub opened_is : pasted gate (1 ∷ []) (pasted (gate + 1) bytes content) ≡ gated content gate 1 bytes
  opened_is =
      let x = get_or content gate 0 in
      ap (λ (l : List ℕ). pasted gate (1 ∷ []) l) (staged_is content bytes gate within)
      ∙ ap (λ (l : List ℕ). l ++ (1 ∷ []) ++ drop (gate + 1) (gated content gate x bytes)) (take_gated x)
      ∙ ap (λ (l : List ℕ). take gate content ++ (1 ∷ []) ++ l) (drop_gated x)
      ∙ append_assoc (take gate content) (1 ∷ []) (bytes ++ drop (gate + 1 + length bytes) content)

  pub opened_image : (c : List ℕ) → IsImage (settled (pasted gate (1 ∷ []) (pasted (gate + 1) bytes content))) c →
      IsCommitImage content gate bytes c
  opened_image c image = inr (1, settled_image _ c image ∙ opened_is)
