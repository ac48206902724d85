-- The first bytes of a file that is written anew: the header after a closed byte 0, and that byte opened last.
use Rattle.std.proofs.Common.{◌≡◌, ◌<◌, ◌≤◌, ◌+◌, inl, inr, ℕ, List, [], ◌∷◌, ◌++◌, length, take, drop, refl, sym, ◌∙◌, ap, subst}
use Rattle.std.proofs.Common.{arith, append_assoc, length-append, take-append-drop}
use Rattle.std.proofs.lemmas.Bool.{cases_eq}
use Rattle.std.proofs.lemmas.List.{append-nil, drop_all, take_at}
use Rattle.chain_disk.specs.OnDisk.{OnDisk, IsImage, IsSyncFailed, IsWriteFailed, LeavesOnly, MayLeave, pasted, written, wider}
use Rattle.chain_disk.specs.OnDisk.{settled, synced}
use Rattle.chain_disk.specs.Stays.{seen_none, seen_sync, seen_sync_failed, seen_write, seen_write_failed, synced_image}
use Rattle.chain_disk.specs.Runs.{Reached, started, on_write, on_sync, settled_image, range_image}
use Rattle.parties.specs.Nif.{IsNif}
use Rattle.journal.specs.Commit.{IsShut}
use Rattle.record_fields.specs.declared.versions.Version.{Version}
use Rattle.journal.specs.File.{header, framed, AreBodies, IsAt, IsFile, IsNotBegun, NeverLosesFrames}
use Rattle.journal.specs.Whole.{BeginPast, IsHeldShut, IsShutOrWhole, IsWriting}
use Rattle.journal.proofs.Losing.{none_to_lose, shut_no_chain}
use Rattle.journal.proofs.Creations.{up_to}
use Rattle.journal.proofs.Shut.{shut_front, writing_now, length-header}

module _ (version : Version) (issuer bytes : List ℕ) (nif : IsNif issuer) (same : bytes ≡ header version issuer ++ 0 ∷ []) (t : OnDisk)
    (shut : IsShut t) where
  long : length bytes ≡ 19
  long = omega (arith, ap length same, length-append (header version issuer) (0 ∷ []), nif.nine)

  short : length t.content ≤ 20
  short = omega (arith, ap length shut.content, shut.short)

  with_header : pasted 1 bytes t.content ≡ shut.gate ∷ (header version issuer ++ 0 ∷ [])
  with_header =
      ap (λ (l : List ℕ). (take 1 t.content ++ bytes) ++ l) (drop_all (1 + length bytes) t.content (omega (arith, short, long)))
      ∙ append-nil (take 1 t.content ++ bytes)
      ∙ ap (λ (l : List ℕ). take 1 l ++ bytes) shut.content
      ∙ ap (λ (l : List ℕ). shut.gate ∷ l) same

  start_image : (c : List ℕ) → IsImage t.now c → IsNotBegun c
  start_image c image =
      let is = settled_image t.content c (subst (λ p. IsImage p c) shut.nothing_pending image) in
      up_to t.content c shut.gate shut.rest shut.content shut.shut (ap (λ (l : List ℕ). take 1 l) is)
      (omega (arith, ap length is, short))

  pub header_start : Reached t IsNotBegun t t.content (settled t.content)
  header_start = record {
    content_is = refl;
    now_is = shut.nothing_pending;
    so_far = started t IsNotBegun start_image;
  }

  pub header_image : (c : List ℕ) → IsImage (wider 1 (length bytes) (settled t.content)) c → IsNotBegun c
  header_image c image =
      let around = range_image t.content c 1 (length bytes) (omega (arith, ap length shut.content)) image in
      up_to t.content c shut.gate shut.rest shut.content shut.shut around.before
      (omega (arith, around.no_longer, short, long))

  pub header_written : (u : OnDisk) → u ≡ written 1 bytes t → Reached t IsNotBegun u (pasted 1 bytes t.content)
      (wider 1 (length bytes) (settled t.content))
  header_written u ok = on_write header_start 1 bytes ok header_image

  header_sure_image : (c : List ℕ) → IsImage (settled (pasted 1 bytes t.content)) c → IsNotBegun c
  header_sure_image c image = subst IsNotBegun (sym (settled_image _ c image ∙ with_header))
      (inr (shut.shut, omega (arith, length-append (header version issuer) (0 ∷ []), nif.nine)))

  pub header_synced : (u v : OnDisk) → u ≡ written 1 bytes t → v ≡ synced u → Reached t IsNotBegun v (pasted 1 bytes t.content)
      (settled (pasted 1 bytes t.content))
  header_synced u v ok ok1 = on_sync (header_written u ok) ok1 header_sure_image

  front_is : take 19 (shut.gate ∷ (header version issuer ++ 0 ∷ [])) ≡ shut.gate ∷ header version issuer
  front_is = take_at (shut.gate ∷ header version issuer) (0 ∷ []) 19 (omega (arith, length-header version issuer nif))

  pub header_sure : (v : OnDisk) → Reached t IsNotBegun v (pasted 1 bytes t.content) (settled (pasted 1 bytes t.content)) →
      IsWriting version issuer [] 19 v
  header_sure v r = record {
    first = shut.gate;
    shut = shut.shut;
    nif = nif;
    place = refl;
    sure = ap (λ p. take 19 p.synced) r.now_is ∙ ap (λ (l : List ℕ). take 19 l) with_header ∙ front_is;
    past = subst (λ p. BeginPast 19 p.ranges) (sym r.now_is) tt;
    front = ap (λ (l : List ℕ). take 19 l) (r.content_is ∙ with_header) ∙ front_is
        ∙ sym (append-nil (shut.gate ∷ header version issuer));
  }

-- the first byte, opened last
module _ (version : Version) (issuer : List ℕ) (bodies : List (List ℕ)) (at : ℕ) (sizes : AreBodies bodies) (t : OnDisk)
    (is : IsWriting version issuer (framed bodies ++ 0 ∷ []) at t) where
  any_first : (y : ℕ) → IsShutOrWhole version issuer bodies (y ∷ (header version issuer ++ (framed bodies ++ (0 ∷ drop at t.content))))
  any_first y = elim (cases_eq y 1) [
    | inl one ↦ inr (record {
      gate = 0;
      rest = drop at t.content;
      nif = is.nif;
      sizes = sizes;
      shut = λ no. omega (arith, no);
      parts = ap (λ (x : ℕ). x ∷ (header version issuer ++ (framed bodies ++ (0 ∷ drop at t.content)))) one;
    })
    | inr other ↦ inl (shut_front version issuer (y ∷ (header version issuer ++ (framed bodies ++ (0 ∷ drop at t.content)))) y other
        (take_at (y ∷ header version issuer) (framed bodies ++ (0 ∷ drop at t.content)) 19
        (omega (arith, length-header version issuer is.nif))))
  ]

  whole_parts : t.content ≡ is.first ∷ (header version issuer ++ (framed bodies ++ (0 ∷ drop at t.content)))
  whole_parts = sym (take-append-drop at t.content)
      ∙ ap (λ (l : List ℕ). l ++ drop at t.content) is.front
      ∙ append_assoc (is.first ∷ header version issuer) (framed bodies ++ 0 ∷ []) (drop at t.content)
      ∙ ap (λ (l : List ℕ). (is.first ∷ header version issuer) ++ l) (append_assoc (framed bodies) (0 ∷ []) (drop at t.content))

  pub opening_pending : (c : List ℕ) → IsImage t.now c → IsShutOrWhole version issuer bodies c
  opening_pending c image = inl (writing_now version issuer (framed bodies ++ 0 ∷ []) at t is c image)

  pub opening_start : Reached t (IsShutOrWhole version issuer bodies) t t.content t.now
  opening_start = record {
    content_is = refl;
    now_is = refl;
    so_far = started t (IsShutOrWhole version issuer bodies) opening_pending;
  }

  pub opening_synced : (u : OnDisk) → u ≡ synced t → Reached t (IsShutOrWhole version issuer bodies) u t.content (settled t.content)
  opening_synced u ok = on_sync opening_start ok (λ c image. subst (IsShutOrWhole version issuer bodies)
      (sym (settled_image t.content c image ∙ whole_parts)) (any_first is.first))

  behind_first : (c : List ℕ) → 0 < length c → drop 1 c ≡ drop 1 t.content → IsShutOrWhole version issuer bodies c
  behind_first [] some same = absurd (omega (arith, some))
  behind_first (y ∷ c) some same =
      let tail_is : c ≡ header version issuer ++ (framed bodies ++ (0 ∷ drop at t.content)) = same ∙
      ap (λ (l : List ℕ). drop 1 l) whole_parts in
      subst (λ (l : List ℕ). IsShutOrWhole version issuer bodies (y ∷ l)) (sym tail_is) (any_first y)

  pub opening_image : (c : List ℕ) → IsImage (wider 0 1 (settled t.content)) c → IsShutOrWhole version issuer bodies c
  opening_image c image =
      let around = range_image t.content c 0 1 (omega arith) image in
      behind_first c (omega (arith, around.no_shorter, ap length whole_parts)) around.behind

  pub opening_written : (u v : OnDisk) → u ≡ synced t → v ≡ written 0 (1 ∷ []) u →
      Reached t (IsShutOrWhole version issuer bodies) v (pasted 0 (1 ∷ []) t.content) (wider 0 1 (settled t.content))
  opening_written u v ok ok1 = on_write (opening_synced u ok) 0 (1 ∷ []) ok1 opening_image

  opened_is : pasted 0 (1 ∷ []) t.content ≡ 1 ∷ (header version issuer ++ (framed bodies ++ (0 ∷ drop at t.content)))
  opened_is = ap (λ (l : List ℕ). 1 ∷ drop 1 l) whole_parts

  opened_file : IsFile version issuer bodies (pasted 0 (1 ∷ []) t.content)
  opened_file = record {
    gate = 0;
    rest = drop at t.content;
    nif = is.nif;
    sizes = sizes;
    shut = λ no. omega (arith, no);
    parts = opened_is;
  }

  pub opening_done : (u v w : OnDisk) → u ≡ synced t → v ≡ written 0 (1 ∷ []) u → w ≡ synced v →
      Reached t (IsShutOrWhole version issuer bodies) w (pasted 0 (1 ∷ []) t.content) (settled (pasted 0 (1 ∷ []) t.content))
  opening_done u v w ok ok1 ok2 = on_sync (opening_written u v ok ok1) ok2 (λ c image. inr (subst (IsFile version issuer bodies)
      (sym (settled_image _ c image)) opened_file))

  pub opening_whole : (w : OnDisk) → Reached t (IsShutOrWhole version issuer bodies) w (pasted 0 (1 ∷ []) t.content)
      (settled (pasted 0 (1 ∷ []) t.content)) → IsAt version issuer bodies (19 + length (framed bodies)) w
  opening_whole w r = record {
    file = subst (IsFile version issuer bodies) (sym r.content_is) opened_file;
    place = refl;
    nothing_pending = r.now_is ∙ ap (λ (l : List ℕ). settled l) (sym r.content_is);
  }

  -- before each call but the last a crash may leave a file that is held shut
  abbrev Shut : List ℕ → Type 0
  Shut = IsHeldShut version issuer

  shut_sure : Shut t.now.synced
  shut_sure = writing_now version issuer (framed bodies ++ 0 ∷ []) at t is t.now.synced (synced_image t.now)

  shut_read : Shut t.content
  shut_read = shut_front version issuer t.content is.first is.shut (ap (λ (l : List ℕ). take 19 l) whole_parts
      ∙ take_at (is.first ∷ header version issuer) (framed bodies ++ (0 ∷ drop at t.content)) 19
      (omega (arith, length-header version issuer is.nif)))

  seen_synced : (u : OnDisk) → u ≡ synced t → MayLeave t u Shut
  seen_synced u ok = seen_sync t t u Shut (seen_none t Shut) shut_sure ok

  sure_synced : (u : OnDisk) → u ≡ synced t → Shut u.now.synced
  sure_synced u ok = subst Shut (sym (ap (λ (d : OnDisk). d.now.synced) ok)) shut_read

  seen_opened : (u v : OnDisk) → u ≡ synced t → v ≡ written 0 (1 ∷ []) u → MayLeave t v Shut
  seen_opened u v ok ok1 = seen_write t u v Shut 0 (1 ∷ []) (seen_synced u ok) (sure_synced u ok) ok1

  sure_opened : (u v : OnDisk) → u ≡ synced t → v ≡ written 0 (1 ∷ []) u → Shut v.now.synced
  sure_opened u v ok ok1 = subst Shut (sym (ap (λ (d : OnDisk). d.now.synced) ok1)) (sure_synced u ok)

  loses_none : (x : OnDisk) → LeavesOnly t x (IsShutOrWhole version issuer bodies) → MayLeave t x Shut → NeverLosesFrames t x
  loses_none x only seen = none_to_lose t x (IsShutOrWhole version issuer bodies) Shut only seen (shut_no_chain version issuer)

  pub opening_not_synced : (u : OnDisk) → IsSyncFailed t u → LeavesOnly t u (IsShutOrWhole version issuer bodies) → NeverLosesFrames t u
  opening_not_synced u err only = loses_none u only (seen_sync_failed t t u Shut (seen_none t Shut) shut_sure err)

  pub opening_not_written : (u v : OnDisk) → u ≡ synced t → IsWriteFailed 0 1 u v →
      LeavesOnly t v (IsShutOrWhole version issuer bodies) → NeverLosesFrames t v
  opening_not_written u v ok err only =
      loses_none v only (seen_write_failed t u v Shut 0 1 (seen_synced u ok) (sure_synced u ok) err)

  pub opening_not_sure : (u v w : OnDisk) → u ≡ synced t → v ≡ written 0 (1 ∷ []) u → IsSyncFailed v w →
      LeavesOnly t w (IsShutOrWhole version issuer bodies) → NeverLosesFrames t w
  opening_not_sure u v w ok ok1 err only =
      loses_none w only (seen_sync_failed t v w Shut (seen_opened u v ok ok1) (sure_opened u v ok ok1) err)

  pub opening_loses_none : (u v w : OnDisk) → u ≡ synced t → v ≡ written 0 (1 ∷ []) u → w ≡ synced v →
      LeavesOnly t w (IsShutOrWhole version issuer bodies) → NeverLosesFrames t w
  opening_loses_none u v w ok ok1 ok2 only =
      loses_none w only (seen_sync t v w Shut (seen_opened u v ok ok1) (sure_opened u v ok ok1) ok2)
