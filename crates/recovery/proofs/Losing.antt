-- A migration loses no history that was made sure of.
use Rattle.std.proofs.Common.{◌≡◌, ◌∙◌, inl, inr, ℕ, List, ◌++◌, take, arith, sym, subst, subst₂}
use Rattle.std.proofs.lemmas.List.{map-append}
use Rattle.chain_disk.specs.OnDisk.{IsImage, LeavesOnly, OnDisk, synced}
use Rattle.chain_disk.specs.Stays.{run_of, seen_of, some_left, still_by}
use Rattle.chain_store.specs.Losing.{NeverLoses, StandsOn, none_lost_in_both, sync_loses_none}
use Rattle.journal.specs.File.{FileOn, IsFile, NeverLosesFrames, closing_gate}
use Rattle.journal.proofs.Losing.{shut_no_chain}
use Rattle.record_fields.specs.declared.versions.Version.{Version}
use Rattle.record_fields.specs.declared.versions.Version.TheVariants.{One, Two}
use Rattle.record_codec.specs.Writing.{entry_bytes}
use Rattle.record_codec.specs.declared.entry.Entry.{Entry}
use Rattle.shop_core.specs.File.Files.{StandsFor, bodies_of}
use Rattle.shop_core.specs.File.Laws.{OneHistory}
use Rattle.shop_core.specs.Newer.{LegalInTwo}
use Rattle.recovery.specs.Moving.{IsHeldShut, IsSameOrShut, IsShutOrWhole}
use Rattle.recovery.proofs.Moves.{whole_file}

-- a file that is held shut stands for nothing
none_of_shut : (issuer : List ℕ) (version : Version) (nif : List ℕ) (entries : List Entry) (bytes c : List ℕ) →
    IsHeldShut issuer c → StandsOn version nif entries bytes c → ⊥
none_of_shut issuer version nif entries bytes c held on =
    shut_no_chain Two issuer version nif (bodies_of version (entries ++ on.more)) c held on.stands.frames

-- what the content from before stands for, it goes on to stand for
same_stands : (issuer content : List ℕ) (version : Version) (nif : List ℕ) (entries : List Entry) (bytes c d : List ℕ) →
    StandsOn version nif entries bytes c → IsSameOrShut issuer content c → IsSameOrShut issuer content d →
    StandsOn version nif entries bytes d
same_stands issuer content version nif entries bytes c d on (inl is) (inl same) =
    subst (λ (l : List ℕ). StandsOn version nif entries bytes l) (is ∙ sym same) on
same_stands issuer content version nif entries bytes c d on (inl is) (inr shut) = absurd (none_of_shut issuer version nif entries
    bytes content shut.0 (subst (λ (l : List ℕ). StandsOn version nif entries bytes l) is on))
same_stands issuer content version nif entries bytes c d on (inr shut) other =
    absurd (none_of_shut issuer version nif entries bytes c shut.1 on)

-- nothing is lost while a file is held shut that was so, after the sync at the start
pub prepared_loses_none : (t u v : OnDisk) (issuer : List ℕ) → u ≡ synced t → IsImage t.now t.content →
    LeavesOnly u v (IsSameOrShut issuer u.content) → NeverLoses t v
prepared_loses_none t u v issuer ok reads only = none_lost_in_both t u v (sync_loses_none t u ok reads) (record {
  run = run_of only;
  stays = λ version nif entries bytes. still_by u v (StandsOn version nif entries bytes) (IsSameOrShut issuer u.content)
      (IsSameOrShut issuer u.content) only (seen_of u v (IsSameOrShut issuer u.content) only)
      (λ c d was on is. same_stands issuer u.content version nif entries bytes c d on was is);
})

file_on : (version : Version) (nif : List ℕ) (entries : List Entry) (bytes c : List ℕ) → StandsOn version nif entries bytes c →
    FileOn version nif (bodies_of version entries) bytes c
file_on version nif entries bytes c on = record {
  more = bodies_of version on.more;
  file_is = subst (λ (bodies : List (List ℕ)). IsFile version nif bodies c) (map-append (entry_bytes version) entries on.more)
      on.stands.frames;
  front = on.front;
}

-- a history that is written into a file of version Two, from that of an old one
module _ (one : OneHistory) (newer : LegalInTwo) (issuer : List ℕ) (entries : List Entry) (old : List ℕ)
    (stands : StandsFor One issuer entries old) where
  -- two whole files stand for the same
  whole_stands : (version : Version) (nif : List ℕ) (front : List Entry) (bytes c d : List ℕ) →
      StandsOn version nif front bytes c → StandsFor Two issuer entries c → StandsFor Two issuer entries d →
      take (closing_gate (bodies_of version front)) d ≡ bytes → StandsOn version nif front bytes d
  whole_stands version nif front bytes c d on is also same_front =
      let same = one Two version issuer nif entries (front ++ on.more) c is on.stands in
      record {
        more = on.more;
        stands = subst₂ (λ (v : Version) (n : List ℕ). StandsFor v n (front ++ on.more) d) same.0 same.1
            (subst (λ (es : List Entry). StandsFor Two issuer es d) same.2 also);
        front = same_front;
      }

  goes_on : (version : Version) (nif : List ℕ) (front : List Entry) (bytes c d : List ℕ) → StandsOn version nif front bytes c →
      FileOn version nif (bodies_of version front) bytes d → IsShutOrWhole issuer (bodies_of Two entries) c →
      IsShutOrWhole issuer (bodies_of Two entries) d → StandsOn version nif front bytes d
  goes_on version nif front bytes c d on kept (inl shut) other = absurd (none_of_shut issuer version nif front bytes c shut on)
  goes_on version nif front bytes c d on kept (inr is) (inl shut) =
      absurd (shut_no_chain Two issuer version nif (bodies_of version front ++ kept.more) d shut kept.file_is)
  goes_on version nif front bytes c d on kept (inr is) (inr also) = whole_stands version nif front bytes c d on
      (whole_file issuer entries old c newer stands is) (whole_file issuer entries old d newer stands also) kept.front

  -- nothing is lost while it is written and opened
  pub rewritten_loses_none : (t u v : OnDisk) → NeverLoses t u → LeavesOnly u v (IsShutOrWhole issuer (bodies_of Two entries)) →
      NeverLosesFrames u v → NeverLoses t v
  rewritten_loses_none t u v before only frames = none_lost_in_both t u v before (record {
    run = run_of only;
    stays = λ version nif front bytes m next since on within leaves.
        let at = some_left v m (omega (arith, on, within)) in
        λ c left.
        goes_on version nif front bytes at.0 c (leaves at.0 at.1)
        (frames version nif (bodies_of version front) bytes m next since on within
        (λ d was. file_on version nif front bytes d (leaves d was)) c left)
        (only.each m at.0 since at.1) (only.each next c (omega (arith, since, on)) left);
  })
