-- An append and a creation lose no history that was made sure of.
use Rattle.std.proofs.Common.{◌≡◌, inl, inr, ℕ, List, [], ◌∷◌, ◌++◌, refl, ap, subst, subst₂, arith}
use Rattle.std.proofs.lemmas.List.{map-append}
use Rattle.chain_disk.specs.OnDisk.{LeavesOnly, OnDisk}
use Rattle.chain_disk.specs.Stays.{run_of, some_left}
use Rattle.journal.specs.File.{FileOn, IsFile, IsNotBegunOrEmpty, NeverLosesFrames}
use Rattle.journal.specs.Laws.{NoChain, OneChain}
use Rattle.record_fields.specs.declared.versions.Version.{Version}
use Rattle.record_codec.specs.Laws.{EncodingsAreApart}
use Rattle.record_codec.specs.Writing.{entry_bytes}
use Rattle.record_codec.specs.declared.entry.Entry.{Entry}
use Rattle.shop_core.specs.File.Files.{AreEncoded, StandsBeforeOrWith, StandsFor, bodies_of}
use Rattle.shop_core.specs.Legal.{Legal}
use Rattle.chain_store.specs.Losing.{NeverLoses, StandsOn}

encoded_front : (version : Version) (issuer : List ℕ) (entries more : List Entry) → AreEncoded version issuer (entries ++ more) →
    AreEncoded version issuer entries
encoded_front version issuer [] more all = tt
encoded_front version issuer (e ∷ entries) more all = (all.0, encoded_front version issuer entries more all.1)

-- where the bodies of a history begin with those of these entries, the history begins with these entries
front_entries : EncodingsAreApart → (version : Version) (issuer : List ℕ) (entries all : List Entry) (rest : List (List ℕ)) →
    AreEncoded version issuer entries → AreEncoded version issuer all →
    bodies_of version all ≡ bodies_of version entries ++ rest → (more : List Entry) × (all ≡ entries ++ more)
front_entries apart version issuer [] all rest are own same = (all, refl)
front_entries apart version issuer (e ∷ entries) [] rest are own same = absurd (cc same)
front_entries apart version issuer (e ∷ entries) (a ∷ all) rest are own same =
    let heads : entry_bytes version a ≡ entry_bytes version e = cc same in
    let tails : bodies_of version all ≡ bodies_of version entries ++ rest = cc same in
    let one = apart version issuer a e [] [] own.0.issuer are.0.issuer own.0.fields are.0.fields
    (ap (λ (l : List ℕ). l ++ []) heads) in
    let more = front_entries apart version issuer entries all rest are.1 own.1 tails in
    (more.0, cc (one.0, more.1))

file_on : (version : Version) (issuer : List ℕ) (entries : List Entry) (bytes c : List ℕ) → StandsOn version issuer entries bytes c →
    FileOn version issuer (bodies_of version entries) bytes c
file_on version issuer entries bytes c on = record {
  more = bodies_of version on.more;
  file_is = subst (λ (bodies : List (List ℕ)). IsFile version issuer bodies c) (map-append (entry_bytes version) entries on.more)
      on.stands.frames;
  front = on.front;
}

-- each such file, where it is a chain's, stands for a history
abbrev pub IsSound : (List ℕ → Type 0) → Type 0
IsSound P = (version : Version) (issuer : List ℕ) (bodies : List (List ℕ)) (c : List ℕ) → P c → IsFile version issuer bodies c →
    (entries : List Entry) × StandsFor version issuer entries c

module _ (apart : EncodingsAreApart) (one : OneChain) where
  stands_on : (version : Version) (issuer : List ℕ) (entries all : List Entry) (bytes c : List ℕ) →
      AreEncoded version issuer entries → FileOn version issuer (bodies_of version entries) bytes c →
      StandsFor version issuer all c → StandsOn version issuer entries bytes c
  stands_on version issuer entries all bytes c are on stands =
      let same = one version version issuer issuer (bodies_of version all) (bodies_of version entries ++ on.more) c stands.frames
      on.file_is in
      let more = front_entries apart version issuer entries all on.more are stands.encoded same.2 in
      record {
        more = more.0;
        stands = subst (λ (es : List Entry). StandsFor version issuer es c) more.1 stands;
        front = on.front;
      }

  -- a run that loses no frames, and leaves sound files alone, loses no history
  loses_none : (t u : OnDisk) (P : List ℕ → Type 0) → LeavesOnly t u P → IsSound P → NeverLosesFrames t u → NeverLoses t u
  loses_none t u P only sound frames = record {
    run = run_of only;
    stays = λ version issuer entries bytes m next since on within leaves.
        let at = some_left u m (omega (arith, on, within)) in
        let first = leaves at.0 at.1 in
        let are = encoded_front version issuer entries first.more first.stands.encoded in
        λ c left.
        let kept = frames version issuer (bodies_of version entries) bytes m next since on within
        (λ d was. file_on version issuer entries bytes d (leaves d was)) c left in
        let stands = sound version issuer (bodies_of version entries ++ kept.more) c
        (only.each next c (omega (arith, since, on)) left) kept.file_is in
        stands_on version issuer entries stands.0 bytes c are kept stands.1;
  }

  -- what a file stands for is of its version and issuer
  own : (version another : Version) (issuer other : List ℕ) (bodies : List (List ℕ)) (entries : List Entry) (c : List ℕ) →
      IsFile version issuer bodies c → StandsFor another other entries c →
      (es : List Entry) × StandsFor version issuer es c
  own version another issuer other bodies entries c is stands =
      let same = one another version other issuer (bodies_of another entries) bodies c stands.frames is in
      (entries, subst₂ (λ (v : Version) (i : List ℕ). StandsFor v i entries c) same.0 same.1 stands)

  before_or_with : (another : Version) (other : List ℕ) (entries : List Entry) (entry : Entry) →
      IsSound (StandsBeforeOrWith another other entries entry)
  before_or_with another other entries entry version issuer bodies c (inl before) is =
      own version another issuer other bodies entries c is before
  before_or_with another other entries entry version issuer bodies c (inr after) is =
      own version another issuer other bodies (entries ++ entry ∷ []) c is after

  pub append_loses_none : (version : Version) (issuer : List ℕ) (entries : List Entry) (entry : Entry) (t u : OnDisk) →
      LeavesOnly t u (StandsBeforeOrWith version issuer entries entry) → NeverLosesFrames t u → NeverLoses t u
  append_loses_none version issuer entries entry t u only frames = loses_none t u (StandsBeforeOrWith version issuer entries entry)
      only (before_or_with version issuer entries entry) frames

  not_begun_or_empty : NoChain → (another : Version) (other : List ℕ) → Legal another other [] →
      IsSound (IsNotBegunOrEmpty another other)
  not_begun_or_empty none another other legal version issuer bodies c (inl not) is = absurd (none version issuer bodies c not is)
  not_begun_or_empty none another other legal version issuer bodies c (inr empty) is =
      own version another issuer other bodies [] c is (record { frames = empty; encoded = tt; legal = legal })

  pub creation_loses_none : NoChain → (version : Version) (issuer : List ℕ) → Legal version issuer [] → (t u : OnDisk) →
      LeavesOnly t u (IsNotBegunOrEmpty version issuer) → NeverLosesFrames t u → NeverLoses t u
  creation_loses_none none version issuer legal t u only frames = loses_none t u (IsNotBegunOrEmpty version issuer) only
      (not_begun_or_empty none version issuer legal) frames
