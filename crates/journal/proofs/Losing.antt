-- What was made sure of stays: a file's bodies and the bytes before their closing gate.
use Rattle.std.specs.Prelude.{slice_index}
use Rattle.std.proofs.Common.{◌≡◌, ◌+◌, inl, inr, ℕ, List, [], ◌∷◌, ◌++◌, length, take, sym, ◌∙◌, ap, subst, subst₂, arith, append_assoc, length-append}
use Rattle.chain_disk.specs.OnDisk.{IsRun, LeavesOnly, MayLeave, OnDisk}
use Rattle.chain_disk.specs.Stays.{none_still, runs_still, seen_of, seen_weaker, still_by}
use Rattle.frames.specs.Frames.{IsBody, frame}
use Rattle.record_fields.specs.declared.versions.Version.{Version}
use Rattle.journal.specs.Commit.{IsCommitImage, IsUpToGate}
use Rattle.journal.specs.File.{FileOn, IsAt, IsBeforeOrAfter, IsFile, IsNotBegun, NeverLosesFrames, framed, header}
use Rattle.journal.specs.Whole.{IsHeldShut}
use Rattle.journal.proofs.Files.{any_moment, same_front}
use Rattle.journal.proofs.Fronts.{front_is, header_long}
use Rattle.journal.proofs.Unique.{one_chain}

-- a file of more bodies than these, with the same bytes before their gate
more_on : (version : Version) (issuer : List ℕ) (bodies more : List (List ℕ)) (bytes c d : List ℕ) →
    FileOn version issuer bodies bytes c → IsFile version issuer (bodies ++ more) d → FileOn version issuer bodies bytes d
more_on version issuer bodies more bytes c d on is = record {
  more = more;
  file_is = is;
  front = front_is version issuer bodies more d is ∙ sym (front_is version issuer bodies on.more c on.file_is) ∙ on.front;
}

-- of a file of these bodies, what begins with some of them: so does a file of these, and one with a body more
pub goes_on : (version another : Version) (issuer other : List ℕ) (bodies front : List (List ℕ)) (body bytes c d : List ℕ) →
    IsFile version issuer bodies c → FileOn another other front bytes c → IsBeforeOrAfter version issuer bodies body d →
    FileOn another other front bytes d
goes_on version another issuer other bodies front body bytes c d is on (inl before) =
    let same = one_chain version another issuer other bodies (front ++ on.more) c is on.file_is in
    more_on another other front on.more bytes c d on (subst (λ (l : List (List ℕ)). IsFile another other l d) same.2
    (subst₂ (λ (v : Version) (i : List ℕ). IsFile v i bodies d) same.0 same.1 before))
goes_on version another issuer other bodies front body bytes c d is on (inr after) =
    let same = one_chain version another issuer other bodies (front ++ on.more) c is on.file_is in
    let all : bodies ++ body ∷ [] ≡ front ++ (on.more ++ body ∷ []) = ap (λ (l : List (List ℕ)). l ++ body ∷ []) same.2 ∙
    append_assoc front on.more (body ∷ []) in
    more_on another other front (on.more ++ body ∷ []) bytes c d on (subst (λ (l : List (List ℕ)). IsFile another other l d) all
    (subst₂ (λ (v : Version) (i : List ℕ). IsFile v i (bodies ++ body ∷ []) d) same.0 same.1 after))

pub append_never_loses : (t u : OnDisk) (version : Version) (issuer : List ℕ) (bodies : List (List ℕ)) (body bytes : List ℕ)
    (gate : ℕ) → IsBody body → IsAt version issuer bodies gate t → bytes ≡ frame body →
    LeavesOnly t u (IsCommitImage t.content gate bytes) → MayLeave t u (IsUpToGate t.content gate bytes) → NeverLosesFrames t u
append_never_loses t u version issuer bodies body bytes gate size at same only seen another other front front_bytes =
    still_by t u (FileOn another other front front_bytes) (IsBeforeOrAfter version issuer bodies body) (IsFile version issuer bodies)
    (any_moment t u version issuer bodies body bytes gate size at same only)
    (seen_weaker t u (IsUpToGate t.content gate bytes) (IsFile version issuer bodies) seen (λ c up.
    same_front version issuer bodies t.content at.file c
    (subst (λ (n : ℕ). take (n + 1) c ≡ take (n + 1) t.content) at.place up.same)))
    (λ c d. goes_on version another issuer other bodies front body front_bytes c d)

-- a file that isn't begun is none
pub not_begun_no_chain : (version : Version) (issuer : List ℕ) (bodies : List (List ℕ)) (c : List ℕ) → IsNotBegun c →
    IsFile version issuer bodies c → ⊥
not_begun_no_chain version issuer bodies [] not is = cc (is.parts)
not_begun_no_chain version issuer bodies (x ∷ rest) (inl short) is = omega (
  arith,
  short,
  ap length is.parts,
  length-append (1 ∷ header version issuer) (framed bodies ++ (is.gate ∷ is.rest)),
  header_long version issuer is.nif,
)
not_begun_no_chain version issuer bodies (x ∷ rest) (inr shut) is = let parts = is.parts in let first : x ≡ 1 = cc parts in shut.0 first

-- while a crash may leave a file that stands for no chain, nothing was made sure of
pub none_to_lose : (t u : OnDisk) (P W : List ℕ → Type 0) → LeavesOnly t u P → MayLeave t u W →
    ((version : Version) (issuer : List ℕ) (bodies : List (List ℕ)) (c : List ℕ) → W c → IsFile version issuer bodies c → ⊥) →
    NeverLosesFrames t u
none_to_lose t u P W only seen none version issuer bodies bytes =
    still_by t u (FileOn version issuer bodies bytes) P W only seen
    (λ c d has on. absurd (none version issuer (bodies ++ on.more) c has on.file_is))

pub no_chain_to_lose : (t u : OnDisk) (P : List ℕ → Type 0) → LeavesOnly t u P →
    ((version : Version) (issuer : List ℕ) (bodies : List (List ℕ)) (c : List ℕ) → P c → IsFile version issuer bodies c → ⊥) →
    NeverLosesFrames t u
no_chain_to_lose t u P only none = none_to_lose t u P P only (seen_of t u P only) none

-- two runs that lose nothing are one
pub frames_follow : (t u v : OnDisk) → IsRun t u → IsRun u v → NeverLosesFrames t u → NeverLosesFrames u v → NeverLosesFrames t v
frames_follow t u v first second in_first in_second version issuer bodies bytes =
    runs_still t u v (FileOn version issuer bodies bytes) first second (in_first version issuer bodies bytes)
    (in_second version issuer bodies bytes)

-- a file that is held shut is none
pub shut_no_chain : (own : Version) (nif : List ℕ) (version : Version) (issuer : List ℕ) (bodies : List (List ℕ)) (c : List ℕ) →
    IsHeldShut own nif c → IsFile version issuer bodies c → ⊥
shut_no_chain own nif version issuer bodies c (inl not) is = not_begun_no_chain version issuer bodies c not is
shut_no_chain own nif version issuer bodies c (inr part) is = part.shut (ap (λ (l : List ℕ). slice_index l 0) is.parts)

-- where no call was made nothing is lost
pub same_loses_none : (t u : OnDisk) → u ≡ t → NeverLosesFrames t u
same_loses_none t u same = subst (λ (d : OnDisk). NeverLosesFrames t d) (sym same)
    (λ version issuer bodies bytes. none_still t (FileOn version issuer bodies bytes))

-- while a file that isn't begun is given its header nothing is lost
pub header_loses_none : (t u v : OnDisk) → u ≡ t → LeavesOnly u v IsNotBegun → NeverLosesFrames t v
header_loses_none t u v same only = subst (λ (d : OnDisk). NeverLosesFrames d v) same
    (no_chain_to_lose u v IsNotBegun only not_begun_no_chain)

-- nor while it is held shut
pub shut_loses_none : (own : Version) (nif : List ℕ) (t u : OnDisk) → LeavesOnly t u (IsHeldShut own nif) → NeverLosesFrames t u
shut_loses_none own nif t u only = no_chain_to_lose t u (IsHeldShut own nif) only (shut_no_chain own nif)
