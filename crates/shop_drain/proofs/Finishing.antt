-- What a run leaves, said since its file was opened.
use Rattle.std.proofs.Common.{inl, inr, ℕ, List, [], ◌++◌, append_assoc, refl, sym, ◌∙◌, ap, subst, Result}
use Rattle.std.proofs.lemmas.List.{append-nil}
use Rattle.record_fields.specs.declared.versions.Version.{Version}
use Rattle.chain_disk.specs.OnDisk.{OnDisk, LeavesOnly, synced}
use Rattle.chain_disk.specs.Runs.{follows, started_settled, weaker}
use Rattle.journal.specs.File.{IsNotBegun}
use Rattle.journal.specs.declared.faults.StoreFault.{StoreFault}
use Rattle.record_codec.specs.declared.entry.Entry.{Entry}
use Rattle.recovery.specs.Opening.{IsFound}
use Rattle.shop_core.specs.File.Laws.{NotBegunIsNeither}
use Rattle.shop_core.specs.Prefix.{IsPrefix}
use Rattle.shop_core.specs.declared.answer.Reply.{Reply}
use Rattle.chain_store.specs.Crashes.{KeptByRun, StandsUpTo}
use Rattle.chain_store.specs.Losing.{NeverLoses, none_lost_in_both}
use Rattle.chain_store.specs.Opening.{IsOnlySynced}
use Rattle.shop_drain.specs.Crashes.{IsFoundSince, StandsSince}

-- what is found of the file as it is held
pub found_held : (version : Version) (issuer : List ℕ) (start : List Entry) (c : List ℕ) → IsFound version issuer start c →
    IsFoundSince c version issuer start c
found_held version issuer start c (inl none) = inl (none.0, none.0, none.1, none.2)
found_held version issuer start c (inr stands) = inr stands

-- what is found of a file, where that wasn't begun at the start
pub found_unbegun : (held : List ℕ) (version : Version) (issuer : List ℕ) (start : List Entry) (c : List ℕ) → IsNotBegun held →
    IsFound version issuer start c → IsFoundSince held version issuer start c
found_unbegun held version issuer start c begun (inl none) = inl (begun, none.0, none.1, none.2)
found_unbegun held version issuer start c begun (inr stands) = inr stands

-- an opening leaves a file that isn't begun only where it found none that was
pub found_since : NotBegunIsNeither → (version : Version) (issuer : List ℕ) (start : List Entry) (old new : OnDisk) →
    IsFound version issuer start old.content → LeavesOnly (synced old) new (IsFound version issuer start) → IsOnlySynced old new →
    LeavesOnly (synced old) new (IsFoundSince old.content version issuer start)
found_since neither version issuer start old new (inl none) only same =
    weaker (synced old) new (IsFound version issuer start) (IsFoundSince old.content version issuer start) only
    (λ c is. found_unbegun old.content version issuer start c none.0 is)
found_since neither version issuer start old new (inr stands) only same =
    subst (λ (t : OnDisk). LeavesOnly (synced old) t (IsFoundSince old.content version issuer start))
    (sym (same (λ none. (neither version issuer start old.content 0 none).0 stands)))
    (started_settled (synced old) (IsFoundSince old.content version issuer start) refl (inr stands))

pub since_found : (held : List ℕ) (version : Version) (issuer : List ℕ) (start end torn : List Entry) (c : List ℕ) →
    IsPrefix start end → IsFoundSince held version issuer start c → StandsSince held version issuer start end torn c
since_found held version issuer start end torn c begins (inl not_begun) = inl not_begun
since_found held version issuer start end torn c begins (inr stands) = inr (record {
  history = start;
  stands = stands;
  begins = record { rest = []; is = sym (append-nil start) };
  within = record {
    rest = begins.rest ++ torn;
    is = ap (λ (es : List Entry). es ++ torn) begins.is ∙ append_assoc start begins.rest torn;
  };
})

-- what a run leaves, said since its file was opened
pub kept_since : (IsTorn : Entry → Type 0) (held : List ℕ) (version : Version) (issuer : List ℕ) (start end : List Entry)
    (replies : List (Result Reply StoreFault)) (first opened now : OnDisk) → IsPrefix start end → LeavesOnly first opened (IsFoundSince held version issuer start) → NeverLoses first opened →
    KeptByRun (StandsUpTo version issuer start end) IsTorn version issuer end replies opened now →
    KeptByRun (StandsSince held version issuer start end) IsTorn version issuer end replies first now
kept_since IsTorn held version issuer start end replies first opened now begins found stays h = record {
  torn = h.torn;
  at_most_one = h.at_most_one;
  by_a_fault = h.by_a_fault;
  made = h.made;
  kept = record {
    each_moment = follows first opened now (IsFoundSince held version issuer start) (StandsUpTo version issuer start end h.torn)
        (StandsSince held version issuer start end h.torn) found h.kept.each_moment
        (λ c here. since_found held version issuer start end h.torn c begins here) (λ c here. inr here);
    never_loses = none_lost_in_both first opened now stays h.kept.never_loses;
    every_crash = h.kept.every_crash;
    reads = h.kept.reads;
  };
}
