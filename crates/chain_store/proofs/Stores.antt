-- What an append makes of a store's file.
use Rattle.std.proofs.Common.{◌≡◌, inl, inr, ℕ, ◌+◌, ◌≤◌, List, [], ◌∷◌, ◌++◌, length, length-append, arith, refl, sym, subst}
use Rattle.std.proofs.Common.{Bool, Option, Some}
use Rattle.std.proofs.lemmas.List.{map-append}
use Rattle.chain_disk.specs.OnDisk.{OnDisk, LeavesNow, LeavesOnly}
use Rattle.chain_disk.specs.Runs.{leaves_now, started_settled, weaker}
use Rattle.frames.specs.Frames.{IsBody}
use Rattle.journal.specs.File.{IsAt, IsFile, IsBeforeOrAfter}
use Rattle.record_fields.specs.declared.versions.Version.{Version}
use Rattle.record_codec.specs.Writing.{entry_bytes}
use Rattle.record_codec.specs.Validity.{IsEncoding, HasIssuer, AreFields}
use Rattle.record_codec.specs.declared.entry.Entry.{Entry}
use Rattle.shop_core.specs.History.{History}
use Rattle.shop_core.specs.Legal.{Continues, GoesOn, Legal}
use Rattle.shop_core.specs.Ranges.{FitsItsBytes}
use Rattle.shop_core.specs.File.Files.{furthest_gate}
use Rattle.chain_store.specs.Ready.{Holds, IsReady}
use Rattle.shop_core.specs.File.Files.{StandsFor, StandsBeforeOrWith, AreEncoded, bodies_of}

encoded_more : (version : Version) (issuer : List ℕ) (entries : List Entry) (entry : Entry) →
    AreEncoded version issuer entries → IsEncoding version issuer entry (entry_bytes version entry) →
    AreEncoded version issuer (entries ++ entry ∷ [])
encoded_more version issuer [] entry all is = (is, tt)
encoded_more version issuer (e ∷ entries) entry all is = (all.0, encoded_more version issuer entries entry all.1 is)

bodies_more : (version : Version) (entries : List Entry) (entry : Entry) →
    bodies_of version (entries ++ entry ∷ []) ≡ bodies_of version entries ++ entry_bytes version entry ∷ []
bodies_more version entries entry = map-append (entry_bytes version) entries (entry ∷ [])

encoding_of : (version : Version) (issuer : List ℕ) (entry : Entry) → HasIssuer issuer entry → AreFields version entry →
    IsEncoding version issuer entry (entry_bytes version entry)
encoding_of version issuer entry own fields = record { issuer = own; fields = fields; bytes = refl }

-- an entry on its way into a file that holds this history
pub record Adding (history : History) (gate : ℕ) (t : OnDisk) (entry : Entry) : Type 0 where
  pub holds : Holds history gate t
  pub legal : Legal history.version history.issuer history.entries
  pub encoding : IsEncoding history.version history.issuer entry (entry_bytes history.version entry)
  pub next : Legal history.version history.issuer (history.entries ++ entry ∷ [])

pub stands : (history : History) (gate : ℕ) (t : OnDisk) → Holds history gate t →
    Legal history.version history.issuer history.entries →
    StandsFor history.version history.issuer history.entries t.content
stands history gate t h legal = record { frames = h.file.file; encoded = h.encoded; legal = legal }

-- where no call of the disk is made, a crash leaves the history
pub untouched : (history : History) (gate : ℕ) (t : OnDisk) → Holds history gate t →
    Legal history.version history.issuer history.entries →
    LeavesOnly t t (StandsFor history.version history.issuer history.entries)
untouched history gate t h legal =
    started_settled t (StandsFor history.version history.issuer history.entries) h.file.nothing_pending
    (stands history gate t h legal)

pub untouched_around : (history : History) (gate : ℕ) (t : OnDisk) (entry : Entry) → Holds history gate t →
    Legal history.version history.issuer history.entries →
    LeavesOnly t t (StandsBeforeOrWith history.version history.issuer history.entries entry)
untouched_around history gate t entry h legal =
    weaker t t (StandsFor history.version history.issuer history.entries)
    (StandsBeforeOrWith history.version history.issuer history.entries entry) (untouched history gate t h legal) (λ c s. inl s)

around : {history : History} {gate : ℕ} {t : OnDisk} {entry : Entry} → Adding history gate t entry → (c : List ℕ) →
    IsBeforeOrAfter history.version history.issuer (bodies_of history.version history.entries)
    (entry_bytes history.version entry) c →
    StandsBeforeOrWith history.version history.issuer history.entries entry c
around {history} {gate} {t} {entry} a c (inl before) = inl (record {
  frames = before;
  encoded = a.holds.encoded;
  legal = a.legal;
})
around {history} {gate} {t} {entry} a c (inr after) = inr (record {
  frames = subst (λ (bs : List (List ℕ)). IsFile history.version history.issuer bs c)
      (sym (bodies_more history.version history.entries entry)) after;
  encoded = encoded_more history.version history.issuer history.entries entry a.holds.encoded a.encoding;
  legal = a.next;
})

-- what a crash in an append leaves
pub appended : {history : History} {gate : ℕ} {t u : OnDisk} {entry : Entry} {body : List ℕ} → Adding history gate t entry →
    body ≡ entry_bytes history.version entry →
    LeavesOnly t u (IsBeforeOrAfter history.version history.issuer (bodies_of history.version history.entries) body) →
    LeavesOnly t u (StandsBeforeOrWith history.version history.issuer history.entries entry)
appended {history} {gate} {t} {u} {entry} {body} a is only =
    let bodies = bodies_of history.version history.entries in
    weaker t u (IsBeforeOrAfter history.version history.issuer bodies (entry_bytes history.version entry))
    (StandsBeforeOrWith history.version history.issuer history.entries entry)
    (subst (λ (b : List ℕ). LeavesOnly t u (IsBeforeOrAfter history.version history.issuer bodies b)) is only) (around a)

-- the file after it
pub holds_more : {history : History} {gate gate' : ℕ} {t u : OnDisk} {entry : Entry} {body : List ℕ} {room : Option Entry} →
    Adding history gate t entry → body ≡ entry_bytes history.version entry →
    IsAt history.version history.issuer (bodies_of history.version history.entries ++ body ∷ []) gate' u →
    Holds (record { issuer = history.issuer; version = history.version; entries = history.entries ++ entry ∷ []; room = room })
    gate' u
holds_more {history} {gate} {gate'} {t} {u} {entry} {body} {room} a is at = record {
  file =
      let bodies = bodies_of history.version history.entries in
      subst (λ (bs : List (List ℕ)). IsAt history.version history.issuer bs gate' u)
      (sym (bodies_more history.version history.entries entry))
      (subst (λ (b : List ℕ). IsAt history.version history.issuer (bodies ++ b ∷ []) gate' u) is at);
  encoded = encoded_more history.version history.issuer history.entries entry a.holds.encoded a.encoding;
}

pub gate_more : (entries : List Entry) (entry : Entry) (gate gate' : ℕ) (body : List ℕ) → gate ≤ furthest_gate entries →
    gate' ≡ gate + 5 + length body → IsBody body →
    gate' ≤ furthest_gate (entries ++ entry ∷ [])
gate_more entries entry gate gate' body le e is = let n = length-append entries (entry ∷ []) in let f = is.1 in omega arith

pub adding : (history : History) (gate : ℕ) (t : OnDisk) (entry : Entry) → FitsItsBytes → GoesOn → Holds history gate t →
    Legal history.version history.issuer history.entries →
    Continues history.version history.issuer history.entries entry → AreFields history.version entry → Adding history gate t entry
adding history gate t entry fits goes_on holds legal continues fields = record {
  holds = holds;
  legal = legal;
  encoding = encoding_of history.version history.issuer entry
      (fits history.version history.issuer history.entries entry continues).2 fields;
  next = goes_on history.version history.issuer history.entries entry legal continues;
}

-- a store whose journal stopped
pub ready_stopped : (tells : Bool) (history : History) (stopped : Option ℕ) (gate : ℕ) (t : OnDisk) (faults : ℕ) →
    gate ≤ furthest_gate history.entries → stopped ≡ Some faults →
    IsReady tells history stopped gate t
ready_stopped tells history stopped gate t faults place e = record { place = place; holds = λ none said. absurd cc }

-- with nothing pending, a crash leaves the history
pub leaves_its_history : (history : History) (gate : ℕ) (t : OnDisk) → Holds history gate t →
    Legal history.version history.issuer history.entries →
    LeavesNow t (StandsFor history.version history.issuer history.entries)
leaves_its_history history gate t h legal = leaves_now t (StandsFor history.version history.issuer history.entries) h.file.nothing_pending
    (stands history gate t h legal)

-- room that is made changes nothing of it
pub holds_roomy : (old new : History) (gate : ℕ) (t : OnDisk) → new.issuer ≡ old.issuer → new.version ≡ old.version →
    new.entries ≡ old.entries → Holds old gate t → Holds new gate t
holds_roomy old new gate t issuer version entries h = record {
  file = subst (λ (v : Version). IsAt v new.issuer (bodies_of v new.entries) gate t) (sym version)
      (subst (λ (n : List ℕ). IsAt old.version n (bodies_of old.version new.entries) gate t) (sym issuer)
      (subst (λ (es : List Entry). IsAt old.version old.issuer (bodies_of old.version es) gate t) (sym entries) h.file));
  encoded = subst (λ (v : Version). AreEncoded v new.issuer new.entries) (sym version)
      (subst (λ (n : List ℕ). AreEncoded old.version n new.entries) (sym issuer)
      (subst (λ (es : List Entry). AreEncoded old.version old.issuer es) (sym entries) h.encoded));
}
