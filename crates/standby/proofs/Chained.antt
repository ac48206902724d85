-- A chain on a disk stays sound, and goes to what an entry makes of it.
use Rattle.std.proofs.Common.{◌≡◌, inl, inr, ℕ, ◌≤◌, List, [], ◌∷◌, ◌++◌, refl, sym, ◌∙◌, ap, subst, subst₂, arith, Bool, IsTrue}
use Rattle.std.proofs.Common.{Option, Some, None, Result, Ok, Err}
use Rattle.std.specs.Prelude.{IsErrOf, OnErr, OnOk}
use Rattle.chain_disk.specs.OnDisk.{OnDisk, LeavesNow, LeavesOnly, moment}
use Rattle.chain_disk.specs.Runs.{follows, leaves_now, started, weaker}
use Rattle.chain_disk.specs.declared.disk.Disk.{Ghosts}
use Rattle.chain_store.specs.Losing.{NeverLoses, none_lost, none_lost_in_both}
use Rattle.chain_store.specs.Ready.{Holds, IsReady, WritesEntry}
use Rattle.chain_store.specs.Store.{Adds}
use Rattle.chain_store.specs.declared.store.Store.{Store}
use Rattle.journal.specs.File.{IsAt}
use Rattle.journal.specs.Written.{with_frame}
use Rattle.journal.specs.declared.faults.StoreFault.{StoreFault}
use Rattle.journal.specs.declared.faults.StoreFault.TheVariants.{DiskFault, Stopped, NoMemory}
use Rattle.shop_core.specs.Prefix.{IsPrefix}
use Rattle.ports.specs.Causes.{Rose}
use Rattle.ports.specs.declared.faults.NoMemory.{NoMemory as NoRoom}
use Rattle.record_codec.specs.Writing.{entry_bytes}
use Rattle.record_codec.specs.declared.entry.Entry.{Entry}
use Rattle.shop_core.specs.File.Files.{AreEncoded, StandsBeforeOrWith, StandsFor, bodies_of, furthest_gate}
use Rattle.shop_core.specs.History.{History}
use Rattle.shop_core.specs.Legal.{Continues, GoesOn, Legal}
use Rattle.record_fields.specs.declared.versions.Version.{Version}
use Rattle.standby.specs.Arriving.{AddsEntry, Arrives, IsNextPiece, KeepsEntry, KeepsPiece}
use Rattle.standby.specs.Chains.{ChainOnDisk, GoesTo, IsRoomy, IsSoundChain, StandsForEither, chain_of, longest}
use Rattle.chain_store.specs.Crashes.{StandsBetween}
use Rattle.standby.specs.Chains.{with_torn}
use Rattle.standby.specs.declared.pieces.Piece.{Piece}
use Rattle.standby.proofs.Fronts.{front_by, front_on, front_same, front_with}

pub none_torn : (entries : List Entry) (stopped : Option ℕ) (torn : Option Entry) → stopped ≡ None →
    with_torn entries stopped torn ≡ entries
none_torn entries None torn e = refl
none_torn entries (Some count) torn e = absurd cc

pub some_torn : (entries : List Entry) (stopped : Option ℕ) (torn : Option Entry) (count : ℕ) (entry : Entry) →
    stopped ≡ Some count → torn ≡ Some entry → with_torn entries stopped torn ≡ entries ++ entry ∷ []
some_torn entries stopped torn count entry e f = rw (e, f) refl

-- the history is a front of the longest one
pub longest_begins : (entries : List Entry) (stopped : Option ℕ) (torn : Option Entry) →
    IsPrefix entries (with_torn entries stopped torn)
longest_begins entries None torn = front_same entries
longest_begins entries (Some count) None = front_same entries
longest_begins entries (Some count) (Some entry) = front_with entries (entry ∷ [])

-- an image of either stands between
pub between_either : (version : Version) (issuer : List ℕ) (entries longer : List Entry) (c : List ℕ) → IsPrefix entries longer →
    StandsForEither version issuer entries longer c → StandsBetween version issuer entries longer c
between_either version issuer entries longer c front (inl here) = record {
  history = entries;
  stands = here;
  begins = front_same entries;
  within = front;
}
between_either version issuer entries longer c front (inr there) = record {
  history = longer;
  stands = there;
  begins = front;
  within = front_same longer;
}

pub between_with : (version : Version) (issuer : List ℕ) (entries : List Entry) (entry : Entry) (c : List ℕ) →
    StandsBeforeOrWith version issuer entries entry c → StandsBetween version issuer entries (entries ++ entry ∷ []) c
between_with version issuer entries entry c stands =
    between_either version issuer entries (entries ++ entry ∷ []) c (front_with entries (entry ∷ [])) stands

-- what stands between two stands between two that are further apart
pub between_wider : (version : Version) (issuer : List ℕ) (start begin end beyond : List Entry) (c : List ℕ) → IsPrefix start begin →
    IsPrefix end beyond → StandsBetween version issuer begin end c → StandsBetween version issuer start beyond c
between_wider version issuer start begin end beyond c front back b = record {
  history = b.history;
  stands = b.stands;
  begins = front_on start begin b.history front b.begins;
  within = front_on b.history end beyond b.within back;
}

holds_roomy : (h k : History) (gate : ℕ) (t : OnDisk) → k.issuer ≡ h.issuer → k.version ≡ h.version → k.entries ≡ h.entries →
    Holds h gate t → Holds k gate t
holds_roomy h k gate t i v e holds = record {
  file = subst₂ (λ (w : Version) (n : List ℕ). IsAt w n (bodies_of w k.entries) gate t) (sym v) (sym i)
      (subst (λ (es : List Entry). IsAt h.version h.issuer (bodies_of h.version es) gate t) (sym e) holds.file);
  encoded = subst₂ (λ (w : Version) (n : List ℕ). AreEncoded w n k.entries) (sym v) (sym i)
      (subst (λ (es : List Entry). AreEncoded h.version h.issuer es) (sym e) holds.encoded);
}

-- what making room leaves of a history
pub reserved : {X : Type 0} (r : Result X NoRoom) (old new : History) (entry : Entry) →
    OnOk r (new ≡ record { issuer = old.issuer; version = old.version; entries = old.entries; room = Some entry }) →
    OnErr r (new ≡ old) → (new.issuer ≡ old.issuer) × (new.version ≡ old.version) × (new.entries ≡ old.entries)
reserved {X = X} (Ok done) old new entry ok err = (
  ap (λ (h : History). h.issuer) ok,
  ap (λ (h : History). h.version) ok,
  ap (λ (h : History). h.entries) ok,
)
reserved {X = X} (Err e) old new entry ok err = (
  ap (λ (h : History). h.issuer) err,
  ap (λ (h : History). h.version) err,
  ap (λ (h : History). h.entries) err,
)

-- of a chain
pub roomy_by : {D : Type 0} (r : Result (Unit {0}) NoRoom) (old new : ChainOnDisk D) (entry : Entry) →
    OnOk r (new ≡ record old {
      history = record {
        issuer = old.history.issuer;
        version = old.history.version;
        entries = old.history.entries;
        room = Some entry;
      };
    })
    → OnErr r (new ≡ old) → IsRoomy old new
roomy_by {D = D} (Ok done) old new entry ok err = record {
  issuer = ap (λ (c : ChainOnDisk D). c.history.issuer) ok;
  version = ap (λ (c : ChainOnDisk D). c.history.version) ok;
  entries = ap (λ (c : ChainOnDisk D). c.history.entries) ok;
  disk = ap (λ (c : ChainOnDisk D). c.disk) ok;
  gate = ap (λ (c : ChainOnDisk D). c.gate) ok;
  stopped = ap (λ (c : ChainOnDisk D). c.stopped) ok;
  torn = ap (λ (c : ChainOnDisk D). c.torn) ok;
}
roomy_by {D = D} (Err e) old new entry ok err = record {
  issuer = ap (λ (c : ChainOnDisk D). c.history.issuer) err;
  version = ap (λ (c : ChainOnDisk D). c.history.version) err;
  entries = ap (λ (c : ChainOnDisk D). c.history.entries) err;
  disk = ap (λ (c : ChainOnDisk D). c.disk) err;
  gate = ap (λ (c : ChainOnDisk D). c.gate) err;
  stopped = ap (λ (c : ChainOnDisk D). c.stopped) err;
  torn = ap (λ (c : ChainOnDisk D). c.torn) err;
}

module _ {D : Type 0} (tells : Bool) (on_disk : D → OnDisk) (faults : D → ℕ) where
  abbrev Sound : ChainOnDisk D → Type 0
  Sound chain = IsSoundChain tells on_disk faults chain

  abbrev Goes : ChainOnDisk D → ChainOnDisk D → Type 0
  Goes old new = GoesTo tells on_disk faults old new

  -- no call was made
  pub goes_same : (chain : ChainOnDisk D) → Sound chain → Goes chain chain
  goes_same chain s = record {
    issuer = refl;
    version = refl;
    begins = front_same chain.history.entries;
    longer = front_same (longest chain);
    since = λ says. started (on_disk chain.disk) (StandsBetween chain.history.version chain.history.issuer chain.history.entries (longest chain))
        (λ c image. between_either chain.history.version chain.history.issuer chain.history.entries (longest chain) c
        (longest_begins chain.history.entries chain.stopped chain.torn) (s.images says c (inl (refl, image))));
    never_loses = λ says. none_lost (on_disk chain.disk);
    later = omega arith;
  }

  pub goes_on : (a b c : ChainOnDisk D) → Goes a b → Goes b c → Goes a c
  goes_on a b c f g = record {
    issuer = g.issuer ∙ f.issuer;
    version = g.version ∙ f.version;
    begins = front_on a.history.entries b.history.entries c.history.entries f.begins g.begins;
    longer = front_on (longest a) (longest b) (longest c) f.longer g.longer;
    since = λ says. follows (on_disk a.disk) (on_disk b.disk) (on_disk c.disk) _ _ _ (f.since says) (g.since says)
        (λ file h. between_wider a.history.version a.history.issuer a.history.entries a.history.entries (longest b) (longest c) file
        (front_same a.history.entries) g.longer h)
        (λ file h. between_wider a.history.version a.history.issuer a.history.entries b.history.entries (longest c) (longest c) file
        f.begins (front_same (longest c))
        (subst₂ (λ (v : Version) (n : List ℕ). StandsBetween v n b.history.entries (longest c) file) f.version f.issuer h));
    never_loses = λ says. none_lost_in_both (on_disk a.disk) (on_disk b.disk) (on_disk c.disk) (f.never_loses says)
        (g.never_loses says);
    later = omega (arith, f.later, g.later);
  }

  -- what keeping an entry makes of a chain, fact by fact
  pub record Keeping {E : Type 0} (old new : ChainOnDisk D) (entry : Entry) (r : Result (Unit {0}) E) : Type 0 where
    pub ready : IsReady tells new.history new.stopped new.gate (on_disk new.disk)
    pub issuer : new.history.issuer ≡ old.history.issuer
    pub version : new.history.version ≡ old.history.version
    pub added : OnOk r ((new.stopped ≡ None) × (new.history.entries ≡ old.history.entries ++ entry ∷ []))
    pub same : OnErr r (new.history.entries ≡ old.history.entries)
    pub any_moment : IsTrue tells → LeavesOnly (on_disk old.disk) (on_disk new.disk)
        (StandsBeforeOrWith old.history.version old.history.issuer old.history.entries entry)
    pub never_loses : IsTrue tells → NeverLoses (on_disk old.disk) (on_disk new.disk)
    pub acknowledged : OnOk r (IsTrue tells → LeavesNow (on_disk new.disk) (StandsFor new.history.version new.history.issuer new.history.entries))
    pub content : OnOk r (IsTrue tells →
        WritesEntry old.history.version entry old.gate (on_disk old.disk) (on_disk new.disk))
    pub torn : OnErr r (new.torn ≡ Some entry)
    pub fault : OnErr r (Rose (faults old.disk) (faults new.disk) × (new.stopped ≡ Some (faults new.disk)))
    pub later : faults old.disk ≤ faults new.disk

  going : (chain : ChainOnDisk D) → chain.stopped ≡ None → longest chain ≡ chain.history.entries
  going chain e = none_torn chain.history.entries chain.stopped chain.torn e

  goes_with : (old new : ChainOnDisk D) (entry : Entry) → old.stopped ≡ None → new.history.issuer ≡ old.history.issuer →
      new.history.version ≡ old.history.version →
      IsPrefix old.history.entries new.history.entries → longest new ≡ old.history.entries ++ entry ∷ [] →
      (IsTrue tells → LeavesOnly (on_disk old.disk) (on_disk new.disk)
      (StandsBeforeOrWith old.history.version old.history.issuer old.history.entries entry)) →
      (IsTrue tells → NeverLoses (on_disk old.disk) (on_disk new.disk)) →
      faults old.disk ≤ faults new.disk → Goes old new
  goes_with old new entry was issuer version begins long only never_loses later = record {
    issuer = issuer;
    version = version;
    begins = begins;
    longer = record { rest = entry ∷ []; is = long ∙ ap (λ (es : List Entry). es ++ entry ∷ []) (sym (going old was)) };
    since = λ says. weaker (on_disk old.disk) (on_disk new.disk) (StandsBeforeOrWith old.history.version old.history.issuer old.history.entries entry) _
        (only says)
        (λ c h. subst (λ (es : List Entry). StandsBetween old.history.version old.history.issuer old.history.entries es c) (sym long)
        (between_with old.history.version old.history.issuer old.history.entries entry c h));
    never_loses = never_loses;
    later = later;
  }

  pub kept : {E : Type 0} (old new : ChainOnDisk D) (entry : Entry) (r : Result (Unit {0}) E) → GoesOn → Sound old →
      old.stopped ≡ None → Continues old.history.version old.history.issuer old.history.entries entry → Keeping old new entry r →
      Sound new × KeepsEntry tells on_disk faults old new entry r
  kept {E = E} old new entry (Ok done) law s was continues k =
      let legal : Legal old.history.version old.history.issuer (old.history.entries ++ entry ∷ []) =
      law old.history.version old.history.issuer old.history.entries entry s.legal continues in
      let now : longest new ≡ old.history.entries ++ entry ∷ [] = going new k.added.0 ∙ k.added.1 in (
        record {
          ready = k.ready;
          legal = subst₂ (λ (v : Version) (n : List ℕ). Legal v n new.history.entries) (sym k.version) (sym k.issuer)
              (subst (λ (es : List Entry). Legal old.history.version old.history.issuer es) (sym k.added.1) legal);
          images = λ says c left. inl (k.acknowledged says c left);
          stop = λ count e. absurd (let x : ◌≡◌ {A = Option ℕ} None (Some count) = sym k.added.0 ∙ e in cc);
        },
        record {
          goes = goes_with old new entry was k.issuer k.version (record { rest = entry ∷ []; is = k.added.1 }) now k.any_moment
              k.never_loses k.later;
          added = k.added;
          same = tt;
          any_moment = k.any_moment;
          acknowledged = k.acknowledged;
          content = k.content;
          torn = tt;
          fault = tt;
        },
      )
  kept {E = E} old new entry (Err e) law s was continues k =
      let now : longest new ≡ old.history.entries ++ entry ∷ [] =
      some_torn new.history.entries new.stopped new.torn (faults new.disk) entry k.fault.1 k.torn ∙
      ap (λ (es : List Entry). es ++ entry ∷ []) k.same in (
        record {
          ready = k.ready;
          legal = subst₂ (λ (v : Version) (n : List ℕ). Legal v n new.history.entries) (sym k.version) (sym k.issuer)
              (subst (λ (es : List Entry). Legal old.history.version old.history.issuer es) (sym k.same) s.legal);
          images = λ says c left.
              let there : StandsForEither old.history.version old.history.issuer old.history.entries (old.history.entries ++ entry ∷ []) c =
              (k.any_moment says).each (moment (on_disk new.disk)) c (k.any_moment says).later left in
              subst₂ (λ (v : Version) (n : List ℕ). StandsForEither v n new.history.entries (longest new) c) (sym k.version) (sym k.issuer)
              (subst (λ (es : List Entry). StandsForEither old.history.version old.history.issuer es (longest new) c) (sym k.same)
              (subst (λ (es : List Entry). StandsForEither old.history.version old.history.issuer old.history.entries es c) (sym now) there));
          stop = λ count is. record {
            torn = entry;
            torn_is = k.torn;
            continues = subst₂ (λ (v : Version) (n : List ℕ). Continues v n new.history.entries entry) (sym k.version) (sym k.issuer)
                (subst (λ (es : List Entry). Continues old.history.version old.history.issuer es entry) (sym k.same) continues);
            within = let same : ◌≡◌ {A = Option ℕ} (Some count) (Some (faults new.disk)) = sym is ∙ k.fault.1 in
                let n : count ≡ faults new.disk = cc in omega (arith, n);
          };
        },
        record {
          goes = goes_with old new entry was k.issuer k.version (front_by old.history.entries new.history.entries k.same) now
              k.any_moment k.never_loses k.later;
          added = tt;
          same = k.same;
          any_moment = k.any_moment;
          acknowledged = tt;
          content = tt;
          torn = k.torn;
          fault = k.fault;
        },
      )

  -- a chain that goes on, as its history and disk are found
  pub sound_going : (chain : ChainOnDisk D) → chain.stopped ≡ None →
      IsReady tells chain.history chain.stopped chain.gate (on_disk chain.disk) → Legal chain.history.version chain.history.issuer chain.history.entries →
      (IsTrue tells → LeavesNow (on_disk chain.disk) (StandsFor chain.history.version chain.history.issuer chain.history.entries)) → Sound chain
  sound_going chain was ready legal now = record {
    ready = ready;
    legal = legal;
    images = λ says c left. inl (now says c left);
    stop = λ count e. absurd (let x : ◌≡◌ {A = Option ℕ} None (Some count) = sym was ∙ e in cc);
  }

  same_longest : (a b : ChainOnDisk D) → IsRoomy a b → longest b ≡ longest a
  same_longest a b r =
      ap (λ (es : List Entry). with_torn es b.stopped b.torn) r.entries ∙
      ap (λ (o : Option ℕ). with_torn a.history.entries o b.torn) r.stopped ∙
      ap (λ (o : Option Entry). with_torn a.history.entries a.stopped o) r.torn

  pub sound_roomy : (a b : ChainOnDisk D) → IsRoomy a b → IsSoundChain tells on_disk faults a → IsSoundChain tells on_disk faults b
  sound_roomy a b r s = record {
    ready = record {
      place = subst (λ (n : ℕ). n ≤ furthest_gate b.history.entries) (sym r.gate)
          (subst (λ (es : List Entry). a.gate ≤ furthest_gate es) (sym r.entries) s.ready.place);
      holds = λ none says.
          subst (λ (d : D). Holds b.history b.gate (on_disk d)) (sym r.disk)
          (subst (λ (n : ℕ). Holds b.history n (on_disk a.disk)) (sym r.gate)
          (holds_roomy a.history b.history a.gate (on_disk a.disk) r.issuer r.version r.entries (s.ready.holds (sym r.stopped ∙ none) says)));
    };
    legal = subst₂ (λ (v : Version) (n : List ℕ). Legal v n b.history.entries) (sym r.version) (sym r.issuer)
        (subst (λ (es : List Entry). Legal a.history.version a.history.issuer es) (sym r.entries) s.legal);
    images = λ says.
        subst (λ (d : D). LeavesNow (on_disk d) (StandsForEither b.history.version b.history.issuer b.history.entries (longest b))) (sym r.disk)
        (subst₂ (λ (v : Version) (n : List ℕ). LeavesNow (on_disk a.disk) (StandsForEither v n b.history.entries (longest b))) (sym r.version) (sym r.issuer)
        (subst (λ (es : List Entry). LeavesNow (on_disk a.disk) (StandsForEither a.history.version a.history.issuer es (longest b))) (sym r.entries)
        (subst (λ (es : List Entry). LeavesNow (on_disk a.disk) (StandsForEither a.history.version a.history.issuer a.history.entries es))
        (sym (same_longest a b r)) (s.images says))));
    stop = λ count is.
        let t = s.stop count (sym r.stopped ∙ is) in
        record {
          torn = t.torn;
          torn_is = r.torn ∙ t.torn_is;
          continues = subst₂ (λ (v : Version) (n : List ℕ). Continues v n b.history.entries t.torn) (sym r.version) (sym r.issuer)
              (subst (λ (es : List Entry). Continues a.history.version a.history.issuer es t.torn) (sym r.entries) t.continues);
          within = subst (λ (d : D). count ≤ faults d) (sym r.disk) t.within;
        };
  }

  pub goes_roomy : (s a b : ChainOnDisk D) → GoesTo tells on_disk faults s a → IsRoomy a b → GoesTo tells on_disk faults s b
  goes_roomy s a b g r = record {
    issuer = r.issuer ∙ g.issuer;
    version = r.version ∙ g.version;
    begins = record { rest = g.begins.rest; is = r.entries ∙ g.begins.is };
    longer = record { rest = g.longer.rest; is = same_longest a b r ∙ g.longer.is };
    since = λ says.
        subst (λ (d : D). LeavesOnly (on_disk s.disk) (on_disk d) (StandsBetween s.history.version s.history.issuer s.history.entries (longest b)))
        (sym r.disk)
        (subst (λ (es : List Entry). LeavesOnly (on_disk s.disk) (on_disk a.disk) (StandsBetween s.history.version s.history.issuer s.history.entries es))
        (sym (same_longest a b r)) (g.since says));
    never_loses = λ says. subst (λ (d : D). NeverLoses (on_disk s.disk) (on_disk d)) (sym r.disk) (g.never_loses says);
    later = subst (λ (d : D). faults s.disk ≤ faults d) (sym r.disk) g.later;
  }

  roomy_goes : (a b c : ChainOnDisk D) → IsRoomy a b → Goes b c → Goes a c
  roomy_goes a b c r g = record {
    issuer = g.issuer ∙ r.issuer;
    version = g.version ∙ r.version;
    begins = subst (λ (es : List Entry). IsPrefix es c.history.entries) r.entries g.begins;
    longer = subst (λ (es : List Entry). IsPrefix es (longest c)) (same_longest a b r) g.longer;
    since = λ says.
        subst (λ (d : D). LeavesOnly (on_disk d) (on_disk c.disk) (StandsBetween a.history.version a.history.issuer a.history.entries (longest c))) r.disk
        (subst₂ (λ (v : Version) (n : List ℕ). LeavesOnly (on_disk b.disk) (on_disk c.disk) (StandsBetween v n a.history.entries (longest c))) r.version r.issuer
        (subst (λ (es : List Entry). LeavesOnly (on_disk b.disk) (on_disk c.disk) (StandsBetween b.history.version b.history.issuer es (longest c)))
        r.entries (g.since says)));
    never_loses = λ says. subst (λ (d : D). NeverLoses (on_disk d) (on_disk c.disk)) r.disk (g.never_loses says);
    later = subst (λ (d : D). faults d ≤ faults c.disk) r.disk g.later;
  }

  moment_roomy : (a b c : ChainOnDisk D) (entry : Entry) → IsRoomy a b → LeavesOnly (on_disk b.disk) (on_disk c.disk)
      (StandsBeforeOrWith b.history.version b.history.issuer b.history.entries entry) → LeavesOnly (on_disk a.disk) (on_disk c.disk)
      (StandsBeforeOrWith a.history.version a.history.issuer a.history.entries entry)
  moment_roomy a b c entry r only =
      subst (λ (d : D). LeavesOnly (on_disk d) (on_disk c.disk) (StandsBeforeOrWith a.history.version a.history.issuer a.history.entries entry)) r.disk
      (subst₂ (λ (v : Version) (n : List ℕ). LeavesOnly (on_disk b.disk) (on_disk c.disk) (StandsBeforeOrWith v n a.history.entries entry)) r.version r.issuer
      (subst (λ (es : List Entry). LeavesOnly (on_disk b.disk) (on_disk c.disk) (StandsBeforeOrWith b.history.version b.history.issuer es entry))
      r.entries only))

  same_frame : (a b : ChainOnDisk D) (entry : Entry) → IsRoomy a b →
      with_frame (on_disk b.disk).content b.gate (entry_bytes b.history.version entry)
      ≡ with_frame (on_disk a.disk).content a.gate (entry_bytes a.history.version entry)
  same_frame a b entry r =
      ap (λ (d : D). with_frame (on_disk d).content b.gate (entry_bytes b.history.version entry)) r.disk
      ∙ ap (λ (n : ℕ). with_frame (on_disk a.disk).content n (entry_bytes b.history.version entry)) r.gate
      ∙ ap (λ (v : Version). with_frame (on_disk a.disk).content a.gate (entry_bytes v entry)) r.version

  keeps_roomy : {E : Type 0} (a b c : ChainOnDisk D) (entry : Entry) (r : Result (Unit {0}) E) → IsRoomy a b →
      KeepsEntry tells on_disk faults b c entry r → KeepsEntry tells on_disk faults a c entry r
  keeps_roomy {E = E} a b c entry (Ok done) r k = record {
    goes = roomy_goes a b c r k.goes;
    added = (k.added.0, k.added.1 ∙ ap (λ (es : List Entry). es ++ entry ∷ []) r.entries);
    same = tt;
    any_moment = λ says. moment_roomy a b c entry r (k.any_moment says);
    acknowledged = k.acknowledged;
    content = λ says. k.content says ∙ same_frame a b entry r;
    torn = tt;
    fault = tt;
  }
  keeps_roomy {E = E} a b c entry (Err e) r k = record {
    goes = roomy_goes a b c r k.goes;
    added = tt;
    same = k.same ∙ r.entries;
    any_moment = λ says. moment_roomy a b c entry r (k.any_moment says);
    acknowledged = tt;
    content = tt;
    torn = k.torn;
    fault = (subst (λ (d : D). Rose (faults d) (faults c.disk)) r.disk k.fault.0, k.fault.1);
  }

  -- room was made, and the entry was kept
  pub adds_by : (a b c : ChainOnDisk D) (entry : Entry) (r : Result (Unit {0}) StoreFault) → IsRoomy a b →
      KeepsEntry tells on_disk faults b c entry r → OnErr r (IsErrOf r DiskFault) → AddsEntry tells on_disk faults a c entry r
  adds_by a b c entry (Ok done) room k cause = keeps_roomy {E = StoreFault} a b c entry (Ok tt) room k
  adds_by a b c entry (Err DiskFault) room k cause = keeps_roomy {E = StoreFault} a b c entry (Err DiskFault) room k
  adds_by a b c entry (Err (Stopped count)) room k cause = absurd cc
  adds_by a b c entry (Err NoMemory) room k cause = absurd cc

  pub piece_kept : (old new : ChainOnDisk D) (piece : Piece) (entry : Entry) →
      IsNextPiece old.history.version old.history.issuer old.history.entries piece entry →
      KeepsEntry {E = StoreFault} tells on_disk faults old new entry (Ok tt) → KeepsPiece tells on_disk faults old new piece
  piece_kept old new piece entry next k = record {
    entry = entry;
    brings = record { next = next; goes = k.goes; any_moment = k.any_moment };
    entries = k.added.1;
    going_on = k.added.0;
    acknowledged = k.acknowledged;
    content = λ says. k.content says ∙
        ap (λ (body : List ℕ). with_frame (on_disk old.disk).content old.gate body) (sym next.encoding.bytes);
  }

  pub piece_failed : (old new : ChainOnDisk D) (piece : Piece) (entry : Entry) (fault : StoreFault) →
      IsNextPiece old.history.version old.history.issuer old.history.entries piece entry → AddsEntry tells on_disk faults old new entry (Err fault) →
      Arrives tells on_disk faults old new piece (Err fault)
  piece_failed old new piece entry DiskFault next k = record {
    entry = entry;
    brings = record { next = next; goes = k.goes; any_moment = k.any_moment };
    entries = k.same;
    torn = k.torn;
    rose = k.fault.0;
    stopped = k.fault.1;
  }
  piece_failed old new piece entry (Stopped count) next k = absurd k
  piece_failed old new piece entry NoMemory next k = k

  -- a chain that goes on, on a disk that holds it
  pub sound_new : (chain : ChainOnDisk D) → chain.stopped ≡ None →
      IsReady tells chain.history None chain.gate (on_disk chain.disk) → Legal chain.history.version chain.history.issuer chain.history.entries →
      Sound chain
  sound_new chain was ready legal = sound_going chain was
      (subst (λ (o : Option ℕ). IsReady tells chain.history o chain.gate (on_disk chain.disk)) (sym was) ready) legal
      (λ says.
      let h = ready.holds refl says in
      leaves_now (on_disk chain.disk) (StandsFor chain.history.version chain.history.issuer chain.history.entries) h.file.nothing_pending
      (record { frames = h.file.file; encoded = h.encoded; legal = legal }))

  either_whole : (version : Version) (issuer : List ℕ) (entries longer : List Entry) (c : List ℕ) → longer ≡ entries →
      StandsForEither version issuer entries longer c → StandsFor version issuer entries c
  either_whole version issuer entries longer c e (inl here) = here
  either_whole version issuer entries longer c e (inr there) = subst (λ (es : List Entry). StandsFor version issuer es c) e there

  -- a chain that goes on leaves its whole history
  pub sound_whole : (chain : ChainOnDisk D) → Sound chain → chain.stopped ≡ None → IsTrue tells →
      LeavesNow (on_disk chain.disk) (StandsFor chain.history.version chain.history.issuer chain.history.entries)
  sound_whole chain s was says = λ c left. either_whole chain.history.version chain.history.issuer chain.history.entries (longest chain) c
      (going chain was) (s.images says c left)

  -- the same, as it is ready
  pub sound_ready : (chain : ChainOnDisk D) → chain.stopped ≡ None →
      IsReady tells chain.history chain.stopped chain.gate (on_disk chain.disk) → Legal chain.history.version chain.history.issuer chain.history.entries →
      Sound chain
  sound_ready chain was ready legal = sound_new chain was
      (subst (λ (o : Option ℕ). IsReady tells chain.history o chain.gate (on_disk chain.disk)) was ready) legal

-- what a store's keeping makes of its chain
module _ {D C : Type 0} {g : Ghosts D} (tells : Bool) (on_disk : D → OnDisk) (faults : D → ℕ) where
  pub store_kept : (old new : Store D C g) (entry : Entry) (r : Result (Unit {0}) StoreFault) →
      Adds tells on_disk faults old new entry r → (r ≡ Err NoMemory → ⊥) →
      Keeping tells on_disk faults (chain_of old) (chain_of new) entry r × OnErr r (r ≡ Err DiskFault)
  store_kept old new entry (Ok done) a memory = (
    record {
      ready = a.ready;
      issuer = a.issuer;
      version = a.version;
      added = a.added;
      same = tt;
      any_moment = a.any_moment;
      never_loses = a.never_loses;
      acknowledged = a.acknowledged;
      content = a.content;
      torn = tt;
      fault = tt;
      later = a.later;
    },
    tt,
  )
  store_kept old new entry (Err DiskFault) a memory = (
    record {
      ready = a.ready;
      issuer = a.issuer;
      version = a.version;
      added = tt;
      same = a.same;
      any_moment = a.any_moment;
      never_loses = a.never_loses;
      acknowledged = tt;
      content = tt;
      torn = a.torn refl;
      fault = a.fault refl;
      later = a.later;
    },
    refl,
  )
  store_kept old new entry (Err (Stopped count)) a memory = absurd (a.not_stopped count refl)
  store_kept old new entry (Err NoMemory) a memory = absurd (memory refl)
