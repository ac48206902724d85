-- A sound shop stays so over one call of its store.
use Rattle.std.proofs.Common.{◌≡◌, inl, inr, ℕ, ◌+◌, ◌≤◌, List, [], ◌∷◌, ◌++◌, append_assoc, sym, ◌∙◌, ap, subst, refl, arith}
use Rattle.std.proofs.Common.{add_assoc, zero-add, Bool, IsTrue, Option, Some, None}
use Rattle.std.proofs.lemmas.List.{append-nil}
use Rattle.record_fields.specs.declared.versions.Version.{Version}
use Rattle.chain_disk.specs.OnDisk.{OnDisk, LeavesOnly, LeavesNow, moment}
use Rattle.chain_disk.specs.Runs.{follows, weaker, started_settled, leaves_now}
use Rattle.chain_lock.specs.Lists.{StartsWith}
use Rattle.chain_store.specs.Crashes.{StandsBetween}
use Rattle.chain_store.specs.Losing.{NeverLoses, none_lost, none_lost_in_both}
use Rattle.chain_store.specs.Ready.{IsReady, Holds}
use Rattle.shop_core.specs.File.Files.{StandsFor, StandsAround, StandsBeforeOrWith}
use Rattle.ports.specs.Causes.{Rose}
use Rattle.ports.specs.Readings.{MovedBy}
use Rattle.record_codec.specs.declared.entry.Entry.{Entry}
use Rattle.shop_core.specs.Legal.{Legal, Continues}
use Rattle.shop_core.specs.Prefix.{IsPrefix}
use Rattle.shop_core.specs.Answer.Replies.{Tells}
use Rattle.shop_core.specs.declared.answer.Planned.{Planned}
use Rattle.shop_core.specs.declared.answer.Planned.TheVariants.{Again, Refused, Made}
use Rattle.shop_core.specs.declared.answer.Reply.{Reply}
use Rattle.till_calls.specs.Root.{Root, Parts, with_torn, root_of}
use Rattle.till_calls.specs.InTurn.{ReadInTurn}
use Rattle.till_calls.proofs.Turning.{in_turn_more}
use Rattle.till_calls.specs.Sound.{Leaves, StampedSince, IsSound}

pub none_torn : (history : List Entry) (stopped : Option ℕ) (torn : Option Entry) → stopped ≡ None →
    with_torn history stopped torn ≡ history
none_torn history None torn e = refl
none_torn history (Some count) torn e = absurd cc

pub some_torn : (history : List Entry) (stopped : Option ℕ) (torn : Option Entry) (count : ℕ) (entry : Entry) →
    stopped ≡ Some count → torn ≡ Some entry →
    with_torn history stopped torn ≡ history ++ entry ∷ []
some_torn history stopped torn count entry e f = rw (e, f) refl

front_more : (start entries gained : List Entry) → StartsWith entries start → StartsWith (entries ++ gained) start
front_more start entries gained h = (h.0 ++ gained, ap (λ (es : List Entry). es ++ gained) h.1 ∙ append_assoc start h.0 gained)

prefix_more : (start entries gained : List Entry) → IsPrefix start entries → IsPrefix start (entries ++ gained)
prefix_more start entries gained h = record {
  rest = h.rest ++ gained;
  is = ap (λ (es : List Entry). es ++ gained) h.is ∙ append_assoc start h.rest gained;
}

front_all : (entries : List Entry) → StartsWith entries entries
front_all entries = ([], sym (append-nil entries))

prefix_all : (entries : List Entry) → IsPrefix entries entries
prefix_all entries = record { rest = []; is = sym (append-nil entries) }

between_more : (version : Version) (issuer : List ℕ) (start end gained : List Entry) (c : List ℕ) → StandsBetween version issuer start end c →
    StandsBetween version issuer start (end ++ gained) c
between_more version issuer start end gained c h = record {
  history = h.history;
  stands = h.stands;
  begins = h.begins;
  within = prefix_more h.history end gained h.within;
}

between_all : (version : Version) (issuer : List ℕ) (start entries gained : List Entry) (c : List ℕ) → StartsWith entries start →
    StandsFor version issuer entries c → StandsBetween version issuer start (entries ++ gained) c
between_all version issuer start entries gained c begins stands = record {
  history = entries;
  stands = stands;
  begins = record { rest = begins.0; is = begins.1 };
  within = prefix_more entries entries gained (prefix_all entries);
}

between_whole : (version : Version) (issuer : List ℕ) (start entries gained : List Entry) (c : List ℕ) → StartsWith entries start →
    StandsFor version issuer (entries ++ gained) c → StandsBetween version issuer start (entries ++ gained) c
between_whole version issuer start entries gained c begins stands = record {
  history = entries ++ gained;
  stands = stands;
  begins = prefix_more start entries gained (record { rest = begins.0; is = begins.1 });
  within = prefix_all (entries ++ gained);
}

pub between_with : (version : Version) (issuer : List ℕ) (start entries : List Entry) (entry : Entry) (c : List ℕ) → StartsWith entries start →
    StandsBeforeOrWith version issuer entries entry c →
    StandsBetween version issuer start (entries ++ entry ∷ []) c
between_with version issuer start entries entry c begins (inl before) = between_all version issuer start entries (entry ∷ []) c begins before
between_with version issuer start entries entry c begins (inr with_it) = between_whole version issuer start entries (entry ∷ []) c begins with_it

pub between_around : (version : Version) (issuer : List ℕ) (start entries gained : List Entry) (planned : Planned) (reply : Reply) (c : List ℕ) →
    StartsWith entries start → Tells entries planned reply gained →
    StandsAround version issuer entries planned c → StandsBetween version issuer start (entries ++ gained) c
between_around version issuer start entries gained (Again receipt) reply c begins tells stands = between_all version issuer start entries gained c
    begins stands
between_around version issuer start entries gained (Refused why) reply c begins tells stands = between_all version issuer start entries gained c
    begins stands
between_around version issuer start entries gained (Made entry) reply c begins tells stands =
    subst (λ (es : List Entry). StandsBetween version issuer start (entries ++ es) c) (sym tells.1) (between_with version issuer start entries
    entry c begins stands)

-- the clock after n readings more, the last entries being the gained ones
pub later_more : {C : Type 0} (coming : C → ℕ → Option ℕ) (root : Root C) (now next : C) (entries gained after : List Entry) (n : ℕ) →
    (h : StampedSince coming root now entries) → MovedBy n (coming now) (coming next) → after ≡ entries ++ gained →
    ReadInTurn (coming root.clock) h.number (h.number + n) entries gained → StampedSince coming root next after
later_more coming root now next entries gained after n h moved is turn = record {
  number = h.number + n;
  moved = λ k. moved k ∙ h.moved (n + k) ∙
      ap (coming root.clock) (sym (add_assoc h.number n k));
  since = h.since ++ gained;
  since_is = is ∙ ap (λ (es : List Entry). es ++ gained) h.since_is ∙ append_assoc root.history h.since gained;
  in_turn = in_turn_more (coming root.clock) 0 h.number (h.number + n) root.history h.since gained h.in_turn
      (subst (λ (es : List Entry). ReadInTurn (coming root.clock) h.number (h.number + n) es gained) h.since_is turn);
}

-- the clock as it was, and an entry that is no record, or none
pub later_same : {C : Type 0} (coming : C → ℕ → Option ℕ) (root : Root C) (now next : C) (entries gained after : List Entry) →
    (h : StampedSince coming root now entries) → next ≡ now → after ≡ entries ++ gained →
    ReadInTurn (coming root.clock) h.number h.number entries gained → StampedSince coming root next after
later_same {C = C} coming root now next entries gained after h e is turn =
    subst (λ (c : C). StampedSince coming root c after) (sym e) (record {
      number = h.number;
      moved = h.moved;
      since = h.since ++ gained;
      since_is = is ∙ ap (λ (es : List Entry). es ++ gained) h.since_is ∙ append_assoc root.history h.since gained;
      in_turn = in_turn_more (coming root.clock) 0 h.number h.number root.history h.since gained h.in_turn
          (subst (λ (es : List Entry). ReadInTurn (coming root.clock) h.number h.number es gained) h.since_is turn);
    })

module _ {D C : Type 0} (tells : Bool) (on_disk : D → OnDisk) (faults : D → ℕ) (coming : C → ℕ → Option ℕ) (root : Root C) where
  abbrev Sound : Parts D C → Type 0
  Sound p = IsSound tells on_disk faults coming root p

  -- the store goes on, with these entries more
  pub sound_gains : (p q : Parts D C) (gained : List Entry) (P : List ℕ → Type 0) → Sound p → p.stopped ≡ None →
      q.stopped ≡ None →
      IsReady tells q.state q.stopped q.gate (on_disk q.disk) → q.state.issuer ≡ p.state.issuer →
      q.state.version ≡ p.state.version → Legal q.state.version q.state.issuer q.state.entries →
      q.state.entries ≡ p.state.entries ++ gained →
      StampedSince coming root q.clock q.state.entries → (IsTrue tells → LeavesOnly (on_disk p.disk) (on_disk q.disk) P) →
      (IsTrue tells → NeverLoses (on_disk p.disk) (on_disk q.disk)) →
      ((c : List ℕ) → P c → StandsBetween root.version root.issuer root.history (p.state.entries ++ gained) c) →
      (IsTrue tells → LeavesNow (on_disk q.disk) (StandsFor q.state.version q.state.issuer q.state.entries)) → faults p.disk ≤ faults q.disk →
      Sound q
  sound_gains p q gained P s going goes ready issuer version legal entries clock only stays between now later = record {
    ready = ready;
    issuer = own;
    version = version ∙ s.version;
    legal = subst (λ (v : Version). Legal v root.issuer q.state.entries) (version ∙ s.version)
        (subst (λ (n : List ℕ). Legal q.state.version n q.state.entries) own legal);
    begins = subst (λ (es : List Entry). StartsWith es root.history) (sym entries) (front_more root.history p.state.entries gained
        s.begins);
    clock = clock;
    crashes = λ says. subst (λ (es : List Entry). Leaves root q.state.entries es (on_disk q.disk))
        (sym (none_torn q.state.entries q.stopped q.torn goes)) (record {
          since = subst (λ (es : List Entry). LeavesOnly root.on_disk (on_disk q.disk) (StandsBetween root.version root.issuer root.history es))
              (sym entries)
              (follows root.on_disk (on_disk p.disk) (on_disk q.disk) _ P _ (s.crashes says).since (only says) (λ c h. older c h) between);
          never_loses = none_lost_in_both root.on_disk (on_disk p.disk) (on_disk q.disk) (s.crashes says).never_loses (stays says);
          whole = λ c left. inl (subst (λ (v : Version). StandsFor v root.issuer q.state.entries c) (version ∙ s.version)
              (subst (λ (n : List ℕ). StandsFor q.state.version n q.state.entries c) own (now says c left)));
        });
    stop = λ count e. absurd (let x : ◌≡◌ {A = Option ℕ} None (Some count) = sym goes ∙ e in cc);
    later = omega (arith, s.later, later);
  }
    where
      own : q.state.issuer ≡ root.issuer
      own = issuer ∙ s.issuer

      older : (c : List ℕ) → StandsBetween root.version root.issuer root.history (with_torn p.state.entries p.stopped p.torn) c →
          StandsBetween root.version root.issuer root.history (p.state.entries ++ gained) c
      older c h = between_more root.version root.issuer root.history p.state.entries gained c
          (subst (λ (es : List Entry). StandsBetween root.version root.issuer root.history es c) (none_torn p.state.entries p.stopped p.torn
          going) h)

  -- the disk was not called
  pub sound_stays : (p q : Parts D C) → Sound p → p.stopped ≡ None → q.stopped ≡ None → q.disk ≡ p.disk →
      IsReady tells q.state q.stopped q.gate (on_disk q.disk) → q.state.issuer ≡ p.state.issuer →
      q.state.version ≡ p.state.version → q.state.entries ≡ p.state.entries →
      StampedSince coming root q.clock q.state.entries → Sound q
  sound_stays p q s going goes disk ready issuer version entries clock = record {
    ready = ready;
    issuer = issuer ∙ s.issuer;
    version = version ∙ s.version;
    legal = subst (λ (es : List Entry). Legal root.version root.issuer es) (sym entries) s.legal;
    begins = subst (λ (es : List Entry). StartsWith es root.history) (sym entries) s.begins;
    clock = clock;
    crashes = λ says.
        let same : with_torn q.state.entries q.stopped q.torn ≡ with_torn p.state.entries p.stopped p.torn =
        none_torn q.state.entries q.stopped q.torn goes ∙ entries ∙ sym (none_torn p.state.entries p.stopped p.torn going) in
        subst (λ (es : List Entry). Leaves root q.state.entries es (on_disk q.disk)) (sym same)
        (subst (λ (d : D). Leaves root q.state.entries (with_torn p.state.entries p.stopped p.torn) (on_disk d)) (sym disk)
        (subst (λ (es : List Entry). Leaves root es (with_torn p.state.entries p.stopped p.torn) (on_disk p.disk)) (sym entries)
        (s.crashes says)));
    stop = λ count e. absurd (let x : ◌≡◌ {A = Option ℕ} None (Some count) = sym goes ∙ e in cc);
    later = subst (λ (d : D). root.faults ≤ faults d) (sym disk) s.later;
  }

  -- the disk failed while an entry was added
  pub sound_stops : (p q : Parts D C) (entry : Entry) (count : ℕ) → Sound p → p.stopped ≡ None → q.stopped ≡ Some count →
      q.torn ≡ Some entry → count ≡ faults q.disk →
      IsReady tells q.state q.stopped q.gate (on_disk q.disk) → q.state.issuer ≡ p.state.issuer →
      q.state.version ≡ p.state.version → q.state.entries ≡ p.state.entries →
      Continues p.state.version p.state.issuer p.state.entries entry →
      StampedSince coming root q.clock q.state.entries → (IsTrue tells → LeavesOnly (on_disk p.disk) (on_disk q.disk)
      (StandsBeforeOrWith p.state.version p.state.issuer p.state.entries entry)) →
      (IsTrue tells → NeverLoses (on_disk p.disk) (on_disk q.disk)) →
      Rose (faults p.disk) (faults q.disk) → faults p.disk ≤ faults q.disk → Sound q
  sound_stops p q entry count s going stopped torn count_is ready issuer version entries continues clock only stays rose later =
      record {
        ready = ready;
        issuer = issuer ∙ s.issuer;
        version = version ∙ s.version;
        legal = subst (λ (es : List Entry). Legal root.version root.issuer es) (sym entries) s.legal;
        begins = subst (λ (es : List Entry). StartsWith es root.history) (sym entries) s.begins;
        clock = clock;
        crashes = λ says.
            let here = only says in
            let whole : with_torn q.state.entries q.stopped q.torn ≡ p.state.entries ++ entry ∷ [] =
            some_torn q.state.entries q.stopped q.torn count entry stopped torn ∙ ap (λ (es : List Entry). es ++ entry ∷ []) entries
            in
            subst (λ (es : List Entry). Leaves root q.state.entries es (on_disk q.disk)) (sym whole)
            (subst (λ (es : List Entry). Leaves root es (p.state.entries ++ entry ∷ []) (on_disk q.disk)) (sym entries) (record {
              since = follows root.on_disk (on_disk p.disk) (on_disk q.disk) _ _ _ (s.crashes says).since here (λ c h. older c h)
                  (λ c h. between_with root.version root.issuer root.history p.state.entries entry c s.begins (own c h));
              never_loses = none_lost_in_both root.on_disk (on_disk p.disk) (on_disk q.disk) (s.crashes says).never_loses (stays says);
              whole = λ c left. own c (here.each (moment (on_disk q.disk)) c here.later left);
            }));
        stop = λ other e. record {
          torn = entry;
          torn_is = torn;
          continues = subst (λ (es : List Entry). Continues root.version root.issuer es entry) (sym entries)
              (subst (λ (v : Version). Continues v root.issuer p.state.entries entry) s.version
              (subst (λ (n : List ℕ). Continues p.state.version n p.state.entries entry) s.issuer continues));
          rose = let same : other ≡ count = (let x : ◌≡◌ {A = Option ℕ} (Some other) (Some count) = sym e ∙ stopped in cc) in
              rose_of other same;
          within = let same : other ≡ count = (let x : ◌≡◌ {A = Option ℕ} (Some other) (Some count) = sym e ∙ stopped in cc) in
              omega (arith, same, count_is);
        };
        later = omega (arith, s.later, later);
      }
    where
      own : (c : List ℕ) → StandsBeforeOrWith p.state.version p.state.issuer p.state.entries entry c → StandsBeforeOrWith root.version root.issuer
          p.state.entries entry c
      own c h = subst (λ (v : Version). StandsBeforeOrWith v root.issuer p.state.entries entry c) s.version
          (subst (λ (n : List ℕ). StandsBeforeOrWith p.state.version n p.state.entries entry c) s.issuer h)

      older : (c : List ℕ) → StandsBetween root.version root.issuer root.history (with_torn p.state.entries p.stopped p.torn) c →
          StandsBetween root.version root.issuer root.history (p.state.entries ++ entry ∷ []) c
      older c h = between_more root.version root.issuer root.history p.state.entries (entry ∷ []) c
          (subst (λ (es : List Entry). StandsBetween root.version root.issuer root.history es c) (none_torn p.state.entries p.stopped p.torn
          going) h)

      rose_of : (other : ℕ) → other ≡ count → Rose root.faults other
      rose_of other same = λ small. let strict = rose in omega (
        arith,
        same,
        count_is,
        s.later,
        strict (omega (arith, small, same, count_is)),
      )

-- a store that begins
module _ {D C : Type 0} (tells : Bool) (on_disk : D → OnDisk) (faults : D → ℕ) (coming : C → ℕ → Option ℕ) where
  pub sound_at_start : (p : Parts D C) → p.stopped ≡ None → IsReady tells p.state p.stopped p.gate (on_disk p.disk) →
      Legal p.state.version p.state.issuer p.state.entries →
      IsSound tells on_disk faults coming (root_of on_disk faults p) p
  sound_at_start p going ready legal = record {
    ready = ready;
    issuer = refl;
    version = refl;
    legal = legal;
    begins = front_all p.state.entries;
    clock = record {
      number = 0;
      moved = λ k. ap (coming p.clock) (sym (zero-add k));
      since = [];
      since_is = sym (append-nil p.state.entries);
      in_turn = omega arith;
    };
    crashes = λ says.
        let holds : Holds p.state p.gate (on_disk p.disk) = ready.holds going says in
        let stands : StandsFor p.state.version p.state.issuer p.state.entries (on_disk p.disk).content = record {
          frames = holds.file.file;
          encoded = holds.encoded;
          legal = legal;
        } in
        subst (λ (es : List Entry). Leaves (root_of on_disk faults p) p.state.entries es (on_disk p.disk))
        (sym (none_torn p.state.entries p.stopped p.torn going)) (record {
          since = weaker (on_disk p.disk) (on_disk p.disk) (StandsFor p.state.version p.state.issuer p.state.entries) _ (started_settled (on_disk p.disk)
              (StandsFor p.state.version p.state.issuer p.state.entries) holds.file.nothing_pending stands)
              (λ c h. record {
                history = p.state.entries;
                stands = h;
                begins = prefix_all p.state.entries;
                within = prefix_all p.state.entries;
              });
          never_loses = none_lost (on_disk p.disk);
          whole = λ c left. inl (leaves_now (on_disk p.disk) (StandsFor p.state.version p.state.issuer p.state.entries) holds.file.nothing_pending
              stands c left);
        });
    stop = λ count e. absurd (let x : ◌≡◌ {A = Option ℕ} None (Some count) = sym going ∙ e in cc);
    later = omega arith;
  }
