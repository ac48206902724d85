-- What a drain over a store and its standby leaves of both.
use Rattle.std.proofs.Common.{◌≡◌, ◌∙◌, ◌⊎◌, inl, inr, refl, sym, ap, subst, subst₂, arith, ℕ, ◌≤◌, List, [], ◌∷◌, ◌++◌}
use Rattle.std.proofs.Common.{append-nil, Bool, false, IsTrue, Option, Some, None}
use Rattle.std.specs.Prelude.{IsSome}
use Rattle.std.specs.List.{AllByRecursion}
use Rattle.chain_disk.specs.OnDisk.{IsImage, OnDisk}
use Rattle.chain_disk.specs.Runs.{leaves_now, started, weaker}
use Rattle.chain_store.specs.Crashes.{StandsBetween, StandsForEnd, StandsUpTo}
use Rattle.chain_store.specs.Losing.{none_lost}
use Rattle.chain_store.specs.Ready.{Holds, IsReady}
use Rattle.huella.specs.Linked.{Linked}
use Rattle.once_world.specs.Agreement.{Agree}
use Rattle.ports.specs.Causes.{Rose}
use Rattle.agency_rules.specs.declared.plans.Plan.{Plan}
use Rattle.record_codec.specs.declared.entry.Entry.{Entry}
use Rattle.record_codec.specs.declared.entry.Entry.TheVariants.{Notes, Rec}
use Rattle.record_fields.specs.declared.versions.Version.{Version}
use Rattle.sender.specs.Turning.{AgencyState}
use Rattle.shop_core.specs.File.Files.{StandsFor}
use Rattle.shop_core.specs.History.{is_record, recs}
use Rattle.shop_core.specs.Legal.{Legal}
use Rattle.shop_core.specs.Prefix.{IsPrefix}
use Rattle.standby.specs.Chains.{ChainOnDisk, GoesTo, IsSoundChain, StandsForEither, longest, with_torn}
use Rattle.standby.specs.Pairs.{AddsNotes, AreBeside, Both, IsPair, first_stop, stop_of}
use Rattle.shop_drain.specs.Draining.{AddsNotesAlone, AgreesInFile, Beginning, DiskSpan, IsSession, IsUnopened, Span}
use Rattle.shop_drain.specs.Draining.{StillAgrees, torn_in}
use Rattle.sender_session.specs.Session.{AreNotesEntry, IsDiskAnswer}
use Rattle.shop_drain.specs.Guarding.{AreHeld, ChainDrained, GuardDrains, Held, first_torn, held_by}
use Rattle.sender_session.specs.Noting.{NotesWhatIsSaid}

front_same : (entries : List Entry) → IsPrefix entries entries
front_same entries = record { rest = []; is = sym (append-nil entries) }

-- ---- one chain

longest_torn : (entries : List Entry) (stopped : Option ℕ) (torn : Option Entry) →
    with_torn entries stopped torn ≡ entries ++ torn_in stopped torn
longest_torn entries None torn = sym (append-nil entries)
longest_torn entries (Some n) None = sym (append-nil entries)
longest_torn entries (Some n) (Some t) = refl

longest_going : (entries : List Entry) (stopped : Option ℕ) (torn : Option Entry) → stopped ≡ None →
    with_torn entries stopped torn ≡ entries
longest_going entries None torn e = refl
longest_going entries (Some n) torn e = absurd cc

pub none_torn : (stopped : Option ℕ) (torn : Option Entry) → stopped ≡ None → torn_in stopped torn ≡ []
none_torn None torn e = refl
none_torn (Some n) torn e = absurd cc

each_notes : (more : List Entry) → AllByRecursion (λ (entry : Entry). is_record entry ≡ false) more →
    AllByRecursion AreNotesEntry more
each_notes [] h = tt
each_notes (Rec till serial sealed ∷ more) h = absurd (let e = h.0 in cc)
each_notes (Notes first lines ∷ more) h = (tt, each_notes more h.1)

pub notes_came : (before after : List Entry) → AddsNotes before after → AddsNotesAlone before after
notes_came before after a = record { more = a.more; is = a.is; are = each_notes a.more a.are }

-- where the agency agrees: with this history, and with the torn notes
abbrev pub AgreesWith : Held → AgencyState → Type 0
AgreesWith h agency_state = Agree h.entries agency_state.ledger.processed agency_state.ledger.sent
    × Agree (h.entries ++ h.torn) agency_state.ledger.processed agency_state.ledger.sent

module _ {D : Type 0} (tells : Bool) (on_disk : D → OnDisk) (faults : D → ℕ) where
  abbrev IsSoundOne : ChainOnDisk D → Type 0
  IsSoundOne c = IsSoundChain tells on_disk faults c

  -- a ready chain that goes on is sound
  pub sound_ready : (c : ChainOnDisk D) → c.stopped ≡ None → IsReady tells c.history c.stopped c.gate (on_disk c.disk) →
      Legal c.history.version c.history.issuer c.history.entries → IsSoundOne c
  sound_ready c going ready legal = record {
    ready = ready;
    legal = legal;
    images = λ says.
        let holds : Holds c.history c.gate (on_disk c.disk) = ready.holds going says in
        let stands : StandsFor c.history.version c.history.issuer c.history.entries (on_disk c.disk).content = record {
          frames = holds.file.file;
          encoded = holds.encoded;
          legal = legal;
        } in
        leaves_now (on_disk c.disk) (StandsForEither c.history.version c.history.issuer c.history.entries (longest c))
        holds.file.nothing_pending (inl stands);
    stop = λ count e. absurd (let x : ◌≡◌ {A = Option ℕ} None (Some count) = sym going ∙ e in cc);
  }

  -- no call leads from one that goes on to itself
  pub goes_nowhere : (c : ChainOnDisk D) → c.stopped ≡ None → IsSoundOne c → GoesTo tells on_disk faults c c
  goes_nowhere c going sound =
      let none = longest_going c.history.entries c.stopped c.torn going in
      record {
        issuer = refl;
        version = refl;
        begins = front_same c.history.entries;
        longer = front_same (longest c);
        since = λ says. started (on_disk c.disk)
            (StandsBetween c.history.version c.history.issuer c.history.entries (longest c))
            (λ file image. between file none (sound.images says file (inl (refl, image))));
        never_loses = λ says. none_lost (on_disk c.disk);
        later = omega arith;
      }
    where
      between : (file : List ℕ) → longest c ≡ c.history.entries →
          StandsForEither c.history.version c.history.issuer c.history.entries (longest c) file →
          StandsBetween c.history.version c.history.issuer c.history.entries (longest c) file
      between file none (inl h) = record {
        history = c.history.entries;
        stands = h;
        begins = front_same c.history.entries;
        within = record { rest = []; is = none ∙ sym (append-nil c.history.entries) };
      }
      between file none (inr h) = record {
        history = longest c;
        stands = h;
        begins = record { rest = []; is = none ∙ sym (append-nil c.history.entries) };
        within = front_same (longest c);
      }

  rose_by : (old new : ChainOnDisk D) (count : ℕ) → Rose (faults old.disk) count → count ≤ faults new.disk →
      Rose (faults old.disk) (faults new.disk)
  rose_by old new count rose within below = let strict = rose (omega (arith, below, within)) in omega (arith, strict, within)

  -- a stop of one since the other is a fault of its disk
  abbrev pub StopsByFault : ChainOnDisk D → ChainOnDisk D → Type 0
  StopsByFault old new = (count : ℕ) → new.stopped ≡ Some count → Rose (faults old.disk) count

  pub stopped_rose : (old new : ChainOnDisk D) → IsSoundOne new → StopsByFault old new → (count : ℕ) →
      new.stopped ≡ Some count → Rose (faults old.disk) (faults new.disk)
  stopped_rose old new sound stops count is = rose_by old new count (stops count is) (sound.stop count is).within

  torn_rose : (old new : ChainOnDisk D) → IsSoundOne new → StopsByFault old new → (o : Option ℕ) → new.stopped ≡ o →
      (torn_in o new.torn ≡ []) ⊎ Rose (faults old.disk) (faults new.disk)
  torn_rose old new sound stops None is = inl refl
  torn_rose old new sound stops (Some count) is = inr (stopped_rose old new sound stops count is)

  abbrev pub span_of : ChainOnDisk D → ChainOnDisk D → DiskSpan
  span_of old new = record {
    tells = tells;
    since = on_disk old.disk;
    now = on_disk new.disk;
    faults = faults old.disk;
    faults_after = faults new.disk;
  }

  module _ (version : Version) (issuer : List ℕ) (old new : ChainOnDisk D) where
    -- what led from one to the other drained it
    pub chain_drained : (d : Span) (start : List Entry) → new.history.version ≡ version → new.history.issuer ≡ issuer →
        old.history.entries ≡ start → IsSoundOne new → GoesTo tells on_disk faults old new → StopsByFault old new →
        AddsNotesAlone start new.history.entries → (IsTrue tells → IsImage (on_disk new.disk).now (on_disk new.disk).content) →
        ((v : Version) (i : List ℕ) (es : List Entry) → Legal v i es → Linked i (recs es)) →
        (IsTrue d.kind.tells → NotesWhatIsSaid start new.history.entries d.old.ledger.messages d.new.ledger.messages) →
        (StillAgrees d → AgreesWith (held_by new) d.new) →
        ChainDrained (StandsUpTo version issuer) version issuer start (held_by new) (span_of old new) d
    chain_drained d start v i s sound goes stops notes image linked said agrees = record {
      notes = notes;
      said = said;
      legal = legal;
      linked = linked version issuer new.history.entries legal;
      kept = λ says. record {
        each_moment = weaker (on_disk old.disk) (on_disk new.disk) _ _ (goes.since says) up_to;
        never_loses = goes.never_loses says;
        every_crash = λ file left. either file (sound.images says file left);
        reads = either (on_disk new.disk).content (sound.images says (on_disk new.disk).content (inl (refl, image says)));
      };
      images = λ says still file left. in_file (agrees still) file (either file (sound.images says file left));
      torn_risen = torn_rose old new sound stops new.stopped refl;
      later = goes.later;
    }
      where
        legal : Legal version issuer new.history.entries
        legal = subst₂ (λ (w : Version) (n : List ℕ). Legal w n new.history.entries) v i sound.legal

        longest_is : longest new ≡ new.history.entries ++ torn_in new.stopped new.torn
        longest_is = longest_torn new.history.entries new.stopped new.torn

        up_to : (file : List ℕ) → StandsBetween old.history.version old.history.issuer old.history.entries (longest new) file →
            StandsUpTo version issuer start new.history.entries (torn_in new.stopped new.torn) file
        up_to file h = record {
          history = h.history;
          stands = subst₂ (λ (w : Version) (n : List ℕ). StandsFor w n h.history file) (sym goes.version ∙ v) (sym goes.issuer ∙ i)
              h.stands;
          begins = record { rest = h.begins.rest; is = h.begins.is ∙ ap (λ (es : List Entry). es ++ h.begins.rest) s };
          within = record { rest = h.within.rest; is = sym longest_is ∙ h.within.is };
        }

        either : (file : List ℕ) →
            StandsForEither new.history.version new.history.issuer new.history.entries (longest new) file →
            StandsForEnd version issuer new.history.entries (torn_in new.stopped new.torn) file
        either file (inl h) = inl (subst₂ (λ (w : Version) (n : List ℕ). StandsFor w n new.history.entries file) v i h)
        either file (inr h) = inr (subst₂ (λ (w : Version) (n : List ℕ). StandsFor w n
            (new.history.entries ++ torn_in new.stopped new.torn) file) v i
            (subst (λ (es : List Entry). StandsFor new.history.version new.history.issuer es file) longest_is h))

        in_file : AgreesWith (held_by new) d.new → (file : List ℕ) →
            StandsForEnd version issuer new.history.entries (torn_in new.stopped new.torn) file →
            AgreesInFile version issuer d.new file
        in_file a file (inl h) = (_, h, a.0)
        in_file a file (inr h) = (_, h, a.1)

-- ---- both

-- what each has, by which of them has stopped
held_beside : (one other : Option ℕ) (torn others : Option Entry) (shop standby : List Entry) →
    AreBeside one shop other others standby →
    AreHeld standby (torn_in (first_stop one other) (first_torn one torn others))
    (record { entries = shop; torn = torn_in one torn }) (record { entries = standby; torn = torn_in other others })
held_beside None None torn others shop standby h = record { copy_is = refl; file_is = inl (h, refl, refl) }
held_beside (Some n) None torn others shop standby h = record { copy_is = refl; file_is = inl (h, refl, refl) }
held_beside None (Some n) torn others shop standby h = record {
  copy_is = refl;
  file_is = inr (
    h.is ∙ ap (λ (o : Option Entry). standby ++ torn_in (Some n) o) (sym h.torn_is),
    refl,
    refl,
  );
}
held_beside (Some n) (Some m) torn others shop standby h = absurd h

abbrev AgreesAt : AgencyState → List Entry → Type 0
AgreesAt agency_state entries = Agree entries agency_state.ledger.processed agency_state.ledger.sent

-- where the agency agrees with what both hold, and with that and the torn notes, it does with what each has
pub file_agrees : (end torn : List Entry) (file copy : Held) (agency_state : AgencyState) → AreHeld end torn file copy → AgreesAt agency_state end →
    AgreesAt agency_state (end ++ torn) → AgreesWith file agency_state
file_agrees end torn file copy agency_state held whole more = elim held.file_is [
  | inl h ↦ (
    subst (λ (es : List Entry). AgreesAt agency_state es) (sym h.0) whole,
    subst (λ (es : List Entry). AgreesAt agency_state es)
        (sym (ap (λ (es : List Entry). es ++ file.torn) h.0 ∙ ap (λ (es : List Entry). end ++ es) h.1)) more,
  )
  | inr h ↦ (
    subst (λ (es : List Entry). AgreesAt agency_state es) (sym h.0) more,
    subst (λ (es : List Entry). AgreesAt agency_state es)
        (sym (ap (λ (es : List Entry). file.entries ++ es) h.1 ∙ append-nil file.entries ∙ h.0)) more,
  )
]

copy_agrees : (end torn : List Entry) (file copy : Held) (agency_state : AgencyState) → AreHeld end torn file copy → AgreesAt agency_state end →
    AgreesAt agency_state (end ++ torn) → AgreesWith copy agency_state
copy_agrees end torn file copy agency_state held whole more = (
  subst (λ (es : List Entry). AgreesAt agency_state es) (sym held.copy_is) whole,
  elim held.file_is [
    | inl h ↦ subst (λ (es : List Entry). AgreesAt agency_state es)
        (sym (ap (λ (es : List Entry). copy.entries ++ es) h.2 ∙ append-nil copy.entries ∙ held.copy_is)) whole
    | inr h ↦ subst (λ (es : List Entry). AgreesAt agency_state es)
        (sym (ap (λ (es : List Entry). es ++ copy.torn) held.copy_is ∙ ap (λ (es : List Entry). end ++ es) h.2)) more
  ],
)

beside_none : (one other : Option ℕ) (others : Option Entry) (shop standby : List Entry) → one ≡ None → other ≡ None →
    shop ≡ standby → AreBeside one shop other others standby
beside_none None None others shop standby e f h = h
beside_none (Some n) other others shop standby e f h = absurd cc
beside_none None (Some n) others shop standby e f h = absurd cc

pub none_first : (one other : Option ℕ) → one ≡ None → other ≡ None → first_stop one other ≡ None
none_first one other e f = rw (e, f) refl

never_stops : (o : Option ℕ) (P : Type 0) (count : ℕ) → o ≡ None → o ≡ Some count → P
never_stops o P count e f = absurd (let x : ◌≡◌ {A = Option ℕ} None (Some count) = sym e ∙ f in cc)

module _ {D C M : Type 0} (tells : Bool) (on_disk : D → OnDisk) (faults : D → ℕ) (others_tell : Bool) (others_on_disk : M → OnDisk)
    (others_faults : M → ℕ) where
  abbrev IsOne : Both D C M → Both D C M → Type 0
  IsOne start present = IsPair tells on_disk faults others_tell others_on_disk others_faults start present

  -- two with the same history that go on are a pair at its start
  pub pair_first : (b : Both D C M) → b.shop.stopped ≡ None → b.standby.stopped ≡ None →
      IsSoundChain tells on_disk faults b.shop → IsSoundChain others_tell others_on_disk others_faults b.standby →
      b.standby.history.issuer ≡ b.shop.history.issuer → b.standby.history.version ≡ b.shop.history.version →
      b.standby.history.entries ≡ b.shop.history.entries → IsOne b b
  pair_first b one other shop standby issuer version equal = record {
    shop = shop;
    shop_goes = goes_nowhere tells on_disk faults b.shop one shop;
    standby = standby;
    standby_goes = goes_nowhere others_tell others_on_disk others_faults b.standby other standby;
    clock = refl;
    issuer = issuer;
    version = version;
    equal = equal;
    beside = beside_none b.shop.stopped b.standby.stopped b.standby.torn b.shop.history.entries b.standby.history.entries one
        other (sym equal);
    notes = record { more = []; is = sym (append-nil b.shop.history.entries); are = tt };
    shop_rose = λ count e. never_stops b.shop.stopped _ count one e;
    standby_rose = λ count e. never_stops b.standby.stopped _ count other e;
  }

  module _ (start present : Both D C M) (p : IsOne start present) where
    abbrev torn : List Entry
    torn = torn_in (stop_of present) (first_torn present.shop.stopped present.shop.torn present.standby.torn)

    pub pair_held : AreHeld present.standby.history.entries torn (held_by present.shop) (held_by present.standby)
    pair_held = held_beside present.shop.stopped present.standby.stopped present.shop.torn present.standby.torn
        present.shop.history.entries present.standby.history.entries p.beside

    pair_rose : IsSome (stop_of present) → Rose (faults start.shop.disk) (faults present.shop.disk)
        ⊎ Rose (others_faults start.standby.disk) (others_faults present.standby.disk)
    pair_rose some = by_case present.shop.stopped present.standby.stopped refl refl some
      where
        by_case : (one other : Option ℕ) → present.shop.stopped ≡ one → present.standby.stopped ≡ other →
            IsSome (first_stop one other) → Rose (faults start.shop.disk) (faults present.shop.disk)
            ⊎ Rose (others_faults start.standby.disk) (others_faults present.standby.disk)
        by_case (Some n) other e f is = inl (stopped_rose tells on_disk faults start.shop present.shop p.shop p.shop_rose n e)
        by_case None (Some n) e f is = inr (stopped_rose others_tell others_on_disk others_faults start.standby present.standby
            p.standby p.standby_rose n f)
        by_case None None e f is = absurd cc

    -- what led from the start to the present drained both
    pub guard_drains : (begun : Beginning) (plan : Plan) (d : Span) → d.start ≡ start.shop.history.entries →
        d.end ≡ present.standby.history.entries → d.torn ≡ torn → IsUnopened d ⊎ IsSession begun plan d →
        AddsNotesAlone d.start d.end → (IsDiskAnswer d.answer → IsSome (stop_of present)) →
        (IsTrue tells → IsImage (on_disk present.shop.disk).now (on_disk present.shop.disk).content) →
        (IsTrue others_tell → IsImage (others_on_disk present.standby.disk).now (others_on_disk present.standby.disk).content) →
        ((v : Version) (i : List ℕ) (es : List Entry) → Legal v i es → Linked i (recs es)) →
        (IsTrue d.kind.tells → NotesWhatIsSaid d.start present.shop.history.entries d.old.ledger.messages
        d.new.ledger.messages) →
        (IsTrue d.kind.tells → NotesWhatIsSaid d.start present.standby.history.entries d.old.ledger.messages
        d.new.ledger.messages) →
        GuardDrains (StandsUpTo start.shop.history.version start.shop.history.issuer)
        (StandsUpTo start.shop.history.version start.shop.history.issuer) begun plan start.shop.history.version
        start.shop.history.issuer
        (span_of tells on_disk faults start.shop present.shop)
        (span_of others_tell others_on_disk others_faults start.standby present.standby) d (held_by present.shop) (held_by present.standby)
    guard_drains begun plan d first end torn_is session notes stopped image others linked file_said copy_said =
        let version = start.shop.history.version in
        let issuer = start.shop.history.issuer in
        let held : AreHeld d.end d.torn (held_by present.shop) (held_by present.standby) =
        subst₂ (λ (e : List Entry) (t : List Entry). AreHeld e t (held_by present.shop) (held_by present.standby)) (sym end)
        (sym torn_is) pair_held in
        record {
          session = session;
          shop = chain_drained tells on_disk faults version issuer start.shop present.shop d d.start p.shop_goes.version
              p.shop_goes.issuer (sym first) p.shop p.shop_goes p.shop_rose
              (subst (λ (es : List Entry). AddsNotesAlone es present.shop.history.entries) (sym first)
              (notes_came start.shop.history.entries present.shop.history.entries p.notes)) image linked file_said
              (λ still. file_agrees d.end d.torn (held_by present.shop) (held_by present.standby) d.new held still.whole
              still.torn);
          standby = chain_drained others_tell others_on_disk others_faults version issuer start.standby present.standby d d.start
              (p.version ∙ p.shop_goes.version) (p.issuer ∙ p.shop_goes.issuer) (p.equal ∙ sym first) p.standby p.standby_goes
              p.standby_rose (subst (λ (es : List Entry). AddsNotesAlone d.start es) end notes) others linked copy_said
              (λ still. copy_agrees d.end d.torn (held_by present.shop) (held_by present.standby) d.new held still.whole
              still.torn);
          ahead = held;
          risen = λ disk. pair_rose (stopped disk);
        }
