-- A shop that begins over a store is sound against its own start.
use Rattle.std.proofs.Common.{◌≡◌, ◌∙◌, refl, inl, List, [], ◌++◌, length, append-nil, sym, ap, subst, arith, zero-add, Bool, ℕ}
use Rattle.std.proofs.Common.{Option, Some, None, Result, Err, OnOk}
use Rattle.std.specs.List.{AllByRecursion}
use Rattle.chain_disk.specs.OnDisk.{OnDisk}
use Rattle.chain_disk.specs.Runs.{weaker, started_settled, leaves_now}
use Rattle.chain_lock.specs.Lists.{StartsWith}
use Rattle.chain_store.specs.Losing.{none_lost}
use Rattle.chain_store.specs.Ready.{IsReady, Holds}
use Rattle.record_codec.specs.declared.entry.Entry.{Entry}
use Rattle.shop_core.specs.File.Files.{StandsFor}
use Rattle.shop_core.specs.Legal.{Legal}
use Rattle.shop_core.specs.History.{recs, noted}
use Rattle.once_world.specs.Agreement.{Agree}
use Rattle.sender.specs.declared.answers.DrainFault.{DrainFault}
use Rattle.sender.specs.declared.answers.DrainFault.TheVariants as drain
use Rattle.sender.specs.Turning.{AgencyState}
use Rattle.till_calls.specs.Root.{Parts, with_torn, root_of}
use Rattle.till_calls.specs.Sound.{IsLater, IsSound, Leaves}
use Rattle.sender_session.specs.Session.{AreOfChain, AreNotesEntry}
use Rattle.shop_drain.specs.Draining.{AddsNotesAlone, Sends, Span}
use Rattle.sender_session.specs.Noting.{AreNoted, TornSaid}
use Rattle.sender_session.specs.Steps.{EndsBy, at_start}

pub none_torn : (history : List Entry) (stopped : Option ℕ) (torn : Option Entry) → stopped ≡ None →
    with_torn history stopped torn ≡ history
none_torn history None torn e = refl
none_torn history (Some count) torn e = absurd cc

front_all : (entries : List Entry) → StartsWith entries entries
front_all entries = ([], sym (append-nil entries))

pub not_later : {C : Type 0} (coming : C → ℕ → Option ℕ) (start now : C) → now ≡ start → IsLater coming start now
not_later coming start now same = record {
  number = 0;
  moved = λ k. ap (λ c. coming c k) same ∙ ap (coming start)
      (sym (zero-add k));
}

module _ {D C : Type 0} (tells : Bool) (on_disk : D → OnDisk) (faults : D → ℕ) (coming : C → ℕ → Option ℕ) where
  pub sound_at_start : (p : Parts D C) → p.stopped ≡ None → IsReady tells p.state p.stopped p.gate (on_disk p.disk) →
      Legal p.state.version p.state.issuer p.state.entries → IsSound tells on_disk faults coming (root_of on_disk faults p) p
  sound_at_start p going ready legal = record {
    ready = ready;
    issuer = refl;
    version = refl;
    legal = legal;
    begins = front_all p.state.entries;
    clock = record {
      number = 0;
      moved = λ k. ap (coming p.clock) (sym (zero-add k));
      since = [];
      since_is = sym (append-nil p.state.entries);
      in_turn = omega arith;
    };
    crashes = λ says.
        let holds : Holds p.state p.gate (on_disk p.disk) = ready.holds going says in
        let stands : StandsFor p.state.version p.state.issuer p.state.entries (on_disk p.disk).content = record {
          frames = holds.file.file;
          encoded = holds.encoded;
          legal = legal;
        } in
        subst (λ (es : List Entry). Leaves (root_of on_disk faults p) p.state.entries es (on_disk p.disk))
        (sym (none_torn p.state.entries p.stopped p.torn going)) (record {
          since = weaker (on_disk p.disk) (on_disk p.disk) (StandsFor p.state.version p.state.issuer p.state.entries) _ (started_settled (on_disk p.disk)
              (StandsFor p.state.version p.state.issuer p.state.entries) holds.file.nothing_pending stands)
              (λ c h. record {
                history = p.state.entries;
                stands = h;
                begins = record { rest = []; is = sym (append-nil p.state.entries) };
                within = record { rest = []; is = sym (append-nil p.state.entries) };
              });
          never_loses = none_lost (on_disk p.disk);
          whole = λ c left. inl (leaves_now (on_disk p.disk) (StandsFor p.state.version p.state.issuer p.state.entries) holds.file.nothing_pending
              stands c left);
        });
    stop = λ count e. absurd (let x : ◌≡◌ {A = Option ℕ} None (Some count) = sym going ∙ e in cc);
    later = omega arith;
  }

-- what a drain leaves for which there was no memory
pub nothing_sent : (d : Span) → d.end ≡ d.start → d.torn ≡ [] → d.new ≡ d.old → d.turns ≡ [] → d.answer ≡ Err drain.NoMemory →
    Sends d
nothing_sent d end untorn same silent lacking = record {
  notes = record { more = []; is = end ∙ sym (append-nil d.start); are = tt };
  torn_notes = subst (λ (es : List Entry). AllByRecursion AreNotesEntry es) (sym untorn) tt;
  at_most_one = let e = ap length untorn in omega (arith, e);
  all_noted = subst (λ (r : Result (Unit {0}) DrainFault). OnOk r (length (noted d.end) ≡ length (recs d.end))) (sym lacking) tt;
  steps = record {
    going = [];
    last = [];
    one = omega arith;
    are = tt;
    go_on = tt;
    told = inl silent;
    messages = λ tells. ap (λ (k : AgencyState). k.ledger.messages) same ∙ sym (append-nil d.old.ledger.messages);
    noted = ap (λ (es : List Entry). length (noted es)) end;
    few = omega arith;
    links = λ below. let e = ap (λ (k : AgencyState). k.faults) same in omega (arith, e);
    ends = subst (λ (r : Result (Unit {0}) DrainFault). EndsBy (recs d.start) (at_start (length (noted d.start)) d.moment) 0
        (length (noted d.end)) [] r) (sym lacking) tt;
  };
  torn_told = inl untorn;
  lines = λ tells. record {
    session = [];
    is = ap (λ (k : AgencyState). k.ledger.messages) same ∙ sym (append-nil d.old.ledger.messages);
    of_waiting = tt;
    lines = subst (λ (r : Result (Unit {0}) DrainFault). AreNoted (noted d.start) (noted d.end) [] r) (sym lacking)
        (inl (ap (λ (es : List Entry). noted es) end ∙ sym (append-nil (noted d.start))));
  };
  torn_lines = λ tells. subst (λ (es : List Entry). AllByRecursion (TornSaid d.end d.new.ledger.messages) es) (sym untorn) tt;
  agreement = λ keeps agree.
      let here : Agree d.start d.new.ledger.processed d.new.ledger.sent = subst (λ (k : AgencyState). Agree d.start k.ledger.processed
      k.ledger.sent) (sym same) agree in
      let there : Agree d.end d.new.ledger.processed d.new.ledger.sent =
      subst (λ (es : List Entry). Agree es d.new.ledger.processed d.new.ledger.sent) (sym end) here in
      record {
        whole = there;
        torn = subst (λ (es : List Entry). Agree es d.new.ledger.processed d.new.ledger.sent)
            (sym (ap (λ (es : List Entry). d.end ++ es) untorn ∙ append-nil d.end)) there;
        no_contradiction = λ evidence is. let e = sym lacking ∙ is in absurd cc;
        bound = λ batches few. record { added = []; is = silent; within = omega arith };
      };
  runs = λ tells runs. subst (λ (es : List Entry). AreOfChain es d.new.ledger.messages) (sym end)
      (subst (λ (k : AgencyState). AreOfChain d.start k.ledger.messages) (sym same) runs);
  careful = λ tells runs. record {
    session = [];
    is = ap (λ (k : AgencyState). k.ledger.messages) same ∙
        sym (append-nil d.old.ledger.messages);
    never = tt;
  };
}

pub nothing_came : (start end : List Entry) → end ≡ start → AddsNotesAlone start end
nothing_came start end same = record { more = []; is = same ∙ sym (append-nil start); are = tt }
