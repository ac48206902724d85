-- What a till's ask does to a sound shop, and what its list of items then is.
use Rattle.std.proofs.Common.{◌≡◌, ◌⊎◌, ◌↔◌, inl, inr, ℕ, ◌≤◌, length, length-append, List, [], ◌∷◌, ◌++◌, map, ◌+◌, sym, ◌∙◌, ap}
use Rattle.std.proofs.Common.{subst, refl, arith, Bool, IsTrue, IsSome, is_some, true, Option, Some, None, Result, Ok, Err}
use Rattle.std.specs.Prelude.{OnOk}
use Rattle.std.proofs.lemmas.List.{append-nil, map-append, length-map}
use Rattle.record_fields.specs.declared.versions.Version.{Version}
use Rattle.chain_disk.specs.OnDisk.{OnDisk, LeavesNow}
use Rattle.chain_lock.specs.Lists.{StartsWith, MayAdd}
use Rattle.chain_store.specs.Losing.{NeverLoses}
use Rattle.chain_store.specs.Ready.{IsReady, Takes, Tears as StoreTears}
use Rattle.shop_core.specs.File.Files.{StandsFor, StandsAround}
use Rattle.journal.specs.declared.faults.StoreFault.{StoreFault}
use Rattle.journal.specs.declared.faults.StoreFault.TheVariants.{DiskFault, Stopped, NoMemory}
use Rattle.ports.specs.Causes.{Rose}
use Rattle.ports.specs.Readings.{IsTold, MovedBy}
use Rattle.record_codec.specs.declared.entry.Entry.{Entry}
use Rattle.shop_core.specs.Answer.Plans.{answer}
use Rattle.shop_core.specs.Answer.Requests.{Asked}
use Rattle.shop_core.specs.Items.{entries_of}
use Rattle.shop_core.specs.declared.items.Item.{Item}
use Rattle.shop_core.specs.declared.items.Item.TheVariants as item
use Rattle.shop_core.specs.Legal.{Legal}
use Rattle.shop_core.specs.Answer.Replies.{Tells}
use Rattle.shop_core.specs.declared.answer.Planned.{Planned}
use Rattle.shop_core.specs.declared.answer.Planned.TheVariants.{Again, Refused, Made}
use Rattle.shop_core.specs.declared.answer.Reply.{Reply}
use Rattle.till_calls.specs.InTurn.{ReadInTurn}
use Rattle.till_calls.specs.Root.{Root, Parts, stop_in, items_in}
use Rattle.till_calls.specs.Sound.{IsSound, StampedSince, HasStopped}
use Rattle.till_calls.specs.Turns.{IsReading, IsShopList, TillDoes, TillTurn}
use Rattle.till_calls.proofs.Calls.{call_of}
use Rattle.till_calls.proofs.Turning.{gained_in_turn}
use Rattle.till_calls.proofs.Keeping.{sound_gains, sound_stays, sound_stops, between_around, later_more}

-- the entries of entries, and of what stands after them
pub entries_in_map : (es : List Entry) (more : List Item) → entries_of (map item.Entry es ++ more) ≡ es ++ entries_of more
entries_in_map [] more = refl
entries_in_map (e ∷ es) more = ap (λ (l : List Entry). e ∷ l) (entries_in_map es more)

no_entry : (stopped : Option ℕ) (torn : Option Entry) → entries_of (stop_in stopped torn) ≡ []
no_entry None torn = refl
no_entry (Some count) None = refl
no_entry (Some count) (Some torn) = refl

pub entries_in : {D C : Type 0} (p : Parts D C) → entries_of (items_in p) ≡ p.state.entries
entries_in p = entries_in_map p.state.entries (stop_in p.stopped p.torn) ∙ ap (λ (l : List Entry). p.state.entries ++ l)
    (no_entry p.stopped p.torn) ∙ append-nil p.state.entries

none_stop : (stopped : Option ℕ) (torn : Option Entry) → stopped ≡ None → stop_in stopped torn ≡ []
none_stop None torn e = refl
none_stop (Some count) torn e = absurd cc

pub items_going : {D C : Type 0} (p : Parts D C) → p.stopped ≡ None → items_in p ≡ map item.Entry p.state.entries
items_going p e = ap (λ (l : List Item). map item.Entry p.state.entries ++ l) (none_stop p.stopped p.torn e) ∙
    append-nil (map item.Entry p.state.entries)

pub items_stopped : {D C : Type 0} (p : Parts D C) (count : ℕ) (torn : Entry) → p.stopped ≡ Some count → p.torn ≡ Some torn →
    items_in p ≡ map item.Entry p.state.entries ++ item.Stop count torn ∷ []
items_stopped p count torn e f = rw (e, f) refl

pub count_going : {D C : Type 0} (p : Parts D C) → p.stopped ≡ None → length (items_in p) ≡ length p.state.entries
count_going p e = ap (λ (l : List Item). length l) (items_going p e) ∙ length-map p.state.entries (λ (e : Entry). item.Entry e)

pub count_stopped : {D C : Type 0} (p : Parts D C) (count : ℕ) (torn : Entry) → p.stopped ≡ Some count → p.torn ≡ Some torn →
    length (items_in p) ≡ length p.state.entries + 1
count_stopped p count torn e f =
    ap (λ (l : List Item). length l) (items_stopped p count torn e f) ∙ length-append (map item.Entry p.state.entries)
    (item.Stop count torn ∷ []) ∙ ap (λ (n : ℕ). n + 1) (length-map p.state.entries (λ (e : Entry). item.Entry e))

pub some_count : (o : Option ℕ) → is_some o ≡ true → (count : ℕ) × (o ≡ Some count)
some_count None e = absurd cc
some_count (Some count) e = (count, refl)

adds_of : (planned : Planned) (history : List Entry) (reply : Reply) (gained : List Entry) → Tells history planned reply gained →
    (gained ≡ []) ⊎ ((e : Entry) × (gained ≡ e ∷ []))
adds_of (Again receipt) history reply gained t = inl t.1
adds_of (Refused why) history reply gained t = inl t.1
adds_of (Made e) history reply gained t = inr (e, t.1)

-- an ask adds one item or none
pub till_adds : {C : Type 0} (coming : C → ℕ → Option ℕ) (ask : Asked) (reply : Result Reply StoreFault) (root : Root C)
    (before after : List Item) → TillDoes coming ask reply root before after →
    MayAdd before after
till_adds coming ask (Ok reply) root before after a =
    elim (adds_of (answer root.version root.issuer a.history ask a.seconds) a.history reply a.gained a.tells) [
      | inl none ↦ inl (a.after_is ∙ ap (λ (l : List Entry). map item.Entry (a.history ++ l)) none ∙
          ap (λ (l : List Entry). map item.Entry l) (append-nil a.history) ∙ sym a.going_on)
      | inr one ↦ inr (
        item.Entry one.0,
        a.after_is ∙ ap (λ (l : List Entry). map item.Entry (a.history ++ l)) one.1 ∙
            map-append item.Entry a.history (one.0 ∷ []) ∙ ap (λ (l : List Item). l ++ item.Entry one.0 ∷ []) (sym a.going_on),
      )
    ]
till_adds coming ask (Err DiskFault) root before after t = inr (
  item.Stop t.count t.torn,
  t.after_is ∙
      ap (λ (l : List Item). l ++ item.Stop t.count t.torn ∷ []) (sym t.going_on),
)
till_adds coming ask (Err (Stopped count)) root before after s = inl s.0
till_adds coming ask (Err NoMemory) root before after e = inl e.0

plus_none : (n : ℕ) → n + 0 ≡ n
plus_none n = omega arith

module _ {D C : Type 0} (tells : Bool) (on_disk : D → OnDisk) (faults : D → ℕ) (coming : C → ℕ → Option ℕ) (root : Root C) where
  -- what one ask of the store does, in its parts
  pub record Took (p q : Parts D C) (ask : Asked) (r : Result Reply StoreFault) : Type 0 where
    pub ready : IsReady tells q.state q.stopped q.gate (on_disk q.disk)
    pub legal : Legal q.state.version q.state.issuer q.state.entries
    pub takes : p.stopped ≡ None → Takes (call_of tells on_disk coming p q) ask r
    pub torn : r ≡ Err DiskFault → StoreTears (call_of tells on_disk coming p q) ask q.torn
    pub never_loses : IsTrue tells → NeverLoses (on_disk p.disk) (on_disk q.disk)
    pub acknowledged : OnOk r (IsTrue tells → LeavesNow (on_disk q.disk) (StandsFor q.state.version q.state.issuer q.state.entries))
    pub going_on : OnOk r ((p.stopped ≡ None) × (q.stopped ≡ None))
    pub no_memory : r ≡ Err NoMemory → (q.disk ≡ p.disk) × (q.stopped ≡ p.stopped)
    pub fault : r ≡ Err DiskFault → Rose (faults p.disk) (faults q.disk) × (q.stopped ≡ Some (faults q.disk))
    pub stopped : (count : ℕ) → (r ≡ Err (Stopped count)) ↔ (p.stopped ≡ Some count)
    pub untouched : IsSome p.stopped → q ≡ p
    pub later : faults p.disk ≤ faults q.disk

  pub list_of : (q : Parts D C) → IsSound tells on_disk faults coming root q → IsShopList root (items_in q)
  list_of q s = record {
    legal = subst (λ (es : List Entry). Legal root.version root.issuer es) (sym (entries_in q)) s.legal;
    begins = subst (λ (es : List Entry). StartsWith es root.history) (sym (entries_in q)) s.begins;
  }

-- One ask of a store, in a shop that is sound by one clock, at readings that another one tells.
module _ {D C : Type 0} (tells : Bool) (on_disk : D → OnDisk) (faults : D → ℕ) (coming asked : C → ℕ → Option ℕ) (root : Root C) where
  -- what is read by the one was read by the other too, and is a reading of its own
  record Reads (p q : Parts D C) : Type 0 where
    told : (seconds : ℕ) → IsTold (asked p.clock 0) seconds → IsTold (coming p.clock 0) seconds
    turn : (seconds : ℕ) → IsTold (asked p.clock 0) seconds → IsReading asked root seconds
    moved : MovedBy 1 (asked p.clock) (asked q.clock) → MovedBy 1 (coming p.clock) (coming q.clock)

  abbrev Outcome : Parts D C → Asked → Result Reply StoreFault → Parts D C → Type 0
  Outcome p ask r q = IsSound tells on_disk faults coming root q × TillTurn asked ask r root (items_in p) (items_in q)

  outcome : (p q : Parts D C) (ask : Asked) (r : Result Reply StoreFault) → IsSound tells on_disk faults coming root q →
      TillDoes asked ask r root (items_in p) (items_in q) → Outcome p ask r q
  outcome p q ask r s does = (s, record { list = list_of tells on_disk faults coming root q s; does = does })

  took_going : (p q : Parts D C) (ask : Asked) (r : Result Reply StoreFault) → Reads p q → IsSound tells on_disk faults coming root p →
      p.stopped ≡ None → Took tells on_disk faults asked root p q ask r → Outcome p ask r q
  took_going p q ask (Ok reply) h s going t =
      let takes = t.takes going in
      let planned = answer p.state.version p.state.issuer p.state.entries ask takes.seconds in
      let clock : StampedSince coming root q.clock q.state.entries = later_more coming root p.clock q.clock p.state.entries takes.gained
      q.state.entries 1 s.clock (h.moved takes.moved) takes.entries
      (gained_in_turn (coming root.clock) s.clock.number p.state.version p.state.issuer p.state.entries ask takes.seconds reply takes.gained
      (subst (λ (k : ℕ). IsTold (coming root.clock k) takes.seconds) (plus_none s.clock.number)
      (subst (λ (o : Option ℕ). IsTold o takes.seconds) (s.clock.moved 0) (h.told takes.seconds takes.reading))) takes.reply) in
      let sound = sound_gains tells on_disk faults coming root p q takes.gained (StandsAround p.state.version p.state.issuer p.state.entries planned)
      s going t.going_on.1 t.ready takes.issuer takes.version t.legal takes.entries clock
      takes.any_moment t.never_loses (λ c h. between_around root.version root.issuer root.history p.state.entries takes.gained planned reply c s.begins
      takes.reply (subst (λ (v : Version). StandsAround v root.issuer p.state.entries planned c) s.version
      (subst (λ (n : List ℕ). StandsAround p.state.version n p.state.entries planned c) s.issuer h)))
      t.acknowledged t.later in
      outcome p q ask (Ok reply) sound (record {
        history = p.state.entries;
        going_on = items_going p going;
        seconds = takes.seconds;
        reading = h.turn takes.seconds takes.reading;
        gained = takes.gained;
        tells = subst (λ (v : Version). Tells p.state.entries (answer v root.issuer p.state.entries ask takes.seconds) reply
            takes.gained) s.version
            (subst (λ (n : List ℕ). Tells p.state.entries (answer p.state.version n p.state.entries ask takes.seconds) reply
            takes.gained) s.issuer takes.reply);
        after_is = items_going q t.going_on.1 ∙ ap (λ (es : List Entry). map item.Entry es) takes.entries;
      })
  took_going p q ask (Err DiskFault) h s going t =
      let takes = t.takes going in
      let tears = t.torn refl in
      let fault = t.fault refl in
      let same : q.state.entries ≡ p.state.entries = takes.entries ∙ ap (λ (l : List Entry). p.state.entries ++ l) takes.reply ∙
      append-nil p.state.entries in
      let clock : StampedSince coming root q.clock q.state.entries = later_more coming root p.clock q.clock p.state.entries takes.gained
      q.state.entries 1 s.clock (h.moved takes.moved) takes.entries
      (subst (λ (es : List Entry). ReadInTurn (coming root.clock) s.clock.number (s.clock.number + 1) p.state.entries es)
      (sym takes.reply) (omega arith)) in
      let sound = sound_stops tells on_disk faults coming root p q tears.entry (faults q.disk) s going fault.1 tears.entry_is refl
      t.ready takes.issuer takes.version same tears.continues clock tears.any_moment t.never_loses fault.0
      t.later in
      let stopped : HasStopped faults root q (faults q.disk) = sound.stop (faults q.disk) fault.1 in
      outcome p q ask (Err DiskFault) sound (record {
        history = p.state.entries;
        going_on = items_going p going;
        seconds = tears.seconds;
        reading = h.turn tears.seconds tears.reading;
        torn = tears.entry;
        made = subst (λ (v : Version). answer v root.issuer p.state.entries ask tears.seconds ≡ Made tears.entry) s.version
            (subst (λ (n : List ℕ). answer p.state.version n p.state.entries ask tears.seconds ≡ Made tears.entry) s.issuer
            tears.made);
        count = faults q.disk;
        rose = stopped.rose;
        after_is = items_stopped q (faults q.disk) tears.entry fault.1 tears.entry_is ∙
            ap (λ (es : List Entry). map item.Entry es ++ item.Stop (faults q.disk) tears.entry ∷ []) same;
      })
  took_going p q ask (Err (Stopped count)) h s going t = absurd (let x : ◌≡◌ {A = Option ℕ} None (Some count) = sym going ∙
      (t.stopped count).0 refl in cc)
  took_going p q ask (Err NoMemory) h s going t =
      let takes = t.takes going in
      let disk = t.no_memory refl in
      let same : q.state.entries ≡ p.state.entries = takes.entries ∙ ap (λ (l : List Entry). p.state.entries ++ l) takes.reply ∙
      append-nil p.state.entries in
      let clock : StampedSince coming root q.clock q.state.entries = later_more coming root p.clock q.clock p.state.entries takes.gained
      q.state.entries 1 s.clock (h.moved takes.moved) takes.entries
      (subst (λ (es : List Entry). ReadInTurn (coming root.clock) s.clock.number (s.clock.number + 1) p.state.entries es)
      (sym takes.reply) (omega arith)) in
      let goes : q.stopped ≡ None = disk.1 ∙ going in
      let sound = sound_stays tells on_disk faults coming root p q s going goes disk.0 t.ready takes.issuer takes.version same clock
      in
      outcome p q ask (Err NoMemory) sound (
        items_going q goes ∙ ap (λ (es : List Entry). map item.Entry es) same ∙ sym (items_going p going),
        record { history = p.state.entries; entries = items_going p going },
      )

  took_stopped : (p q : Parts D C) (ask : Asked) (r : Result Reply StoreFault) (count : ℕ) → IsSound tells on_disk faults coming root
      p → p.stopped ≡ Some count → Took tells on_disk faults asked root p q ask r → Outcome p ask r q
  took_stopped p q ask r count s stopped t =
      let here : HasStopped faults root p count = s.stop count stopped in
      let is : r ≡ Err (Stopped count) = (t.stopped count).1 stopped in
      let same : q ≡ p = t.untouched (rw stopped refl) in
      let sound : IsSound tells on_disk faults coming root q = subst (λ (z : Parts D C). IsSound tells on_disk faults coming root z)
      (sym same) s in
      outcome p q ask r sound (subst (λ (x : Result Reply StoreFault). TillDoes asked ask x root (items_in p) (items_in q))
      (sym is) (
        ap (λ (z : Parts D C). items_in z) same,
        record { history = p.state.entries; torn = here.torn; items_are = items_stopped p count here.torn stopped here.torn_is },
      ))

  took_by : (p q : Parts D C) (ask : Asked) (r : Result Reply StoreFault) → Reads p q →
      IsSound tells on_disk faults coming root p → Took tells on_disk faults asked root p q ask r → Outcome p ask r q
  took_by p q ask r h s t = by_stop p.stopped refl
    where
      by_stop : (o : Option ℕ) → p.stopped ≡ o → Outcome p ask r q
      by_stop None e = took_going p q ask r h s e t
      by_stop (Some count) e = took_stopped p q ask r count s e t

-- an ask at the shop's own clock
module _ {D C : Type 0} (tells : Bool) (on_disk : D → OnDisk) (faults : D → ℕ) (coming : C → ℕ → Option ℕ) (root : Root C) where
  pub took : (p q : Parts D C) (ask : Asked) (r : Result Reply StoreFault) → IsSound tells on_disk faults coming root p →
      Took tells on_disk faults coming root p q ask r → Outcome tells on_disk faults coming coming root p ask r q
  took p q ask r s t = took_by tells on_disk faults coming coming root p q ask r (record {
    told = λ seconds is. is;
    turn = λ seconds is. record {
      number = s.clock.number + 0;
      told = subst (λ (o : Option ℕ). IsTold o seconds) (s.clock.moved 0) is;
    };
    moved = λ by. by;
  }) s t

  -- an ask of a shop without a clock, at a reading that is given
  pub took_at : (seconds : ℕ) (p q : Parts D C) (ask : Asked) (r : Result Reply StoreFault) → ((c : C) (k : ℕ) → coming c k ≡ None) →
      IsSound tells on_disk faults coming root p → Took tells on_disk faults (λ c k. Some seconds) root p q ask r →
      Outcome tells on_disk faults coming (λ c k. Some seconds) root p ask r q
  took_at seconds p q ask r none s t = took_by tells on_disk faults coming (λ c k. Some seconds) root p q ask r (record {
    told = λ at is. subst (λ (o : Option ℕ). IsTold o at) (sym (none p.clock 0)) tt;
    turn = λ at is. record { number = 0; told = is };
    moved = λ by k. none q.clock k ∙ sym (none p.clock (1 + k));
  }) s t
