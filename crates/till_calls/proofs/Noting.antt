-- What the seat's note does to a sound shop.
use Rattle.std.proofs.Common.{◌≡◌, ◌↔◌, inl, inr, ℕ, ◌≤◌, length, List, [], ◌∷◌, ◌++◌, map, sym, ◌∙◌, ap, subst, refl, arith, Bool}
use Rattle.std.proofs.Common.{IsTrue, Option, Some, None, Result, Ok, Err}
use Rattle.std.specs.Prelude.{OnOk, OnErr}
use Rattle.std.proofs.lemmas.List.{append-nil, map-append}
use Rattle.chain_disk.specs.OnDisk.{OnDisk, LeavesNow, LeavesOnly}
use Rattle.chain_lock.specs.Lists.{MayAdd}
use Rattle.chain_store.specs.Losing.{NeverLoses}
use Rattle.chain_store.specs.Ready.{IsReady, TearsLines}
use Rattle.shop_core.specs.File.Files.{StandsFor, StandsBeforeOrWith}
use Rattle.journal.specs.declared.faults.StoreFault.{StoreFault}
use Rattle.journal.specs.declared.faults.StoreFault.TheVariants.{DiskFault, Stopped, NoMemory}
use Rattle.ports.specs.Causes.{Rose}
use Rattle.record_fields.specs.declared.versions.Version.{Version}
use Rattle.record_codec.specs.declared.entry.Entry.{Entry}
use Rattle.record_codec.specs.declared.entry.Entry.TheVariants.{Notes}
use Rattle.record_fields.specs.declared.lines.Line.{Line}
use Rattle.shop_core.specs.History.{noted}
use Rattle.shop_core.specs.declared.items.Item.{Item}
use Rattle.shop_core.specs.declared.items.Item.TheVariants as item
use Rattle.shop_core.specs.Legal.{Legal}
use Rattle.till_calls.specs.Root.{Root, Parts, items_in}
use Rattle.till_calls.specs.Sound.{IsSound, StampedSince, HasStopped}
use Rattle.till_calls.specs.Turns.{SeatDoes, SeatTurn, Notes_behind}
use Rattle.till_calls.proofs.Calls.{call_of}
use Rattle.till_calls.proofs.Asking.{entries_in, items_going, items_stopped, list_of}
use Rattle.till_calls.proofs.Keeping.{sound_gains, sound_stays, sound_stops, between_with, later_same}

pub seat_adds : {C : Type 0} (lines : List Line) (r : Result (Unit {0}) StoreFault) (root : Root C) (before after : List Item) →
    SeatDoes lines r root before after → MayAdd before after
seat_adds lines (Ok done) root before after a = inr (item.Entry (Notes_behind before lines), a.after_is)
seat_adds lines (Err DiskFault) root before after t = inr (item.Stop t.count (Notes_behind before lines), t.after_is)
seat_adds lines (Err (Stopped count)) root before after s = inl s.0
seat_adds lines (Err NoMemory) root before after e = inl e.0

module _ {D C : Type 0} (tells : Bool) (on_disk : D → OnDisk) (faults : D → ℕ) (coming : C → ℕ → Option ℕ) (root : Root C) where
  -- what one note of the store does, in its parts
  pub record Noted (p q : Parts D C) (lines : List Line) (r : Result (Unit {0}) StoreFault) : Type 0 where
    pub ready : IsReady tells q.state q.stopped q.gate (on_disk q.disk)
    pub legal : Legal q.state.version q.state.issuer q.state.entries
    pub issuer : q.state.issuer ≡ p.state.issuer
    pub version : q.state.version ≡ p.state.version
    pub added : OnOk r (q.state.entries ≡ p.state.entries ++ Notes (length (noted p.state.entries)) lines ∷ [])
    pub same : OnErr r (q.state.entries ≡ p.state.entries)
    pub clock : q.clock ≡ p.clock
    pub any_moment : IsTrue tells → LeavesOnly (on_disk p.disk) (on_disk q.disk) (StandsBeforeOrWith p.state.version p.state.issuer p.state.entries
        (Notes (length (noted p.state.entries)) lines))
    pub never_loses : IsTrue tells → NeverLoses (on_disk p.disk) (on_disk q.disk)
    pub acknowledged : OnOk r (IsTrue tells → LeavesNow (on_disk q.disk) (StandsFor q.state.version q.state.issuer q.state.entries))
    pub going_on : OnOk r ((p.stopped ≡ None) × (q.stopped ≡ None))
    pub no_memory : r ≡ Err NoMemory → (q.disk ≡ p.disk) × (q.stopped ≡ p.stopped)
    pub fault : r ≡ Err DiskFault → Rose (faults p.disk) (faults q.disk) × (q.stopped ≡ Some (faults q.disk))
    pub torn : r ≡ Err DiskFault → TearsLines (call_of tells on_disk coming p q) lines q.torn
    pub stopped : (count : ℕ) → (r ≡ Err (Stopped count)) ↔ (p.stopped ≡ Some count)
    pub later : faults p.disk ≤ faults q.disk

  behind : (p : Parts D C) (lines : List Line) → Notes (length (noted p.state.entries)) lines ≡ Notes_behind (items_in p) lines
  behind p lines = ap (λ (es : List Entry). Notes (length (noted es)) lines) (sym (entries_in p))

  pub notes : (p q : Parts D C) (lines : List Line) (r : Result (Unit {0}) StoreFault) → IsSound tells on_disk faults coming root p →
      p.stopped ≡ None → Noted p q lines r →
      IsSound tells on_disk faults coming root q × SeatTurn lines r root (items_in p) (items_in q)
  notes p q lines (Ok done) s going t =
      let e = Notes (length (noted p.state.entries)) lines in
      let clock : StampedSince coming root q.clock q.state.entries = later_same coming root p.clock q.clock p.state.entries (e ∷ [])
      q.state.entries s.clock t.clock t.added (omega arith) in
      let sound = sound_gains tells on_disk faults coming root p q (e ∷ []) (StandsBeforeOrWith p.state.version p.state.issuer p.state.entries e) s
      going t.going_on.1 t.ready t.issuer t.version t.legal t.added clock t.any_moment t.never_loses
      (λ c h. between_with root.version root.issuer root.history p.state.entries e c s.begins
      (subst (λ (v : Version). StandsBeforeOrWith v root.issuer p.state.entries e c) s.version
      (subst (λ (n : List ℕ). StandsBeforeOrWith p.state.version n p.state.entries e c) s.issuer h))) t.acknowledged t.later in (
        sound,
        record {
          list = list_of tells on_disk faults coming root q sound;
          does = record {
            history = p.state.entries;
            going_on = items_going p going;
            after_is = items_going q t.going_on.1 ∙ ap (λ (es : List Entry). map item.Entry es) t.added ∙
                map-append (λ (x : Entry). item.Entry x) p.state.entries (e ∷ [])
                ∙ ap (λ (l : List Item). l ++ item.Entry e ∷ []) (sym (items_going p going)) ∙
                ap (λ (x : Entry). items_in p ++ item.Entry x ∷ []) (behind p lines);
          };
        },
      )
  notes p q lines (Err DiskFault) s going t =
      let e = Notes (length (noted p.state.entries)) lines in
      let fault = t.fault refl in
      let torn : q.torn ≡ Some e = (t.torn refl).entry_is in
      let clock : StampedSince coming root q.clock q.state.entries = later_same coming root p.clock q.clock p.state.entries []
      q.state.entries s.clock t.clock (t.same ∙ sym (append-nil p.state.entries)) (omega arith) in
      let sound = sound_stops tells on_disk faults coming root p q e (faults q.disk) s going fault.1 torn refl t.ready t.issuer
      t.version
      t.same (t.torn refl).continues clock t.any_moment t.never_loses fault.0 t.later in
      let stopped : HasStopped faults root q (faults q.disk) = sound.stop (faults q.disk) fault.1 in (
        sound,
        record {
          list = list_of tells on_disk faults coming root q sound;
          does = record {
            history = p.state.entries;
            going_on = items_going p going;
            count = faults q.disk;
            rose = stopped.rose;
            fits = (t.torn refl).continues.within;
            after_is = items_stopped q (faults q.disk) e fault.1 torn ∙ ap (λ (es : List Entry). map item.Entry es ++ item.Stop
                (faults q.disk) e ∷ []) t.same
                ∙ ap (λ (l : List Item). l ++ item.Stop (faults q.disk) e ∷ []) (sym (items_going p going)) ∙
                ap (λ (x : Entry). items_in p ++ item.Stop (faults q.disk) x ∷ []) (behind p lines);
          };
        },
      )
  notes p q lines (Err (Stopped count)) s going t = absurd (let x : ◌≡◌ {A = Option ℕ} None (Some count) = sym going ∙
      (t.stopped count).0 refl in cc)
  notes p q lines (Err NoMemory) s going t =
      let disk = t.no_memory refl in
      let goes : q.stopped ≡ None = disk.1 ∙ going in
      let sound = sound_stays tells on_disk faults coming root p q s going goes disk.0 t.ready t.issuer t.version t.same
      (later_same coming root p.clock q.clock p.state.entries [] q.state.entries s.clock t.clock
      (t.same ∙ sym (append-nil p.state.entries)) (omega arith)) in (
        sound,
        record {
          list = list_of tells on_disk faults coming root q sound;
          does = (
            items_going q goes ∙ ap (λ (es : List Entry). map item.Entry es) t.same ∙ sym (items_going p going),
            record { history = p.state.entries; entries = items_going p going },
          );
        },
      )

  -- nothing was done
  pub nothing : (p : Parts D C) (lines : List Line) → IsSound tells on_disk faults coming root p → p.stopped ≡ None →
      SeatTurn lines (Err NoMemory) root (items_in p) (items_in p)
  nothing p lines s going = record {
    list = list_of tells on_disk faults coming root p s;
    does = (refl, record { history = p.state.entries; entries = items_going p going });
  }

  pub stopped_already : (p : Parts D C) (lines : List Line) (count : ℕ) → IsSound tells on_disk faults coming root p →
      p.stopped ≡ Some count →
      SeatTurn lines (Err (Stopped count)) root (items_in p) (items_in p)
  stopped_already p lines count s stopped =
      let here : HasStopped faults root p count = s.stop count stopped in
      record {
        list = list_of tells on_disk faults coming root p s;
        does = (
          refl,
          record {
            history = p.state.entries;
            torn = here.torn;
            items_are = items_stopped p count here.torn stopped
                here.torn_is;
          },
        );
      }
